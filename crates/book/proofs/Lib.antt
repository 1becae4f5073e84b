pub mod Walk
pub mod Look
pub mod Members
pub mod Texts
pub mod RuleLaws
pub mod Checks
pub mod GroupLaws
