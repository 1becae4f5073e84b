pub mod Examples
pub mod DemandThreeAtP2
