-- Arrangements of fields and group instances. Assumes nothing.
use Rattle.std.specs.Prelude.{ℕ, zero, suc, List}
use Rattle.book.specs.Records.{Record, Member}

-- a field: tag and value's text; or a Length with its data: tag and text, tag and bytes
pub data Piece : Type 0 where
  single : ℕ → List ℕ → Piece
  pair : ℕ → List ℕ → ℕ → List ℕ → Piece

abbrev pub piece_tag : Piece → ℕ
piece_tag (single t v) = t
piece_tag (pair l w d v) = l

-- an item, where I are the items one level down: a piece, or a count with its text and its instances
pub data Node (I : Type 0) : Type 0 where
  leaf : Piece → Node I
  count : ℕ → List ℕ → List (List I) → Node I

-- an item with fewer than d levels of groups in it
abbrev pub Item : ℕ → Type 0
Item zero = ⊥
Item (suc d) = Node (Item d)

abbrev pub node_tag : {I : Type 0} → Node I → ℕ
node_tag (leaf k) = piece_tag k
node_tag (count t v l) = t

abbrev pub tag_of : (d : ℕ) → Item d → ℕ
tag_of zero i = absurd i
tag_of (suc d) n = node_tag n

-- what stands between 35 and 10: fields in groups at most 4 deep
abbrev pub Items : Type 0
Items = List (Item 5)

-- V, the text of N, T, the items, the text of ddd
pub record Arrangement : Type 0 where
  pub version : List ℕ
  pub body_length : List ℕ
  pub type : List ℕ
  pub items : Items
  pub check_sum : List ℕ

-- the book's records, opened at one message's own list
pub record Page : Type 0 where
  pub book : List Record
  pub own : List Member
