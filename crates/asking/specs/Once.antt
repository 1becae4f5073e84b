-- Arrangements in which no list of fields, of the message or of an instance, has a tag twice. Assumes nothing.
use Rattle.std.specs.Prelude.{◌≡◌, true, List, [], ◌∷◌, ◌++◌, ℕ, zero, suc, length}
use Rattle.numbers.specs.Decimal.{value}
use Rattle.message.specs.Arrangement.{Piece, single, pair, Node, leaf, count, Item}
use Rattle.bridge.proofs.Lists.{distinct}

-- the tags of an item's own fields; those of its instances are left out
abbrev pub piece_tags : Piece → List ℕ
piece_tags (single t v) = t ∷ []
piece_tags (pair l w d v) = l ∷ d ∷ []

abbrev pub node_tags : {I : Type 0} → Node I → List ℕ
node_tags (leaf k) = piece_tags k
node_tags (count t v l) = t ∷ []

abbrev pub item_tags : (d : ℕ) → Item d → List ℕ
item_tags zero i = absurd i
item_tags (suc d) n = node_tags n

module _ {I : Type 0} (tags : I → List ℕ) where
  unfoldable pub tags_all : List I → List ℕ
  tags_all [] = []
  tags_all (i ∷ l) = tags i ++ tags_all l

abbrev pub Each : {I : Type 0} → (I → Type 0) → List I → Type 0
Each p [] = Unit {0}
Each p (i ∷ l) = p i × Each p l

-- an instance: not empty, no tag twice, and so on below
pub record OnceIn {I : Type 0} (tags : I → List ℕ) (once : I → Type 0) (l : List I) : Type 0 where
  pub first : I
  pub rest : List I
  pub is : l ≡ first ∷ rest
  pub alone : distinct (tags_all tags l) ≡ true
  pub below : Each once l

abbrev pub OnceNode : {I : Type 0} → (I → List ℕ) → (I → Type 0) → Node I → Type 0
OnceNode tags once (leaf k) = Unit {0}
OnceNode tags once (count t v l) = (value v ≡ length l) × Each (OnceIn tags once) l

abbrev pub Once : (d : ℕ) → Item d → Type 0
Once zero i = absurd i
Once (suc d) n = OnceNode (item_tags d) (Once d) n
