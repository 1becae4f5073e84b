-- An arrangement's fields one after another, those of the frame included, and the field that a row of the index states. Assumes nothing.
use Rattle.std.specs.Prelude.{ℕ, zero, suc, List, [], ◌∷◌, ◌++◌, take, drop}
use Rattle.message.specs.Arrangement.{Piece, single, pair, Node, leaf, count, Item, Arrangement}
use Rattle.message.specs.Written.{put_field}
use Rattle.message.specs.Rows.{Row}

pub record Field : Type 0 where
  pub tag : ℕ
  pub text : List ℕ

abbrev pub field_of : ℕ → List ℕ → Field
field_of t v = record { tag = t; text = v }

abbrev pub piece_fields : Piece → List Field
piece_fields (single t v) = field_of t v ∷ []
piece_fields (pair l w d v) = field_of l w ∷ field_of d v ∷ []

module _ {I : Type 0} (fields : I → List Field) where
  unfoldable pub fields_all : List I → List Field
  fields_all [] = []
  fields_all (i ∷ l) = fields i ++ fields_all l

-- a count, then its instances
unfoldable pub fields_node : {I : Type 0} → (I → List Field) → Node I → List Field
fields_node fields (leaf k) = piece_fields k
fields_node fields (count t v l) = piece_fields (single t v) ++ fields_all (fields_all fields) l

unfoldable pub fields_item : (d : ℕ) → Item d → List Field
fields_item zero i = absurd i
fields_item (suc d) n = fields_node (fields_item d) n

unfoldable pub fields_of : Arrangement → List Field
unfolding fields_all fields_node fields_item
fields_of A =
    field_of 8 A.version
    ∷ field_of 9 A.body_length
    ∷ field_of 35 A.type
    ∷ (fields_all (fields_item 5) A.items ++ (field_of 10 A.check_sum ∷ []))

-- fields written one after another
unfoldable pub put_fields : List Field → List ℕ → List ℕ
unfolding put_field
put_fields [] r = r
put_fields (f ∷ l) r = put_field f.tag f.text (put_fields l r)

-- the field that a row states of the bytes s
abbrev pub field_at : List ℕ → Row → Field
field_at s r = field_of r.tag (take r.value_length (drop r.value_start s))
