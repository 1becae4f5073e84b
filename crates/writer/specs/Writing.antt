-- What writing answers, for any book and any request. Assumes nothing.
use Rattle.std.specs.Prelude.{ℕ, zero, suc, ◌+◌, ◌/◌, ◌%◌, Bool, true, false, cond, ◌&&◌, not, List, [], ◌∷◌, ◌++◌, eqb, leb, ltb, length, take, drop, get_or}
use Rattle.numbers.specs.Bytes.{total, same}
use Rattle.numbers.specs.Decimal.{render}
use Rattle.book.specs.Records.{Record, records}
use Rattle.book.specs.Check.{check, is_sound}
use Rattle.message.specs.Arrangement.{Piece, single, pair, Node, leaf, count, Item, Items, Arrangement}
use Rattle.message.specs.Written.{put_field, header, type_field, trailer}
use Rattle.message.specs.Permitted.{versions}
use Rattle.reader.specs.Reading.{Answer, gives, refused, on_answer, arrangement_of, looked}

-- a field as it is handed in, or read back
pub record Field : Type 0 where
  pub tag : ℕ
  pub text : List ℕ

-- the fields of an arrangement, in message order
unfoldable pub piece_fields : Piece → List Field
piece_fields (single t v) = record { tag = t; text = v } ∷ []
piece_fields (pair l w d v) = record { tag = l; text = w } ∷ record { tag = d; text = v } ∷ []

module _ {I : Type 0} (fields : I → List Field) where
  unfoldable pub fields_all : List I → List Field
  fields_all [] = []
  fields_all (i ∷ l) = fields i ++ fields_all l

unfoldable pub node_fields : {I : Type 0} → (I → List Field) → Node I → List Field
node_fields below (leaf k) = piece_fields k
node_fields below (count t v l) = piece_fields (single t v) ++ fields_all (fields_all below) l

unfoldable pub item_fields : (d : ℕ) → Item d → List Field
item_fields zero i = absurd i
item_fields (suc d) n = node_fields (item_fields d) n

unfoldable pub fields_of : Items → List Field
unfolding item_fields node_fields fields_all piece_fields
fields_of a = fields_all (item_fields 5) a

unfoldable pub same_fields : List Field → List Field → Bool
same_fields [] [] = true
same_fields [] (g ∷ l) = false
same_fields (f ∷ k) [] = false
same_fields (f ∷ k) (g ∷ l) = eqb f.tag g.tag && same f.text g.text && same_fields k l

-- version 0, 1 or 2, type text, triples (tag, start, length), values
pub record Request : Type 0 where
  pub version : ℕ
  pub type : List ℕ
  pub triples : List ℕ
  pub values : List ℕ

-- triples are whole, and no range lies beyond the values
unfoldable pub whole_triples : List ℕ → List ℕ → Bool
whole_triples [] v = true
whole_triples (t ∷ []) v = false
whole_triples (t ∷ p ∷ []) v = false
whole_triples (t ∷ p ∷ n ∷ l) v = leb (p + n) (length v) && whole_triples l v

unfoldable pub asked : List ℕ → List ℕ → List Field
asked [] v = []
asked (t ∷ []) v = []
asked (t ∷ p ∷ []) v = []
asked (t ∷ p ∷ n ∷ l) v = record { tag = t; text = take n (drop p v) } ∷ asked l v

unfoldable pub put_fields : List Field → List ℕ → List ℕ
put_fields [] r = r
put_fields (f ∷ l) r = put_field f.tag f.text (put_fields l r)

abbrev pub three_digits : ℕ → List ℕ
three_digits n = (48 + n / 100 % 10) ∷ (48 + n / 10 % 10) ∷ (48 + n % 10) ∷ []

-- the message of a request: N has no leading zero, nor has a tag
unfoldable pub made : Request → List ℕ
unfolding versions asked put_fields put_field render total
made Q =
    let W = get_or versions Q.version [] in
    let counted = type_field Q.type (put_fields (asked Q.triples Q.values) []) in
    let N = render (length counted) in
    header W N (counted ++ trailer (three_digits (total (header W N counted) % 256)))

-- 17, type and fields compared
unfoldable pub read_back : Request → Arrangement → Answer (List ℕ)
unfolding made fields_of same_fields same
read_back Q A = cond (same A.type Q.type && same_fields (fields_of A.items) (asked Q.triples Q.values)) (gives (made Q)) (refused 17 0 0)

-- the writing under a book that was checked before, into an output of so many bytes
unfoldable pub write_checked : List ℕ → Request → ℕ → Answer (List ℕ)
unfolding whole_triples made read_back arrangement_of on_answer records
write_checked book Q room =
    elim (ltb Q.version 3 && whole_triples Q.triples Q.values) [
      | false ↦ refused 16 0 0
      | true ↦ elim (ltb 8192 (length (made Q))) [
        | true ↦ refused 2 0 0
        | false ↦ elim (ltb room (length (made Q))) [
          | true ↦ refused 18 0 0
          | false ↦ on_answer (arrangement_of (looked book) (made Q)) (read_back Q)
        ]
      ]
    ]

unfoldable pub write : List ℕ → Request → ℕ → Answer (List ℕ)
unfolding write_checked check is_sound
write book Q room = elim (is_sound (check book)) [ true ↦ write_checked book Q room | false ↦ refused 1 0 0 ]

-- the lent output afterwards: bytes past the message stay, on a refusal all do
unfoldable pub output_after : List ℕ → Answer (List ℕ) → List ℕ
output_after out (gives s) = s ++ drop (length s) out
output_after out (refused n p t) = out
