-- How a field is taken off the bytes up to the closing `10=`: steps 1, 2 and 4 of "At a field". Assumes nothing.
use Rattle.std.specs.Prelude.{ℕ, min, ◌&&◌, List, [], ◌∷◌, take, drop}
use Rattle.std.proofs.Math.Bool.{cond}
use Rattle.std.proofs.Math.Dec.{eqb, ltb}
use Rattle.numbers.specs.Bytes.{some}
use Rattle.numbers.specs.Decimal.{digits, value_from, value, tag_form}
use Rattle.forms.specs.Types.{of_type}
use Rattle.book.specs.Records.{Record, type_of, is_length, is_bounded, partner}
use Rattle.message.specs.Arrangement.{Piece, single, pair}

-- the bytes before the first c, and those after it
pub data Cut : Type 0 where
  uncut : Cut
  cut_at : List ℕ → List ℕ → Cut

unfoldable pub grow : ℕ → Cut → Cut
grow b uncut = uncut
grow b (cut_at v r) = cut_at (b ∷ v) r

unfoldable pub cut : ℕ → List ℕ → Cut
unfolding grow
cut c [] = uncut
cut c (b ∷ s) = let rest = grow b (cut c s) in cond (eqb b c) (cut_at [] s) rest

-- where no tag of good form stands
abbrev pub torn : ℕ
torn = 65537

-- the tag at the head: 0 at the end, 65,536 for every larger one, of which none is declared
abbrev pub tag_in : Cut → ℕ
tag_in uncut = torn
tag_in (cut_at d r) = cond (tag_form d) (min (value d) 65536) torn

unfoldable pub peek : List ℕ → ℕ
unfolding cut digits value_from
peek [] = 0
peek (b ∷ s) = tag_in (cut 61 (b ∷ s))

-- a piece taken off and the bytes left; or a refusal's number and the bytes from its place on
pub data Grab : Type 0 where
  got : Piece → List ℕ → Grab
  fault : ℕ → List ℕ → Grab

module _ (B : List Record) where
  unfoldable pub ended : ℕ → List ℕ → ℕ → List ℕ → List ℕ → List ℕ → Grab
  ended l w d v s [] = fault 12 s
  ended l w d v s (x ∷ r) = cond (eqb x 1) (got (pair l w d v) r) (fault 12 s)

  -- the data behind its Length l with text w, s being the bytes from its tag on
  unfoldable pub data_of : ℕ → List ℕ → List ℕ → Cut → Grab
  unfolding ended
  data_of l w s uncut = fault (cond (some s) 8 12) s
  data_of l w s (cut_at d r) =
      cond (tag_form d)
      (cond (ltb (value d) 65536 && eqb (value d) (partner B l))
      (cond (eqb (value w) 0) (fault 8 s) (ended l w (value d) (take (value w) r) s (drop (value w) r))) (fault 12 s))
      (fault 8 s)

  unfoldable pub valued : ℕ → List ℕ → Cut → Grab
  unfolding data_of cut type_of of_type partner
  valued t s uncut = fault 8 s
  valued t s (cut_at v r) =
      let next = cond (is_length B t) (data_of t v r (cut 61 r)) (got (single t v) r) in
      cond (some v) (cond (of_type (type_of B t) v) next (fault 11 s)) (fault 8 s)

  unfoldable pub tagged : List ℕ → Cut → Grab
  unfolding valued cut type_of
  tagged s uncut = fault 8 s
  tagged s (cut_at d r) =
      cond (tag_form d && ltb (value d) 65536) (cond (is_bounded B (value d)) (fault 12 s) (valued (value d) s (cut 1 r))) (fault 8 s)

  unfoldable pub grab : List ℕ → Grab
  unfolding tagged cut digits value_from
  grab s = tagged s (cut 61 s)
