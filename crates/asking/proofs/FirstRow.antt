-- The lowest row of a list of rows, and that the questions on the rows' numbers ask for it. Assumes nothing.
use mathlib.Core.Path.{◌≡◌, refl, ◌∙◌}
use mathlib.Core.Bool.{Bool, true, false, cond, ◌&&◌}
use mathlib.Core.List.{List, [], ◌∷◌, ◌++◌, append_assoc}
use Prim.Native.Nat.{ℕ, suc, ◌+◌, ◌*◌}
use native.Mathlib.Omega.{arith}
use lib.Dec.{eqb}
use lib.ListN.{length, get_or, length-append}
use lib.Seq.{get_or-append-add}
use Rattle.message.specs.Rows.{Row, width, flat}
use Rattle.index.specs.Questions.{row_count, number, Found, row, absent, lowest, of_instance, of_field, find, instance_row}
use Rattle.index.proofs.Lowest.{lowest_here, lowest_next}

-- of the rows from number k on, the first for which the test holds
unfoldable pub first_row : (Row → Bool) → ℕ → List Row → Found
first_row is k [] = absent
first_row is k (r ∷ q) = cond (is r) (row k) (first_row is (suc k) q)

abbrev pub of_group : ℕ → ℕ → Row → Bool
of_group c j r = eqb r.count_row c && eqb r.instance j

abbrev pub of_key : ℕ → ℕ → ℕ → Row → Bool
of_key c j t r = of_group c j r && eqb r.tag t

-- a row's numbers in the index
flat_append : (p q : List Row) → flat (p ++ q) ≡ flat p ++ flat q
unfolding flat
flat_append [] q = refl
flat_append (r ∷ p) q = rw (flat_append p q)

pub flat_length : (q : List Row) → length (flat q) ≡ width * length q
unfolding flat
flat_length [] = refl
flat_length (r ∷ q) = omega (arith, flat_length q)

pub row_count_lem : (q : List Row) → row_count (flat q) ≡ length q
row_count_lem q = omega (arith, flat_length q)

module _ (p : List Row) (r : Row) (q : List Row) where
  at_row : (i : ℕ) → number (flat (p ++ (r ∷ q))) (length p) i ≡ get_or (flat (r ∷ q)) i 0
  at_row i =
      let e : width * length p + i ≡ length (flat p) + i = omega (arith, flat_length p) in
      rw (flat_append p (r ∷ q), e) (get_or-append-add (flat p) (flat (r ∷ q)) i 0)

  pub tag_at : number (flat (p ++ (r ∷ q))) (length p) 0 ≡ r.tag
  unfolding flat
  tag_at = at_row 0

  pub start_at : number (flat (p ++ (r ∷ q))) (length p) 1 ≡ r.value_start
  unfolding flat
  start_at = at_row 1

  pub length_at : number (flat (p ++ (r ∷ q))) (length p) 2 ≡ r.value_length
  unfolding flat
  length_at = at_row 2

  pub count_at : number (flat (p ++ (r ∷ q))) (length p) 4 ≡ r.count_row
  unfolding flat
  count_at = at_row 4

  pub instance_at : number (flat (p ++ (r ∷ q))) (length p) 5 ≡ r.instance
  unfolding flat
  instance_at = at_row 5

-- a question of row numbers that agrees with a test of rows
module _ (on : List ℕ → ℕ → Bool) (is : Row → Bool) (agree : (p : List Row) (r : Row) (q : List Row) → on (flat (p ++ (r ∷ q))) (length p) ≡ is r) where
  snoc : (p : List Row) (r : Row) (q : List Row) → (p ++ (r ∷ [])) ++ q ≡ p ++ (r ∷ q)
  snoc p r q = append_assoc p (r ∷ []) q

  lowest_from : (p q : List Row) → lowest (on (flat (p ++ q))) (length q) (length p) ≡ first_row is (length p) q
  unfolding first_row
  lowest_from p [] = unfold lowest in refl
  lowest_from p (r ∷ q) = go (is r) refl (lowest_from (p ++ (r ∷ [])) q)
    where
      len : length (p ++ (r ∷ [])) ≡ suc (length p)
      len = omega (arith, length-append p (r ∷ []))

      go : (b : Bool) → is r ≡ b
          → lowest (on (flat ((p ++ (r ∷ [])) ++ q))) (length q) (length (p ++ (r ∷ []))) ≡ first_row is (length (p ++ (r ∷ []))) q
          → lowest (on (flat (p ++ (r ∷ q)))) (suc (length q)) (length p) ≡ cond b (row (length p)) (first_row is (suc (length p)) q)
      go true e ih = lowest_here (on (flat (p ++ (r ∷ q)))) (length q) (length p) (agree p r q ∙ e)
      go false e ih = lowest_next (on (flat (p ++ (r ∷ q)))) (length q) (length p) (agree p r q ∙ e) ∙ (rw (snoc p r q, len) at ih)

  pub lowest_is : (q : List Row) → lowest (on (flat q)) (row_count (flat q)) 0 ≡ first_row is 0 q
  lowest_is q = rw (row_count_lem q) (lowest_from [] q)

find_is : (index : List ℕ) (c j t : ℕ) → find index c j t ≡ lowest (of_field index c j t) (row_count index) 0
unfolding find
find_is index c j t = refl

instance_is : (index : List ℕ) (c j : ℕ) → instance_row index c j ≡ lowest (of_instance index c j) (row_count index) 0
unfolding instance_row
instance_is index c j = refl

pub find_row : (q : List Row) (c j t : ℕ) → find (flat q) c j t ≡ first_row (of_key c j t) 0 q
find_row q c j t = find_is (flat q) c j t ∙ lowest_is (λ index k. of_field index c j t k) (of_key c j t) (λ p r q. rw (count_at p r q, instance_at p r q, tag_at p r q)) q

pub instance_row_lem : (q : List Row) (c j : ℕ) → instance_row (flat q) c j ≡ first_row (of_group c j) 0 q
instance_row_lem q c j = instance_is (flat q) c j ∙ lowest_is (λ index k. of_instance index c j k) (of_group c j) (λ p r q. rw (count_at p r q, instance_at p r q)) q
