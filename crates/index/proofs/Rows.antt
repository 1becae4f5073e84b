-- The rows of an index as its whole sixes, and the first that passes a test as the lowest. Assumes nothing.
use Rattle.std.proofs.Common.{◌≡◌, refl, sym, ap, ◌∙◌, ℕ, zero, suc, ◌+◌, ◌*◌, ◌<◌, Bool, true, false, List, [], ◌∷◌, map, length, get_or, drop, arith, add-one}
use Rattle.std.specs.List.{position, position_from}
use Rattle.std.specs.Simd.{first_chunks}
use Rattle.std.proofs.lemmas.List.{get_or-drop, get_or-take, length-map}
use Rattle.std.proofs.Math.ListN as Math
use Rattle.std.proofs.lemmas.Iterator.Adapters.{position_from-zero}
use Rattle.index.specs.Questions.{row_count, number, lowest}
use Rattle.message.specs.Sixes.{row_from}
use Rattle.message.specs.declared.Row.{Row}
use Rattle.index.specs.Answers.{found_from, row_of}
use Rattle.index.proofs.Lowest.{lowest_here, lowest_next}

-- number i of six k
pub chunk_number : (n k i : ℕ) (index : List ℕ) → k < n → i < 6 → get_or (get_or (first_chunks 6 n index) k []) i 0 ≡ number index k i
chunk_number zero k i index h b = absurd (omega arith)
chunk_number (suc n) zero i index h b = let e : 6 * 0 + i ≡ i = omega arith in get_or-take 6 index i 0 b ∙ ap (λ (m : ℕ). get_or index m 0) (sym e)
chunk_number (suc n) (suc k) i index h b =
    let e : 6 + (6 * k + i) ≡ 6 * suc k + i = omega arith in
    chunk_number n k i (drop 6 index) (omega arith) b ∙ get_or-drop 6 index (6 * k + i) 0 ∙ ap (λ (m : ℕ). get_or index m 0) e

pub length_chunks : (n : ℕ) (index : List ℕ) → length (first_chunks 6 n index) ≡ n
length_chunks zero index = refl
length_chunks (suc n) index = ap suc (length_chunks n (drop 6 index))

-- row k, by its six
pub chunk_row : (n k : ℕ) (index : List ℕ) → k < n → row_from (get_or (first_chunks 6 n index) k []) ≡ row_of index k
chunk_row n k index h = rw (chunk_number n k 0 index h (omega arith), chunk_number n k 1 index h (omega arith), chunk_number n k 2 index h (omega arith), chunk_number n k 3 index h (omega arith), chunk_number n k 4 index h (omega arith), chunk_number n k 5 index h (omega arith))

-- the first of a list that passes is the lowest number for which `is` holds
module _ {X : Type 0} (test : X → Bool) (is : ℕ → Bool) (d : X) where
  first_lowest : (xs : List X) (s : ℕ) → ((k : ℕ) → k < length xs → test (get_or xs k d) ≡ is (s + k)) → found_from (position_from test s xs) ≡ lowest is (length xs) s
  unfolding lowest
  first_lowest [] s h = refl
  first_lowest (x ∷ xs) s h = by_test (test x) refl (first_lowest xs (suc s) later)
    where
      here : test x ≡ is s
      here = let e : s + 0 ≡ s = omega arith in rw e at (h 0 (omega arith))

      later : (k : ℕ) → k < length xs → test (get_or xs k d) ≡ is (suc s + k)
      later k b = let e : s + suc k ≡ suc s + k = omega arith in rw e at (h (suc k) (omega arith))

      by_test : (b : Bool) → test x ≡ b → found_from (position_from test (suc s) xs) ≡ lowest is (length xs) (suc s) → found_from (position_from test s (x ∷ xs)) ≡ lowest is (suc (length xs)) s
      by_test true e ih = let f : is s ≡ true = sym here ∙ e in rw e (sym (lowest_here is (length xs) s f))
      by_test false e ih = let f : is s ≡ false = sym here ∙ e in rw (e, add-one) (ih ∙ sym (lowest_next is (length xs) s f))

-- of an index's rows, `position` finds the lowest that passes
module _ (test : Row → Bool) (index : List ℕ) where
  abbrev rows : List Row
  rows = map row_from (first_chunks 6 (row_count index) index)

  many : length rows ≡ row_count index
  many = length-map (first_chunks 6 (row_count index) index) row_from ∙ length_chunks (row_count index) index

  each : (k : ℕ) → k < length rows → test (get_or rows k (row_from [])) ≡ test (row_of index (0 + k))
  each k h =
      let below : k < row_count index = omega (arith, many) in
      let e : 0 + k ≡ k = omega arith in
      ap test (Math.get_or-map row_from (first_chunks 6 (row_count index) index) k [] ∙ chunk_row (row_count index) k index below ∙ ap (row_of index) (sym e))

  pub position_lowest : found_from (position test (map row_from (first_chunks 6 (row_count index) index))) ≡ lowest (λ k. test (row_of index k)) (row_count index) 0
  position_lowest = ap found_from (position_from-zero test rows) ∙ first_lowest test (λ k. test (row_of index k)) (row_from []) rows 0 each ∙ ap (λ (n : ℕ). lowest (λ k. test (row_of index k)) n 0) many
