-- Laws of rows that are put down one behind the other. Assumes nothing.
use mathlib.Core.Path.{◌≡◌, refl, sym, ap, ◌∙◌}
use mathlib.Core.Bool.{Bool, true, false, cond}
use mathlib.Core.List.{List, [], ◌∷◌, ◌++◌, map, append_assoc}
use Prim.Native.Nat.{ℕ, suc, ◌+◌, ◌-◌, ◌*◌, ◌/◌, ◌%◌, ◌≤◌, ◌<◌}
use native.Mathlib.Omega.{arith}
use native.Mathlib.Nat.{add-zero, le-add_right, mul-suc, mul-add}
use borrow.Author.Tests.{le-leb}
use lib.Dec.{leb}
use lib.ListN.{length, length-map, get_or, take, drop, length-append}
use lib.Seq.{sets, sets-eq, length-sets}
use Rattle.std.specs.Prelude.{set}
use borrow.Rule.Slice.PartMut.{put_mid, Post-is}
use Rattle.std.specs.Array.{IsMapOf}
use Rattle.std.specs.Fn.{Mut, Called}
use Rattle.std.specs.List.{flat_map}
use Rattle.std.proofs.lemmas.List.{ext_get_or, get_or-map}
use Rattle.numbers.specs.Bytes.{little_endian}
use Rattle.message.specs.Rows.{Row}
use Rattle.reader.specs.Filling.{put_row, put_rows}

-- a part that is written whole is one run of sets
pub part_sets : {T : Type 0} (xs : List T) (at : ℕ) (ys zs : List T) → zs ≡ ys → at + length ys ≤ length xs
    → put_mid at (at + length ys - at) xs zs ≡ cond (leb (at + length ys) (length xs)) (sets xs at ys) xs
part_sets xs at ys zs e h =
    rw (e, le-leb (at + length ys) (length xs) h, sets-eq ys xs at h, Post-is at (at + length ys) xs (le-add_right at (length ys))) (sym (append_assoc (take at xs) ys (drop (at + length ys) xs)))

-- the numbers of a row are put where the row is put
pub put_is : (size : ℕ) (numbers : Row → List ℕ) (i o l : List ℕ) (k : ℕ) (r : Row) → l ≡ numbers r → length l ≡ size
    → o ≡ cond (leb (size * k + length l) (length i)) (sets i (size * k) l) i → o ≡ put_row size numbers i k r
put_is size numbers i o l k r e n q = q ∙ rw (n, e)

-- pairs of bytes, one behind the other
abbrev pair_of : ℕ → List ℕ
pair_of n = n % 256 ∷ n / 256 ∷ []

flat_pairs : (l : List ℕ) → flat_map (λ p. p) (map pair_of l) ≡ little_endian l
unfolding little_endian
flat_pairs [] = refl
flat_pairs (n ∷ l) = ap (λ r. n % 256 ∷ n / 256 ∷ r) (flat_pairs l)

pub pairs_flat : {F : Type 0} (g : Mut F (ℕ × Unit {0}) (List ℕ)) (f : F) (l : List ℕ) (ps : List (List ℕ)) (n : ℕ) → IsMapOf g f l ps n → length l ≡ n
    → ((p q : F) (n : ℕ) (r : List ℕ) → Called g p (n, tt) r q → r ≡ n % 256 ∷ n / 256 ∷ []) → flat_map (λ p. p) ps ≡ little_endian l
pairs_flat g f l ps n m e each = ap (flat_map (λ p. p)) are ∙ flat_pairs l
  where
    at : (i : ℕ) → i < length ps → get_or ps i [] ≡ get_or (map pair_of l) i []
    at i h =
        let in_n : i < n = rw m.long at h in
        let in_l : i < length l = rw e in_n in
        let (p, q, ran) = m.at i 0 [] in_n in
        each p q (get_or l i 0) (get_or ps i []) ran ∙ sym (get_or-map pair_of l i 0 [] in_l)

    are : ps ≡ map pair_of l
    are = ext_get_or [] ps (map pair_of l) (m.long ∙ sym (length-map l pair_of ∙ e)) at

-- one part put behind another
sets_more : (xs l : List ℕ) (i : ℕ) (ys : List ℕ) → sets (sets l i xs) (i + length xs) ys ≡ sets l i (xs ++ ys)
sets_more [] l i ys = rw (add-zero i)
sets_more (x ∷ xs) l i ys = let e : i + suc (length xs) ≡ suc i + length xs = omega arith in rw e (sets_more xs (set l i x) (suc i) ys)

mul_more : (s k n : ℕ) → s * (k + suc n) ≡ s * k + s + s * n
mul_more s k n = let e : k + suc n ≡ suc (k + n) = omega arith in rw (e, mul-suc s (k + n), mul-add s k n) (omega arith)

module _ (size : ℕ) (numbers : Row → List ℕ) where
  pub rows_one : (i : List ℕ) (k : ℕ) (r : Row) → put_row size numbers i k r ≡ put_rows size numbers i k (r ∷ [])
  unfolding put_rows
  rows_one i k r = refl

  pub rows_two : (i j o : List ℕ) (k : ℕ) (r p : Row) → j ≡ put_row size numbers i k r → o ≡ put_row size numbers j (k + 1) p → o ≡ put_rows size numbers i k (r ∷ p ∷ [])
  unfolding put_rows
  rows_two i j o k r p e f = let n : k + 1 ≡ suc k = omega arith in f ∙ rw (e, n)

  pub rows_then : (i : List ℕ) (k : ℕ) (q p : List Row) → put_rows size numbers (put_rows size numbers i k q) (k + length q) p ≡ put_rows size numbers i k (q ++ p)
  unfolding put_rows
  rows_then i k [] p = rw (add-zero k)
  rows_then i k (r ∷ q) p = let e : k + suc (length q) ≡ suc k + length q = omega arith in rw e (rows_then (put_row size numbers i k r) (suc k) q p)

  row_length : (i : List ℕ) (k : ℕ) (r : Row) → length (put_row size numbers i k r) ≡ length i
  row_length i k r = go (leb (size * k + size) (length i)) refl
    where
      go : (b : Bool) → leb (size * k + size) (length i) ≡ b → length (put_row size numbers i k r) ≡ length i
      go true e = rw e (length-sets i (size * k) (numbers r))
      go false e = rw e

  pub rows_length : (i : List ℕ) (k : ℕ) (q : List Row) → length (put_rows size numbers i k q) ≡ length i
  unfolding put_rows
  rows_length i k [] = refl
  rows_length i k (r ∷ q) = rows_length (put_row size numbers i k r) (suc k) q ∙ row_length i k r

  -- all of a row's numbers
  abbrev pub flat_by : List Row → List ℕ
  flat_by [] = []
  flat_by (r ∷ q) = numbers r ++ flat_by q

  module _ (wide : (r : Row) → length (numbers r) ≡ size) where
    pub flat_length : (q : List Row) → length (flat_by q) ≡ size * length q
    flat_length [] = sym (native.Mathlib.Nat.mul-zero size)
    flat_length (r ∷ q) = length-append (numbers r) (flat_by q) ∙ rw (wide r, flat_length q, native.Mathlib.Nat.mul-suc size (length q)) (omega arith)

  -- rows that all have room
  module _ (wide : (r : Row) → length (numbers r) ≡ size) where
    pub rows_sets : (q : List Row) (i : List ℕ) (k : ℕ) → size * (k + length q) ≤ length i → put_rows size numbers i k q ≡ sets i (size * k) (flat_by q)
    unfolding put_rows
    rows_sets [] i k h = refl
    rows_sets (r ∷ q) i k h =
        let n : size * (k + suc (length q)) ≡ size * k + size + size * length q = rw (mul_more size k (length q)) refl in
        let fits : size * k + size ≤ length i = omega (arith, n, h) in
        let there : put_row size numbers i k r ≡ sets i (size * k) (numbers r) = rw (le-leb (size * k + size) (length i) fits) in
        let e : size * suc k ≡ size * k + length (numbers r) = rw (wide r, mul-suc size k) (omega arith) in
        let m : size * (suc k + length q) ≡ size * (k + suc (length q)) = ap (λ n. size * n) (omega arith) in
        rw there (
        rows_sets q (sets i (size * k) (numbers r)) (suc k) (rw (m, length-sets i (size * k) (numbers r)) h)
        ∙ ap (λ n. sets (sets i (size * k) (numbers r)) n (flat_by q)) e
        ∙ sets_more (numbers r) i (size * k) (flat_by q)
        )
