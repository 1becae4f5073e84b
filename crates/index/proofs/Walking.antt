-- The walker's steps give the rows of `walk`, one after the other, and then no more, however many steps there are. Assumes nothing.
use mathlib.Core.Path.{◌≡◌, refl, sym, ap, ◌∙◌}
use mathlib.Core.Bool.{Bool, true, false, cond}
use mathlib.Core.List.{List, [], ◌∷◌}
use Prim.Native.Nat.{ℕ, zero, suc, ◌+◌, ◌-◌, ◌<◌, ◌≤◌, zero-le}
use native.Mathlib.Omega.{arith}
use native.Mathlib.Numerals.{add-one}
use lib.Dec.{eqb, ltb}
use lib.ListN.{length}
use borrow.Author.Tests.{eqb-true, eqb-false, ltb-true, ltb-false, lt-ltb, le-ltb}
use Rattle.numbers.proofs.Tests.{and_right}
use Rattle.index.specs.Questions.{Found, row, absent, row_count, number, of_instance, instance_row, if_row, walk_from, walk, next_instance, step, rows_left, steps, answers}
use Rattle.index.proofs.Lowest.{lowest_found}

-- ---- a function that takes t values takes them on t arguments

abbrev Taken : (ℕ → ℕ) → ℕ → ℕ → Type 0
Taken f n j = (k : ℕ) × (k < n) × (f k ≡ j)

-- the values above v moved down by one
abbrev without : ℕ → (ℕ → ℕ) → ℕ → ℕ
without v f k = cond (ltb v (f k)) (f k - 1) (f k)

module _ (f : ℕ → ℕ) (n : ℕ) where
  -- a value other than the last argument's is taken before it
  before : (j : ℕ) → (f n ≡ j → ⊥) → Taken f (suc n) j → Taken f n j
  before j other (k, below, e) = by_test (eqb k n) refl
    where
      by_test : (b : Bool) → eqb k n ≡ b → Taken f n j
      by_test true t = let s : f n ≡ j = ap f (sym (eqb-true k n t)) ∙ e in absurd (other s)
      by_test false t = let s = eqb-false k n t in (k, omega (arith, s), e)

  low : (j : ℕ) → j < f n → Taken f (suc n) j → Taken (without (f n) f) n j
  low j h t = go (before j (λ e. omega (arith, e)) t)
    where
      go : Taken f n j → Taken (without (f n) f) n j
      go (k, below, e) = (k, below, rw (le-ltb (f n) (f k) (omega (arith, e))) e)

  high : (j : ℕ) → f n ≤ j → Taken f (suc n) (suc j) → Taken (without (f n) f) n j
  high j h t = go (before (suc j) (λ e. omega (arith, e)) t)
    where
      go : Taken f n (suc j) → Taken (without (f n) f) n j
      go (k, below, e) = (k, below, rw (lt-ltb (f n) (f k) (omega (arith, e))) (omega (arith, e)))

pigeon : (n t : ℕ) (f : ℕ → ℕ) → ((j : ℕ) → j < t → Taken f n j) → t ≤ n
pigeon n zero f h = zero-le
pigeon zero (suc t) f h = let a = h 0 (omega arith) in absurd (omega (arith, a.1))
pigeon (suc n) (suc t) f h = let r = pigeon n t (without (f n) f) (λ j p. by_test j p (ltb j (f n)) refl) in omega arith
  where
    by_test : (j : ℕ) → j < t → (b : Bool) → ltb j (f n) ≡ b → Taken (without (f n) f) n j
    by_test j p true e = low f n j (omega (arith, ltb-true j (f n) e)) (h j (omega arith))
    by_test j p false e = high f n j (omega (arith, ltb-false j (f n) e)) (h (suc j) (omega arith))

-- ---- the walker

module _ (index : List ℕ) (c : ℕ) where
  -- the row of an instance has that instance
  of_row : (j m : ℕ) → instance_row index c j ≡ row m → (m < row_count index) × (number index m 5 ≡ j)
  unfolding instance_row
  of_row j m e =
      let h = lowest_found (of_instance index c j) (row_count index) 0 m e in
      (omega (arith, h.0), eqb-true (number index m 5) j (and_right (eqb (number index m 4) c) (eqb (number index m 5) j) h.1))

  pub first_step : (k : ℕ) → row_count index ≤ k → step index c k ≡ instance_row index c 1
  unfolding step
  first_step k h = rw (le-ltb k (row_count index) h)

  pub next_step : (j m : ℕ) → instance_row index c j ≡ row m → step index c m ≡ instance_row index c (suc j)
  unfolding step
  next_step j m e = let h = of_row j m e in rw (lt-ltb m (row_count index) h.0, h.1, add-one j)

  -- at the end it stays
  pub ended : (n k : ℕ) → step index c k ≡ absent → steps index c n k ≡ answers n []
  unfolding steps answers
  ended zero k e = refl
  ended (suc n) k e = rw e (ap (absent ∷◌) (ended n k e))

  abbrev Present : ℕ → Type 0
  Present j = (m : ℕ) × (instance_row index c j ≡ row m)

  -- f instances from j on are all that there can be
  abbrev Enough : ℕ → ℕ → Type 0
  Enough f j = ((i : ℕ) → i < f → Present (i + j)) → instance_row index c (f + j) ≡ absent

  -- an instance has a row of its own, so from any instance on there are not more instances than rows
  enough : (j : ℕ) → Enough (row_count index) j
  enough j all = by_answer (instance_row index c (row_count index + j)) refl
    where
      at : ℕ → ℕ
      at k = number index k 5 - j

      taken : (i : ℕ) → Present (i + j) → Taken at (row_count index) i
      taken i (m, e) = let h = of_row (i + j) m e in (m, h.0, omega (arith, h.1))

      by_answer : (r : Found) → instance_row index c (row_count index + j) ≡ r → r ≡ absent
      by_answer absent e = refl
      by_answer (row m) e = absurd (omega (arith, pigeon (row_count index) (suc (row_count index)) at (λ i p. by_test i p (ltb i (row_count index)) refl)))
        where
          by_test : (i : ℕ) → i < suc (row_count index) → (b : Bool) → ltb i (row_count index) ≡ b → Taken at (row_count index) i
          by_test i p true t = taken i (all i (ltb-true i (row_count index) t))
          by_test i p false t = let s : i ≡ row_count index = omega (arith, ltb-false i (row_count index) t) in taken i (m, rw s e)

  shift : (f j m : ℕ) → instance_row index c j ≡ row m → Enough (suc f) j → Enough f (suc j)
  shift f j m a b all = let s : f + suc j ≡ suc f + j = omega arith in ap (instance_row index c) s ∙ b each
    where
      each : (i : ℕ) → i < suc f → Present (i + j)
      each zero p = let s : 0 + j ≡ j = omega arith in (m, ap (instance_row index c) s ∙ a)
      each (suc i) p = let s : suc i + j ≡ i + suc j = omega arith in let h = all i (omega arith) in (h.0, ap (instance_row index c) s ∙ h.1)

  from_here : (f n j k : ℕ) → Enough f j → step index c k ≡ instance_row index c j → steps index c n k ≡ answers n (walk_from index c f j)
  unfolding walk_from if_row steps answers
  from_here zero n j k b e = let s : j ≡ 0 + j = omega arith in ended n k (e ∙ ap (instance_row index c) s ∙ b (λ i p. absurd (omega arith)))
  from_here (suc f) zero j k b e = refl
  from_here (suc f) (suc n) j k b e = by_answer (instance_row index c j) refl (λ m. from_here f n (suc j) m)
    where
      by_answer : (r : Found) → instance_row index c j ≡ r
          → ((m : ℕ) → Enough f (suc j) → step index c m ≡ instance_row index c (suc j) → steps index c n m ≡ answers n (walk_from index c f (suc j)))
          → steps index c (suc n) k ≡ answers (suc n) (if_row (instance_row index c j) (λ k. k ∷ walk_from index c f (suc j)))
      by_answer absent a ih = rw a (ended (suc n) k (e ∙ a))
      by_answer (row m) a ih = rw (a, e ∙ a) (ap (row m ∷◌) (ih m (shift f j m a b) (next_step j m a)))

-- a walker that has not begun: n steps answer the rows of the walk, and from its end on that there is none
pub steps_walk : (index : List ℕ) (c n k : ℕ) → row_count index ≤ k → steps index c n k ≡ answers n (walk index c)
unfolding walk
steps_walk index c n k h = from_here index c (row_count index) n 1 k (enough index c 1) (first_step index c k h)

-- as `Walker::new` makes it: the count of the numbers is no row
pub new_walk : (index : List ℕ) (c n : ℕ) → steps index c n (length index) ≡ answers n (walk index c)
new_walk index c n = steps_walk index c n (length index) (omega arith)

-- ---- the walker as an iterator

module _ (index : List ℕ) (c : ℕ) where
  -- where f instances are all that there can be, one more changes nothing
  stable : (f j : ℕ) → Enough index c f j → walk_from index c f j ≡ walk_from index c (suc f) j
  unfolding walk_from if_row
  stable zero j b = let s : j ≡ 0 + j = omega arith in let e : instance_row index c j ≡ absent = ap (instance_row index c) s ∙ b (λ i p. absurd (omega arith)) in rw e
  stable (suc f) j b = by_answer (instance_row index c j) refl (stable f (suc j))
    where
      by_answer : (r : Found) → instance_row index c j ≡ r
          → (Enough index c f (suc j) → walk_from index c f (suc j) ≡ walk_from index c (suc f) (suc j))
          → walk_from index c (suc f) j ≡ walk_from index c (suc (suc f)) j
      by_answer absent a ih = rw a
      by_answer (row m) a ih = rw a (ap (m ∷◌) (ih (shift index c f j m a b)))

  more : (f j m : ℕ) → f ≡ row_count index → instance_row index c j ≡ row m → walk_from index c f j ≡ m ∷ walk_from index c f (suc j)
  unfolding walk_from if_row
  more zero j m e a = let h = of_row index c j m a in absurd (omega (arith, h.0))
  more (suc f) j m e a =
      let b : Enough index c (suc f) j = rw e (enough index c j) in
      rw a (ap (m ∷◌) (stable f (suc j) (shift index c f j m a b)))

  none : (f j : ℕ) → instance_row index c j ≡ absent → walk_from index c f j ≡ []
  unfolding walk_from if_row
  none zero j a = refl
  none (suc f) j a = rw a

  -- a walker that gives no row has none left
  pub left_none : (k : ℕ) → step index c k ≡ absent → rows_left index c k ≡ []
  unfolding step
  left_none k e = none (row_count index) (next_instance index k) e

  -- a walker that gives a row has that one and then those that are left from there
  pub left_row : (k m : ℕ) → step index c k ≡ row m → rows_left index c k ≡ m ∷ rows_left index c m
  unfolding step
  left_row k m e = more (row_count index) (next_instance index k) m refl e ∙ ap (λ (j : ℕ). m ∷ walk_from index c (row_count index) j) (sym next)
    where
      next : next_instance index m ≡ suc (next_instance index k)
      next = let h = of_row index c (next_instance index k) m e in rw (lt-ltb m (row_count index) h.0, h.1, add-one (next_instance index k))

  -- one that has not begun has the whole walk left
  pub left_all : (k : ℕ) → row_count index ≤ k → rows_left index c k ≡ walk index c
  unfolding walk
  left_all k h = rw (le-ltb k (row_count index) h)
