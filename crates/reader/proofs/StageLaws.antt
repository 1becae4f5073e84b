-- Laws of the rows of a whole message. Assumes nothing.
use mathlib.Core.Path.{◌≡◌, refl, ap, ◌∙◌}
use mathlib.Core.List.{List, [], ◌∷◌, ◌++◌}
use Prim.Native.Nat.{ℕ, ◌+◌, ◌≤◌}
use native.Mathlib.Omega.{arith}
use lib.ListN.{length, length-append, drop}
use Rattle.std.specs.Prelude.{Ok, Err}
use Rattle.message.specs.Arrangement.{Page}
use Rattle.message.specs.Rows.{Row}
use Rattle.reader.specs.declared.Step.TheVariants.{Done, Ask}
use Rattle.reader.specs.declared.Framed.{Framed}
use Rattle.reader.specs.declared.refusal.Refused.{Refused}
use Rattle.reader.specs.Filling.{Fill, full, before, next, f_items, put_row, put_rows, row_numbers, row_bytes}
use Rattle.reader.specs.Met.{Meets}
use Rattle.reader.specs.Rowed.{head_rows, closing_row, f_message}
use Rattle.reader.proofs.RowLaws.{rows_one, rows_then}
use Rattle.reader.proofs.Going.{Going, going_on, going_bad, going_ask}

-- the rows of 8, 9 and 35 are put one behind the other
pub heads_put : (size : ℕ) (numbers : Row → List ℕ) (i j o u : List ℕ) (p q r : Row) → j ≡ put_row size numbers i 0 p → o ≡ put_row size numbers j 1 q → u ≡ put_row size numbers o 2 r
    → u ≡ put_rows size numbers i 0 (p ∷ q ∷ r ∷ [])
unfolding put_rows
heads_put size numbers i j o u p q r e f g = g ∙ rw (f, e)

before_rows : (q p : List Row) (a : ℕ) (r : List ℕ) → before q (full p a r) ≡ full (q ++ p) a r
unfolding before
before_rows q p a r = refl

n_is : (n : ℕ) (q : List Row) (r : Row) → n ≡ 0 + length q → n + 1 ≡ 0 + length (q ++ r ∷ [])
n_is n q r e = rw (length-append q (r ∷ [])) (omega (arith, e))

rows_last : (size : ℕ) (numbers : Row → List ℕ) (i j o : List ℕ) (n : ℕ) (q : List Row) (r : Row) → n ≡ 0 + length q → j ≡ put_rows size numbers i 0 q → o ≡ put_row size numbers j n r → o ≡ put_rows size numbers i 0 (q ++ r ∷ [])
rows_last size numbers i j o n q r e f g = g ∙ rows_one size numbers j n r ∙ rw (f, e) (rows_then size numbers i 0 q (r ∷ []))

module _ (P : Page) (w : ℕ) (f : Framed) (m i b j u : List ℕ) (ej : j ≡ put_rows 6 row_numbers i 0 (head_rows f)) (eu : u ≡ put_rows 12 row_bytes b 0 (head_rows f)) (low : 4 ≤ f.type_end) (inside : f.type_end ≤ length m) where
  abbrev Here : Fill
  Here = f_items P w f.type_end 3 (drop f.type_end m)

  abbrev Last : ℕ → ℕ → List ℕ → Fill
  Last a n r = full (closing_row a ∷ []) a r

  staged : (at : ℕ) → at ≤ 1 → Going m i b at 0 (f_message P w f m) (next Here (λ q a r. Last a (3 + length q) r)) f.type_end 3 j u
  staged at h = record { rows = head_rows f; made = refl; index = ej; bytes = eu; count = refl; costs = omega (arith, low); inside = inside }

  pub message_bad : (e : Refused) (j' u' : List ℕ) → Meets 0 m f.type_end 3 Here (Err e) j j' u u' → Meets 0 m 0 0 (f_message P w f m) (Err e) i j' b u'
  message_bad e j' u' M = going_bad m i b 0 0 _ Here f.type_end 3 j u j' u' Last (staged 0 (omega arith)) 0 0 e M j' u'

  pub message_ask : (t : ℕ) (j' u' : List ℕ) → Meets 0 m f.type_end 3 Here (Ok (Ask t)) j j' u u' → Meets 0 m 0 0 (f_message P w f m) (Ok (Ask t)) i j' b u'
  message_ask t j' u' M = going_ask m i b 0 0 _ Here f.type_end 3 j u j' u' Last (staged 0 (omega arith)) 0 0 t M j' u'

  pub message_done : (a n : ℕ) (j' u' j'' u'' : List ℕ) → Meets 0 m f.type_end 3 Here (Ok (Done a n)) j j' u u' → j'' ≡ put_row 6 row_numbers j' n (closing_row a) → u'' ≡ put_row 12 row_bytes u' n (closing_row a)
      → Meets 0 m 0 0 (f_message P w f m) (Ok (Done a (n + 1))) i j'' b u''
  message_done a n j' u' j'' u'' M ej' eu' =
      let (g, past) = going_on m i b 1 0 _ Here f.type_end 3 j u j' u' Last (staged 1 (omega arith)) 0 a n M in
      let z : f_message P w f m ≡ full (g.rows ++ closing_row a ∷ []) a (drop a m) = g.made ∙ before_rows g.rows (closing_row a ∷ []) a (drop a m) in
      let l : length (g.rows ++ closing_row a ∷ []) ≡ length g.rows + 1 = length-append g.rows (closing_row a ∷ []) in
      rw z (
        ap (λ y. Ok (Done a y)) (n_is n g.rows (closing_row a) g.count),
        refl,
        g.inside,
        omega arith,
        rw l (omega (arith, g.costs)),
        rows_last 6 row_numbers i j' j'' n g.rows (closing_row a) g.count g.index ej',
        rows_last 12 row_bytes b u' u'' n g.rows (closing_row a) g.count g.bytes eu',
      )
