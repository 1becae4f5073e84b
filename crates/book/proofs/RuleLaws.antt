-- Laws of the loops over members in rules 5 and 6. Assumes nothing.
use mathlib.Core.Path.{◌≡◌, refl, sym, ◌∙◌}
use mathlib.Core.Bool.{Bool, true, false, cond, ◌&&◌}
use mathlib.Core.List.{List, [], ◌∷◌}
use Prim.Native.Nat.{ℕ, suc, ◌+◌, ◌*◌, ◌<◌}
use native.Mathlib.Omega.{arith}
use borrow.Author.Tests.{eqb-true}
use lib.Dec.{eqb, leb}
use lib.ListN.{get_or}
use Rattle.std.specs.List.{list_all}
use Rattle.numbers.specs.Bits.{bit_at}
use Rattle.book.specs.Records.{Member, members_of, Record, partner, is_length, is_bounded}
use Rattle.book.specs.Rules.{good_members, paired}
use Rattle.book.specs.Answers.{Declares}

-- every member declared, by a map of the declared tags, with a good flag
pub goods_is : (B : List Record) (map : List ℕ) → Declares map B → (l : List ℕ) → ((i : ℕ) → get_or l i 0 < 256)
    → list_all (λ m. bit_at map m.tag && leb m.flag 1) (members_of l) ≡ good_members B (members_of l)
unfolding members_of good_members
goods_is B map D [] small = refl
goods_is B map D (a ∷ []) small = refl
goods_is B map D (a ∷ b ∷ []) small = refl
goods_is B map D (a ∷ b ∷ c ∷ []) small = refl
goods_is B map D (a ∷ b ∷ c ∷ d ∷ s) small =
    let fits : a + b * 256 < 65536 = omega (arith, small 0, small 1) in
    rw (D (a + b * 256) fits, goods_is B map D s (λ i. small (suc (suc (suc (suc i))))))

-- a turn of the loop over members, Length and data paired: o is the whole list's answer, ms the members still to come
module _ (B : List Record) (o : Bool) (ms ns : List Member) (due f t g y p : ℕ) (inv : o ≡ paired B due f ms) (e : ms ≡ record { tag = t; flag = g } ∷ ns)
    (bounded : eqb y 10 ≡ is_bounded B t) (sized : eqb y 5 ≡ is_length B t) (named : y ≡ 5 → p ≡ partner B t) where
  next : cond (eqb y 5) p 0 ≡ cond (is_length B t) (partner B t) 0
  next = go (eqb y 5) refl sized
    where
      go : (v : Bool) → eqb y 5 ≡ v → v ≡ is_length B t → cond v p 0 ≡ cond (is_length B t) (partner B t) 0
      go true a b = rw (← b) (named (eqb-true y 5 a))
      go false a b = rw (← b)

  pair_step : o ≡ (cond (eqb y 10) (eqb t due && eqb g f) (eqb due 0) && paired B (cond (eqb y 5) p 0) g ns)
  unfolding paired
  pair_step = inv ∙ rw (e, bounded, next)

  module _ (v : Bool) (ev : v ≡ cond (eqb y 10) (eqb t due && eqb g f) (eqb due 0)) where
    pub pair_bad : v ≡ false → false ≡ o
    pair_bad x = sym (pair_step ∙ rw (← ev, x))

    pub pair_turn : v ≡ true → (n : ℕ) → n ≡ cond (eqb y 5) p 0 → o ≡ paired B n g ns
    pair_turn x n en = pair_step ∙ rw (← ev, x, en)

pub pair_end : (B : List Record) (o : Bool) (due f : ℕ) (ms : List Member) → o ≡ paired B due f ms → ms ≡ [] → eqb due 0 ≡ o
unfolding paired
pair_end B o due f ms inv e = sym (inv ∙ rw e)
