-- The bits as a set. Assumes nothing.
use mathlib.Core.Path.{◌≡◌, refl, sym, ap, ◌∙◌}
use mathlib.Core.Bool.{Bool, true, false, ◌||◌}
use mathlib.Core.List.{List}
use Prim.Native.Nat.{ℕ, zero, suc, ◌<◌, ◌≤◌, ◌/◌, ◌%◌, ◌^◌, ◌*◌}
use native.Mathlib.Omega.{arith}
use native.Mathlib.Nat.{zero-div}
use lib.Dec.{eqb}
use lib.ListN.{length, get_or, set, replicate, length-set, length-replicate}
use lib.Seq.{get_or-set_same, get_or-set_other, set_out}
use borrow.Author.Tests.{eqb-true, eqb-false}
use Rattle.std.proofs.Common.{bit_or}
use Rattle.numbers.specs.Bits.{bit_of, with_bit, bit_at, marked}
use Rattle.numbers.proofs.Every.{bit_fits, bit_set, bit_kept, bit_or_is}

-- the map has room for the numbers below n, and holds just those of which `has` says so
pub record Marks (map : List ℕ) (n : ℕ) (has : ℕ → Bool) : Type 0 where
  pub room : n ≤ 8 * length map
  pub bytes : (i : ℕ) → get_or map i 0 < 256
  pub holds : (u : ℕ) → u < n → bit_at map u ≡ has u

zeros : (n i : ℕ) → get_or {A = ℕ} (replicate n 0) i 0 ≡ 0
zeros zero i = refl
zeros (suc n) zero = refl
zeros (suc n) (suc i) = zeros n i

none_of : (k : ℕ) → bit_of 0 k ≡ false
unfolding bit_of
none_of k = rw (zero-div (2 ^ k))

pub marks_none : (m n : ℕ) → n ≤ 8 * m → Marks (replicate m 0) n (λ u. false)
unfolding bit_at
marks_none m n h = record {
  room = rw (length-replicate {A = ℕ} m 0) h;
  bytes = λ i. let z = zeros m i in omega arith;
  holds = λ u l. rw (zeros m (u / 8)) (none_of (u % 8));
}

module _ (map : List ℕ) (t : ℕ) (bytes : (i : ℕ) → get_or map i 0 < 256) (room : t / 8 < length map) where
  mark_same : bit_at (marked map t) t ≡ true
  unfolding bit_at marked
  mark_same = rw (get_or-set_same map (t / 8) (with_bit (get_or map (t / 8) 0) (t % 8)) 0 room) (bit_set (get_or map (t / 8) 0) (t % 8) (bytes (t / 8)) (omega arith))

  mark_other : (u : ℕ) → (u ≡ t → ⊥) → bit_at (marked map t) u ≡ bit_at map u
  unfolding bit_at marked
  mark_other u ne = by_test (eqb (u / 8) (t / 8)) refl
    where
      by_test : (v : Bool) → eqb (u / 8) (t / 8) ≡ v → bit_of (get_or (set map (t / 8) (with_bit (get_or map (t / 8) 0) (t % 8))) (u / 8) 0) (u % 8) ≡ bit_of (get_or map (u / 8) 0) (u % 8)
      by_test true e =
          let f : u / 8 ≡ t / 8 = eqb-true _ _ e in
          let h : u % 8 ≡ t % 8 → ⊥ = λ h. ne (omega arith) in
          let s = get_or-set_same map (t / 8) (with_bit (get_or map (t / 8) 0) (t % 8)) 0 room in
          rw (f, s) (bit_kept _ _ _ (bytes (t / 8)) (omega arith) (omega arith) h)
      by_test false e = rw (get_or-set_other map (t / 8) (u / 8) (with_bit (get_or map (t / 8) 0) (t % 8)) 0 (eqb-false _ _ e))

  mark_byte : (i : ℕ) (v : Bool) → eqb i (t / 8) ≡ v → get_or (marked map t) i 0 < 256
  unfolding marked
  mark_byte i true e =
      let f : i ≡ t / 8 = eqb-true i (t / 8) e in
      let s = get_or-set_same map (t / 8) (with_bit (get_or map (t / 8) 0) (t % 8)) 0 room in
      let w = bit_fits (get_or map (t / 8) 0) (t % 8) (bytes (t / 8)) (omega arith) in
      rw (f, s) w
  mark_byte i false e = rw (get_or-set_other map (t / 8) i (with_bit (get_or map (t / 8) 0) (t % 8)) 0 (eqb-false i (t / 8) e)) (bytes i)

pub marked_length : (map : List ℕ) (t : ℕ) → length (marked map t) ≡ length map
unfolding marked
marked_length map t = length-set map (t / 8) (with_bit (get_or map (t / 8) 0) (t % 8))

module _ (map : List ℕ) (n : ℕ) (has : ℕ → Bool) (m : Marks map n has) (t : ℕ) (ht : t < n) where
  in_room : t / 8 < length map
  in_room = omega (arith, m.room)

  at_number : (u : ℕ) → u < n → (v : Bool) → eqb u t ≡ v → bit_at (marked map t) u ≡ (eqb u t || has u)
  at_number u hu true e = rw e (ap (bit_at (marked map t)) (eqb-true u t e) ∙ mark_same map t m.bytes in_room)
  at_number u hu false e = rw e (mark_other map t m.bytes in_room u (eqb-false u t e) ∙ m.holds u hu)

  pub marks_more : Marks (marked map t) n (λ u. eqb u t || has u)
  marks_more = record {
    room = rw (marked_length map t) m.room;
    bytes = λ i. mark_byte map t m.bytes in_room i (eqb i (t / 8)) refl;
    holds = λ u hu. at_number u hu (eqb u t) refl;
  }

-- a mark beyond the map changes nothing
pub marked_out : (map : List ℕ) (t : ℕ) → length map ≤ t / 8 → map ≡ marked map t
unfolding marked
marked_out map t h = sym (set_out map (t / 8) (with_bit (get_or map (t / 8) 0) (t % 8)) h)

-- `x | 1 << k` put in the place of x
pub marked_at : (map : List ℕ) (n x : ℕ) → x ≡ get_or map (n / 8) 0 → x < 256 → set map (n / 8) (bit_or x ((1 * 2 ^ (n % 8)) % 256)) ≡ marked map n
unfolding marked
marked_at map n x e h = rw (bit_or_is x (n % 8) h (omega arith), e)
