-- Laws of member lists. Assumes nothing.
use mathlib.Core.Path.{◌≡◌, refl, sym, ◌∙◌}
use mathlib.Core.Bool.{cond}
use mathlib.Core.List.{List, [], ◌∷◌}
use Prim.Native.Nat.{ℕ, ◌+◌, ◌-◌, ◌*◌, ◌/◌, ◌≤◌, ◌<◌}
use native.Mathlib.Omega.{arith}
use native.Mathlib.Numerals.{add-one}
use lib.Dec.{eqb, ltb}
use lib.ListN.{length, take, drop, get_or, length-drop}
use lib.Seq.{drop-drop, get_or-drop}
use Rattle.numbers.proofs.Parts.{rest}
use Rattle.std.specs.Prelude.{Option, Some, None}
use Rattle.std.specs.Option.{unwrap_or}
use Rattle.std.specs.List.{position_or_len}
use Rattle.std.proofs.lemmas.List.Recursion.{is_position_or_len}
use Rattle.numbers.specs.Bytes.{le16}
use Rattle.book.specs.Records.{Member, members_of, place_in}
use Rattle.book.proofs.Texts.{position_or_end}

-- the member at the head
abbrev pub member_of : List ℕ → Member
member_of s = record { tag = le16 s; flag = le16 (drop 2 s) }

pub members_cons : (s : List ℕ) → 4 ≤ length s → members_of s ≡ member_of s ∷ members_of (drop 4 s)
unfolding members_of
members_cons [] h = absurd (omega arith)
members_cons (a ∷ []) h = absurd (omega arith)
members_cons (a ∷ b ∷ []) h = absurd (omega arith)
members_cons (a ∷ b ∷ c ∷ []) h = absurd (omega arith)
members_cons (a ∷ b ∷ c ∷ d ∷ s) h = refl

pub members_none : (s : List ℕ) → length s < 4 → members_of s ≡ []
unfolding members_of
members_none [] h = refl
members_none (a ∷ []) h = refl
members_none (a ∷ b ∷ []) h = refl
members_none (a ∷ b ∷ c ∷ []) h = refl
members_none (a ∷ b ∷ c ∷ d ∷ s) h = absurd (omega arith)

-- the member that four bytes give
pub next_member : (s : List ℕ) (t f : ℕ) → 4 ≤ length s → t ≡ get_or s 0 0 + get_or s 1 0 * 256 → f ≡ get_or s 2 0 + get_or s 3 0 * 256
    → members_of s ≡ record { tag = t; flag = f } ∷ members_of (take (length s - 4) (drop 4 s))
next_member s t f h e g = members_cons s h ∙ rw (e, g, rest s 4, get_or-drop 2 s 0 0, get_or-drop 2 s 1 0)

-- in a list's bytes, from i on
module _ (l : List ℕ) (i : ℕ) where
  pub members_at : i + 4 ≤ length l → members_of (drop i l) ≡ member_of (drop i l) ∷ members_of (drop (i + 4) l)
  members_at h = members_cons (drop i l) (rw length-drop (omega arith)) ∙ rw (drop-drop 4 i l)

  pub members_past : length l < i + 4 → members_of (drop i l) ≡ []
  members_past h = members_none (drop i l) (rw length-drop (omega arith))

-- the members of bytes that fit, one for four bytes
pub members_count : (l : List ℕ) → length (members_of l) ≡ length l / 4
unfolding members_of
members_count [] = refl
members_count (a ∷ []) = refl
members_count (a ∷ b ∷ []) = refl
members_count (a ∷ b ∷ c ∷ []) = refl
members_count (a ∷ b ∷ c ∷ d ∷ s) = let h : length (members_of s) ≡ length s / 4 = members_count s in omega arith

-- what `position` answers, or the count of the members where it finds none
pub place_found : (ms : List Member) (t n : ℕ) (r : Option ℕ) → n ≡ length ms
    → r ≡ cond (ltb (position_or_len (λ m. eqb m.tag t) ms) (length ms)) (Some (position_or_len (λ m. eqb m.tag t) ms)) None → unwrap_or r n ≡ place_in ms t
unfolding place_in
place_found ms t n r e q = rw e (position_or_end (λ m. eqb m.tag t) ms r q ∙ sym (is_position_or_len (λ l. place_in l t) (λ m. eqb m.tag t) refl (turn t) ms))
  where
    turn : (t : ℕ) (m : Member) (l : List Member) → place_in (m ∷ l) t ≡ cond (eqb m.tag t) 0 (1 + place_in l t)
    turn t m l = rw (native.Mathlib.Nat.add_comm 1 (place_in l t), add-one)
