-- Types 11 and 15: the form is what Words says. Assumes nothing.
use mathlib.Core.Path.{◌≡◌, refl, sym, ap, ◌∙◌, subst}
use Prim.Native.Nat.{ℕ, zero, suc, ◌+◌, ◌-◌, ◌*◌, ◌<◌, ◌≤◌}
use native.Mathlib.Nat.{le_of_suc-le-suc, eq-or-lt_of_le}
use native.Mathlib.Omega.{arith}
use mathlib.Core.Bool.{Bool, true, false, ◌&&◌, ◌||◌, and_assoc, and-false, and-or_distrib_right}
use mathlib.Core.List.{List, [], ◌∷◌}
use lib.Dec.{T, leb, eqb, eqb-suc-suc, eqb-zero-suc, eqb-suc-zero}
use lib.ListN.{length, take, drop}
use mathlib.Core.Logic.{⊎_elim}
use borrow.Author.Tests.{leb-true, ne_eqb}
use Rattle.forms.specs.Form.{Form, none, nil, one, ◌▷◌, ◌∣◌, many, seq, alt_r, alt, null, after, accepts}
use Rattle.forms.specs.Meaning.{cuts, none_law, nil_law, one_law, one_two, or_law, alt_law, seq_law, then_law}
use lib.Seq.{drop-drop}
use Rattle.forms.specs.Types.{byte, digit, maybe, times, two_below, two, counted, colon, date, time, fraction, offset, timestamp, tz_time}
use Rattle.forms.proofs.Numbers.{digital, others}
use Rattle.forms.specs.Words.{is_two, is_byte, part, is_date, is_time, is_fraction, is_timestamp, is_offset, is_tz_time}
use Rattle.numbers.specs.Bytes.{mem}
use Rattle.numbers.specs.Decimal.{digits, value_from}
use Rattle.numbers.proofs.Tests.{and_left, and_right, to_false, only_one}
use Rattle.forms.proofs.Positions.{width, fixed, all_wide, layout}

pub times_law : (n : ℕ) (s : List ℕ) → accepts (times n digit) s ≡ (eqb (length s) n && digits s)
unfolding times digit accepts digits null seq after
times_law zero [] = refl
times_law zero (b ∷ s) = none_law s ∙ rw (eqb-suc-zero (length s))
times_law (suc n) [] = rw (eqb-zero-suc n)
times_law (suc n) (b ∷ s) = go (leb 48 b && leb b 57) (times_law n s)
  where
    go : (t : Bool) → accepts (times n digit) s ≡ (eqb (length s) n && digits s)
        → accepts (seq (elim t [ true ↦ nil | false ↦ none ]) (times n digit)) s ≡ (eqb (suc (length s)) (suc n) && (t && digits s))
    go true ih = rw (eqb-suc-suc (length s) n) ih
    go false ih = none_law s ∙ sym (and-false (eqb (suc (length s)) (suc n)))

-- Ticket 8: over any set of counts, digits as many as one of them
pub counted_law : (ns : List ℕ) (s : List ℕ) → accepts (counted ns) s ≡ (mem (length s) ns && digits s)
unfolding counted mem
counted_law [] s = none_law s
counted_law (n ∷ ns) s =
    alt_law s (times n digit) (counted ns) ∙ rw (times_law n s, counted_law ns s) (sym (and-or_distrib_right (eqb (length s) n) (mem (length s) ns) (digits s)))

-- the rule on two digits, computed at all hundred
abbrev same : Bool → Bool → Bool
same true b = b
same false true = false
same false false = true

same_is : (a b : Bool) → T (same a b) → a ≡ b
same_is true true t = refl
same_is true false t = absurd t
same_is false true t = absurd t
same_is false false t = refl

abbrev both : Bool → Bool → Bool
both true b = b
both false b = false

both_left : (a b : Bool) → T (both a b) → T a
both_left true b t = tt
both_left false b t = t

both_right : (a b : Bool) → T (both a b) → T b
both_right true b t = t
both_right false b t = absurd t

abbrev below : ℕ → (ℕ → Bool) → Bool
below zero f = true
below (suc n) f = both (f n) (below n f)

all : (n : ℕ) (f : ℕ → Bool) → T (below n f) → (k : ℕ) → k < n → T (f k)
all zero f t k h = absurd (omega arith)
all (suc n) f t k h =
    ⊎_elim (λ e. subst (λ (m : ℕ). T (f m)) (sym e) (both_left (f n) (below n f) t)) (λ l. all n f (both_right (f n) (below n f) t) k l) (eq-or-lt_of_le (le_of_suc-le-suc h))

-- one pair of digits
abbrev pair : Form → ℕ → ℕ → ℕ → ℕ → Bool
pair f lo hi d e = same (accepts f ((48 + d) ∷ (48 + e) ∷ [])) (leb lo (d * 10 + e) && leb (d * 10 + e) hi)

-- a form of width two that speaks of digits is the rule, if it is so at all hundred pairs
module _ (f : Form) (lo hi : ℕ) (x : fixed f ≡ true) (w : width f ≡ 2) (g : digital f ≡ true)
    (steady : (b : ℕ) → digital (after b f) ≡ true)
    (t : T (below 10 (λ d. below 10 (λ e. pair f lo hi d e)))) where
  pair_law : (s : List ℕ) → accepts f s ≡ is_two lo hi s
  unfolding is_two digits value_from accepts null after
  pair_law [] = to_false (accepts f []) (λ a. let z : 0 ≡ 2 = all_wide f x [] a ∙ w in omega arith)
  pair_law (a ∷ []) = to_false (accepts f (a ∷ [])) (λ e. let z : 1 ≡ 2 = all_wide f x (a ∷ []) e ∙ w in omega arith)
  pair_law (a ∷ b ∷ c ∷ s) =
      let n : eqb (suc (suc (suc (length s)))) 2 ≡ false = ne_eqb (suc (suc (suc (length s)))) 2 (λ z. omega arith) in
      rw n (to_false (accepts f (a ∷ b ∷ c ∷ s)) (λ e. let z : suc (suc (suc (length s))) ≡ 2 = all_wide f x (a ∷ b ∷ c ∷ s) e ∙ w in omega arith))
  pair_law (a ∷ b ∷ []) = go (leb 48 a && leb a 57) refl (leb 48 b && leb b 57) refl
    where
      go : (p : Bool) → (leb 48 a && leb a 57) ≡ p → (q : Bool) → (leb 48 b && leb b 57) ≡ q
          → null (after b (after a f)) ≡ (p && (q && true) && (leb lo ((0 * 10 + (a - 48)) * 10 + (b - 48)) && leb ((0 * 10 + (a - 48)) * 10 + (b - 48)) hi))
      go true p true q = both_digits (range a p) (range b q)
        where
          range : (a : ℕ) → (leb 48 a && leb a 57) ≡ true → (48 ≤ a) × (a ≤ 57)
          range a e = (leb-true 48 a (and_left (leb 48 a) (leb a 57) e), leb-true a 57 (and_right (leb 48 a) (leb a 57) e))

          both_digits : (48 ≤ a) × (a ≤ 57) → (48 ≤ b) × (b ≤ 57)
              → null (after b (after a f)) ≡ (leb lo ((0 * 10 + (a - 48)) * 10 + (b - 48)) && leb ((0 * 10 + (a - 48)) * 10 + (b - 48)) hi)
          both_digits u v =
              let ka : 48 + (a - 48) ≡ a = omega (arith, u.0) in
              let kb : 48 + (b - 48) ≡ b = omega (arith, v.0) in
              let kv : (0 * 10 + (a - 48)) * 10 + (b - 48) ≡ (a - 48) * 10 + (b - 48) = omega arith in
              let r = same_is (accepts f ((48 + (a - 48)) ∷ (48 + (b - 48)) ∷ [])) (leb lo ((a - 48) * 10 + (b - 48)) && leb ((a - 48) * 10 + (b - 48)) hi)
              (all 10 (λ e. pair f lo hi (a - 48) e) (all 10 (λ d. below 10 (λ e. pair f lo hi d e)) t (a - 48) (omega (arith, u.1))) (b - 48) (omega (arith, v.1))) in
              rw (kv, ← r) (ap (λ n. null (after b (after n f))) (sym ka) ∙ ap (λ n. null (after n (after (48 + (a - 48)) f))) (sym kb))
      go true p false q = ap null (others b q (after a f) (steady a))
      go false p q r = ap (λ h. null (after b h)) (others a p f g)

digital_seq : (f g : Form) → digital f ≡ true → digital g ≡ true → digital (seq f g) ≡ true
unfolding digital seq
digital_seq none g e d = refl
digital_seq nil g e d = d
digital_seq (one a b) g e d = rw (e, d)
digital_seq (f ▷ h) g e d = rw (e, d)
digital_seq (f ∣ h) g e d = rw (e, d)
digital_seq (many f) g e d = rw (e, d)

digital_alt_r : (f g : Form) → digital f ≡ true → digital g ≡ true → digital (alt_r f g) ≡ true
unfolding digital alt_r
digital_alt_r f none e d = e
digital_alt_r f nil e d = rw e
digital_alt_r f (one a b) e d = rw (e, d)
digital_alt_r f (g ▷ h) e d = rw (e, d)
digital_alt_r f (g ∣ h) e d = rw (e, d)
digital_alt_r f (many g) e d = rw (e, d)

digital_alt : (f g : Form) → digital f ≡ true → digital g ≡ true → digital (alt f g) ≡ true
unfolding alt
digital_alt none g e d = d
digital_alt nil g e d = digital_alt_r nil g e d
digital_alt (one a b) g e d = digital_alt_r (one a b) g e d
digital_alt (f ▷ h) g e d = digital_alt_r (f ▷ h) g e d
digital_alt (f ∣ h) g e d = digital_alt_r (f ∣ h) g e d
digital_alt (many f) g e d = digital_alt_r (many f) g e d

digital_after : (f : Form) → digital f ≡ true → (b : ℕ) → digital (after b f) ≡ true
unfolding digital after
digital_after none e b = refl
digital_after nil e b = refl
digital_after (one lo hi) e b = go (leb lo b && leb b hi)
  where
    go : (t : Bool) → digital (elim t [ true ↦ nil | false ↦ none ]) ≡ true
    go true = refl
    go false = refl
digital_after (f ▷ g) e b =
    go (null f) (digital_after f (and_left (digital f) (digital g) e) b) (and_right (digital f) (digital g) e)
    (digital_after g (and_right (digital f) (digital g) e) b)
  where
    go : (t : Bool) → digital (after b f) ≡ true → digital g ≡ true → digital (after b g) ≡ true
        → digital (elim t [ true ↦ alt (seq (after b f) g) (after b g) | false ↦ seq (after b f) g ]) ≡ true
    go true p q r = digital_alt (seq (after b f) g) (after b g) (digital_seq (after b f) g p q) r
    go false p q r = digital_seq (after b f) g p q
digital_after (f ∣ g) e b =
    digital_alt (after b f) (after b g) (digital_after f (and_left (digital f) (digital g) e) b) (digital_after g (and_right (digital f) (digital g) e) b)
digital_after (many f) e b = digital_seq (after b f) (many f) (digital_after f e b) e

-- the six pairs of document 01
module _ (s : List ℕ) where
  pub month_is : accepts (two 1 12) s ≡ is_two 1 12 s
  unfolding two two_below byte alt alt_r fixed width digital accepts after null seq
  month_is = pair_law (two 1 12) 1 12 refl refl refl (digital_after (two 1 12) refl) tt s

  pub day2_is : accepts (two 1 31) s ≡ is_two 1 31 s
  unfolding two two_below byte alt alt_r fixed width digital accepts after null seq
  day2_is = pair_law (two 1 31) 1 31 refl refl refl (digital_after (two 1 31) refl) tt s

  pub hour_is : accepts (two 0 23) s ≡ is_two 0 23 s
  unfolding two two_below byte alt alt_r fixed width digital accepts after null seq
  hour_is = pair_law (two 0 23) 0 23 refl refl refl (digital_after (two 0 23) refl) tt s

  pub minute_is : accepts (two 0 59) s ≡ is_two 0 59 s
  unfolding two two_below byte alt alt_r fixed width digital accepts after null seq
  minute_is = pair_law (two 0 59) 0 59 refl refl refl (digital_after (two 0 59) refl) tt s

  pub second_is : accepts (two 0 60) s ≡ is_two 0 60 s
  unfolding two two_below byte alt alt_r fixed width digital accepts after null seq
  second_is = pair_law (two 0 60) 0 60 refl refl refl (digital_after (two 0 60) refl) tt s

pub byte_is : (b : ℕ) (s : List ℕ) → accepts (byte b) s ≡ is_byte b s
unfolding byte is_byte accepts null
byte_is b [] = refl
byte_is b (x ∷ []) = one_law b b x ∙ only_one b x
byte_is b (x ∷ y ∷ s) = one_two b b x y s

pub colon_is : (s : List ℕ) → accepts colon s ≡ is_byte 58 s
unfolding colon
colon_is s = byte_is 58 s

pub date_is : (s : List ℕ) → accepts date s ≡ is_date s
unfolding date is_date fixed width times digit two two_below byte alt alt_r seq
date_is s =
    layout (times 4 digit) (two 1 12 ▷ two 1 31) refl s
    ∙ rw (times_law 4 (take 4 s), layout (two 1 12) (two 1 31) refl (drop 4 s), drop-drop 2 4 s, month_is (take 2 (drop 4 s)), day2_is (drop 6 s))

in_order : (a b c d : Bool) → (a && b && c && d) ≡ (a && (b && (c && d)))
in_order true b c d = and_assoc b c d
in_order false b c d = refl

-- HH:MM, then g
pub hour_minute : (g : Form) (s : List ℕ)
    → accepts (two 0 23 ▷ colon ▷ two 0 59 ▷ g) s ≡ (is_two 0 23 (take 2 s) && is_byte 58 (part 2 1 s) && is_two 0 59 (part 3 2 s) && accepts g (drop 5 s))
unfolding colon fixed width two two_below byte alt alt_r seq
hour_minute g s =
    layout (two 0 23) (colon ▷ two 0 59 ▷ g) refl s
    ∙ rw (
      layout colon (two 0 59 ▷ g) refl (drop 2 s),
      layout (two 0 59) g refl (drop 1 (drop 2 s)),
      drop-drop 1 2 s,
      drop-drop 2 3 s,
      hour_is (take 2 s),
      minute_is (take 2 (drop 3 s)),
      colon_is (take 1 (drop 2 s)),
    )
    (sym (in_order (is_two 0 23 (take 2 s)) (is_byte 58 (part 2 1 s)) (is_two 0 59 (part 3 2 s)) (accepts g (drop 5 s))))

pub time_is : (s : List ℕ) → accepts time s ≡ is_time s
unfolding time is_time colon fixed width byte
time_is s =
    hour_minute (colon ▷ two 0 60) s
    ∙ rw (layout colon (two 0 60) refl (drop 5 s), drop-drop 1 5 s, second_is (drop 6 s), colon_is (take 1 (drop 5 s)))
    (in_order (is_two 0 23 (take 2 s)) (is_byte 58 (part 2 1 s)) (is_two 0 59 (part 3 2 s)) (is_byte 58 (part 5 1 s) && is_two 0 60 (drop 6 s)))

pub fraction_is : (counts s : List ℕ) → accepts (fraction counts) s ≡ is_fraction counts s
unfolding fraction is_fraction maybe byte accepts null after alt seq
fraction_is counts [] = refl
fraction_is counts (b ∷ s) = go (leb 46 b && leb b 46) ∙ ap (λ t. t && (mem (length s) counts && digits s)) (only_one 46 b)
  where
    go : (t : Bool) → accepts (seq (elim t [ true ↦ nil | false ↦ none ]) (counted counts)) s ≡ (t && (mem (length s) counts && digits s))
    go true = counted_law counts s
    go false = none_law s

pub timestamp_is : (counts s : List ℕ) → accepts (timestamp counts) s ≡ is_timestamp counts s
unfolding timestamp is_timestamp date time colon fixed width times digit two two_below byte alt alt_r seq
timestamp_is counts s =
    layout date (byte 45 ▷ time ▷ fraction counts) refl s
    ∙ rw (
      layout (byte 45) (time ▷ fraction counts) refl (drop 8 s),
      layout time (fraction counts) refl (drop 1 (drop 8 s)),
      drop-drop 1 8 s,
      drop-drop 8 9 s,
      byte_is 45 (take 1 (drop 8 s)),
      date_is (take 8 s),
      time_is (take 8 (drop 9 s)),
      fraction_is counts (drop 17 s),
    )

-- an alternative in front
shuffle : (a b p q r : Bool) → (a || b || ((p || q) && r)) ≡ (a || (p && r) || (b || (q && r)))
shuffle true b p q r = refl
shuffle false true true q true = refl
shuffle false true true q false = refl
shuffle false true false q r = refl
shuffle false false true q true = refl
shuffle false false true q false = rw (and-false q)
shuffle false false false q r = refl

either : (s : List ℕ) (p q r t : List ℕ → Bool) → ((x : List ℕ) → t x ≡ (p x || q x)) → cuts t r s ≡ (cuts p r s || cuts q r s)
unfolding cuts
either [] p q r t h = rw (h []) (and-or_distrib_right (p []) (q []) (r []))
either (b ∷ s) p q r t h =
    rw (either s (λ x. p (b ∷ x)) (λ x. q (b ∷ x)) r (λ x. t (b ∷ x)) (λ x. h (b ∷ x)), h [])
    (shuffle (cuts (λ x. p (b ∷ x)) r s) (cuts (λ x. q (b ∷ x)) r s) (p []) (q []) (r (b ∷ s)))

pub or_then : (f g h : Form) (s : List ℕ) → accepts ((f ∣ g) ▷ h) s ≡ (accepts (f ▷ h) s || accepts (g ▷ h) s)
or_then f g h s =
    then_law s (f ∣ g) h ∙ either s (accepts f) (accepts g) (accepts h) (accepts (f ∣ g)) (λ x. or_law x f g) ∙ rw (then_law s f h, then_law s g h)

pub maybe_then : (f h : Form) (s : List ℕ) → accepts (maybe f ▷ h) s ≡ (accepts h s || accepts (f ▷ h) s)
unfolding maybe seq
maybe_then f h s = or_then nil f h s ∙ ap (λ t. t || accepts (f ▷ h) s) (sym (seq_law s nil h))

pub empty_is : (s : List ℕ) → accepts nil s ≡ eqb (length s) 0
unfolding accepts null
empty_is [] = refl
empty_is (b ∷ s) = nil_law b s ∙ sym (eqb-suc-zero (length s))

pub offset_parts : (s : List ℕ)
    → accepts offset s
    ≡ (eqb (length s) 0 || (is_byte 90 s || ((is_byte 43 (take 1 s) || is_byte 45 (take 1 s)) && (is_two 1 12 (part 1 2 s) && accepts (maybe (colon ▷ two 0 59)) (drop 3 s)))))
unfolding offset fixed width two two_below byte alt alt_r
offset_parts s =
    or_law s nil (byte 90 ∣ (byte 43 ∣ byte 45) ▷ two 1 12 ▷ maybe (colon ▷ two 0 59))
    ∙ rw (
      empty_is s,
      or_law s (byte 90) ((byte 43 ∣ byte 45) ▷ two 1 12 ▷ maybe (colon ▷ two 0 59)),
      layout (byte 43 ∣ byte 45) (two 1 12 ▷ maybe (colon ▷ two 0 59)) refl s,
      or_law (take 1 s) (byte 43) (byte 45),
      layout (two 1 12) (maybe (colon ▷ two 0 59)) refl (drop 1 s),
      drop-drop 2 1 s,
      month_is (take 2 (drop 1 s)),
      byte_is 90 s,
      byte_is 43 (take 1 s),
      byte_is 45 (take 1 s),
    )

pub offset_is : (s : List ℕ) → accepts offset s ≡ is_offset s
unfolding is_offset maybe colon fixed width byte
offset_is s =
    offset_parts s
    ∙ rw (
      or_law (drop 3 s) nil (colon ▷ two 0 59),
      empty_is (drop 3 s),
      layout colon (two 0 59) refl (drop 3 s),
      drop-drop 1 3 s,
      minute_is (drop 4 s),
      colon_is (take 1 (drop 3 s)),
    )

pub first : (l : List ℕ) → take 1 (take 3 l) ≡ take 1 l
first [] = refl
first (x ∷ l) = refl

pub second : (l : List ℕ) → drop 1 (take 3 l) ≡ take 2 (drop 1 l)
second [] = refl
second (x ∷ l) = refl

pub tz_is : (s : List ℕ) → accepts tz_time s ≡ is_tz_time s
unfolding tz_time is_tz_time colon fixed width two two_below byte alt alt_r seq
tz_is s =
    hour_minute (maybe (colon ▷ two 0 59) ▷ offset) s
    ∙ rw (
      maybe_then (colon ▷ two 0 59) offset (drop 5 s),
      offset_is (drop 5 s),
      layout (colon ▷ two 0 59) offset refl (drop 5 s),
      drop-drop 3 5 s,
      offset_is (drop 8 s),
      layout colon (two 0 59) refl (take 3 (drop 5 s)),
      first (drop 5 s),
      second (drop 5 s),
      drop-drop 1 5 s,
      minute_is (take 2 (drop 6 s)),
      colon_is (take 1 (drop 5 s)),
    )
    (in_order (is_two 0 23 (take 2 s)) (is_byte 58 (part 2 1 s)) (is_two 0 59 (part 3 2 s)) (is_offset (drop 5 s) || (is_byte 58 (part 5 1 s) && is_two 0 59 (part 6 2 s) && is_offset (drop 8 s))))
