-- Types 11 to 15 part by part, as the checks read them. Assumes nothing.
use mathlib.Core.Path.{◌≡◌, refl, sym, ap, ◌∙◌}
use Prim.Native.Nat.{ℕ, suc, ◌+◌, ◌-◌, ◌*◌, ◌<◌, ◌≤◌}
use native.Mathlib.Omega.{arith}
use mathlib.Core.Bool.{Bool, true, false, ◌&&◌, ◌||◌, and-false, and-true, and_assoc, or-false, false≢true}
use mathlib.Core.List.{List, [], ◌∷◌}
use lib.Dec.{leb, eqb}
use lib.ListN.{length, take, drop, get_or}
use lib.Seq.{take_all}
use borrow.Author.Tests.{leb-true, le-leb, eqb-true, eq-eqb, ne_eqb}
use Rattle.numbers.specs.Bytes.{mem}
use Rattle.numbers.specs.Decimal.{digit, digits, value_from}
use Rattle.numbers.proofs.Tests.{and_right}
use Rattle.forms.specs.Form.{Form, nil, one, ◌▷◌, ◌∣◌, seq, alt_r, alt, null, after, accepts}
use Rattle.forms.specs.Meaning.{none_law, or_law, one_law}
use Rattle.forms.specs.Types.{byte, digit as digit_form, maybe, times, two_below, two, colon, date, time, fraction, offset, timestamp, time_only, month_year, tz_time, all_counts}
use Rattle.forms.specs.Words.{is_two, is_byte, is_fraction}
use Rattle.forms.proofs.Positions.{width, fixed, layout, wrong_width, rest}
use Rattle.forms.proofs.Stamps.{times_law, month_is, day2_is, hour_is, minute_is, second_is, byte_is, colon_is, empty_is, fraction_is, maybe_then}
use denote.Ref.{Bor}
use mathlib.Core.Logic.{◌⊎◌, inl, inr}
use Rattle.std.specs.Option.{unwrap_or}
use Rattle.std.specs.declared.option.Option.{Option}
use Rattle.std.specs.declared.option.Option.TheVariants.{None, Some}
use Rattle.forms.specs.Walks.{LeavesBehind, Leaves, takes}
use Rattle.forms.proofs.Following.{assoc, assoc_3, same_leaves, whole, pair_leaves, stop, go_on, stands, byte_on}

-- two digits, any number
any_two : (a b : ℕ) → is_two 0 99 (a ∷ b ∷ []) ≡ (digit a && digit b)
unfolding is_two digits value_from
any_two a b = go (digit a) refl (digit b) refl
  where
    v : ℕ
    v = (0 * 10 + (a - 48)) * 10 + (b - 48)

    go : (t : Bool) → digit a ≡ t → (u : Bool) → digit b ≡ u → (t && (u && true) && (leb 0 v && leb v 99)) ≡ (t && u)
    go true x true y =
        let k = leb-true a 57 (and_right (leb 48 a) (leb a 57) x) in
        let l = leb-true b 57 (and_right (leb 48 b) (leb b 57) y) in
        rw (le-leb 0 v (omega arith), le-leb v 99 (omega arith))
    go true x false y = refl
    go false x u y = refl

-- two digits, YYYYMM, `:` and 00 to 59, HH:MM
abbrev Pair : Form
Pair = times 2 digit_form

abbrev pub Month : Form
Month = times 4 digit_form ▷ two 1 12

abbrev pub Sixtieth : Form
Sixtieth = colon ▷ two 0 59

abbrev pub Minutes : Form
Minutes = two 0 23 ▷ colon ▷ two 0 59

-- YYYY
over : (n k : ℕ) → k < n → eqb n k ≡ false
over n k l = ne_eqb n k (λ e. omega arith)

pair_any : (s : List ℕ) → accepts Pair s ≡ is_two 0 99 s
unfolding is_two digits value_from
pair_any s = times_law 2 s ∙ go s
  where
    go : (s : List ℕ) → (eqb (length s) 2 && digits s) ≡ is_two 0 99 s
    go [] = refl
    go (a ∷ []) = refl
    go (a ∷ b ∷ []) = ap (λ t. digit a && t) (and-true (digit b)) ∙ sym (any_two a b)
    go (a ∷ b ∷ c ∷ s) = rw (over (suc (suc (suc (length s)))) 2 (omega arith))

year_pairs : (s : List ℕ) → accepts (times 4 digit_form) s ≡ accepts (Pair ▷ Pair) s
unfolding fixed width times digit_form seq digits
year_pairs s = times_law 4 s ∙ go s ∙ sym (layout Pair Pair refl s ∙ rw (times_law 2 (take 2 s), times_law 2 (drop 2 s)))
  where
    go : (s : List ℕ) → (eqb (length s) 4 && digits s) ≡ (eqb (length (take 2 s)) 2 && digits (take 2 s) && (eqb (length (drop 2 s)) 2 && digits (drop 2 s)))
    go [] = refl
    go (a ∷ []) = refl
    go (a ∷ b ∷ []) = sym (and-false (digit a && (digit b && true)))
    go (a ∷ b ∷ c ∷ []) = sym (and-false (digit a && (digit b && true)))
    go (a ∷ b ∷ c ∷ d ∷ []) = rw (and-true (digit b)) (sym (and_assoc (digit a) (digit b) (digit c && (digit d && true))))
    go (a ∷ b ∷ c ∷ d ∷ e ∷ s) =
        rw (over (suc (suc (suc (suc (suc (length s)))))) 4 (omega arith), over (suc (suc (suc (length s)))) 2 (omega arith)) (sym (and-false (digit a && (digit b && true))))

module _ (s : List ℕ) where
  pub year_stop : LeavesBehind (is_two 0 99) 2 s None → Leaves (times 4 digit_form) s None
  unfolding fixed width times digit_form seq
  year_stop m = same_leaves (Pair ▷ Pair) refl s None (times 4 digit_form) refl refl year_pairs (stop Pair Pair refl refl s (pair_leaves 0 99 s Pair refl refl pair_any None m) None refl)

  pub year_on : (x : Bor (List ℕ)) → LeavesBehind (is_two 0 99) 2 s (Some x) → (r : Option (Bor (List ℕ))) → LeavesBehind (is_two 0 99) 2 x.now r → Leaves (times 4 digit_form) s r
  unfolding fixed width times digit_form seq
  year_on x m r n =
      same_leaves (Pair ▷ Pair) refl s r (times 4 digit_form) refl refl year_pairs
      (go_on Pair Pair refl refl s x (pair_leaves 0 99 s Pair refl refl pair_any (Some x) m) r (pair_leaves 0 99 x.now Pair refl refl pair_any r n))

  pub month_stop : Leaves (times 4 digit_form) s None → (r : Option (Bor (List ℕ))) → r ≡ None → Leaves Month s r
  unfolding fixed width times digit_form seq two two_below byte alt alt_r
  month_stop = stop (times 4 digit_form) (two 1 12) refl refl s

  pub month_on : (x : Bor (List ℕ)) → Leaves (times 4 digit_form) s (Some x) → (r : Option (Bor (List ℕ))) → LeavesBehind (is_two 1 12) 2 x.now r → Leaves Month s r
  unfolding fixed width times digit_form seq two two_below byte alt alt_r
  month_on x p r m = go_on (times 4 digit_form) (two 1 12) refl refl s x p r (pair_leaves 1 12 x.now (two 1 12) refl refl month_is r m)

  pub date_stop : Leaves Month s None → (r : Option (Bor (List ℕ))) → r ≡ None → Leaves date s r
  unfolding date fixed width times digit_form seq two two_below byte alt alt_r
  date_stop p r e =
      same_leaves (Month ▷ two 1 31) refl s r date refl refl (λ t. sym (assoc (times 4 digit_form) (two 1 12) (two 1 31) refl refl t))
      (stop Month (two 1 31) refl refl s p r e)

  pub date_on : (x : Bor (List ℕ)) → Leaves Month s (Some x) → (r : Option (Bor (List ℕ))) → LeavesBehind (is_two 1 31) 2 x.now r → Leaves date s r
  unfolding date fixed width times digit_form seq two two_below byte alt alt_r
  date_on x p r m =
      same_leaves (Month ▷ two 1 31) refl s r date refl refl (λ t. sym (assoc (times 4 digit_form) (two 1 12) (two 1 31) refl refl t))
      (go_on Month (two 1 31) refl refl s x p r (pair_leaves 1 31 x.now (two 1 31) refl refl day2_is r m))

  pub sixtieth_stop : Leaves (byte 58) s None → (r : Option (Bor (List ℕ))) → r ≡ None → Leaves Sixtieth s r
  unfolding colon fixed width two two_below byte alt alt_r
  sixtieth_stop = stop colon (two 0 59) refl refl s

  pub sixtieth_on : (x : Bor (List ℕ)) → Leaves (byte 58) s (Some x) → (r : Option (Bor (List ℕ))) → LeavesBehind (is_two 0 59) 2 x.now r → Leaves Sixtieth s r
  unfolding colon fixed width two two_below byte alt alt_r
  sixtieth_on x p r m = go_on colon (two 0 59) refl refl s x p r (pair_leaves 0 59 x.now (two 0 59) refl refl minute_is r m)

  pub minutes_stop : LeavesBehind (is_two 0 23) 2 s None → (r : Option (Bor (List ℕ))) → r ≡ None → Leaves Minutes s r
  unfolding colon fixed width two two_below byte alt alt_r
  minutes_stop m = stop (two 0 23) Sixtieth refl refl s (pair_leaves 0 23 s (two 0 23) refl refl hour_is None m)

  pub minutes_on : (x : Bor (List ℕ)) → LeavesBehind (is_two 0 23) 2 s (Some x) → (r : Option (Bor (List ℕ))) → Leaves Sixtieth x.now r → Leaves Minutes s r
  unfolding colon fixed width two two_below byte alt alt_r
  minutes_on x m = go_on (two 0 23) Sixtieth refl refl s x (pair_leaves 0 23 s (two 0 23) refl refl hour_is (Some x) m)

  time_parts : (t : List ℕ) → accepts time t ≡ accepts ((Minutes ▷ colon) ▷ two 0 60) t
  unfolding time colon fixed width two two_below byte alt alt_r
  time_parts t =
      sym (assoc Minutes colon (two 0 60) refl refl t ∙ assoc_3 (two 0 23) colon (two 0 59) (colon ▷ two 0 60) refl refl refl t)

  pub time_stop : Leaves Minutes s None → (r : Option (Bor (List ℕ))) → r ≡ None → Leaves time s r
  unfolding time colon fixed width two two_below byte alt alt_r
  time_stop p r e =
      same_leaves ((Minutes ▷ colon) ▷ two 0 60) refl s r time refl refl time_parts
      (stop (Minutes ▷ colon) (two 0 60) refl refl s (stop Minutes colon refl refl s p None refl) r e)

  pub time_stop_2 : (x : Bor (List ℕ)) → Leaves Minutes s (Some x) → Leaves (byte 58) x.now None → (r : Option (Bor (List ℕ))) → r ≡ None → Leaves time s r
  unfolding time colon fixed width two two_below byte alt alt_r
  time_stop_2 x p q r e =
      same_leaves ((Minutes ▷ colon) ▷ two 0 60) refl s r time refl refl time_parts
      (stop (Minutes ▷ colon) (two 0 60) refl refl s (go_on Minutes colon refl refl s x p None q) r e)

  pub time_on : (x : Bor (List ℕ)) → Leaves Minutes s (Some x) → (y : Bor (List ℕ)) → Leaves (byte 58) x.now (Some y)
      → (r : Option (Bor (List ℕ))) → LeavesBehind (is_two 0 60) 2 y.now r → Leaves time s r
  unfolding time colon fixed width two two_below byte alt alt_r
  time_on x p y q r m =
      same_leaves ((Minutes ▷ colon) ▷ two 0 60) refl s r time refl refl time_parts
      (go_on (Minutes ▷ colon) (two 0 60) refl refl s y (go_on Minutes colon refl refl s x p (Some y) q) r (pair_leaves 0 60 y.now (two 0 60) refl refl second_is r m))

-- as the code has it
module _ (s : List ℕ) (r : Option (Bor (List ℕ))) where
  pub date_all : Leaves date s r → accepts date s ≡ takes nil r
  unfolding date fixed width times digit_form seq two two_below byte alt alt_r
  date_all = whole date refl s r

  pub sixtieth_all : Leaves Sixtieth s r → accepts Sixtieth s ≡ takes nil r
  unfolding colon fixed width two two_below byte alt alt_r
  sixtieth_all = whole Sixtieth refl s r

  pub month_year_at : Leaves Month s r → accepts month_year s ≡ takes (nil ∣ two 1 31 ∣ byte 119 ▷ one 49 53) r
  unfolding month_year fixed width times digit_form seq two two_below byte alt alt_r
  month_year_at p =
      sym (assoc (times 4 digit_form) (two 1 12) (nil ∣ two 1 31 ∣ byte 119 ▷ one 49 53) refl refl s) ∙ p (nil ∣ two 1 31 ∣ byte 119 ▷ one 49 53)

  pub time_only_at : (counts : List ℕ) → Leaves time s r → accepts (time_only counts) s ≡ takes (fraction counts) r
  unfolding time_only
  time_only_at counts p = p (fraction counts)

  pub stamp_at : (counts : List ℕ) → Leaves date s r → accepts (timestamp counts) s ≡ takes (byte 45 ▷ time_only counts) r
  unfolding timestamp time_only
  stamp_at counts p = p (byte 45 ▷ time ▷ fraction counts)

  pub stamp_on : (x : Bor (List ℕ)) → Leaves date s (Some x) → 1 ≤ length x.now → get_or x.now 0 0 ≡ 45
      → accepts (timestamp all_counts) s ≡ accepts (time_only all_counts) (take (length x.now - 1) (drop 1 x.now))
  unfolding timestamp time_only
  stamp_on x p l e = p (byte 45 ▷ time ▷ fraction all_counts) ∙ byte_on 45 (time ▷ fraction all_counts) x.now l e ∙ rw (rest x.now 1)

  pub tz_at : Leaves Minutes s r → accepts tz_time s ≡ takes (maybe Sixtieth ▷ offset) r
  unfolding tz_time colon fixed width two two_below byte alt alt_r
  tz_at p = sym (assoc_3 (two 0 23) colon (two 0 59) (maybe Sixtieth ▷ offset) refl refl refl s) ∙ p (maybe Sixtieth ▷ offset)

-- a fraction's digits
pub count_is : (n : ℕ) → mem n all_counts ≡ (eqb n 3 || eqb n 6 || eqb n 9 || eqb n 12)
unfolding mem all_counts
count_is n = go (eqb n 3) (eqb n 6) (eqb n 9)
  where
    go : (a b c : Bool) → (a || (b || (c || (eqb n 12 || false)))) ≡ (a || b || c || eqb n 12)
    go true b c = refl
    go false true c = refl
    go false false true = refl
    go false false false = or-false (eqb n 12)

fraction_cons : (counts : List ℕ) (b : ℕ) (s : List ℕ) → is_fraction counts (b ∷ s) ≡ (eqb b 46 && (mem (length s) counts && digits s))
unfolding is_fraction
fraction_cons counts b s = refl

pub fraction_none : (counts s : List ℕ) → length s < 1 → true ≡ accepts (fraction counts) s
unfolding is_fraction
fraction_none counts [] l = sym (fraction_is counts [])
fraction_none counts (b ∷ s) l = absurd (omega arith)

module _ (counts s : List ℕ) (l : 1 ≤ length s) where
  pub fraction_on : get_or s 0 0 ≡ 46 → accepts (fraction counts) s ≡ (mem (length (take (length s - 1) (drop 1 s))) counts && digits (take (length s - 1) (drop 1 s)))
  fraction_on e = go s l e
    where
      go : (s : List ℕ) → 1 ≤ length s → get_or s 0 0 ≡ 46 → accepts (fraction counts) s ≡ (mem (length (take (length s - 1) (drop 1 s))) counts && digits (take (length s - 1) (drop 1 s)))
      go [] l e = absurd (omega arith)
      go (b ∷ s) l e =
          let k : suc (length s) - 1 ≡ length s = omega arith in
          fraction_is counts (b ∷ s) ∙ fraction_cons counts b s ∙ rw (eq-eqb b 46 e, k, take_all (length s) s (omega arith))

  pub fraction_off : (get_or s 0 0 ≡ 46 → ⊥) → false ≡ accepts (fraction counts) s
  fraction_off n = go s l n
    where
      go : (s : List ℕ) → 1 ≤ length s → (get_or s 0 0 ≡ 46 → ⊥) → false ≡ accepts (fraction counts) s
      go [] l n = absurd (omega arith)
      go (b ∷ s) l n = sym (fraction_is counts (b ∷ s) ∙ fraction_cons counts b s ∙ rw (ne_eqb b 46 n))

-- what follows YYYYMM
month_rest : (s : List ℕ)
    → accepts (nil ∣ two 1 31 ∣ byte 119 ▷ one 49 53) s ≡ (eqb (length s) 0 || (is_two 1 31 s || (is_byte 119 (take 1 s) && accepts (one 49 53) (drop 1 s))))
unfolding fixed width byte
month_rest s =
    or_law s nil (two 1 31 ∣ byte 119 ▷ one 49 53)
    ∙ rw (
      empty_is s,
      or_law s (two 1 31) (byte 119 ▷ one 49 53),
      day2_is s,
      layout (byte 119) (one 49 53) refl s,
      byte_is 119 (take 1 s),
    )

pub month_rest_none : (s : List ℕ) → length s < 1 → true ≡ accepts (nil ∣ two 1 31 ∣ byte 119 ▷ one 49 53) s
month_rest_none s l = rw (month_rest s, eq-eqb (length s) 0 (omega arith))

pub month_rest_week : (s : List ℕ) → 2 ≤ length s → length s < 3 → get_or s 0 0 ≡ 119
    → (leb 49 (get_or s 1 0) && leb (get_or s 1 0) 53) ≡ accepts (nil ∣ two 1 31 ∣ byte 119 ▷ one 49 53) s
unfolding is_byte is_two digits
month_rest_week [] l m e = absurd (omega arith)
month_rest_week (a ∷ []) l m e = absurd (omega arith)
month_rest_week (a ∷ b ∷ []) l m e = rw e (sym (month_rest (119 ∷ b ∷ []) ∙ rw (one_law 49 53 b)))
month_rest_week (a ∷ b ∷ c ∷ s) l m e = absurd (omega arith)

pub month_rest_day : (s : List ℕ) → 2 ≤ length s → length s < 3 → (get_or s 0 0 ≡ 119 → ⊥)
    → is_two 1 31 (get_or s 0 0 ∷ get_or s 1 0 ∷ []) ≡ accepts (nil ∣ two 1 31 ∣ byte 119 ▷ one 49 53) s
unfolding is_byte
month_rest_day [] l m n = absurd (omega arith)
month_rest_day (a ∷ []) l m n = absurd (omega arith)
month_rest_day (a ∷ b ∷ []) l m n = sym (month_rest (a ∷ b ∷ []) ∙ rw (ne_eqb a 119 n) (or-false (is_two 1 31 (a ∷ b ∷ []))))
month_rest_day (a ∷ b ∷ c ∷ s) l m n = absurd (omega arith)

pub month_rest_wrong : (s : List ℕ) → (length s ≡ 0 → ⊥) → (length s ≡ 2 → ⊥) → false ≡ accepts (nil ∣ two 1 31 ∣ byte 119 ▷ one 49 53) s
unfolding fixed width byte two two_below alt alt_r
month_rest_wrong s n m =
    sym
    (or_law s nil (two 1 31 ∣ byte 119 ▷ one 49 53)
    ∙ rw (empty_is s, ne_eqb (length s) 0 n) (wrong_width (two 1 31 ∣ byte 119 ▷ one 49 53) refl s m))

colon_offset : (s : List ℕ) → is_byte 58 (take 1 s) ≡ true → accepts offset s ≡ false
unfolding is_byte offset maybe colon two two_below byte accepts after null alt alt_r seq
colon_offset [] e = absurd (false≢true e)
colon_offset (b ∷ s) e = ap (λ n. accepts (after n offset) s) (eqb-true b 58 e) ∙ none_law s

-- optional :mm
pub maybe_is : (s : List ℕ) → accepts (maybe Sixtieth) s ≡ (eqb (length s) 0 || accepts Sixtieth s)
unfolding maybe
maybe_is s = or_law s nil Sixtieth ∙ rw (empty_is s)

-- with seconds in front no offset begins, and without them none are left out
no_colon : (s : List ℕ) → is_byte 58 (take 1 s) ≡ false → (g : Form) → accepts (Sixtieth ▷ g) s ≡ false
unfolding colon fixed width two two_below byte alt alt_r
no_colon s e g = assoc colon (two 0 59) g refl refl s ∙ layout colon (two 0 59 ▷ g) refl s ∙ rw (colon_is (take 1 s), e)

pub seconds_at : (s : Bor (List ℕ)) (r : Option (Bor (List ℕ))) → Leaves Sixtieth s.now r → accepts offset (unwrap_or r s).now ≡ accepts (maybe Sixtieth ▷ offset) s.now
seconds_at s None p = sym (maybe_then Sixtieth offset s.now ∙ rw (p offset) (or-false (accepts offset s.now)))
seconds_at s (Some x) p = sym (maybe_then Sixtieth offset s.now ∙ rw (p offset) (ap (λ t. t || accepts offset x.now) (go (is_byte 58 (take 1 s.now)) refl)))
  where
    go : (t : Bool) → is_byte 58 (take 1 s.now) ≡ t → accepts offset s.now ≡ false
    go true e = colon_offset s.now e
    go false e = absurd (stands Sixtieth s.now x p (no_colon s.now e))

-- the offset by its first byte
offset_cases : (s : List ℕ)
    → accepts offset s ≡ (eqb (length s) 0 || (is_byte 90 s || ((is_byte 43 (take 1 s) || is_byte 45 (take 1 s)) && accepts (two 1 12 ▷ maybe Sixtieth) (drop 1 s))))
unfolding offset fixed width byte
offset_cases s =
    or_law s nil (byte 90 ∣ (byte 43 ∣ byte 45) ▷ two 1 12 ▷ maybe Sixtieth)
    ∙ rw (
      empty_is s,
      or_law s (byte 90) ((byte 43 ∣ byte 45) ▷ two 1 12 ▷ maybe Sixtieth),
      layout (byte 43 ∣ byte 45) (two 1 12 ▷ maybe Sixtieth) refl s,
      or_law (take 1 s) (byte 43) (byte 45),
      byte_is 90 s,
      byte_is 43 (take 1 s),
      byte_is 45 (take 1 s),
    )

pub offset_none : (s : List ℕ) → length s < 1 → true ≡ accepts offset s
offset_none s l = rw (offset_cases s, eq-eqb (length s) 0 (omega arith))

pub offset_z : (s : List ℕ) → 1 ≤ length s → length s < 2 → get_or s 0 0 ≡ 90 → true ≡ accepts offset s
unfolding is_byte
offset_z [] l m e = absurd (omega arith)
offset_z (a ∷ []) l m e = sym (offset_cases (a ∷ []) ∙ rw (eq-eqb a 90 e))
offset_z (a ∷ b ∷ s) l m e = absurd (omega arith)

sign_is : (b : ℕ) (s : List ℕ) → 1 ≤ length s → is_byte b (take 1 s) ≡ eqb (get_or s 0 0) b
unfolding is_byte
sign_is b [] l = absurd (omega arith)
sign_is b (c ∷ s) l = refl

not_z : (s : List ℕ) → 1 ≤ length s → (get_or s 0 0 ≡ 90 → ⊥) ⊎ (2 ≤ length s) → is_byte 90 s ≡ false
unfolding is_byte
not_z [] l m = refl
not_z (a ∷ []) l (inl n) = ne_eqb a 90 n
not_z (a ∷ []) l (inr m) = absurd (omega arith)
not_z (a ∷ b ∷ s) l m = refl

pub offset_off : (s : List ℕ) → 1 ≤ length s → (get_or s 0 0 ≡ 90 → ⊥) ⊎ (2 ≤ length s) → (get_or s 0 0 ≡ 43 → ⊥) → (get_or s 0 0 ≡ 45 → ⊥) → false ≡ accepts offset s
offset_off s l m p n =
    sym (offset_cases s ∙ rw (ne_eqb (length s) 0 (λ e. omega arith), not_z s l m, sign_is 43 s l, sign_is 45 s l, ne_eqb (get_or s 0 0) 43 p, ne_eqb (get_or s 0 0) 45 n))

pub offset_on : (s : List ℕ) → 1 ≤ length s → (get_or s 0 0 ≡ 43) ⊎ (get_or s 0 0 ≡ 45)
    → (r : Option (Bor (List ℕ))) → LeavesBehind (is_two 1 12) 2 (take (length s - 1) (drop 1 s)) r
    → accepts offset s ≡ takes (maybe (colon ▷ two 0 59)) r
unfolding fixed width two two_below byte alt alt_r
offset_on s l h r m =
    offset_cases s
    ∙ rw (ne_eqb (length s) 0 (λ e. omega arith), not_z s l (inl (other h)), sign_is 43 s l, sign_is 45 s l, signed h)
    (rw (← rest s 1) (pair_leaves 1 12 (take (length s - 1) (drop 1 s)) (two 1 12) refl refl month_is r m (maybe Sixtieth)))
  where
    other : (get_or s 0 0 ≡ 43) ⊎ (get_or s 0 0 ≡ 45) → get_or s 0 0 ≡ 90 → ⊥
    other (inl e) f = omega arith
    other (inr e) f = omega arith

    signed : (get_or s 0 0 ≡ 43) ⊎ (get_or s 0 0 ≡ 45) → (eqb (get_or s 0 0) 43 || eqb (get_or s 0 0) 45) ≡ true
    signed (inl e) = rw (eq-eqb (get_or s 0 0) 43 e)
    signed (inr e) = rw e
