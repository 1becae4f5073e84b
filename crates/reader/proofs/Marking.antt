-- Laws of the marks of a list's members. Assumes nothing.
use mathlib.Core.Path.{◌≡◌, refl, sym, ap, ◌∙◌}
use mathlib.Core.Bool.{Bool, true, false, cond, ◌&&◌, ◌||◌, not, false≢true}
use mathlib.Core.List.{List, [], ◌∷◌}
use Prim.Native.Nat.{ℕ, suc, ◌+◌, ◌≤◌, ◌<◌}
use native.Mathlib.Omega.{arith}
use borrow.Author.Tests.{eqb-true, eq-eqb, ne_eqb, lt-ltb}
use lib.Dec.{eqb, ltb}
use lib.ListN.{length, get_or, drop, replicate, length-drop}
use lib.Seq.{get_or-drop, drop-drop}
use Rattle.std.proofs.Common.{⊎_elim}
use Rattle.std.proofs.lemmas.Bool.{cases_order}
use Rattle.std.specs.Prelude.{Option, Some, None}
use Rattle.std.specs.Option.{option_map}
use Rattle.std.specs.List.{find, position_or_len, enumerate_from}
use Rattle.numbers.specs.Bytes.{mem}
use Rattle.numbers.specs.Bits.{bit_at, marked}
use Rattle.numbers.proofs.Marks.{Marks, marks_none, marks_more, marked_length}
use Rattle.book.specs.declared.list.Member as Code
use Rattle.book.specs.Records.{Record, Member}
use Rattle.book.specs.Lists.{member_in}
use Rattle.message.specs.Permitted.{has_tag, spare, Miss, none, lacks, note, lacking}
use Rattle.reader.specs.Met.{miss_of}
use Rattle.reader.specs.Marked.{tag_at, Marked}

pub marked_none : (bits : List ℕ) (ms : List Member) → bits ≡ replicate 512 0 → length ms ≤ 4096 → Marked bits ms []
unfolding mem
marked_none bits ms e h =
    let z = marks_none 512 4096 (omega arith) in
    record {
      room = h;
      bytes = λ i. rw e (z.bytes i);
      holds = λ i l. rw e (z.holds i (omega (arith, h)));
    }

-- the loop that marks: of the members ms those before position k are done, and ns are due
pub record Marking (t : ℕ) (seen : List ℕ) (ms : List Member) (bits : List ℕ) (k : ℕ) (ns : List Member) : Type 0 where
  pub room : length ms ≤ 4096
  pub long : length bits ≡ 512
  pub bytes : (i : ℕ) → get_or bits i 0 < 256
  pub left : ns ≡ drop k ms
  pub done : (i : ℕ) → i < k → i < length ms → bit_at bits i ≡ mem (tag_at ms i) (t ∷ seen)
  pub due : (i : ℕ) → k ≤ i → i < length ms → bit_at bits i ≡ mem (tag_at ms i) seen

module _ (t : ℕ) (seen : List ℕ) (ms : List Member) (bits : List ℕ) where
  pub marking_start : Marked bits ms seen → length bits ≡ 512 → (k : ℕ) → k ≡ 0 → (ns : List Member) → ns ≡ ms → Marking t seen ms bits k ns
  marking_start h n k z ns e = record {
    room = h.room;
    long = n;
    bytes = h.bytes;
    left = rw z e;
    done = λ i l q. absurd (omega arith);
    due = λ i l q. h.holds i q;
  }

  module _ (k : ℕ) (ns : List Member) (inv : Marking t seen ms bits k ns) where
    module _ (m : Member) (ls : List Member) (e : ns ≡ m ∷ ls) (j : ℕ) (ej : j ≡ k + 1) where
      inside : k < length ms
      inside =
          let q : length (drop k ms) ≡ suc (length ls) = ap length (sym inv.left ∙ e) in
          let n = length-drop k ms in
          omega (arith, q, n)

      here : tag_at ms k ≡ m.tag
      here =
          let z : k ≡ k + 0 = omega arith in
          ap (tag_at ms) z ∙ sym (ap (λ (m : Member). m.tag) (get_or-drop k ms 0 (record { tag = 0; flag = 0 }))) ∙ ap (λ l. tag_at l 0) (sym inv.left ∙ e)

      later : ls ≡ drop j ms
      later = ap (drop 1) (sym e ∙ inv.left) ∙ drop-drop 1 k ms ∙ rw ej

      pub marking_other : (t ≡ m.tag → ⊥) → Marking t seen ms bits j ls
      unfolding mem
      marking_other q = record {
        room = inv.room;
        long = inv.long;
        bytes = inv.bytes;
        left = later;
        done = λ i l n. ⊎_elim (λ z. inv.due i (omega arith) n ∙ rw (ne_eqb (tag_at ms i) t (λ x. q (sym x ∙ ap (tag_at ms) z ∙ here)))) (λ z. inv.done i (omega arith) n) (cases_order i k);
        due = λ i l n. inv.due i (omega arith) n;
      }

      module _ (q : t ≡ m.tag) (u : ℕ) (eu : u ≡ k) (new : List ℕ) (en : new ≡ marked bits u) where
        more : Marks new 4096 (λ i. eqb i k || bit_at bits i)
        more = rw (en, eu) (marks_more bits 4096 (bit_at bits) (record { room = omega (arith, inv.long); bytes = inv.bytes; holds = λ i l. refl }) k (omega (arith, inside, inv.room)))

        apart : (i : ℕ) → i < length ms → (i ≡ k → ⊥) → bit_at new i ≡ bit_at bits i
        apart i l z = more.holds i (omega (arith, inv.room)) ∙ rw (ne_eqb i k z)

        mine : (i : ℕ) → i < length ms → i ≡ k → bit_at new i ≡ mem (tag_at ms i) (t ∷ seen)
        unfolding mem
        mine i l z = more.holds i (omega (arith, inv.room)) ∙ rw (eq-eqb i k z, eq-eqb (tag_at ms i) t (ap (tag_at ms) z ∙ here ∙ sym q))

        pub marking_one : Marking t seen ms new j ls
        marking_one = record {
          room = inv.room;
          long = ap length en ∙ marked_length bits u ∙ inv.long;
          bytes = more.bytes;
          left = later;
          done = λ i l n. ⊎_elim (λ z. mine i n z) (λ z. apart i n (λ x. omega arith) ∙ inv.done i (omega arith) n) (cases_order i k);
          due = λ i l n. apart i n (λ x. omega arith) ∙ inv.due i (omega arith) n;
        }

    pub marking_end : ns ≡ [] → Marked bits ms (t ∷ seen)
    marking_end e =
        let q : length (drop k ms) ≡ 0 = ap length (sym inv.left ∙ e) in
        let n = length-drop k ms in
        record {
          room = inv.room;
          bytes = inv.bytes;
          holds = λ i l. inv.done i (omega (arith, q, n)) l;
        }

-- where a list has the tag, its first place there
first_place : (t : ℕ) (ms : List Member) → has_tag t ms ≡ true
    → (position_or_len (λ m. eqb t m.tag) ms < length ms) × (tag_at ms (position_or_len (λ m. eqb t m.tag) ms) ≡ t)
unfolding has_tag
first_place t [] h = absurd (false≢true h)
first_place t (m ∷ ms) h = go (eqb t m.tag) refl (first_place t ms)
  where
    go : (b : Bool) → eqb t m.tag ≡ b → (has_tag t ms ≡ true → (position_or_len (λ m. eqb t m.tag) ms < length ms) × (tag_at ms (position_or_len (λ m. eqb t m.tag) ms) ≡ t))
        → (position_or_len (λ m. eqb t m.tag) (m ∷ ms) < suc (length ms)) × (tag_at (m ∷ ms) (position_or_len (λ m. eqb t m.tag) (m ∷ ms)) ≡ t)
    go true e ih = (rw e (omega arith), rw e (sym (eqb-true t m.tag e)))
    go false e ih =
        let k = ih (rw e at h) in
        let n : 1 + position_or_len (λ m. eqb t m.tag) ms ≡ suc (position_or_len (λ m. eqb t m.tag) ms) = omega arith in
        (rw e (omega (arith, k.0)), rw (e, n) k.1)

pub has_marked : (t : ℕ) (seen bits : List ℕ) (ms : List Member) → Marked bits ms seen → has_tag t ms ≡ true
    → (r : Option ℕ) → r ≡ cond (ltb (position_or_len (λ m. eqb t m.tag) ms) (length ms)) (Some (position_or_len (λ m. eqb t m.tag) ms)) None
    → (o : Bool) → ((i : ℕ) → r ≡ Some i → o ≡ bit_at bits i) → o ≡ mem t seen
has_marked t seen bits ms h y r e o f =
    let n = position_or_len (λ (m : Member). eqb t m.tag) ms in
    let k = first_place t ms y in
    f n (e ∙ rw (lt-ltb n (length ms) k.0)) ∙ h.holds n k.0 ∙ ap (λ u. mem u seen) k.1

stays : (B : List Record) (t : ℕ) (seen : List ℕ) (ms : List Member) → lacking B (lacks t) ms seen ≡ lacks t
unfolding lacking note
stays B t seen [] = refl
stays B t seen (m ∷ ms) = go (mem m.tag seen) (stays B t seen ms)
  where
    go : (b : Bool) → lacking B (lacks t) ms seen ≡ lacks t → lacking B (cond b (lacks t) (lacks t)) ms seen ≡ lacks t
    go true ih = ih
    go false ih = ih

abbrev tag_of : ℕ × Member → ℕ
tag_of p = p.1.tag

-- the first required member whose bit is not set, from position k on
abbrev pub is_lacking : List Record → List ℕ → ℕ × Member → Bool
is_lacking B bits p = not (spare B p.1) && not (bit_at bits p.0)

abbrev pub placed : ℕ × Code.Member → ℕ × Member
placed p = (p.0, member_in p.1)

abbrev lacking_from : List Record → List ℕ → ℕ → List Member → Miss
lacking_from B bits k ms = miss_of (option_map tag_of (find (is_lacking B bits) (enumerate_from k ms)))

first_lacking : (B : List Record) (seen bits : List ℕ) (ms : List Member) (k : ℕ) → ((i : ℕ) → i < length ms → bit_at bits (k + i) ≡ mem (tag_at ms i) seen) → lacking_from B bits k ms ≡ lacking B none ms seen
unfolding lacking note
first_lacking B seen bits [] k h = refl
first_lacking B seen bits (m ∷ ms) k h = go (spare B m) refl (mem m.tag seen) refl (first_lacking B seen bits ms (k + 1) (λ i l. let e : k + 1 + i ≡ k + suc i = omega arith in ap (bit_at bits) e ∙ h (suc i) (omega arith)))
  where
    here : bit_at bits k ≡ mem m.tag seen
    here = let e : k ≡ k + 0 = omega arith in ap (bit_at bits) e ∙ h 0 (omega arith)

    go : (a : Bool) → spare B m ≡ a → (b : Bool) → mem m.tag seen ≡ b → lacking_from B bits (k + 1) ms ≡ lacking B none ms seen
        → lacking_from B bits k (m ∷ ms) ≡ lacking B (cond (mem m.tag seen) none (note B none m)) ms seen
    go true ea true eb ih = rw (ea, eb) ih
    go true ea false eb ih = rw (ea, eb) ih
    go false ea true eb ih = rw (ea, here, eb) ih
    go false ea false eb ih = rw (ea, here, eb) (sym (stays B m.tag seen ms))

pub lacking_marked : (B : List Record) (seen bits : List ℕ) (ms : List Member) → Marked bits ms seen
    → (r : Option (ℕ × Code.Member)) → option_map placed r ≡ find (is_lacking B bits) (enumerate_from 0 ms)
    → (o : Option ℕ) → (r ≡ None → o ≡ None) → ((p : ℕ × Code.Member) → r ≡ Some p → o ≡ Some p.1.tag) → miss_of o ≡ lacking B none ms seen
lacking_marked B seen bits ms h r e o n f =
    ap miss_of (go r refl ∙ ap (option_map tag_of) e) ∙ first_lacking B seen bits ms 0 (λ i l. let z : 0 + i ≡ i = omega arith in ap (bit_at bits) z ∙ h.holds i l)
  where
    go : (q : Option (ℕ × Code.Member)) → r ≡ q → o ≡ option_map tag_of (option_map placed q)
    go None k = n k
    go (Some p) k = f p k
