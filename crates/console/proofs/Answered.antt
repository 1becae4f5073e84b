-- The text that is put for a reading's answer is that of the definition. Assumes nothing.
use Rattle.std.proofs.Common.{◌≡◌, refl, sym, ap, ℕ, ◌*◌, ◌≤◌, List, ◌++◌, length, drop, arith}
use Rattle.std.specs.Prelude.{Ok, Err}
use Rattle.message.specs.Rows.{Row, width, flat}
use Rattle.reader.specs.declared.refusal.Refusal.{Refusal}
use Rattle.reader.specs.declared.refusal.Refusal.TheVariants as Case
use Rattle.reader.specs.declared.refusal.Refused.{Refused}
use Rattle.reader.specs.Refusals.{number, tag_of}
use Rattle.reader.specs.Answers.{told_by}
use Rattle.reader.specs.Reading.{Answer, gives, refused, told, index_after, read}
use Rattle.bridge.proofs.Demand1.{read_short}
use Rattle.console.specs.Program.{row_lines, lines, full_room}
use Rattle.console.specs.Rows.{rows_in}
use Rattle.console.proofs.Lines.{rows_text}

-- no refusal has the number 0
numbered : (r : Refusal) → 1 ≤ number r
numbered Case.Book = omega arith
numbered Case.Size = omega arith
numbered Case.Version = omega arith
numbered Case.Length = omega arith
numbered Case.Closing = omega arith
numbered Case.Sum = omega arith
numbered Case.Type = omega arith
numbered Case.Form = omega arith
numbered Case.Place = omega arith
numbered Case.Twice = omega arith
numbered Case.Datatype = omega arith
numbered Case.Pair = omega arith
numbered Case.Instances = omega arith
numbered (Case.Missing t) = omega arith
numbered Case.Room = omega arith

-- a reading with an index of full room, and its answer
module _ (book message index : List ℕ) (room : length index ≡ full_room) where
  -- a count that is told, and the index afterwards
  pub rows_put : (after : List ℕ) (n : ℕ) → told_by (Ok n) ≡ told length (read book message (length index))
      → after ≡ index_after index (read book message (length index)) → row_lines n (rows_in n after) ≡ lines (read book message full_room)
  rows_put after n e i = go (read book message full_room) refl (rw room at e) (rw room at i)
    where
      go : (A : Answer (List Row)) → read book message full_room ≡ A → told_by (Ok n) ≡ told length A → after ≡ index_after index A
          → row_lines n (rows_in n after) ≡ lines A
      go (gives q) w e i =
          let k : told_by (Ok n) ≡ record { number = 0; place = 0; tag = 0; count = length q } = unfold told in e in
          let j : after ≡ flat q ++ drop (width * length q) index = unfold index_after in i in
          rows_text after (drop (width * length q) index) q n j (sym (ap (λ t. t.count) k))
      go (refused m p t) w e i =
          let k : told_by (Ok n) ≡ record { number = m; place = p; tag = t; count = 0 } = unfold told in e in
          let z : 0 ≡ m = ap (λ t. t.number) k in
          absurd (omega (arith, z, (read_short book message full_room m p t w).low))

  -- a refusal that is told
  pub refusal_put : (r : Refused) (n u : ℕ) → told_by (Err r) ≡ told length (read book message (length index)) → n ≡ number r.why → u ≡ tag_of r.why
      → lines (refused n r.at u) ≡ lines (read book message full_room)
  refusal_put r n u e number_is tag_is = rw (number_is, tag_is) (go (read book message full_room) (rw room at e))
    where
      go : (A : Answer (List Row)) → told_by (Err r) ≡ told length A → lines (refused (number r.why) r.at (tag_of r.why)) ≡ lines A
      go (gives q) e =
          let k : told_by (Err r) ≡ record { number = 0; place = 0; tag = 0; count = length q } = unfold told in e in
          let z : number r.why ≡ 0 = ap (λ t. t.number) k in
          absurd (omega (arith, z, numbered r.why))
      go (refused m p t) e =
          let k : told_by (Err r) ≡ record { number = m; place = p; tag = t; count = 0 } = unfold told in e in
          let a : number r.why ≡ m = ap (λ t. t.number) k in
          let b : r.at ≡ p = ap (λ t. t.place) k in
          let c : tag_of r.why ≡ t = ap (λ t. t.tag) k in
          rw (a, b, c)
