-- What the code puts down of a whole message: the rows of 8, 9 and 35, those of its fields, and that of 10. Assumes nothing.
use Rattle.std.specs.Prelude.{◌≡◌, ℕ, ◌+◌, ◌-◌, ◌≤◌, ◌<◌, cond, List, [], ◌∷◌, ◌++◌, length, drop, Result, Ok, IsErrAnd}
use Rattle.book.specs.Records.{members_of}
use Rattle.message.specs.Arrangement.{Page, Items}
use Rattle.message.specs.Rows.{Row, past_all, past_item, rows_all, rows_item}
use Rattle.reader.specs.declared.Framed.{Framed}
use Rattle.reader.specs.declared.Field.{Field}
use Rattle.reader.specs.declared.Scan.{Scan}
use Rattle.reader.specs.declared.refusal.Refused.{Refused}
use Rattle.reader.specs.Refusals.{number, tag_of}
use Rattle.reader.specs.Items.{Out, done, bad, late}
use Rattle.reader.specs.Reading.{Answer, gives, refused}
use Rattle.reader.specs.Filling.{Fill, full, before, next, f_items, put_rows}
use Rattle.reader.specs.Met.{field_row}

abbrev pub version_of : Framed → Field
version_of f = record { tag = 8; start = 2; end = f.version_end - 1 }

abbrev pub length_of : Framed → Field
length_of f = record { tag = 9; start = f.version_end + 2; end = f.length_end - 1 }

abbrev pub kind_of : Framed → Field
kind_of f = record { tag = 35; start = f.length_end + 3; end = f.type_end - 1 }

-- "0 in the message"
abbrev pub own_row : Field → Row
own_row f = field_row (record { depth = 0; count = 0; instance = 0 }) f

abbrev pub head_rows : Framed → List Row
head_rows f = own_row (version_of f) ∷ own_row (length_of f) ∷ own_row (kind_of f) ∷ []

abbrev pub closing_row : ℕ → Row
closing_row a = own_row (record { tag = 10; start = a + 3; end = a + 6 })

abbrev pub f_message : Page → ℕ → Framed → List ℕ → Fill
f_message P w f m = before (head_rows f) (next (f_items P w f.type_end 3 (drop f.type_end m)) (λ q a r. full (closing_row a ∷ []) a r))

-- fields 8, 9 and 35 stand in the message
pub record Staged (s : Scan) (f : Framed) : Type 0 where
  pub short : length s.m.now ≤ 8185
  pub version : 2 < f.version_end
  pub count : f.version_end + 3 ≤ f.length_end
  pub type : f.length_end + 4 ≤ f.type_end
  pub inside : f.type_end ≤ length s.m.now
  pub listed : length (members_of s.page.own.now) ≤ 4096

-- the rows of the items between, and the place behind them
abbrev pub item_rows : ℕ → Items → List Row
item_rows at a = rows_all (past_item 5) (rows_item 5 0 0 0) at 3 a

abbrev pub past : ℕ → Items → ℕ
past at a = past_all (past_item 5) at a

-- all rows of a message
abbrev pub all_rows : Framed → Items → List Row
all_rows f a = head_rows f ++ (item_rows f.type_end a ++ (closing_row (past f.type_end a) ∷ []))

-- what counting the rows answers: how many they are, or the refusal
abbrev pub Faults : ℕ → ℕ → ℕ → Result ℕ Refused → Type 0
Faults n t p x = IsErrAnd x (λ e. (number e.why ≡ n) × (tag_of e.why ≡ t) × (e.at ≡ p))

abbrev pub Counts : List ℕ → Framed → Out Items → Result ℕ Refused → Type 0
Counts m f (done a r) x = x ≡ Ok (length (all_rows f a))
Counts m f (bad n t r) x = (p : ℕ) × Faults n t p x × (r ≡ drop p m) × (p ≤ length m)
Counts m f (late b r) x = (p : ℕ) × Faults (cond b 10 9) 0 p x × (r ≡ drop p m) × (p ≤ length m)

-- numbers lent, with an answer's rows put at their beginning
abbrev pub put_by : ℕ → (Row → List ℕ) → List ℕ → Answer (List Row) → List ℕ
put_by size numbers i (gives q) = put_rows size numbers i 0 q
put_by size numbers i (refused n p t) = i
