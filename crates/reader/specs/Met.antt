-- What the code's structs and enums say, in the definitions' words. Assumes nothing.
use Rattle.std.specs.Prelude.{◌≡◌, Bool, cond, ◌||◌, ℕ, ◌+◌, ◌-◌, ◌≤◌, ◌<◌, List, [], ◌∷◌, eqb, length, take, drop, Option, Some, None, Result, Ok, Err, IsErrAnd}
use Rattle.std.specs.List.{list_any}
use denote.Bor.{Bor}
use Rattle.std.specs.Option.{option_map_or}
use Rattle.forms.specs.Numbered.{number_of}
use Rattle.book.specs.Records.{Record, Member, members_of, records}
use Rattle.message.specs.Arrangement.{Page}
use Rattle.message.specs.Permitted.{Miss, none, lacks}
use Rattle.message.specs.Rows.{Row}
use Rattle.reader.specs.declared.Sought.{Sought}
use Rattle.reader.specs.declared.Step.{Step}
use Rattle.reader.specs.declared.Step.TheVariants.{Done, Ask}
use Rattle.reader.specs.declared.Field.{Field}
use Rattle.reader.specs.declared.Grabbed.{Grabbed}
use Rattle.reader.specs.declared.Grabbed.TheVariants.{Single, Pair}
use Rattle.reader.specs.declared.Spot.{Spot}
use Rattle.reader.specs.declared.Within.{Within}
use Rattle.reader.specs.declared.Scan.{Scan}
use Rattle.reader.specs.declared.items.Taken.{Taken}
use Rattle.reader.specs.Fields.{grab}
use Rattle.reader.specs.Taken.{Takes}
use Rattle.reader.specs.declared.page.Page as Code
use Rattle.reader.specs.declared.closing.Group.{Group}
use Rattle.reader.specs.declared.refusal.Refused.{Refused}
use Rattle.reader.specs.Items.{is_first, starts}
use Rattle.reader.specs.Filling.{Fill, full, poor, ask, Seek, passed, met, put_rows, row_numbers, row_bytes}
use Rattle.reader.specs.Refusals.{number, tag_of}

-- a missing member's tag
abbrev pub miss_of : Option ℕ → Miss
miss_of None = none
miss_of (Some t) = lacks t

-- in a list's bytes
abbrev pub sought_in : List ℕ → Sought → Seek
sought_in l r = option_map_or (λ at. met (miss_of r.missing) (members_of (drop at l))) r.place (passed (miss_of r.missing))

abbrev pub page_of : Code.Page → Page
page_of p = record { book = records p.book.now; own = members_of p.own.now }

-- a field may begin with this tag in an open list, or the message ends
abbrev pub outer_by : Code.Page → List (Bor (List ℕ)) → ℕ → Bool
outer_by p groups u = list_any (λ l. starts (page_of p) (members_of l.now) u) groups || (eqb u 0 || starts (page_of p) (members_of p.own.now) u)

-- an instance may end with this tag behind it
abbrev pub ends_by : Group → ℕ → Bool
ends_by g u = is_first (members_of g.list.now) u || outer_by g.page g.around u

-- the members of its list
abbrev pub list_of : Group → List Member
list_of g = members_of g.list.now

-- the groups that are open within it
abbrev pub opened_of : Group → List (Bor (List ℕ))
opened_of g = g.list ∷ take 3 g.around

-- a field may begin with this tag in its list, or in one that is open around it
abbrev pub inner_by : Group → ℕ → Bool
inner_by g u = starts (page_of g.page) (list_of g) u || outer_by g.page g.around u

-- the rows of what was taken off, and the place behind it
abbrev pub field_row : Within → Field → Row
field_row w f = record { tag = f.tag; value_start = f.start; value_length = f.end - f.start; depth = w.depth; count_row = w.count; instance = w.instance }

abbrev pub grab_rows : Within → Grabbed → List Row
grab_rows w (Single f y) = field_row w f ∷ []
grab_rows w (Pair l d) = field_row w l ∷ field_row w d ∷ []

abbrev pub grab_end : Grabbed → ℕ
grab_end (Single f y) = f.end + 1
grab_end (Pair l d) = d.end + 1

-- the count's own field, where a count was taken off
abbrev pub count_in : Grabbed → Option Field
count_in (Single f y) = cond (eqb (number_of y) 7) (Some f) None
count_in (Pair l d) = None

abbrev pub Short : Field → Type 0
Short f = (f.start ≤ f.end) × (f.end < 65535)

abbrev pub AllShort : Grabbed → Type 0
AllShort (Single f y) = Short f
AllShort (Pair l d) = Short l × Short d

-- no group stands in any of these
abbrev pub Spare : List (Bor (List ℕ)) → Type 0
Spare [] = Unit {0}
Spare (l ∷ r) = (members_of l.now ≡ []) × Spare r

-- an item can be read at a place, with so many levels left
pub record Ready (s : Scan) (around : List (Bor (List ℕ))) (depth : ℕ) (p : Spot) : Type 0 where
  pub short : length s.m.now ≤ 8192
  pub inside : p.at ≤ length s.m.now
  pub rows : p.row ≤ p.at
  pub left : depth ≤ 4
  pub spare : Spare (drop (4 - depth) around)

-- a message's own list can be read from a place on
pub record Begun (s : Scan) (p : Spot) : Type 0 where
  pub short : length s.m.now ≤ 8192
  pub inside : p.at ≤ length s.m.now
  pub rows : p.row ≤ p.at
  pub listed : length (members_of s.page.own.now) ≤ 4096

-- a refusal with this number and tag at a place
abbrev pub Refuses : ℕ → ℕ → ℕ → Result Step Refused → Type 0
Refuses n t at x = IsErrAnd x (λ e. (number e.why ≡ n) × (tag_of e.why ≡ t) × (e.at ≡ at))

-- an answer at a place that reads nothing more; s are the bytes from there on
abbrev pub Says : List ℕ → ℕ → ℕ → Fill → Result Step Refused → Type 0
Says s at k (full q a r) x = (q ≡ []) × (a ≡ at) × (r ≡ s) × (x ≡ Ok (Done at k))
Says s at k (poor n t r) x = (r ≡ s) × Refuses n t at x
Says s at k (ask t) x = x ≡ Ok (Ask t)

-- an answer that reads from a place on in m, so many bytes at least, and puts rows from k on into index and bytes
abbrev pub Meets : ℕ → List ℕ → ℕ → ℕ → Fill → Result Step Refused → List ℕ → List ℕ → List ℕ → List ℕ → Type 0
Meets least m at k (full q a r) x i j b d =
    (x ≡ Ok (Done a (k + length q)))
    × (r ≡ drop a m)
    × (a ≤ length m)
    × (at + least ≤ a)
    × (at + length q ≤ a)
    × (j ≡ put_rows 6 row_numbers i k q)
    × (d ≡ put_rows 12 row_bytes b k q)
Meets least m at k (poor n t r) x i j b d = (p : ℕ) × Refuses n t p x × (r ≡ drop p m) × (p ≤ length m)
Meets least m at k (ask t) x i j b d = x ≡ Ok (Ask t)

-- what was taken off at a place and put down
abbrev pub Took : List Record → List ℕ → Within → Spot → Result Taken Refused → List ℕ → List ℕ → List ℕ → List ℕ → Type 0
Took B m w p (Ok t) i j b d =
    (g : Grabbed)
    × Takes B m p.at (grab B (drop p.at m)) (Ok g)
    × (t.count ≡ count_in g)
    × (t.next ≡ record { at = grab_end g; row = p.row + length (grab_rows w g) })
    × (j ≡ put_rows 6 row_numbers i p.row (grab_rows w g))
    × (d ≡ put_rows 12 row_bytes b p.row (grab_rows w g))
Took B m w p (Err r) i j b d = Takes B m p.at (grab B (drop p.at m)) (Err r)
