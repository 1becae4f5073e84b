-- Where a reading may break off, and what it may miss there, said of the bytes. Assumes nothing.
use Rattle.std.specs.Prelude.{◌≡◌, Bool, true, false, cond, ◌&&◌, List, [], ◌∷◌, ◌++◌, ◌⊎◌, ℕ, ◌+◌, ◌*◌, ◌≤◌, ◌<◌, eqb, length}
use Rattle.numbers.specs.Bytes.{mem}
use Rattle.book.specs.Records.{Record, Member, found, group_of, message_of, is_count, is_length, is_bounded, required}
use Rattle.message.specs.Arrangement.{Piece, Item, tag_of, Items, Arrangement, Page}
use Rattle.message.specs.Written.{put_field, put, put_all, put_item, header, type_field, trailer}
use Rattle.message.specs.Permitted.{versions, among, good_value, good, Miss, none, lacks, note, lacking}
use Rattle.message.specs.Rows.{width, field_size, rows_of}
use Rattle.reader.specs.Reading.{gives, arrangement_of, looked}

unfoldable pub good_pieces : List Record → List Piece → Bool
good_pieces B [] = true
good_pieces B (k ∷ l) = good B k && good_pieces B l

-- the bytes s are good fields and pairs, one after another, and then r
pub record Past (B : List Record) (s r : List ℕ) : Type 0 where
  pub pieces : List Piece
  pub good : good_pieces B pieces ≡ true
  pub is : s ≡ put_all put pieces r

-- nothing, or a Length whose data is due
pub data Due : Type 0 where
  nothing : Due
  behind : ℕ → List ℕ → Due

abbrev pub put_due : Due → List ℕ → List ℕ
put_due nothing r = r
put_due (behind l w) r = put_field l w r

abbrev pub good_due : List Record → Due → Bool
good_due B nothing = true
good_due B (behind l w) = good_value B l w && is_length B l

-- the bytes s are good fields and pairs, one after another, maybe a Length, and then r: where r begins a field begins, or the bytes end
pub record Reaches (B : List Record) (s r : List ℕ) : Type 0 where
  pub pieces : List Piece
  pub good : good_pieces B pieces ≡ true
  pub due : Due
  pub fine : good_due B due ≡ true
  pub is : s ≡ put_all put pieces (put_due due r)

-- the first required member that items in list order leave out
module _ (B : List Record) {I : Type 0} (tag : I → ℕ) where
  unfoldable pub left_out : Miss → List Member → List I → Miss
  left_out x [] l = x
  left_out x (m ∷ ms) [] = left_out (note B x m) ms []
  left_out x (m ∷ ms) (i ∷ l) = cond (eqb (tag i) m.tag) (left_out x ms l) (left_out (note B x m) ms (i ∷ l))

-- the tags of items, those before in front of them
module _ {I : Type 0} (tag : I → ℕ) where
  unfoldable pub tags_onto : List I → List ℕ → List ℕ
  tags_onto [] seen = seen
  tags_onto (i ∷ l) seen = tags_onto l (tag i ∷ seen)

-- of the bytes q before r: the fields of an instance of the group of c, which leave out its member t
pub record GroupLacks (P : Page) (q : List ℕ) (t : ℕ) (r : List ℕ) : Type 0 where
  pub c : ℕ
  pub kind : is_count P.book c ≡ true
  pub depth : ℕ
  pub items : List (Item depth)
  pub bytes : q ≡ put_all (put_item depth) items r
  pub lack : left_out P.book (tag_of depth) none (group_of P.book c) items ≡ lacks t

-- of all bytes: the fields of the message, which leave out its member t
pub record OwnLacks (P : Page) (q : List ℕ) (t : ℕ) (r : List ℕ) : Type 0 where
  pub items : Items
  pub bytes : q ≡ put_all (put_item 5) items []
  pub all : r ≡ []
  pub lack : lacking P.book none P.own (tags_onto (tag_of 5) items []) ≡ lacks t

-- the bytes s are good fields and then an instance that lacks t, up to r; or they are a message's fields that lack t
pub record Lacks (P : Page) (s : List ℕ) (t : ℕ) (r : List ℕ) : Type 0 where
  pub from : List ℕ
  pub before : Past P.book s from
  pub which : GroupLacks P from t r ⊎ OwnLacks P from t r

-- a refusal of a message in the frame and its fields: number n, place p, tag t. One line of document 01's table each
pub data Refusal (B : List Record) (s : List ℕ) (n p t : ℕ) : Type 0 where
  -- 2: over 8,192 bytes, at 0
  long : n ≡ 2 → 8192 < length s → p ≡ 0 → t ≡ 0 → Refusal B s n p t
  -- 3: no field 8, at 0
  start : n ≡ 3 → p ≡ 0 → t ≡ 0 → Refusal B s n p t
  -- 4: after field 8
  size : n ≡ 4 → (W r : List ℕ) → among W versions ≡ true → s ≡ put_field 8 W r → p ≡ field_size 8 W → t ≡ 0 → Refusal B s n p t
  -- 5, 6: at length - 7
  end : (n ≡ 5) ⊎ (n ≡ 6) → p + 7 ≡ length s → t ≡ 0 → Refusal B s n p t
  -- 7: after field 9
  type : n ≡ 7 → (W N r : List ℕ) → among W versions ≡ true → s ≡ put_field 8 W (put_field 9 N r) → 7 ≤ length r → p ≡ field_size 8 W + field_size 9 N → t ≡ 0 → Refusal B s n p t
  -- 8 to 14: b is what stands between 35 and 10, of which fields were read up to r; so the place, where r begins, is the first byte of a
  -- field, or of the closing `10=` if r is empty
  field : 8 ≤ n → n ≤ 14 → (W N T b z : List ℕ) → s ≡ header W N (type_field T b ++ trailer z) → length z ≡ 3
      → (e : Record) → message_of B T ≡ found e
      → (r : List ℕ) → Reaches B b r → p + length (r ++ trailer z) ≡ length s
      → ((n ≡ 14 → ⊥) → t ≡ 0) → (n ≡ 14 → Lacks (record { book = B; own = e.members }) b t r) → Refusal B s n p t

-- 15: accepted, but its rows do not fit; at the message's length
pub record NoRoom (book s : List ℕ) (room n p t : ℕ) : Type 0 where
  pub which : Arrangement
  pub accepted : arrangement_of (looked book) s ≡ gives which
  pub short : room < width * length (rows_of which)
  pub number : n ≡ 15
  pub place : p ≡ length s
  pub tag : t ≡ 0

-- the member t missing earliest from a list: it is required, no data, and the members before it are complete
pub record Missing (B : List Record) (complete : List Member → Type 0) (ms : List Member) (t : ℕ) : Type 0 where
  pub before : List Member
  pub which : Member
  pub after : List Member
  pub is : ms ≡ before ++ (which ∷ after)
  pub tag : which.tag ≡ t
  pub needed : required which ≡ true
  pub single : is_bounded B which.tag ≡ false
  pub earlier : complete before

-- of the message's list: the members of a are among the tags seen, or may be left out, and t is not among them
abbrev pub Complete : List Record → List ℕ → ℕ → List Member → Type 0
Complete B seen t a = (lacking B none a seen ≡ none) × (mem t seen ≡ false)

-- of an instance: its first items are the members of a, what may be left out left out, and the next one, if there is one, is no t
module _ {I : Type 0} (tag : I → ℕ) where
  abbrev pub Other : ℕ → List I → Type 0
  Other t [] = Unit {0}
  Other t (i ∷ l) = tag i ≡ t → ⊥

pub record Part (B : List Record) {I : Type 0} (tag : I → ℕ) (t : ℕ) (items : List I) (a : List Member) : Type 0 where
  pub taken : List I
  pub left : List I
  pub split : items ≡ taken ++ left
  pub complete : left_out B tag none a taken ≡ none
  pub next : Other tag t left
