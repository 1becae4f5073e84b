-- The book: a run of records, what they declare, and what is declared of a tag. Assumes nothing.
use Rattle.std.specs.Prelude.{ℕ, zero, suc, ◌+◌, ◌-◌, ◌%◌, Bool, true, false, cond, ◌&&◌, List, [], ◌∷◌, leb, eqb, length, take, drop}
use Rattle.numbers.specs.Bytes.{le16, same}

-- the bytes of the record at the head, its length's two included; 0 where none of length 2 or more stands there whole
unfoldable pub size : List ℕ → ℕ
size s = cond (leb 2 (length s) && leb 2 (le16 s) && leb (2 + le16 s) (length s)) (2 + le16 s) 0

-- a walk over the records, from an offset on; the first number bounds them: the count of the bytes is enough
module _ {R : Type 0} (none : ℕ → R) (more : ℕ → List ℕ → R → R) where
  unfoldable pub walk_from : ℕ → ℕ → List ℕ → R
  walk_from zero at s = none at
  walk_from (suc f) at s =
      let rest = walk_from f (at + size s) (drop (size s) s) in
      let here = more at s rest in
      cond (eqb (size s) 0) (none at) here

  unfoldable pub walk : ℕ → List ℕ → R
  walk at s = walk_from (length s) at s

-- the offset at which no record can be taken: the book's end, or where rule 1 breaks
unfoldable pub stop : List ℕ → ℕ
unfolding walk walk_from size
stop s = walk (λ at. at) (λ at r n. n) 0 s

-- a member: tag, flag (1 required, 0 optional)
pub record Member : Type 0 where
  pub tag : ℕ
  pub flag : ℕ

abbrev pub required : Member → Bool
required m = eqb m.flag 1

-- a record with its offset; kind 0 is a record of another kind, or of a length that its kind does not have.
-- A column that the kind does not have means nothing: whoever reads one asks the kind first
pub record Record : Type 0 where
  pub offset : ℕ
  pub kind : ℕ
  pub tag : ℕ
  pub type : ℕ
  pub partner : ℕ
  pub text : List ℕ
  pub members : List Member

-- four bytes a member; a shorter rest is left out
unfoldable pub members_of : List ℕ → List Member
members_of (a ∷ b ∷ c ∷ d ∷ s) = record { tag = le16 (a ∷ b ∷ []); flag = le16 (c ∷ d ∷ []) } ∷ members_of s
members_of (a ∷ b ∷ c ∷ []) = []
members_of (a ∷ b ∷ []) = []
members_of (a ∷ []) = []
members_of [] = []

-- kind 1 has length 8, kind 2 length 6 + 4m, kind 3 length 4 + 4m with at least one member
unfoldable pub kind_of : ℕ → ℕ → ℕ
kind_of n k =
    cond (eqb k 1 && eqb n 8) 1 (cond (eqb k 2 && leb 6 n && eqb (n % 4) 2) 2 (cond (eqb k 3 && leb 8 n && eqb (n % 4) 0) 3 0))

-- the bytes of a record's members, by its length and kind
abbrev pub member_bytes : ℕ → ℕ → List ℕ → List ℕ
member_bytes n k s = cond (eqb k 2) (take (n - 6) (drop 8 s)) (take (n - 4) (drop 6 s))

-- the record at the head of s
unfoldable pub record_at : ℕ → List ℕ → Record
unfolding kind_of members_of
record_at at s = record {
  offset = at;
  kind = kind_of (le16 s) (le16 (drop 2 s));
  tag = le16 (drop 4 s);
  type = le16 (drop 6 s);
  partner = le16 (drop 8 s);
  text = take 4 (drop 4 s);
  members = members_of (member_bytes (le16 s) (le16 (drop 2 s)) s);
}

-- the book's records, in its order
unfoldable pub records : List ℕ → List Record
unfolding walk walk_from size record_at
records s = walk (λ at. []) (λ at r rs. record_at at r ∷ rs) 0 s

-- a field's or a group's record of that tag
abbrev pub is_kind : ℕ → ℕ → Record → Bool
is_kind k t r = eqb r.kind k && eqb r.tag t

abbrev pub is_field : ℕ → Record → Bool
is_field t r = is_kind 1 t r

abbrev pub is_group : ℕ → Record → Bool
is_group t r = is_kind 3 t r

-- a type text without the zeros that fill it up
unfoldable pub type_text : List ℕ → List ℕ
type_text [] = []
type_text (b ∷ s) = let rest = type_text s in cond (eqb b 0) [] (b ∷ rest)

-- the message of that type text
abbrev pub is_message : List ℕ → Record → Bool
is_message x r = eqb r.kind 2 && same (type_text r.text) x

-- a record of which the test holds; here and below the first one wins
pub data LookUp : Type 0 where
  nothing : LookUp
  found : Record → LookUp

unfoldable pub look_up : (Record → Bool) → List Record → LookUp
look_up is [] = nothing
look_up is (r ∷ rs) = let later = look_up is rs in cond (is r) (found r) later

abbrev pub is_found : LookUp → Bool
is_found nothing = false
is_found (found r) = true

-- what a tag is declared as: datatype, 0 for none, and partner
abbrev pub type_in : LookUp → ℕ
type_in nothing = 0
type_in (found r) = r.type

abbrev pub partner_in : LookUp → ℕ
partner_in nothing = 0
partner_in (found r) = r.partner

unfoldable pub type_of : List Record → ℕ → ℕ
unfolding look_up
type_of B t = type_in (look_up (is_field t) B)

unfoldable pub partner : List Record → ℕ → ℕ
unfolding look_up
partner B t = partner_in (look_up (is_field t) B)

-- the members of a count's group, none where it has no group record
abbrev pub members_in : LookUp → List Member
members_in nothing = []
members_in (found r) = r.members

unfoldable pub group_of : List Record → ℕ → List Member
unfolding look_up
group_of B t = members_in (look_up (is_group t) B)

-- the place of a tag in a list: that of its first member there, or the count of the members
unfoldable pub place_in : List Member → ℕ → ℕ
place_in [] t = 0
place_in (m ∷ ms) t = let later = suc (place_in ms t) in cond (eqb m.tag t) 0 later

-- the record of a message type
unfoldable pub message_of : List Record → List ℕ → LookUp
unfolding look_up type_text same
message_of B x = look_up (is_message x) B

-- datatypes that the rules speak of; a data is bounded by its Length
abbrev pub is_length : List Record → ℕ → Bool
is_length B t = eqb (type_of B t) 5

abbrev pub is_count : List Record → ℕ → Bool
is_count B t = eqb (type_of B t) 7

abbrev pub is_bounded : List Record → ℕ → Bool
is_bounded B t = eqb (type_of B t) 10
