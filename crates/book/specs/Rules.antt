-- The rules of the book, each under its number: that the book breaks it (rule 1), or that a record does. Assumes nothing.
use Rattle.std.specs.Prelude.{ℕ, zero, suc, Bool, true, false, cond, ◌&&◌, ◌||◌, not, List, [], ◌∷◌, leb, ltb, eqb, length}
use Rattle.numbers.specs.Bytes.{same, mem}
use Rattle.book.specs.Records.{stop, Member, required, Record, is_field, is_group, is_message, type_text, LookUp, nothing, found, look_up, is_found, type_of, group_of, is_length, is_count, is_bounded, partner}

-- 1. At most 16,384 bytes; records fill the book exactly, each length at least 2.
unfoldable pub rule1 : List ℕ → Bool
unfolding stop
rule1 s = ltb 16384 (length s) || not (eqb (stop s) (length s))

-- an earlier record is so too: the first such one is not this
abbrev pub first_at : LookUp → ℕ → Bool
first_at nothing at = true
first_at (found r) at = eqb r.offset at

abbrev pub earlier : (Record → Bool) → List Record → Record → Bool
earlier is B r = not (first_at (look_up is B) r.offset)

-- type text: 1 to 4 bytes of 0x21 to 0x7E, then zeros
unfoldable pub zeros : List ℕ → Bool
zeros [] = true
zeros (b ∷ s) = eqb b 0 && zeros s

unfoldable pub text_rest : List ℕ → Bool
text_rest [] = true
text_rest (b ∷ s) = cond (leb 33 b && leb b 126) (text_rest s) (zeros (b ∷ s))

unfoldable pub good_type_text : List ℕ → Bool
unfolding zeros text_rest
good_type_text [] = false
good_type_text (b ∷ s) = leb 33 b && leb b 126 && text_rest s

-- 2. Kinds and lengths as above; type text well formed.
unfoldable pub rule2 : Record → Bool
unfolding good_type_text
rule2 r = eqb r.kind 0 || (eqb r.kind 2 && not (good_type_text r.text))

-- 3. Field tags are 1 to 65,535, never 8, 9, 35 or 10, each declared once.
unfoldable pub rule3 : List Record → Record → Bool
unfolding look_up mem
rule3 B r = eqb r.kind 1 && (mem r.tag (0 ∷ 8 ∷ 9 ∷ 35 ∷ 10 ∷ []) || earlier (is_field r.tag) B r)

-- 4. Datatype 1 to 16; each Length names a data, each data a Length, that names it back; other partners are 0.
unfoldable pub partnered : List Record → ℕ → ℕ → ℕ → Bool
partnered B t y p =
    let back = eqb (partner B p) t in
    cond (eqb y 5) (is_bounded B p && back) (cond (eqb y 10) (is_length B p && back) (eqb p 0))

unfoldable pub rule4 : List Record → Record → Bool
unfolding partnered type_of partner
rule4 B r = eqb r.kind 1 && not (leb 1 r.type && leb r.type 16 && partnered B r.tag r.type r.partner)

-- 5. Every member is declared, with flag 0 or 1. Each NumInGroup field has exactly one group record, and a group's own tag is of that type.
unfoldable pub good_members : List Record → List Member → Bool
unfolding look_up
good_members B [] = true
good_members B (m ∷ ms) = is_found (look_up (is_field m.tag) B) && leb m.flag 1 && good_members B ms

unfoldable pub rule5 : List Record → Record → Bool
unfolding good_members look_up type_of
rule5 B r =
    (eqb r.kind 1 && eqb r.type 7 && not (is_found (look_up (is_group r.tag) B)))
    || (leb 2 r.kind && not (good_members B r.members))
    || (eqb r.kind 3 && (not (is_count B r.tag) || earlier (is_group r.tag) B r))

-- 6. In a member list, a Length stands directly before its data, a data directly after its Length, flags equal;
-- `due` is the data that has to come next (0: none), with the flag f of its Length.
unfoldable pub paired : List Record → ℕ → ℕ → List Member → Bool
paired B due f [] = eqb due 0
paired B due f (m ∷ ms) =
    cond (is_bounded B m.tag) (eqb m.tag due && eqb m.flag f) (eqb due 0)
    && paired B (cond (is_length B m.tag) (partner B m.tag) 0) m.flag ms

unfoldable pub rule6 : List Record → Record → Bool
unfolding paired type_of partner
rule6 B r = leb 2 r.kind && not (paired B 0 0 r.members)

-- 7. The first member of a group is required.
unfoldable pub starts_required : List Member → Bool
starts_required [] = false
starts_required (m ∷ ms) = required m

unfoldable pub rule7 : Record → Bool
unfolding starts_required
rule7 r = eqb r.kind 3 && not (starts_required r.members)

-- 8. No two messages share a type text.
unfoldable pub rule8 : List Record → Record → Bool
unfolding look_up same type_text
rule8 B r = eqb r.kind 2 && earlier (is_message (type_text r.text)) B r

-- 9. Groups nest at most 4 deep below a message, and in a message with all its groups opened each tag stands in one place only.
-- A list opened behind the tags `seen`: those and its own, or that a tag stands twice or a group too deep.
pub data Opened : Type 0 where
  once : List ℕ → Opened
  conflict : Opened

unfoldable pub and_open : Opened → (List ℕ → Opened) → Opened
and_open (once seen) next = next seen
and_open conflict next = conflict

-- `below` opens the group of a tag, if it is a count
unfoldable pub open_list : (List ℕ → ℕ → Opened) → List ℕ → List Member → Opened
open_list below seen [] = once seen
open_list below seen (m ∷ ms) =
    elim (mem m.tag seen) [ true ↦ conflict | false ↦ and_open (below (m.tag ∷ seen) m.tag) (λ seen. open_list below seen ms) ]

-- with d levels still allowed
unfoldable pub open_group : List Record → ℕ → List ℕ → ℕ → Opened
open_group B zero seen t = cond (is_count B t) conflict (once seen)
open_group B (suc d) seen t = let group = open_list (open_group B d) seen (group_of B t) in cond (is_count B t) group (once seen)

abbrev pub conflicts : Opened → Bool
conflicts (once seen) = false
conflicts conflict = true

unfoldable pub rule9 : List Record → Record → Bool
unfolding open_list open_group and_open mem type_of group_of
rule9 B r = let opened = open_list (open_group B 4) [] r.members in cond (eqb r.kind 2) (conflicts opened) false
