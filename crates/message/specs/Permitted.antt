-- When a book permits an arrangement. No word of a reader. Assumes nothing.
use Rattle.std.specs.Prelude.{ℕ, zero, suc, ◌%◌, Bool, true, false, cond, ◌&&◌, ◌||◌, not, List, [], ◌∷◌, eqb, ltb, length}
use Rattle.numbers.specs.Bytes.{bytes, total, same, some, free, mem}
use Rattle.numbers.specs.Decimal.{digits, value}
use Rattle.forms.specs.Types.{of_type}
use Rattle.book.specs.Records.{Record, Member, required, LookUp, nothing, found, type_of, group_of, message_of, is_length, is_count, is_bounded, partner}
use Rattle.message.specs.Arrangement.{Piece, single, pair, Node, leaf, count, Item, tag_of, Items, Arrangement, Page}
use Rattle.message.specs.Written.{counted, summed}

-- V is FIX.4.2, FIX.4.4 or FIXT.1.1
unfoldable pub versions : List (List ℕ)
unfolding bytes
versions = bytes "FIX.4.2" ∷ bytes "FIX.4.4" ∷ bytes "FIXT.1.1" ∷ []

unfoldable pub among : List ℕ → List (List ℕ) → Bool
among s [] = false
among s (t ∷ l) = same s t || among s l

-- a tag is 1 to 65,535
abbrev pub is_tag : ℕ → Bool
is_tag t = ltb 0 t && ltb t 65536

-- No value is empty; none but data holds `|`; each is of its tag's datatype
abbrev pub good_value : List Record → ℕ → List ℕ → Bool
good_value B t v = is_tag t && some v && free 1 v && of_type (type_of B t) v

-- Length and data: neither of the two stands without the other, and the Length's number is the count of the data's bytes
unfoldable pub good : List Record → Piece → Bool
good B (single t v) = good_value B t v && not (is_length B t) && not (is_bounded B t)
good B (pair l w d v) = good_value B l w && is_length B l && (is_tag d && eqb d (partner B l) && eqb (value w) (length v) && some v)

unfoldable pub has_tag : ℕ → List Member → Bool
has_tag t [] = false
has_tag t (m ∷ ms) = eqb t m.tag || has_tag t ms

-- may be left out. A data stands and falls with its Length, directly before it under an equal flag (rule 6)
abbrev pub spare : List Record → Member → Bool
spare B m = not (required m) || is_bounded B m.tag

module _ (B : List Record) where
  module _ {I : Type 0} (tag : I → ℕ) (fits : I → Bool) where
    -- goes on in list order, optional ones left out at will
    unfoldable pub in_order : List Member → List I → Bool
    in_order [] [] = true
    in_order [] (i ∷ l) = false
    in_order (m ∷ ms) [] = spare B m && in_order ms []
    in_order (m ∷ ms) (i ∷ l) = cond (eqb (tag i) m.tag) (fits i && in_order ms l) (spare B m && in_order ms (i ∷ l))

    -- starts with the group's first member
    unfoldable pub instance : List Member → List I → Bool
    instance [] l = false
    instance (m ∷ ms) [] = false
    instance (m ∷ ms) (i ∷ l) = eqb (tag i) m.tag && fits i && in_order ms l

    unfoldable pub instances : List Member → List (List I) → Bool
    instances ms [] = true
    instances ms (x ∷ l) = instance ms x && instances ms l

    -- a count n is followed by n instances
    unfoldable pub fits_node : Node I → Bool
    fits_node (leaf (single t v)) = good B (single t v) && not (is_count B t)
    fits_node (leaf (pair l w d v)) = good B (pair l w d v)
    fits_node (count t v l) = good B (single t v) && is_count B t && eqb (value v) (length l) && instances (group_of B t) l

  unfoldable pub fits : (d : ℕ) → Item d → Bool
  fits zero i = absurd i
  fits (suc d) n = fits_node (tag_of d) (fits d) n

-- a required member that is missing
pub data Miss : Type 0 where
  none : Miss
  lacks : ℕ → Miss

abbrev pub is_none : Miss → Bool
is_none none = true
is_none (lacks t) = false

unfoldable pub note : List Record → Miss → Member → Miss
note B none m = cond (spare B m) none (lacks m.tag)
note B (lacks t) m = lacks t

-- the missing member earliest in the list, where `seen` are there
unfoldable pub lacking : List Record → Miss → List Member → List ℕ → Miss
lacking B x [] seen = x
lacking B x (m ∷ ms) seen = lacking B (cond (mem m.tag seen) x (note B x m)) ms seen

-- the message's own list: any order, each at most once
module _ (P : Page) {I : Type 0} (tag : I → ℕ) (fits : I → Bool) where
  unfoldable pub any_order : List ℕ → List I → Bool
  any_order seen [] = is_none (lacking P.book none P.own seen)
  any_order seen (i ∷ l) = has_tag (tag i) P.own && not (mem (tag i) seen) && fits i && any_order (tag i ∷ seen) l

unfoldable pub good_items : Page → Items → Bool
unfolding any_order fits fits_node instances instance in_order good has_tag lacking note type_of partner group_of of_type
good_items P a = any_order P (tag_of 5) (fits P.book 5) [] a

-- N counts bytes, ddd is the sum modulo 256, as numbers: zeros may stand in front of N, ddd has three digits
unfoldable pub good_frame : Arrangement → Bool
unfolding versions among
good_frame A =
    among A.version versions
    && (some A.body_length && digits A.body_length && eqb (value A.body_length) (length (counted A)))
    && (eqb (length A.check_sum) 3 && digits A.check_sum && eqb (value A.check_sum) (total (summed A) % 256))

unfoldable pub under_type : List Record → Items → LookUp → Bool
under_type B a nothing = false
under_type B a (found r) = good_items (record { book = B; own = r.members }) a

unfoldable pub permitted : List Record → Arrangement → Bool
unfolding good_frame good_items under_type message_of
permitted B A = good_frame A && (some A.type && free 1 A.type) && under_type B A.items (message_of B A.type)
