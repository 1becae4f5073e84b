-- Laws of the group reader and the instance reader, a step at a time. Assumes nothing.
use mathlib.Core.Path.{◌≡◌, refl, sym, ap, ◌∙◌, fun_ext}
use mathlib.Core.Bool.{Bool, true, false, cond, ◌||◌}
use mathlib.Core.List.{List, [], ◌∷◌}
use Prim.Native.Nat.{ℕ, zero, suc, ◌+◌, ◌-◌, ◌≤◌, ◌<◌, min}
use native.Mathlib.Omega.{arith}
use native.Mathlib.Numerals.{add-one}
use native.Mathlib.Nat.{sub-zero}
use lib.Dec.{eqb}
use borrow.Author.Tests.{eqb-true, eq-eqb}
use lib.Seq.{drop-drop}
use lib.ListN.{length, length-take, length-drop, take, drop}
use denote.Bor.{Bor}
use Rattle.std.specs.Prelude.{Result, Ok, Err, Option, Some, None}
use Rattle.std.specs.List.{list_any}
use Rattle.numbers.specs.Decimal.{value}
use Rattle.book.specs.Records.{Record, Member, members_of, group_of, is_count, is_bounded}
use Rattle.book.proofs.Members.{member_of, members_cons, members_count}
use Rattle.message.specs.Arrangement.{single, pair, Page}
use Rattle.message.specs.Permitted.{has_tag, Miss, none, note}
use Rattle.message.specs.Rows.{field_size, row_of}
use Rattle.reader.specs.declared.Step.{Step}
use Rattle.reader.specs.declared.Field.{Field}
use Rattle.reader.specs.declared.Grabbed.{Grabbed}
use Rattle.reader.specs.declared.Grabbed.TheVariants.{Single, Pair}
use Rattle.forms.specs.Numbered.{number_of}
use Rattle.reader.specs.declared.Step.TheVariants.{Done, Ask}
use Rattle.reader.specs.declared.Spot.{Spot}
use Rattle.reader.specs.declared.Sought.{Sought}
use Rattle.reader.specs.declared.closing.Watch.{Watch}
use Rattle.reader.specs.declared.page.Page as Code
use Rattle.reader.specs.declared.Within.{Within}
use Rattle.reader.specs.declared.closing.Group.{Group}
use Rattle.reader.specs.declared.refusal.Refused.{Refused}
use Rattle.reader.specs.declared.refusal.Refusal.TheVariants.{Place}
use Rattle.reader.specs.Refusals.{number}
use Rattle.reader.specs.Fields.{torn, peek, Grab, got, fault, grab}
use Rattle.reader.specs.Items.{is_first, has_place, starts}
use Rattle.reader.specs.Filling.{Fill, full, poor, ask, before, next, f_refuse, f_close, f_members, f_inst, f_insts, f_closed, f_group, f_node_by, f_item, Seek, passed, met, seek_in, put_rows, row_numbers, row_bytes}
use Rattle.reader.specs.Taken.{between, Stands, Takes}
use Rattle.reader.specs.declared.items.Taken.{Taken}
use Rattle.reader.specs.Met.{page_of, outer_by, inner_by, ends_by, list_of, miss_of, sought_in, count_in, grab_rows, grab_end, AllShort, Spare, Says, Took, Meets}
use Rattle.reader.proofs.Going.{Going, going_here, is_full, inst_other, next_poor, closed_next, going_first, going_on, going_bad, going_ask, going_says, going_meets}

-- the row of a field that stands at a place, and the place behind it
module _ (m : List ℕ) (at t a b : ℕ) (st : Stands m at t a b) where
  value_long : length (between m a b) ≡ b - a
  value_long = length-take (b - a) (drop a m) ∙ rw (length-drop a m) (omega (arith, st.some, st.inside))

  pub stands_end : at + field_size t (between m a b) ≡ b + 1
  stands_end = rw value_long (omega (arith, st.start, st.some))

  pub stands_row : (v : Within) → row_of v.depth v.count v.instance at t (between m a b) ≡ record { tag = t; value_start = a; value_length = b - a; depth = v.depth; count_row = v.count; instance = v.instance }
  stands_row v = rw (value_long, ← st.start)

-- an item that begins at a place
module _ (P : Page) (w d : ℕ) (out : ℕ → Bool) (v : Within) (m : List ℕ) (at k : ℕ) where
  abbrev pub Whole : Fill
  Whole = f_item P w (d + 1) out v.depth v.count v.instance at k (drop at m)

  abbrev Node : Grab → Fill
  Node g = f_node_by P w (f_item P w d) out v.depth v.count v.instance at k g

  whole_is : (g : Grab) → g ≡ grab P.book (drop at m) → Whole ≡ Node g
  unfolding f_item
  whole_is g e = rw (add-one d, ← e)

  node_fault : (n : ℕ) (s : List ℕ) → Node (fault n s) ≡ poor n 0 s
  unfolding f_node_by
  node_fault n s = refl

  pub item_bad : (r : Refused) → Takes P.book m at (grab P.book (drop at m)) (Err r) → at ≤ length m → (i o b u : List ℕ) → Meets 1 m at k Whole (Err r) i o b u
  item_bad r (e, (past, inside, untagged)) h i o b u =
      let z : Whole ≡ poor (number r.why) 0 (drop r.at m) = whole_is _ e ∙ node_fault (number r.why) (drop r.at m) in
      rw z (r.at, (refl, untagged, refl), refl, inside h)

  module _ (f : Field) where
    node_single : (s r : List ℕ) → is_count P.book f.tag ≡ false → Node (got (single f.tag s) r) ≡ full (row_of v.depth v.count v.instance at f.tag s ∷ []) (at + field_size f.tag s) r
    unfolding f_node_by
    node_single s r c = rw c

    pub item_single : Stands m at f.tag f.start f.end → got (single f.tag (between m f.start f.end)) (drop (f.end + 1) m) ≡ grab P.book (drop at m) → is_count P.book f.tag ≡ false
        → Whole ≡ full (record { tag = f.tag; value_start = f.start; value_length = f.end - f.start; depth = v.depth; count_row = v.count; instance = v.instance } ∷ []) (f.end + 1) (drop (f.end + 1) m)
    item_single st e c = whole_is _ e ∙ node_single (between m f.start f.end) (drop (f.end + 1) m) c ∙ rw (stands_end m at f.tag f.start f.end st, stands_row m at f.tag f.start f.end st v)

    group_is : (n e a r : ℕ) (s : List ℕ) (ms : List Member) → ms ≡ group_of P.book f.tag
        → f_group P w (f_item P w d) out f.tag n e a r s
        ≡ f_closed P w ms (f_insts P w (f_item P w d (λ u. starts P ms u || out u) (e + 1) r) ms (λ u. is_first ms u || out u) n 1 ms a (r + 1) s)
    unfolding f_group
    group_is n e a r s ms l = rw l

    node_group : (s r : List ℕ) → is_count P.book f.tag ≡ true
        → Node (got (single f.tag s) r) ≡ before (row_of v.depth v.count v.instance at f.tag s ∷ []) (f_group P w (f_item P w d) out f.tag (value s) v.depth (at + field_size f.tag s) k r)
    unfolding f_node_by
    node_group s r c = rw c

  module _ (f g : Field) where
    node_pair : (s t r : List ℕ) → Node (got (pair f.tag s g.tag t) r)
        ≡ full (row_of v.depth v.count v.instance at f.tag s ∷ row_of v.depth v.count v.instance (at + field_size f.tag s) g.tag t ∷ []) (at + field_size f.tag s + field_size g.tag t) r
    unfolding f_node_by
    node_pair s t r = let z : at + (field_size f.tag s + field_size g.tag t) ≡ at + field_size f.tag s + field_size g.tag t = omega arith in rw z

    pub item_pair : Stands m at f.tag f.start f.end → Stands m (f.end + 1) g.tag g.start g.end
        → got (pair f.tag (between m f.start f.end) g.tag (between m g.start g.end)) (drop (g.end + 1) m) ≡ grab P.book (drop at m)
        → Whole ≡ full (record { tag = f.tag; value_start = f.start; value_length = f.end - f.start; depth = v.depth; count_row = v.count; instance = v.instance }
        ∷ record { tag = g.tag; value_start = g.start; value_length = g.end - g.start; depth = v.depth; count_row = v.count; instance = v.instance } ∷ []) (g.end + 1) (drop (g.end + 1) m)
    item_pair st su e =
        whole_is _ e ∙ node_pair (between m f.start f.end) (between m g.start g.end) (drop (g.end + 1) m)
        ∙ rw (stands_end m at f.tag f.start f.end st, stands_row m at f.tag f.start f.end st v, stands_end m (f.end + 1) g.tag g.start g.end su, stands_row m (f.end + 1) g.tag g.start g.end su v)

-- the instances that are left of n, when so many are done
module _ (P : Page) (w : ℕ) (read : ℕ → ℕ → ℕ → List ℕ → Fill) (ms : List Member) (stay : ℕ → Bool) (n : ℕ) where
  abbrev pub left_by : ℕ → ℕ → ℕ → List ℕ → Fill
  left_by done a k s = f_closed P w ms (f_insts P w read ms stay (n - done) (done + 1) ms a k s)

  insts_more : (y j a k : ℕ) (s : List ℕ) → f_insts P w read ms stay (suc y) j ms a k s ≡ next (f_inst P w (read j) ms stay ms a k s) (λ q x r. f_insts P w read ms stay y (j + 1) ms x (k + length q) r)
  unfolding f_insts
  insts_more y j a k s = refl

  pub left_turn : (done a k : ℕ) (s : List ℕ) → done < n → left_by done a k s ≡ next (f_inst P w (read (done + 1)) ms stay ms a k s) (λ q x r. left_by (done + 1) x (k + length q) r)
  left_turn done a k s h =
      let e : n - done ≡ suc (n - (done + 1)) = omega (arith, h) in
      rw (e, insts_more) (closed_next P w ms (f_inst P w (read (done + 1)) ms stay ms a k s) (λ q x r. f_insts P w read ms stay (n - (done + 1)) (done + 1 + 1) ms x (k + length q) r))

  pub left_end : (done a k : ℕ) (s : List ℕ) → n ≤ done → left_by done a k s ≡ f_closed P w ms (full [] a s)
  unfolding f_insts
  left_end done a k s h = let e : n - done ≡ 0 = omega (arith, h) in rw e

-- what is open within a group
any_spare : (f : Bor (List ℕ) → Bool) → ((l : Bor (List ℕ)) → members_of l.now ≡ [] → f l ≡ false) → (n : ℕ) (a : List (Bor (List ℕ))) → Spare (drop n a) → list_any f (take n a) ≡ list_any f a
any_spare f empty zero [] h = refl
any_spare f empty zero (l ∷ a) h = sym (rw (empty l h.0) (sym (any_spare f empty zero a h.1)))
any_spare f empty (suc n) [] h = refl
any_spare f empty (suc n) (l ∷ a) h = ap (λ b. f l || b) (any_spare f empty n a h)

or_assoc : (a b c : Bool) → (a || b) || c ≡ a || (b || c)
or_assoc true b c = refl
or_assoc false b c = refl

pub opened_is : (g : Group) → Spare (drop 3 g.around) → outer_by g.page (g.list ∷ take 3 g.around) ≡ inner_by g
unfolding has_tag
opened_is g h = fun_ext each
  where
    each : (u : ℕ) → outer_by g.page (g.list ∷ take 3 g.around) u ≡ inner_by g u
    each u =
        let f : Bor (List ℕ) → Bool = λ l. starts (page_of g.page) (members_of l.now) u in
        rw (any_spare f (λ l e. rw e) 3 g.around h) (or_assoc (f g.list) (list_any f g.around) (eqb u 0 || starts (page_of g.page) (members_of g.page.own.now) u))

spare_take : (n k : ℕ) (a : List (Bor (List ℕ))) → Spare (drop n a) → Spare (drop n (take k a))
spare_take zero zero a h = tt
spare_take zero (suc k) [] h = tt
spare_take zero (suc k) (l ∷ a) h = (h.0, spare_take zero k a h.1)
spare_take (suc n) zero a h = tt
spare_take (suc n) (suc k) [] h = tt
spare_take (suc n) (suc k) (l ∷ a) h = spare_take n k a h

spare_drop : (k : ℕ) (a : List (Bor (List ℕ))) → Spare a → Spare (drop k a)
spare_drop zero a h = h
spare_drop (suc k) [] h = tt
spare_drop (suc k) (l ∷ a) h = spare_drop k a h.1

-- one level further down
module _ (d e : ℕ) (l : Bor (List ℕ)) (a : List (Bor (List ℕ))) (below : e + 1 ≡ d) (most : d ≤ 4) (h : Spare (drop (4 - d) a)) where
  pub spare_last : Spare (drop 3 a)
  spare_last = let z : 4 - d + (d - 1) ≡ 3 = omega (arith, below, most) in rw (drop-drop (d - 1) (4 - d) a, z) at (spare_drop (d - 1) (drop (4 - d) a) h)

  pub spare_below : Spare (drop (4 - e) (l ∷ take 3 a))
  spare_below = let z : 4 - e ≡ suc (4 - d) = omega (arith, below, most) in rw z (spare_take (4 - d) 3 a h)

first_some : (ms : List Member) (t : ℕ) → is_first ms t ≡ true → 0 < length ms
first_some [] t e = let z : false ≡ true = e in cc
first_some (m ∷ ms) t e = omega arith

first_tag : (m : Member) (ms : List Member) (t : ℕ) → is_first (m ∷ ms) t ≡ true → t ≡ m.tag
first_tag m ms t e = eqb-true t m.tag e

-- down a group's list
module _ (g : Group) (w : ℕ) (read : ℕ → ℕ → List ℕ → Fill) where
  -- a member is there, and those that may come behind it
  abbrev pub at_member : Bool → Miss → List Member → ℕ → ℕ → ℕ → List ℕ → Fill
  at_member hit miss ms t a n s = next (read a n s) (λ q x r. f_members (page_of g.page) w read (list_of g) (ends_by g) (eqb w t || hit) miss ms x (n + length q) r)

  abbrev pub sought : Bool → ℕ → ℕ → ℕ → List ℕ → Seek → Fill
  sought hit t a n s (passed y) = f_close (page_of g.page) w (list_of g) (ends_by g) hit y a s
  sought hit t a n s (met y ms) = at_member hit y ms t a n s

  first_is : (t : ℕ) (m : Member) (ms : List Member) (s : List ℕ) (all : List Member) (stay : ℕ → Bool) (a n : ℕ) → peek s ≡ m.tag
      → f_inst (page_of g.page) w read all stay (m ∷ ms) a n s ≡ next (read a n s) (λ q x r. f_members (page_of g.page) w read all stay (eqb w m.tag || false) none ms x (n + length q) r)
  unfolding f_inst
  first_is t m ms s all stay a n e = rw (eq-eqb (peek s) m.tag e)

  pub inst_first : (t a n : ℕ) (s : List ℕ) → peek s ≡ t → is_first (list_of g) t ≡ true
      → f_inst (page_of g.page) w read (list_of g) (ends_by g) (list_of g) a n s ≡ at_member false none (members_of (drop 4 g.list.now)) t a n s
  inst_first t a n s p z =
      let c = members_count g.list.now in
      let e = members_cons g.list.now (omega (arith, first_some (list_of g) t z, c)) in
      let k = first_tag (member_of g.list.now) (members_of (drop 4 g.list.now)) t (rw e at z) in
      ap (λ ms. f_inst (page_of g.page) w read (list_of g) (ends_by g) ms a n s) e
      ∙ rw k (first_is t (member_of g.list.now) (members_of (drop 4 g.list.now)) s (list_of g) (ends_by g) a n (p ∙ k))

  pub members_are : (hit : Bool) (x : Miss) (ms : List Member) (t a n : ℕ) (s : List ℕ) → peek s ≡ t
      → f_members (page_of g.page) w read (list_of g) (ends_by g) hit x ms a n s ≡ sought hit t a n s (seek_in (page_of g.page).book x ms t)
  unfolding f_members seek_in
  members_are hit x [] t a n s p = refl
  members_are hit x (m ∷ ms) t a n s p = go (eqb t m.tag) refl (members_are hit (note (page_of g.page).book x m) ms t a n s p)
    where
      go : (b : Bool) → eqb t m.tag ≡ b
          → f_members (page_of g.page) w read (list_of g) (ends_by g) hit (note (page_of g.page).book x m) ms a n s ≡ sought hit t a n s (seek_in (page_of g.page).book (note (page_of g.page).book x m) ms t)
          → f_members (page_of g.page) w read (list_of g) (ends_by g) hit x (m ∷ ms) a n s ≡ sought hit t a n s (seek_in (page_of g.page).book x (m ∷ ms) t)
      go true e ih = let k : t ≡ m.tag = eqb-true t m.tag e in rw (p, e, k)
      go false e ih = rw (p, e) ih

-- the loop over the instances of a count f at a place: so many are done of those that its text says, of which the code counts 65,536
pub record Instancing (g : Group) (m : List ℕ) (w : ℕ) (v : Within) (d at k : ℕ) (f : Field) (i b : List ℕ) (done end : ℕ) (p : Spot) (j u : List ℕ) : Type 0 where
  pub end_is : end ≡ min (value (between m f.start f.end)) 65536
  pub some : done ≤ end
  pub moved : at + 1 + done ≤ p.at
  pub going : Going m i b (f.end + 1) (k + 1) (f_group (page_of g.page) w (f_item (page_of g.page) w d) (outer_by g.page g.around) f.tag (value (between m f.start f.end)) v.depth (f.end + 1) k (drop (f.end + 1) m))
      (left_by (page_of g.page) w (λ j. f_item (page_of g.page) w d (inner_by g) (v.depth + 1) k j) (list_of g) (ends_by g) (value (between m f.start f.end)) done p.at p.row (drop p.at m)) p.at p.row j u

-- the loop down a group's list: a member stands at the place
pub record Membering (g : Group) (m : List ℕ) (w : ℕ) (v : Within) (d at k : ℕ) (i b : List ℕ) (below t place : ℕ) (missing : Option ℕ) (x : Watch) (p : Spot) (j u : List ℕ) : Type 0 where
  pub level : below + 1 ≡ d
  pub here : peek (drop p.at m) ≡ t
  pub in_list : place ≤ length g.list.now
  pub watched : x.tag ≡ w
  pub going : Going m i b at k (f_inst (page_of g.page) w (f_item (page_of g.page) w d (inner_by g) v.depth v.count v.instance) (list_of g) (ends_by g) (list_of g) at k (drop at m))
      (at_member g w (f_item (page_of g.page) w d (inner_by g) v.depth v.count v.instance) x.hit (miss_of missing) (members_of (drop place g.list.now)) t p.at p.row (drop p.at m)) p.at p.row j u

none_some : (f : Field) → ◌≡◌ {A = Option Field} None (Some f) → ⊥
none_some f e = let z : ◌≡◌ {A = ℕ} 0 1 = cc in absurd (omega arith)

none_false : (b : Bool) (f : Field) → ◌≡◌ {A = Option Field} (cond b (Some f) None) None → b ≡ false
none_false true f e = absurd (none_some f (sym e))
none_false false f e = refl

some_true : (b : Bool) (h f : Field) → ◌≡◌ {A = Option Field} (cond b (Some h) None) (Some f) → b ≡ true
some_true true h f e = refl
some_true false h f e = absurd (none_some f e)

some_same : (b : Bool) (h f : Field) → ◌≡◌ {A = Option Field} (cond b (Some h) None) (Some f) → h ≡ f
some_same true h f e = cc
some_same false h f e = absurd (none_some f e)

-- what was taken off: no count
module _ (P : Page) (w d : ℕ) (out : ℕ → Bool) (v : Within) (m : List ℕ) (at k : ℕ) (i b : List ℕ) where
  pub item_plain : (t : Grabbed) → Takes P.book m at (grab P.book (drop at m)) (Ok t) → count_in t ≡ None
      → Meets 1 m at k (Whole P w d out v m at k) (Ok (Done (grab_end t) (k + length (grab_rows v t)))) i (put_rows 6 row_numbers i k (grab_rows v t)) b (put_rows 12 row_bytes b k (grab_rows v t))
  item_plain (Single f y) (e, (known, st)) n =
      let c : is_count P.book f.tag ≡ false = ap (λ y. eqb y 7) (sym known) ∙ none_false (eqb (number_of y) 7) f n in
      rw (item_single P w d out v m at k f st e c) (refl, refl, omega (arith, st.inside), omega (arith, st.past, st.some), omega (arith, st.past, st.some), refl, refl)
  item_plain (Pair l r) (e, (st, su)) n =
      rw (item_pair P w d out v m at k l r st su e) (refl, refl, omega (arith, su.inside), omega (arith, st.past, st.some, su.past, su.some), omega (arith, st.past, st.some, su.past, su.some), refl, refl)

  pub item_plain_at : (t : Grabbed) → Takes P.book m at (grab P.book (drop at m)) (Ok t) → count_in t ≡ None → (p : Spot) → p ≡ record { at = grab_end t; row = k + length (grab_rows v t) }
      → (j u : List ℕ) → j ≡ put_rows 6 row_numbers i k (grab_rows v t) → u ≡ put_rows 12 row_bytes b k (grab_rows v t)
      → Meets 1 m at k (Whole P w d out v m at k) (Ok (Done p.at p.row)) i j b u
  item_plain_at t T n p e j u ej eu = rw (e, ej, eu) (item_plain t T n)

-- what was taken off fits
pub taken_short : (B : List Record) (m : List ℕ) (at : ℕ) (t : Grabbed) (g : Grab) → Takes B m at g (Ok t) → length m ≤ 8192 → AllShort t
taken_short B m at (Single f y) g (e, (known, st)) h = (omega (arith, st.some), omega (arith, st.inside))
taken_short B m at (Pair l r) g (e, (st, su)) h = ((omega (arith, st.some), omega (arith, st.inside)), (omega (arith, su.some), omega (arith, su.inside)))

module _ (g : Group) (m : List ℕ) (w : ℕ) (v : Within) (d at k : ℕ) (f : Field) (i b : List ℕ) where
  abbrev Here : ℕ → ℕ → Spot → List ℕ → List ℕ → Type 0
  Here done end p j u = Instancing g m w v d at k f i b done end p j u

  abbrev pub Counted : Fill
  Counted = f_group (page_of g.page) w (f_item (page_of g.page) w d) (outer_by g.page g.around) f.tag (value (between m f.start f.end)) v.depth (f.end + 1) k (drop (f.end + 1) m)

  counted_is : list_of g ≡ group_of (page_of g.page).book f.tag
      → Counted ≡ left_by (page_of g.page) w (λ j. f_item (page_of g.page) w d (inner_by g) (v.depth + 1) k j) (list_of g) (ends_by g) (value (between m f.start f.end)) 0 (f.end + 1) (k + 1) (drop (f.end + 1) m)
  counted_is l =
      let n = value (between m f.start f.end) in
      group_is (page_of g.page) w d (outer_by g.page g.around) v m at k f n v.depth (f.end + 1) k (drop (f.end + 1) m) (list_of g) l ∙ rw sub-zero

  pub instancing_first : Stands m at f.tag f.start f.end → list_of g ≡ group_of (page_of g.page).book f.tag → (end : ℕ) → end ≡ min (value (between m f.start f.end)) 65536
      → Here 0 end (record { at = f.end + 1; row = k + 1 }) i b
  instancing_first st l end ee =
      let first = going_first m i b (f.end + 1) (k + 1) Counted (omega (arith, st.inside)) in
      record { end_is = ee; some = omega arith; moved = omega (arith, st.past, st.some); going = going_here m i b (f.end + 1) (k + 1) Counted Counted _ (f.end + 1) (k + 1) i b (counted_is l) first }

  module _ (done end : ℕ) (p : Spot) (j u : List ℕ) (h : Here done end p j u) where
    abbrev read : ℕ → ℕ → ℕ → List ℕ → Fill
    read n = f_item (page_of g.page) w d (inner_by g) (v.depth + 1) k n

    abbrev Next : Fill
    Next = f_inst (page_of g.page) w (read (done + 1)) (list_of g) (ends_by g) (list_of g) p.at p.row (drop p.at m)

    abbrev Rest : ℕ → ℕ → List ℕ → Fill
    Rest a n r = left_by (page_of g.page) w read (list_of g) (ends_by g) (value (between m f.start f.end)) (done + 1) a n r

    module _ (more : done < end) where
      turned : Going m i b (f.end + 1) (k + 1) Counted (next Next (λ q x r. Rest x (p.row + length q) r)) p.at p.row j u
      turned = rw (← left_turn (page_of g.page) w read (list_of g) (ends_by g) (value (between m f.start f.end)) done p.at p.row (drop p.at m) (omega (arith, h.end_is, more))) h.going

      pub instancing_next : (a n : ℕ) (j' u' : List ℕ) → Meets 1 m p.at p.row Next (Ok (Done a n)) j j' u u' → Here (done + 1) end (record { at = a; row = n }) j' u'
      instancing_next a n j' u' M =
          let (on, past) = going_on m i b (f.end + 1) (k + 1) Counted Next p.at p.row j u j' u' Rest turned 1 a n M in
          record { end_is = h.end_is; some = omega (arith, more); moved = omega (arith, h.moved, past); going = on }

      pub instancing_bad : (e : Refused) (j' u' : List ℕ) → Meets 1 m p.at p.row Next (Err e) j j' u u' → Meets 0 m (f.end + 1) (k + 1) Counted (Err e) i j' b u'
      instancing_bad e j' u' M = going_bad m i b (f.end + 1) (k + 1) Counted Next p.at p.row j u j' u' Rest turned 1 0 e M j' u'

      pub instancing_ask : (t : ℕ) (j' u' : List ℕ) → Meets 1 m p.at p.row Next (Ok (Ask t)) j j' u u' → Meets 0 m (f.end + 1) (k + 1) Counted (Ok (Ask t)) i j' b u'
      instancing_ask t j' u' M = going_ask m i b (f.end + 1) (k + 1) Counted Next p.at p.row j u j' u' Rest turned 1 0 t M j' u'

    pub instancing_end : end ≤ done → length m ≤ 8192 → (x : Result Step Refused) → Says (drop p.at m) p.at p.row (f_closed (page_of g.page) w (list_of g) (full [] p.at (drop p.at m))) x
        → Meets 0 m (f.end + 1) (k + 1) Counted x i j b u
    instancing_end last short x S =
        let all : value (between m f.start f.end) ≤ done = omega (arith, h.end_is, h.moved, h.going.inside) in
        let z = rw (left_end (page_of g.page) w read (list_of g) (ends_by g) (value (between m f.start f.end)) done p.at p.row (drop p.at m) all) at h.going in
        going_says m i b (f.end + 1) (k + 1) Counted _ p.at p.row j u j u 0 z (omega (arith, h.going.costs)) x S

-- what an item reads within a group
pub item_read : (g : Group) (page : Code.Page) (opened : List (Bor (List ℕ))) (w below d : ℕ) (v : Within) (a n : ℕ) (s : List ℕ) → g.page ≡ page → opened ≡ g.list ∷ take 3 g.around → Spare (drop 3 g.around) → below + 1 ≡ d
    → f_item (page_of page) w (below + 1) (outer_by page opened) v.depth v.count v.instance a n s ≡ f_item (page_of g.page) w d (inner_by g) v.depth v.count v.instance a n s
item_read g page opened w below d v a n s e o h l = rw (← e, o, opened_is g h, l)

module _ (g : Group) (m : List ℕ) (w : ℕ) (v : Within) (d at k : ℕ) (i b : List ℕ) where
  abbrev Read : ℕ → ℕ → List ℕ → Fill
  Read = f_item (page_of g.page) w d (inner_by g) v.depth v.count v.instance

  abbrev Instance : Fill
  Instance = f_inst (page_of g.page) w Read (list_of g) (ends_by g) (list_of g) at k (drop at m)

  abbrev Members : ℕ → ℕ → ℕ → Option ℕ → Watch → Spot → List ℕ → List ℕ → Type 0
  Members below t place missing x p j u = Membering g m w v d at k i b below t place missing x p j u

  pub membering_first : (t below : ℕ) (x : Watch) → x ≡ record { tag = w; hit = false } → peek (drop at m) ≡ t → is_first (list_of g) t ≡ true → at ≤ length m → below + 1 ≡ d
      → Members below t 4 None x (record { at = at; row = k }) i b
  membering_first t below x e h f inside l = record {
    level = l;
    here = h;
    in_list = let c = members_count g.list.now in omega (arith, first_some (list_of g) t f, c);
    watched = rw e refl;
    going = rw (e, ← inst_first g w Read t at k (drop at m) h f) (going_first m i b at k Instance inside);
  }

  pub instance_zero : (t : ℕ) (r : Refused) → peek (drop at m) ≡ t → is_first (list_of g) t ≡ true → at ≤ length m → d ≡ 0 → r ≡ record { why = Place; at = at } → Meets 1 m at k Instance (Err r) i i b b
  unfolding f_item
  instance_zero t r h f inside z e =
      let q : Instance ≡ poor 9 0 (drop at m) = inst_first g w Read t at k (drop at m) h f ∙ rw z (next_poor 9 0 (drop at m) _) in
      rw (q, e) (at, (refl, refl, refl), refl, inside)

  module _ (below t place : ℕ) (missing : Option ℕ) (x : Watch) (p : Spot) (j u : List ℕ) (h : Members below t place missing x p j u) (j' u' : List ℕ) where
    abbrev Due : Fill
    Due = Read p.at p.row (drop p.at m)

    abbrev Behind : ℕ → ℕ → List ℕ → Fill
    Behind a n r = f_members (page_of g.page) w Read (list_of g) (ends_by g) (eqb w t || x.hit) (miss_of missing) (members_of (drop place g.list.now)) a n r

    pub membering_bad : (e : Refused) → Meets 1 m p.at p.row Due (Err e) j j' u u' → Meets 1 m at k Instance (Err e) i j' b u'
    membering_bad e M = going_bad m i b at k _ Due p.at p.row j u j' u' Behind h.going 1 1 e M j' u'

    pub membering_ask : (y : ℕ) → Meets 1 m p.at p.row Due (Ok (Ask y)) j j' u u' → Meets 1 m at k Instance (Ok (Ask y)) i j' b u'
    membering_ask y M = going_ask m i b at k _ Due p.at p.row j u j' u' Behind h.going 1 1 y M j' u'

    module _ (a n : ℕ) (M : Meets 1 m p.at p.row Due (Ok (Done a n)) j j' u u') (t' : ℕ) (pk : peek (drop a m) ≡ t') (s : Sought) (y : Watch) (ey : y ≡ record { tag = x.tag; hit = eqb x.tag t || x.hit })
        (so : sought_in g.list.now s ≡ seek_in (page_of g.page).book (miss_of missing) (members_of (drop place g.list.now)) t') where
      on : Going m i b at k Instance (sought g w Read (eqb w t || x.hit) t' a n (drop a m) (sought_in g.list.now s)) a n j' u' × (p.at + 1 ≤ a)
      on =
          let (o, past) = going_on m i b at k _ Due p.at p.row j u j' u' Behind h.going 1 a n M in
          (rw (so, ← members_are g w Read (eqb w t || x.hit) (miss_of missing) (members_of (drop place g.list.now)) t' a n (drop a m) pk) o, past)

      pub membering_next : (place' : ℕ) → s.place ≡ Some place' → place' ≤ length g.list.now → Members below t' place' s.missing y (record { at = a; row = n }) j' u'
      membering_next place' e inside = record {
        level = h.level;
        here = pk;
        in_list = inside;
        watched = rw ey h.watched;
        going = rw (ey, h.watched) (rw e at on.0);
      }

      pub membering_end : s.place ≡ None → (r : Result Step Refused) → Says (drop a m) a n (f_close (page_of g.page) y.tag (list_of g) (ends_by g) y.hit (miss_of s.missing) a (drop a m)) r → Meets 1 m at k Instance r i j' b u'
      membering_end e r S = going_says m i b at k _ _ a n j' u' j' u' 1 (rw e at on.0) (omega (arith, on.1, h.going.costs)) r (rw (ey, h.watched) at S)

-- a first member that does not stand there
module _ (P : Page) (w : ℕ) where
  refuse_stuck : (all : List Member) (hit : Bool) (s : List ℕ) → is_full (f_refuse P w all hit s) ≡ false
  unfolding f_refuse
  refuse_stuck all hit s = go (eqb (peek s) torn) refl (is_bounded P.book (peek s)) refl (has_place P (peek s)) refl (has_tag (peek s) all) refl (eqb (peek s) w) refl
    where
      go : (a : Bool) → eqb (peek s) torn ≡ a → (b : Bool) → is_bounded P.book (peek s) ≡ b → (c : Bool) → has_place P (peek s) ≡ c → (d : Bool) → has_tag (peek s) all ≡ d → (e : Bool) → eqb (peek s) w ≡ e
          → is_full (f_refuse P w all hit s) ≡ false
      go true ea b eb c ec d ed e ee = rw ea
      go false ea true eb true ec d ed e ee = rw (ea, eb, ec)
      go false ea true eb false ec true ed true ee = rw (ea, eb, ec, ed, ee)
      go false ea true eb false ec true ed false ee = rw (ea, eb, ec, ed, ee)
      go false ea true eb false ec false ed e ee = rw (ea, eb, ec, ed)
      go false ea false eb c ec true ed true ee = rw (ea, eb, ed, ee)
      go false ea false eb c ec true ed false ee = rw (ea, eb, ed, ee)
      go false ea false eb c ec false ed e ee = rw (ea, eb, ed)

  inst_stuck : (read : ℕ → ℕ → List ℕ → Fill) (all : List Member) (stay : ℕ → Bool) (at k : ℕ) (s : List ℕ) → is_first all (peek s) ≡ false → is_full (f_inst P w read all stay all at k s) ≡ false
  unfolding f_inst
  inst_stuck read [] stay at k s e = refl
  inst_stuck read (m ∷ ms) stay at k s e = rw (inst_other P w read stay at k s (m ∷ ms) e (omega arith)) (go (starts P (m ∷ ms) (peek s) || stay (peek s)) refl)
    where
      go : (b : Bool) → (starts P (m ∷ ms) (peek s) || stay (peek s)) ≡ b → is_full (cond (starts P (m ∷ ms) (peek s) || stay (peek s)) (poor 13 0 s) (f_refuse P w [] false s)) ≡ false
      go true q = rw q
      go false q = rw q (refuse_stuck [] false s)

pub says_stuck : (m : List ℕ) (at k : ℕ) (F : Fill) (x : Result Step Refused) (i b : List ℕ) → is_full F ≡ false → Says (drop at m) at k F x → at ≤ length m → Meets 1 m at k F x i i b b
says_stuck m at k (full q a r) x i b z S h = let y : true ≡ false = z in absurd (let n : ◌≡◌ {A = ℕ} 0 1 = cc in omega arith)
says_stuck m at k (poor n t r) x i b z (r', R) h = (at, R, r', h)
says_stuck m at k (ask t) x i b z S h = S

pub no_first_meets : (g : Group) (m : List ℕ) (w : ℕ) (v : Within) (d at k t : ℕ) (x : Result Step Refused) (i b : List ℕ) → peek (drop at m) ≡ t → is_first (list_of g) t ≡ false → at ≤ length m
    → Says (drop at m) at k (Instance g m w v d at k i b) x → Meets 1 m at k (Instance g m w v d at k i b) x i i b b
no_first_meets g m w v d at k t x i b p z h S = says_stuck m at k _ x i b (inst_stuck (page_of g.page) w (Read g m w v d at k i b) (list_of g) (ends_by g) at k (drop at m) (rw p z)) S h

-- a field that was taken off, within a group or in the message's own list, and if it is a count what its group reader answers
module _ (P : Page) (w d : ℕ) (out : ℕ → Bool) (v : Within) (m : List ℕ) (p : Spot) (i b j u : List ℕ) (t : Taken) (T : Took P.book m v p (Ok t) i j b u) where
  abbrev Item : Fill
  Item = Whole P w d out v m p.at p.row

  pub taken_plain : t.count ≡ None → Meets 1 m p.at p.row Item (Ok (Done t.next.at t.next.row)) i j b u
  taken_plain n = item_plain_at P w d out v m p.at p.row i b T.0 T.1 (sym T.2 ∙ n) t.next T.3 j u T.4 T.5

  module _ (f : Field) (n : t.count ≡ Some f) where
    pub taken_stands : Stands m p.at f.tag f.start f.end
    taken_stands = stands_of T.0 T.1 (sym T.2 ∙ n)
      where
        stands_of : (g : Grabbed) → Takes P.book m p.at (grab P.book (drop p.at m)) (Ok g) → count_in g ≡ Some f → Stands m p.at f.tag f.start f.end
        stands_of (Pair l r) T n = absurd (none_some f n)
        stands_of (Single h y) (e, (known, st)) n = rw (some_same (eqb (number_of y) 7) h f n) at st

    abbrev Instances : Fill
    Instances = f_group P w (f_item P w d) out f.tag (value (between m f.start f.end)) v.depth (f.end + 1) p.row (drop (f.end + 1) m)

    counted_as : (g : Grabbed) → Takes P.book m p.at (grab P.book (drop p.at m)) (Ok g) → count_in g ≡ Some f → Item ≡ before (grab_rows v g) Instances
    counted_as (Pair l r) T n = absurd (none_some f n)
    counted_as (Single h y) (e, (known, st)) n =
        let n7 : number_of y ≡ 7 = eqb-true (number_of y) 7 (some_true (eqb (number_of y) 7) h f n) in
        let hf : h ≡ f = some_same (eqb (number_of y) 7) h f n in
        let c : is_count P.book h.tag ≡ true = rw (← known) (eq-eqb (number_of y) 7 n7) in
        rw (← hf) (
        whole_is P w d out v m p.at p.row _ e
        ∙ node_group P w d out v m p.at p.row h (between m h.start h.end) (drop (h.end + 1) m) c
        ∙ rw (stands_end m p.at h.tag h.start h.end st, stands_row m p.at h.tag h.start h.end st v)
        )

    end_of : (g : Grabbed) → count_in g ≡ Some f → (grab_end g ≡ f.end + 1) × (length (grab_rows v g) ≡ 1)
    end_of (Pair l r) n = absurd (none_some f n)
    end_of (Single h y) n = (ap (λ h. h.end + 1) (some_same (eqb (number_of y) 7) h f n), refl)

    pub taken_counted : (x : Result Step Refused) (j' u' : List ℕ) → Meets 0 m (f.end + 1) (p.row + 1) Instances x j j' u u' → Meets 1 m p.at p.row Item x i j' b u'
    taken_counted x j' u' M =
        let st = taken_stands in
        let q = end_of T.0 (sym T.2 ∙ n) in
        let g : Going m i b p.at p.row Item Instances (f.end + 1) (p.row + 1) j u = record {
          rows = grab_rows v T.0;
          made = counted_as T.0 T.1 (sym T.2 ∙ n);
          index = T.4;
          bytes = T.5;
          count = rw q.1 refl;
          costs = rw q.1 (omega (arith, st.past, st.some));
          inside = omega (arith, st.inside);
        } in
        going_meets m i b p.at p.row Item Instances (f.end + 1) (p.row + 1) j u j' u' g (omega (arith, st.past, st.some)) x M
