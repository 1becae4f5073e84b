-- Whole messages: frame and items together. Assumes nothing.
use mathlib.Core.Path.{◌≡◌, refl, sym, ◌∙◌}
use mathlib.Core.Bool.{Bool, true, false, ◌&&◌}
use mathlib.Core.List.{List, ◌++◌}
use Prim.Native.Nat.{ℕ, ◌≤◌}
use native.Mathlib.Omega.{arith}
use lib.Dec.{ltb}
use lib.ListN.{length}
use borrow.Author.Tests.{ltb-false, le-ltb}
use Rattle.numbers.specs.Bytes.{total, some, free}
use Rattle.numbers.proofs.Tests.{clash, and_left, and_right}
use Rattle.book.specs.Records.{Record, LookUp, nothing, found, message_of}
use Rattle.message.specs.Arrangement.{Items, Arrangement, Page}
use Rattle.message.specs.Written.{header, type_field, trailer, counted, summed, body, written}
use Rattle.message.specs.Permitted.{versions, among, good_items, good_frame, under_type, permitted}
use Rattle.reader.specs.Items.{Out, done, bad, late, read_items}
use Rattle.reader.specs.Frame.{Framed, framed, misframed, frame}
use Rattle.reader.specs.Reading.{gives, refused, items_in, in_frame, arrangement_of}
use Rattle.reader.proofs.FillLaws.{arrangement_is, arrangement_long}
use Rattle.bridge.proofs.Accepted.{items_true}
use Rattle.bridge.proofs.Readback.{items_back}
use Rattle.bridge.proofs.Sound.{Rules, page_sound}
use Rattle.bridge.proofs.Framing.{good_count, good_sum, Fits, frame_true, frame_back}

-- the definitions one step open
frame_good : (A : Arrangement)
    → good_frame A ≡ (among A.version versions && good_count A.body_length (length (counted A)) && good_sum A.check_sum (total (summed A)))
unfolding good_frame
frame_good A = refl

permitted_is : (B : List Record) (A : Arrangement)
    → permitted B A ≡ (good_frame A && (some A.type && free 1 A.type) && under_type B A.items (message_of B A.type))
unfolding permitted
permitted_is B A = refl

pub written_is : (A : Arrangement) → written A ≡ header A.version A.body_length (type_field A.type (body A.items) ++ trailer A.check_sum)
unfolding written
written_is A = refl

-- what permitted asks
pub record Permits (B : List Record) (A : Arrangement) : Type 0 where
  pub page : Page
  pub frame : Fits B A.version A.body_length A.type page (body A.items) A.check_sum
  pub items : good_items page A.items ≡ true

pub permitted_parts : (B : List Record) (A : Arrangement) → permitted B A ≡ true → Permits B A
permitted_parts B A e = go (message_of B A.type) refl (and_right (good_frame A && text) _ p)
  where
    text : Bool
    text = some A.type && free 1 A.type

    p : (good_frame A && text && under_type B A.items (message_of B A.type)) ≡ true
    p = sym (permitted_is B A) ∙ e

    q : (good_frame A && text) ≡ true
    q = and_left (good_frame A && text) _ p

    f : (among A.version versions && good_count A.body_length (length (counted A)) && good_sum A.check_sum (total (summed A))) ≡ true
    f = sym (frame_good A) ∙ and_left (good_frame A) _ q

    g : (among A.version versions && good_count A.body_length (length (counted A))) ≡ true
    g = and_left (among A.version versions && good_count A.body_length (length (counted A))) _ f

    go : (u : LookUp) → message_of B A.type ≡ u → under_type B A.items u ≡ true → Permits B A
    go nothing w h = clash false (unfold under_type in h) refl
    go (found r) w h = record {
      page = record { book = B; own = r.members };
      frame = record {
        version = and_left (among A.version versions) _ g;
        count = and_right (among A.version versions) _ g;
        sum = and_right (among A.version versions && good_count A.body_length (length (counted A))) _ f;
        type = record { text = and_right (good_frame A) _ q; entry = r; found = w; page = refl };
      };
      items = unfold under_type in h;
    }

under_found : (B : List Record) (a : Items) (r : Record) (P : Page) → P ≡ record { book = B; own = r.members } → good_items P a ≡ true → under_type B a (found r) ≡ true
unfolding under_type
under_found B a r P e h = rw (← e) h

pub permitted_of : (B : List Record) (A : Arrangement) → Permits B A → permitted B A ≡ true
permitted_of B A h =
    let F = h.frame in
    let L = F.type in
    permitted_is B A ∙ rw (frame_good A, F.version, F.count, F.sum, L.text, L.found) (under_found B A.items L.entry h.page L.page h.items)

pub no_answer : {X A : Type 0} (n p t : ℕ) (x : X) → refused n p t ≡ gives x → A
no_answer n p t x e = let z : ◌≡◌ {A = ℕ} 0 1 = cc in absurd (omega arith)

items_answer : (B : List Record) (s W N T : List ℕ) (P : Page) (b z : List ℕ) (o : Out Items) (A : Arrangement)
    → frame B s ≡ framed W N T P b z → read_items P b ≡ o → items_in s W N T z o ≡ gives A → (written A ≡ s) × (permitted B A ≡ true)
unfolding items_in
items_answer B s W N T P b z (bad n t r) A ef eo e = no_answer _ _ _ _ e
items_answer B s W N T P b z (late there r) A ef eo e = no_answer _ _ _ _ e
items_answer B s W N T P b z (done a r) A ef eo e =
    let ea : A ≡ record { version = W; body_length = N; type = T; items = a; check_sum = z } = cc in
    let f = frame_true B s W N T P b z ef in
    let c = items_true P b r a eo in
    rw ea (
      written_is (record { version = W; body_length = N; type = T; items = a; check_sum = z }) ∙ rw c.0 (sym f.0),
      permitted_of B (record { version = W; body_length = N; type = T; items = a; check_sum = z }) (record { page = P; frame = rw c.0 f.1; items = c.1 }),
    )

pub in_frame_true : (B : List Record) (s : List ℕ) (A : Arrangement) → in_frame s (frame B s) ≡ gives A → (written A ≡ s) × (permitted B A ≡ true)
unfolding in_frame
in_frame_true B s A e = go (frame B s) refl e
  where
    go : (f : Framed) → frame B s ≡ f → in_frame s f ≡ gives A → (written A ≡ s) × (permitted B A ≡ true)
    go (misframed n r) w e = no_answer _ _ _ _ e
    go (framed W N T P b z) w e = items_answer B s W N T P b z (read_items P b) A w refl e

pub arrangement_true : (B : List Record) (s : List ℕ) (A : Arrangement) → arrangement_of B s ≡ gives A → (written A ≡ s) × (permitted B A ≡ true) × (length s ≤ 8192)
arrangement_true B s A e = go (ltb 8192 (length s)) refl
  where
    go : (b : Bool) → ltb 8192 (length s) ≡ b → (written A ≡ s) × (permitted B A ≡ true) × (length s ≤ 8192)
    go true w = no_answer _ _ _ _ (sym (arrangement_long B s w) ∙ e)
    go false w = let h = in_frame_true B s A (sym (arrangement_is B s w) ∙ e) in (h.0, h.1, ltb-false 8192 (length s) w)

-- back, for a book that keeps the rules
module _ (B : List Record) (S : Rules B) where
  pub in_frame_back : (A : Arrangement) → permitted B A ≡ true → in_frame (written A) (frame B (written A)) ≡ gives A
  unfolding in_frame items_in
  in_frame_back A p =
      let h = permitted_parts B A p in
      let s = page_sound B S A.type h.page h.frame.type in
      rw (
        written_is A,
        frame_back B A.version A.body_length A.type h.page (body A.items) A.check_sum h.frame,
        items_back h.page A.items s.0 s.1 h.items,
      )

  pub arrangement_back : (A : Arrangement) → permitted B A ≡ true → length (written A) ≤ 8192 → arrangement_of B (written A) ≡ gives A
  arrangement_back A p n = arrangement_is B (written A) (le-ltb 8192 (length (written A)) n) ∙ in_frame_back A p
