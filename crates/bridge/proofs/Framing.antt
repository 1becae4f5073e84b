-- The frame taken off is the frame written, and back. Of any book. Assumes nothing.
use mathlib.Core.Path.{◌≡◌, refl, sym, ap, ◌∙◌}
use mathlib.Core.Bool.{Bool, true, false, ◌&&◌}
use mathlib.Core.List.{List, [], ◌∷◌, ◌++◌}
use Prim.Native.Nat.{ℕ, ◌+◌, ◌-◌, ◌%◌, ◌≤◌}
use native.Mathlib.Omega.{arith}
use lib.Dec.{eqb, leb}
use lib.ListN.{length, take, drop, length-append, take-append-drop}
use lib.Seq.{take_at, drop_at, length-take-le}
use borrow.Author.Tests.{eqb-true, eq-eqb, leb-true, le-leb}
use Rattle.numbers.specs.Bytes.{bytes, total, same, some, free}
use Rattle.numbers.specs.Decimal.{digits, value}
use Rattle.numbers.proofs.Tests.{clash, and_left, and_right}
use Rattle.book.specs.Records.{Record, LookUp, nothing, found, message_of}
use Rattle.message.specs.Arrangement.{Page}
use Rattle.message.specs.Written.{header, type_field, trailer}
use Rattle.message.specs.Permitted.{versions, among}
use Rattle.reader.specs.Fields.{Cut, uncut, cut_at}
use Rattle.reader.specs.Frame.{framed, misframed, field, listed_as, type_of, sum_of, count_of, version_of, frame}
use Rattle.numbers.proofs.Shortest.{digits_free}
use Rattle.bridge.proofs.Sees.{cut_true, cut_back}

pub field_true : (p s v r : List ℕ) → field p s ≡ cut_at v r → (s ≡ p ++ (v ++ (1 ∷ r))) × (free 1 v ≡ true)
unfolding field
field_true [] s v r e = cut_true 1 s v r e
field_true (a ∷ p) [] v r e = let z : ◌≡◌ {A = ℕ} 0 1 = cc in absurd (omega arith)
field_true (a ∷ p) (b ∷ s) v r e = go (eqb b a) refl (field_true p s v r)
  where
    go : (c : Bool) → eqb b a ≡ c → (field p s ≡ cut_at v r → (s ≡ p ++ (v ++ (1 ∷ r))) × (free 1 v ≡ true)) → (b ∷ s ≡ a ∷ (p ++ (v ++ (1 ∷ r)))) × (free 1 v ≡ true)
    go true q ih = let h = ih (rw q at e) in (rw (eqb-true b a q, h.0), h.1)
    go false q ih = let h : uncut ≡ cut_at v r = rw q at e in let z : ◌≡◌ {A = ℕ} 0 1 = cc in absurd (omega arith)

field_back : (p v r : List ℕ) → free 1 v ≡ true → field p (p ++ (v ++ (1 ∷ r))) ≡ cut_at v r
unfolding field
field_back [] v r f = cut_back 1 v r f
field_back (a ∷ p) v r f = rw (eq-eqb a a refl) (field_back p v r f)

-- one of a list of texts has what they all have
same_true : (s t : List ℕ) → same s t ≡ true → s ≡ t
unfolding same
same_true [] [] e = refl
same_true [] (b ∷ t) e = clash false e refl
same_true (a ∷ s) [] e = clash false e refl
same_true (a ∷ s) (b ∷ t) e = rw (eqb-true a b (and_left (eqb a b) _ e), same_true s t (and_right (eqb a b) _ e))

every : (List ℕ → Bool) → List (List ℕ) → Bool
every p [] = true
every p (t ∷ l) = p t && every p l

among_every : (p : List ℕ → Bool) (s : List ℕ) (l : List (List ℕ)) → every p l ≡ true → among s l ≡ true → p s ≡ true
unfolding every among
among_every p s [] h e = clash false e refl
among_every p s (t ∷ l) h e = go (same s t) refl (among_every p s l (and_right (p t) _ h))
  where
    go : (b : Bool) → same s t ≡ b → (among s l ≡ true → p s ≡ true) → p s ≡ true
    go true q ih = rw (same_true s t q) (and_left (p t) _ h)
    go false q ih = ih (rw q at e)

pub version_free : (W : List ℕ) → among W versions ≡ true → free 1 W ≡ true
unfolding every versions bytes free
version_free W e = among_every (free 1) W versions refl e

pub version_long : (W : List ℕ) → among W versions ≡ true → 7 ≤ length W
unfolding every versions bytes
version_long W e = leb-true 7 (length W) (among_every (λ s. leb 7 (length s)) W versions refl e)

abbrev pub good_count : List ℕ → ℕ → Bool
good_count N n = some N && digits N && eqb (value N) n

abbrev pub good_sum : List ℕ → ℕ → Bool
good_sum z n = eqb (length z) 3 && digits z && eqb (value z) (n % 256)

-- the page is that of the type T
pub record Listed (B : List Record) (T : List ℕ) (P : Page) : Type 0 where
  pub text : (some T && free 1 T) ≡ true
  pub entry : Record
  pub found : message_of B T ≡ found entry
  pub page : P ≡ record { book = B; own = entry.members }

-- the texts of a frame around the bytes b fit
pub record Fits (B : List Record) (W N T : List ℕ) (P : Page) (b z : List ℕ) : Type 0 where
  pub version : among W versions ≡ true
  pub count : good_count N (length (type_field T b)) ≡ true
  pub sum : good_sum z (total (header W N (type_field T b))) ≡ true
  pub type : Listed B T P

wrong : {A : Type 0} (n : ℕ) (s W N T : List ℕ) (P : Page) (b z : List ℕ) → misframed n s ≡ framed W N T P b z → A
wrong n s W N T P b z e = let x : ◌≡◌ {A = ℕ} 0 1 = cc in absurd (omega arith)

module _ (B : List Record) (W' N' T' : List ℕ) (P' : Page) (b' z' : List ℕ) where
  -- what each step found, as equations with the end's texts
  record Typed (W N z front : List ℕ) : Type 0 where
    ew : W ≡ W'
    en : N ≡ N'
    ez : z ≡ z'
    ef : front ≡ type_field T' b'
    type : Listed B T' P'

  listed_true : (s W N z T b front : List ℕ) (u : LookUp) → message_of B T ≡ u → front ≡ type_field T b → (some T && free 1 T) ≡ true
      → listed_as B s W N z T b u ≡ framed W' N' T' P' b' z' → Typed W N z front
  unfolding listed_as
  listed_true s W N z T b front nothing eu ef g e = wrong _ _ _ _ _ _ _ _ e
  listed_true s W N z T b front (found r) eu ef g e =
      let et : T ≡ T' = cc in
      let eb : b ≡ b' = cc in
      record {
        ew = cc;
        en = cc;
        ez = cc;
        ef = ef ∙ rw (et, eb);
        type = record { text = rw (← et) g; entry = r; found = rw (← et) eu; page = cc };
      }

  type_true : (s W N z front : List ℕ) (c : Cut) → field (51 ∷ 53 ∷ 61 ∷ []) front ≡ c → type_of B s W N z c ≡ framed W' N' T' P' b' z' → Typed W N z front
  unfolding type_of
  type_true s W N z front uncut ec e = wrong _ _ _ _ _ _ _ _ e
  type_true s W N z front (cut_at T b) ec e = go (some T) refl
    where
      w : (front ≡ type_field T b) × (free 1 T ≡ true)
      w = field_true (51 ∷ 53 ∷ 61 ∷ []) front T b ec

      go : (c : Bool) → some T ≡ c → Typed W N z front
      go false p = wrong _ _ _ _ _ _ _ _ (rw p at e)
      go true p = listed_true s W N z T b front (message_of B T) refl w.0 (rw (p, w.1)) (rw p at e)

  record Summed (W N front tail : List ℕ) : Type 0 where
    ew : W ≡ W'
    en : N ≡ N'
    ef : front ≡ type_field T' b'
    et : tail ≡ trailer z'
    sum : good_sum z' (total (header W' N' (type_field T' b'))) ≡ true
    type : Listed B T' P'

  sum_true : (tail W N front : List ℕ) (c : Cut) → field (49 ∷ 48 ∷ 61 ∷ []) tail ≡ c → sum_of B tail W N front c ≡ framed W' N' T' P' b' z' → Summed W N front tail
  unfolding sum_of
  sum_true tail W N front uncut ec e = wrong _ _ _ _ _ _ _ _ e
  sum_true tail W N front (cut_at z (x ∷ r)) ec e = wrong _ _ _ _ _ _ _ _ e
  sum_true tail W N front (cut_at z []) ec e = go (eqb (length z) 3 && digits z) refl (eqb (value z) (total (header W N front) % 256)) refl
    where
      w : (tail ≡ trailer z) × (free 1 z ≡ true)
      w = field_true (49 ∷ 48 ∷ 61 ∷ []) tail z [] ec

      made : Typed W N z front → (eqb (length z) 3 && digits z) ≡ true → eqb (value z) (total (header W N front) % 256) ≡ true → Summed W N front tail
      made h p q = record {
        ew = h.ew;
        en = h.en;
        ef = h.ef;
        et = w.0 ∙ ap trailer h.ez;
        sum = rw (← h.ez, ← h.ew, ← h.en, ← h.ef, p) q;
        type = h.type;
      }

      go : (c : Bool) → (eqb (length z) 3 && digits z) ≡ c → (d : Bool) → eqb (value z) (total (header W N front) % 256) ≡ d → Summed W N front tail
      go false p d q = wrong _ _ _ _ _ _ _ _ (rw p at e)
      go true p false q = wrong _ _ _ _ _ _ _ _ (rw (p, q) at e)
      go true p true q = made (type_true (front ++ tail) W N z front (field (51 ∷ 53 ∷ 61 ∷ []) front) refl (rw (p, q) at e)) p q

  record Counted (W s : List ℕ) : Type 0 where
    ew : W ≡ W'
    es : s ≡ 57 ∷ 61 ∷ (N' ++ (1 ∷ (type_field T' b' ++ trailer z')))
    count : good_count N' (length (type_field T' b')) ≡ true
    sum : good_sum z' (total (header W' N' (type_field T' b'))) ≡ true
    type : Listed B T' P'

  nine : (s N M r q : List ℕ) → s ≡ 57 ∷ 61 ∷ (N ++ (1 ∷ r)) → N ≡ M → r ≡ q → s ≡ 57 ∷ 61 ∷ (M ++ (1 ∷ q))
  nine s N M r q es en er = rw (es, en, er)

  count_true : (s W : List ℕ) (c : Cut) → field (57 ∷ 61 ∷ []) s ≡ c → count_of B s W c ≡ framed W' N' T' P' b' z' → Counted W s
  unfolding count_of
  count_true s W uncut ec e = wrong _ _ _ _ _ _ _ _ e
  count_true s W (cut_at N r) ec e = go (some N && digits N && leb 7 (length r) && eqb (value N) (length r - 7)) refl
    where
      w : (s ≡ 57 ∷ 61 ∷ (N ++ (1 ∷ r))) × (free 1 N ≡ true)
      w = field_true (57 ∷ 61 ∷ []) s N r ec

      made : Summed W N (take (length r - 7) r) (drop (length r - 7) r) → (some N && digits N) ≡ true → eqb (value N) (length r - 7) ≡ true → Counted W s
      made h p q =
          let er : r ≡ type_field T' b' ++ trailer z' = sym (take-append-drop (length r - 7) r) ∙ rw (h.ef, h.et) in
          let len : length r - 7 ≡ length (type_field T' b') = sym (length-take-le (length r - 7) r (omega arith)) ∙ ap length h.ef in
          let p₄ : eqb (value N) (length (type_field T' b')) ≡ true = eq-eqb _ _ (eqb-true (value N) (length r - 7) q ∙ len) in
          record {
            ew = h.ew;
            es = nine s N N' r (type_field T' b' ++ trailer z') w.0 h.en er;
            count = rw (← h.en, p) p₄;
            sum = h.sum;
            type = h.type;
          }

      go : (c : Bool) → (some N && digits N && leb 7 (length r) && eqb (value N) (length r - 7)) ≡ c → Counted W s
      go false p = wrong _ _ _ _ _ _ _ _ (rw p at e)
      go true p =
          let a = and_left (some N && digits N && leb 7 (length r)) _ p in
          made (sum_true (drop (length r - 7) r) W N (take (length r - 7) r) (field (49 ∷ 48 ∷ 61 ∷ []) (drop (length r - 7) r)) refl (rw p at e))
          (and_left (some N && digits N) _ a) (and_right (some N && digits N && leb 7 (length r)) _ p)

  version_true : (s : List ℕ) (c : Cut) → field (56 ∷ 61 ∷ []) s ≡ c → version_of B s c ≡ framed W' N' T' P' b' z'
      → (s ≡ header W' N' (type_field T' b' ++ trailer z')) × Fits B W' N' T' P' b' z'
  unfolding version_of
  version_true s uncut ec e = wrong _ _ _ _ _ _ _ _ e
  version_true s (cut_at W r) ec e = go (among W versions) refl
    where
      w : (s ≡ 56 ∷ 61 ∷ (W ++ (1 ∷ r))) × (free 1 W ≡ true)
      w = field_true (56 ∷ 61 ∷ []) s W r ec

      made : Counted W r → among W versions ≡ true → (s ≡ header W' N' (type_field T' b' ++ trailer z')) × Fits B W' N' T' P' b' z'
      made h p =
          let v : among W' versions ≡ true = rw (← h.ew) p in (
            w.0 ∙ rw (h.es, h.ew),
            record { version = v; count = h.count; sum = h.sum; type = h.type },
          )

      go : (c : Bool) → among W versions ≡ c → (s ≡ header W' N' (type_field T' b' ++ trailer z')) × Fits B W' N' T' P' b' z'
      go false p = wrong _ _ _ _ _ _ _ _ (rw p at e)
      go true p = made (count_true r W (field (57 ∷ 61 ∷ []) r) refl (rw p at e)) p

pub frame_is : (B : List Record) (s : List ℕ) → frame B s ≡ version_of B s (field (56 ∷ 61 ∷ []) s)
unfolding frame
frame_is B s = refl

pub frame_true : (B : List Record) (s W N T : List ℕ) (P : Page) (b z : List ℕ) → frame B s ≡ framed W N T P b z
    → (s ≡ header W N (type_field T b ++ trailer z)) × Fits B W N T P b z
frame_true B s W N T P b z e = version_true B W N T P b z s (field (56 ∷ 61 ∷ []) s) refl (sym (frame_is B s) ∙ e)

-- back
module _ (B : List Record) where
  count_back : (s W N F Z : List ℕ) → length Z ≡ 7 → some N ≡ true → digits N ≡ true → eqb (value N) (length F) ≡ true
      → count_of B s W (cut_at N (F ++ Z)) ≡ sum_of B Z W N F (field (49 ∷ 48 ∷ 61 ∷ []) Z)
  unfolding count_of
  count_back s W N F Z l p q r =
      let all : length (F ++ Z) ≡ length F + 7 = length-append F Z ∙ omega arith in
      let e : length (F ++ Z) - 7 ≡ length F = omega arith in
      let m : leb 7 (length (F ++ Z)) ≡ true = le-leb 7 (length (F ++ Z)) (omega arith) in
      rw (e, p, q, m, r, take_at F Z (length F) refl, drop_at F Z (length F) refl)

  listed_back : (s W N z T b : List ℕ) (P : Page) → Listed B T P → listed_as B s W N z T b (message_of B T) ≡ framed W N T P b z
  unfolding listed_as
  listed_back s W N z T b P h = rw (h.found, h.page)

  pub frame_back : (W N T : List ℕ) (P : Page) (b z : List ℕ) → Fits B W N T P b z → frame B (header W N (type_field T b ++ trailer z)) ≡ framed W N T P b z
  unfolding version_of sum_of type_of
  frame_back W N T P b z h =
      let r = type_field T b ++ trailer z in
      let c = and_left (some N && digits N) _ h.count in
      let s = and_left (eqb (length z) 3 && digits z) _ h.sum in
      let l3 : length z ≡ 3 = eqb-true (length z) 3 (and_left (eqb (length z) 3) _ s) in
      let l7 : length (trailer z) ≡ 7 = omega (arith, length-append z (1 ∷ [])) in
      let t = h.type.text in
      rw (
        frame_is B (header W N (type_field T b ++ trailer z)),
        field_back (56 ∷ 61 ∷ []) W (57 ∷ 61 ∷ (N ++ (1 ∷ (type_field T b ++ trailer z)))) (version_free W h.version),
        h.version,
        field_back (57 ∷ 61 ∷ []) N (type_field T b ++ trailer z) (digits_free 1 N refl (and_right (some N) _ c)),
        count_back (57 ∷ 61 ∷ (N ++ (1 ∷ (type_field T b ++ trailer z)))) W N (type_field T b) (trailer z) l7 (and_left (some N) _ c) (and_right (some N) _ c) (and_right (some N && digits N) _ h.count),
        field_back (49 ∷ 48 ∷ 61 ∷ []) z [] (digits_free 1 z refl (and_right (eqb (length z) 3) _ s)),
        s,
        and_right (eqb (length z) 3 && digits z) _ h.sum,
        field_back (51 ∷ 53 ∷ 61 ∷ []) T b (and_right (some T) _ t),
        and_left (some T) _ t,
      )
      (listed_back (type_field T b ++ trailer z) W N z T b P h.type)
