-- Rows of an arrangement, stretch by stretch: which count rows stand in a stretch, that its rows are told apart by count row, instance and
-- tag, and where its groups' instances begin. Assumes nothing.
use mathlib.Core.Path.{◌≡◌, refl, sym, ap, ◌∙◌}
use mathlib.Core.Bool.{Bool, true, false, cond}
use mathlib.Core.List.{List, [], ◌∷◌, ◌++◌}
use mathlib.Core.Logic.{◌⊎◌, inl, inr, ⊎_elim}
use Prim.Native.Nat.{ℕ, zero, suc, ◌+◌, ◌≤◌, ◌<◌}
use native.Mathlib.Omega.{arith}
use lib.Dec.{eqb}
use lib.ListN.{length, length-append}
use borrow.Author.Tests.{eqb-true, ne_eqb}
use Rattle.numbers.proofs.Tests.{to_false, and_left, and_right}
use Rattle.message.specs.Rows.{Row}
use Rattle.index.specs.Questions.{Found, row, absent}
use Rattle.asking.specs.Groups.{Group}
use Rattle.asking.proofs.FirstRow.{first_row, of_group, of_key}

-- of each row; of each row with its number; of each group
abbrev pub Rows : (Row → Type 0) → List Row → Type 0
Rows p [] = Unit {0}
Rows p (r ∷ q) = p r × Rows p q

abbrev pub Numbered : (ℕ → Row → Type 0) → ℕ → List Row → Type 0
Numbered p k [] = Unit {0}
Numbered p k (r ∷ q) = p k r × Numbered p (suc k) q

abbrev pub Groups : (Group → Type 0) → List Group → Type 0
Groups p [] = Unit {0}
Groups p (g ∷ l) = p g × Groups p l

pub rows_map : (p q : Row → Type 0) → ((r : Row) → p r → q r) → (s : List Row) → Rows p s → Rows q s
rows_map p q f [] h = tt
rows_map p q f (r ∷ s) h = (f r h.0, rows_map p q f s h.1)

pub rows_join : (p : Row → Type 0) (a b : List Row) → Rows p a → Rows p b → Rows p (a ++ b)
rows_join p [] b h k = k
rows_join p (r ∷ a) b h k = (h.0, rows_join p a b h.1 k)

pub numbered_map : (p q : ℕ → Row → Type 0) → ((k : ℕ) (r : Row) → p k r → q k r) → (k : ℕ) (s : List Row) → Numbered p k s → Numbered q k s
numbered_map p q f k [] h = tt
numbered_map p q f k (r ∷ s) h = (f k r h.0, numbered_map p q f (suc k) s h.1)

pub numbered_both : (p : Row → Type 0) (q : ℕ → Row → Type 0) (k : ℕ) (s : List Row) → Rows p s → Numbered q k s → Numbered (λ k r. p r × q k r) k s
numbered_both p q k [] h w = tt
numbered_both p q k (r ∷ s) h w = ((h.0, w.0), numbered_both p q (suc k) s h.1 w.1)

numbered_join : (p : ℕ → Row → Type 0) (k m : ℕ) (a b : List Row) → k + length a ≡ m → Numbered p k a → Numbered p m b → Numbered p k (a ++ b)
numbered_join p k m [] b e h w = let z : m ≡ k = omega (arith, e) in rw (← z) w
numbered_join p k m (r ∷ a) b e h w = (h.0, numbered_join p (suc k) m a b (omega (arith, e)) h.1 w)

pub groups_map : (p q : Group → Type 0) → ((g : Group) → p g → q g) → (l : List Group) → Groups p l → Groups q l
groups_map p q f [] h = tt
groups_map p q f (g ∷ l) h = (f g h.0, groups_map p q f l h.1)

groups_join : (p : Group → Type 0) (a b : List Group) → Groups p a → Groups p b → Groups p (a ++ b)
groups_join p [] b h k = k
groups_join p (g ∷ a) b h k = (h.0, groups_join p a b h.1 k)

-- the first row of a list made of two
module _ (is : Row → Bool) where
  abbrev None : List Row → Type 0
  None q = Rows (λ r. is r ≡ false) q

  first_cons : (k : ℕ) (r : Row) (q : List Row) → first_row is k (r ∷ q) ≡ cond (is r) (row k) (first_row is (suc k) q)
  unfolding first_row
  first_cons k r q = refl

  first_nil : (k : ℕ) → first_row is k [] ≡ absent
  unfolding first_row
  first_nil k = refl

  pub first_here : (k : ℕ) (r : Row) (q : List Row) → is r ≡ true → first_row is k (r ∷ q) ≡ row k
  first_here k r q e = first_cons k r q ∙ rw e

  pub first_next : (k : ℕ) (r : Row) (q : List Row) → is r ≡ false → first_row is k (r ∷ q) ≡ first_row is (suc k) q
  first_next k r q e = first_cons k r q ∙ rw e

  pub first_none : (k : ℕ) (q : List Row) → None q → first_row is k q ≡ absent
  first_none k [] h = first_nil k
  first_none k (r ∷ q) h = first_next k r q h.0 ∙ first_none (suc k) q h.1

  pub first_behind : (k m : ℕ) (p q : List Row) → k + length p ≡ m → None p → first_row is k (p ++ q) ≡ first_row is m q
  first_behind k m [] q e h = let z : k ≡ m = omega (arith, e) in rw z
  first_behind k m (r ∷ p) q e h = first_next k r (p ++ q) h.0 ∙ first_behind (suc k) m p q (omega (arith, e)) h.1

  pub first_before : (k : ℕ) (p q : List Row) → None q → first_row is k (p ++ q) ≡ first_row is k p
  first_before k [] q h = first_none k q h ∙ sym (first_nil k)
  first_before k (r ∷ p) q h = first_cons k r (p ++ q) ∙ ap (cond (is r) (row k)) (first_before (suc k) p q h) ∙ sym (first_cons k r p)

  pub first_kept : (k m : ℕ) (p q : List Row) → first_row is k p ≡ row m → first_row is k (p ++ q) ≡ row m
  first_kept k m [] q e = let z : absent ≡ row m = sym (first_nil k) ∙ e in let y : ◌≡◌ {A = ℕ} 0 1 = cc in absurd (omega arith)
  first_kept k m (r ∷ p) q e = go (is r) refl (first_kept (suc k) m p q)
    where
      go : (b : Bool) → is r ≡ b → (first_row is (suc k) p ≡ row m → first_row is (suc k) (p ++ q) ≡ row m) → first_row is k (r ∷ (p ++ q)) ≡ row m
      go true w ih = first_here k r (p ++ q) w ∙ sym (first_here k r p w) ∙ e
      go false w ih = first_next k r (p ++ q) w ∙ ih (sym (first_next k r p w) ∙ e)

-- the row at which instance j + 1 begins
unfoldable pub start_of : List ℕ → ℕ → Found
start_of [] j = absent
start_of (k ∷ l) zero = row k
start_of (k ∷ l) (suc j) = start_of l j

-- a row of the group with count row c, or of one whose count row is from lo to below hi
abbrev pub In : ℕ → ℕ → ℕ → (ℕ → ℕ → Type 0) → Row → Type 0
In c lo hi J r = ((r.count_row ≡ c) × J r.instance r.tag) ⊎ ((lo ≤ r.count_row) × (r.count_row < hi))

abbrev pub FoundAt : ℕ → List Row → ℕ → Row → Type 0
FoundAt k s m r = first_row (of_key r.count_row r.instance r.tag) k s ≡ row m

pub record Walks (lo k : ℕ) (s : List Row) (g : Group) : Type 0 where
  pub low : lo ≤ g.row
  pub high : g.row < k + length s
  pub each : (j : ℕ) → first_row (of_group g.row (suc j)) k s ≡ start_of g.starts j
  pub many : length g.starts ≡ g.number
  pub fit : length g.starts ≤ length s

-- a stretch of rows from number k on
pub record Stretch (c lo k : ℕ) (J : ℕ → ℕ → Type 0) (s : List Row) (l : List Group) : Type 0 where
  pub rows : Rows (In c lo (k + length s) J) s
  pub groups : Groups (Walks lo k s) l
  pub finds : Numbered (FoundAt k s) k s

other_group : (c j : ℕ) (r : Row) → (r.count_row ≡ c → ⊥) → of_group c j r ≡ false
other_group c j r n = rw (ne_eqb r.count_row c n)

other_key : (c j t : ℕ) (r : Row) → (r.count_row ≡ c → r.instance ≡ j → r.tag ≡ t → ⊥) → of_key c j t r ≡ false
other_key c j t r n = to_false (of_key c j t r) (λ e.
    let g = and_left (of_group c j r) _ e in
    n (eqb-true r.count_row c (and_left (eqb r.count_row c) _ g)) (eqb-true r.instance j (and_right (eqb r.count_row c) _ g)) (eqb-true r.tag t (and_right (of_group c j r) _ e)))

-- two stretches, one behind the other
module _ (c lo k m : ℕ) (J K L : ℕ → ℕ → Type 0) (s q : List Row) (a b : List Group) (x : Stretch c lo k J s a) (y : Stretch c m m K q b)
    (em : k + length s ≡ m) (low : c < lo) (mid : lo ≤ m) (apart : (i t : ℕ) → J i t → K i t → ⊥)
    (first : (i t : ℕ) → J i t → L i t) (second : (i t : ℕ) → K i t → L i t) where
  len : length (s ++ q) ≡ length s + length q
  len = length-append s q

  joined_rows : Rows (In c lo (k + length (s ++ q)) L) (s ++ q)
  joined_rows =
      rows_join (In c lo (k + length (s ++ q)) L) s q
      (rows_map (In c lo (k + length s) J) (In c lo (k + length (s ++ q)) L) (λ r h. ⊎_elim (λ h. inl (h.0, first r.instance r.tag h.1)) (λ h. inr (h.0, omega (arith, h.1, len))) h) s x.rows)
      (rows_map (In c m (m + length q) K) (In c lo (k + length (s ++ q)) L) (λ r h. ⊎_elim (λ h. inl (h.0, second r.instance r.tag h.1)) (λ h. inr (omega (arith, h.0, mid), omega (arith, h.1, len, em))) h) q y.rows)

  joined_groups : Groups (Walks lo k (s ++ q)) (a ++ b)
  joined_groups =
      groups_join (Walks lo k (s ++ q)) a b
      (groups_map (Walks lo k s) (Walks lo k (s ++ q)) left a x.groups)
      (groups_map (Walks m m q) (Walks lo k (s ++ q)) right b y.groups)
    where
      left : (g : Group) → Walks lo k s g → Walks lo k (s ++ q) g
      left g h = record {
        low = h.low;
        high = omega (arith, h.high, len);
        each = λ j.
            first_before (of_group g.row (suc j)) k s q
            (rows_map (In c m (m + length q) K) (λ r. of_group g.row (suc j) r ≡ false) (λ r w. other_group g.row (suc j) r (λ e. ⊎_elim (λ w. absurd (omega (arith, w.0, e, h.low, low))) (λ w. absurd (omega (arith, w.0, e, h.high, em))) w)) q y.rows)
            ∙ h.each j;
        many = h.many;
        fit = omega (arith, h.fit, len);
      }

      right : (g : Group) → Walks m m q g → Walks lo k (s ++ q) g
      right g h = record {
        low = omega (arith, h.low, mid);
        high = omega (arith, h.high, len, em);
        each = λ j.
            first_behind (of_group g.row (suc j)) k m s q em
            (rows_map (In c lo (k + length s) J) (λ r. of_group g.row (suc j) r ≡ false) (λ r w. other_group g.row (suc j) r (λ e. ⊎_elim (λ w. absurd (omega (arith, w.0, e, h.low, low, mid))) (λ w. absurd (omega (arith, w.1, e, h.low, em))) w)) s x.rows)
            ∙ h.each j;
        many = h.many;
        fit = omega (arith, h.fit, len);
      }

  joined_finds : Numbered (FoundAt k (s ++ q)) k (s ++ q)
  joined_finds =
      numbered_join (FoundAt k (s ++ q)) k m s q em
      (numbered_map (FoundAt k s) (FoundAt k (s ++ q)) (λ n r h. first_kept (of_key r.count_row r.instance r.tag) k n s q h) k s x.finds)
      (numbered_map (λ n r. In c m (m + length q) K r × FoundAt m q n r) (FoundAt k (s ++ q)) (λ n r h. behind r n h.0 h.1) m q
      (numbered_both (In c m (m + length q) K) (FoundAt m q) m q y.rows y.finds))
    where
      unlike : (r z : Row) → In c m (m + length q) K r → In c lo (k + length s) J z → z.count_row ≡ r.count_row → z.instance ≡ r.instance → z.tag ≡ r.tag → ⊥
      unlike r z (inl h) (inl w) e i t = apart z.instance z.tag w.1 (rw (i, t) h.1)
      unlike r z (inl h) (inr w) e i t = omega (arith, h.0, w.0, e, low)
      unlike r z (inr h) (inl w) e i t = omega (arith, h.0, w.0, e, low, mid)
      unlike r z (inr h) (inr w) e i t = omega (arith, h.0, w.1, e, em)

      behind : (r : Row) (n : ℕ) → In c m (m + length q) K r → FoundAt m q n r → FoundAt k (s ++ q) n r
      behind r n h w =
          first_behind (of_key r.count_row r.instance r.tag) k m s q em
          (rows_map (In c lo (k + length s) J) (λ z. of_key r.count_row r.instance r.tag z ≡ false) (λ z v. other_key r.count_row r.instance r.tag z (unlike r z h v)) s x.rows)
          ∙ w

  pub joined : Stretch c lo k L (s ++ q) (a ++ b)
  joined = record { rows = joined_rows; groups = joined_groups; finds = joined_finds }
