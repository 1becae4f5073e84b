-- Where the frame of a message is refused. Of any book. Assumes nothing.
use mathlib.Core.Path.{◌≡◌, refl, sym, ap, ◌∙◌}
use mathlib.Core.Bool.{Bool, true, false, cond, ◌&&◌}
use mathlib.Core.List.{List, [], ◌∷◌, ◌++◌}
use mathlib.Core.Logic.{◌⊎◌, inl, inr}
use Prim.Native.Nat.{ℕ, ◌-◌, ◌%◌, ◌≤◌}
use native.Mathlib.Omega.{arith}
use lib.Dec.{eqb, leb}
use lib.ListN.{length, take, drop, length-append, length-drop, take-append-drop}
use borrow.Author.Tests.{leb-true}
use Rattle.numbers.specs.Bytes.{total, some}
use Rattle.numbers.specs.Decimal.{digits, value}
use Rattle.book.specs.Records.{Record, LookUp, nothing, found, message_of}
use Rattle.message.specs.Written.{header}
use Rattle.message.specs.Permitted.{versions, among}
use Rattle.reader.specs.Fields.{Cut, uncut, cut_at}
use Rattle.reader.specs.Frame.{Framed, framed, misframed, field, listed_as, type_of, sum_of, count_of, version_of, frame}
use Rattle.bridge.proofs.Framing.{field_true, frame_is}

-- number, and the bytes from the place on
pub data Misframed (s : List ℕ) (n : ℕ) (r : List ℕ) : Type 0 where
  at_3 : n ≡ 3 → r ≡ s → Misframed s n r
  at_4 : n ≡ 4 → (W : List ℕ) → among W versions ≡ true → s ≡ 56 ∷ 61 ∷ (W ++ (1 ∷ r)) → Misframed s n r
  at_end : (n ≡ 5) ⊎ (n ≡ 6) → length r ≡ 7 → 7 ≤ length s → Misframed s n r
  at_7 : n ≡ 7 → (W N : List ℕ) → among W versions ≡ true → s ≡ header W N r → 7 ≤ length r → Misframed s n r

abbrev pub Breaks : List ℕ → Framed → Type 0
Breaks s (framed W N T P b z) = Unit {0}
Breaks s (misframed n r) = Misframed s n r

module _ (B : List Record) (s : List ℕ) where
  type_breaks : (q W N z : List ℕ) (c : Cut) → among W versions ≡ true → s ≡ header W N q → 7 ≤ length q → Breaks s (type_of B q W N z c)
  unfolding type_of
  type_breaks q W N z uncut v e l = at_7 refl W N v e l
  type_breaks q W N z (cut_at T b) v e l = go (some T) (message_of B T)
    where
      go : (a : Bool) (u : LookUp) → Breaks s (cond a (listed_as B q W N z T b u) (misframed 7 q))
      go false u = at_7 refl W N v e l
      go true nothing = unfold listed_as in at_7 refl W N v e l
      go true (found r) = unfold listed_as in tt

  sum_breaks : (tail W N front : List ℕ) (c : Cut) → among W versions ≡ true → s ≡ header W N (front ++ tail) → length tail ≡ 7 → 7 ≤ length s
      → Breaks s (sum_of B tail W N front c)
  unfolding sum_of
  sum_breaks tail W N front uncut v e l m = at_end (inl refl) l m
  sum_breaks tail W N front (cut_at z (x ∷ r)) v e l m = at_end (inl refl) l m
  sum_breaks tail W N front (cut_at z []) v e l m = go (eqb (length z) 3 && digits z) (eqb (value z) (total (header W N front) % 256))
    where
      go : (a b : Bool)
          → Breaks s (cond a (cond b (type_of B (front ++ tail) W N z (field (51 ∷ 53 ∷ 61 ∷ []) front)) (misframed 6 tail)) (misframed 5 tail))
      go false b = at_end (inl refl) l m
      go true false = at_end (inr refl) l m
      go true true = type_breaks (front ++ tail) W N z (field (51 ∷ 53 ∷ 61 ∷ []) front) v e (omega (arith, length-append front tail, l))

  long_behind : (W N r : List ℕ) → s ≡ header W N r → 7 ≤ length r → 7 ≤ length s
  long_behind W N r e h = rw e (omega (arith, length-append W (1 ∷ 57 ∷ 61 ∷ (N ++ (1 ∷ r))), length-append N (1 ∷ r)))

  -- q behind field 8
  count_breaks : (q W : List ℕ) (c : Cut) → among W versions ≡ true → s ≡ 56 ∷ 61 ∷ (W ++ (1 ∷ q)) → field (57 ∷ 61 ∷ []) q ≡ c → Breaks s (count_of B q W c)
  unfolding count_of
  count_breaks q W uncut v e ec = at_4 refl W v e
  count_breaks q W (cut_at N r) v e ec = go (some N && digits N) refl (leb 7 (length r)) refl (eqb (value N) (length r - 7)) refl
    where
      whole : s ≡ header W N r
      whole = e ∙ ap (λ x. 56 ∷ 61 ∷ (W ++ (1 ∷ x))) (field_true (57 ∷ 61 ∷ []) q N r ec).0

      go : (a : Bool) → (some N && digits N) ≡ a → (b : Bool) → leb 7 (length r) ≡ b → (d : Bool) → eqb (value N) (length r - 7) ≡ d
          → Breaks s
          (cond (a && b && d)
          (sum_of B (drop (length r - 7) r) W N (take (length r - 7) r) (field (49 ∷ 48 ∷ 61 ∷ []) (drop (length r - 7) r)))
          (misframed 4 q))
      go false p b p₂ d p₃ = at_4 refl W v e
      go true p false p₂ d p₃ = at_4 refl W v e
      go true p true p₂ false p₃ = at_4 refl W v e
      go true p true p₂ true p₃ =
          let h = leb-true 7 (length r) p₂ in
          sum_breaks (drop (length r - 7) r) W N (take (length r - 7) r) (field (49 ∷ 48 ∷ 61 ∷ []) (drop (length r - 7) r)) v
          (whole ∙ ap (header W N) (sym (take-append-drop (length r - 7) r))) (omega (arith, length-drop (length r - 7) r)) (long_behind W N r whole h)

  version_breaks : (c : Cut) → field (56 ∷ 61 ∷ []) s ≡ c → Breaks s (version_of B s c)
  unfolding version_of
  version_breaks uncut ec = at_3 refl refl
  version_breaks (cut_at W r) ec = go (among W versions) refl
    where
      go : (b : Bool) → among W versions ≡ b → Breaks s (cond b (count_of B r W (field (57 ∷ 61 ∷ []) r)) (misframed 3 s))
      go false p = at_3 refl refl
      go true p = count_breaks r W (field (57 ∷ 61 ∷ []) r) p (field_true (56 ∷ 61 ∷ []) s W r ec).0 refl

  pub frame_breaks : Breaks s (frame B s)
  frame_breaks = rw (frame_is B s) (version_breaks (field (56 ∷ 61 ∷ []) s) refl)
