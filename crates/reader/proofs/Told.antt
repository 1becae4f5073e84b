-- What an answer tells, by number, place, tag and count: it tells all of itself, so that one answer at most meets a reading's contract.
-- Assumes nothing.
use mathlib.Core.Path.{◌≡◌, refl, sym, ap, ◌∙◌}
use mathlib.Core.Bool.{false, cond}
use mathlib.Core.List.{List, [], ◌∷◌}
use Prim.Native.Nat.{ℕ, ◌-◌, ◌≤◌}
use native.Mathlib.Omega.{arith}
use borrow.Author.Tests.{eqb-false}
use lib.Dec.{eqb}
use lib.ListN.{length}
use Rattle.std.specs.Prelude.{Result, Ok, Err, get_or}
use Rattle.message.specs.Rows.{Row}
use Rattle.reader.specs.declared.refusal.Refused.{Refused}
use Rattle.reader.specs.declared.refusal.Refusal.{Refusal}
use Rattle.reader.specs.declared.refusal.Refusal.TheVariants as Case
use Rattle.reader.specs.Refusals.{number, tag_of}
use Rattle.reader.specs.Answers.{told_by}
use Rattle.reader.specs.Reading.{Answer, gives, refused, Told, told}

-- the refusal of a number and a tag, in the order of their numbers from 1 on
abbrev refusal_of : ℕ → ℕ → Refusal
refusal_of n t =
    get_or
    (Case.Book
    ∷ Case.Size
    ∷ Case.Version
    ∷ Case.Length
    ∷ Case.Closing
    ∷ Case.Sum
    ∷ Case.Type
    ∷ Case.Form
    ∷ Case.Place
    ∷ Case.Twice
    ∷ Case.Datatype
    ∷ Case.Pair
    ∷ Case.Instances
    ∷ Case.Missing t
    ∷ Case.Room
    ∷ [])
    (n - 1)
    Case.Book

-- no refusal has number 0, which is that of an acceptance
refusal_back : (r : Refusal) → (eqb (number r) 0 ≡ false) × (refusal_of (number r) (tag_of r) ≡ r)
refusal_back Case.Book = (refl, refl)
refusal_back Case.Size = (refl, refl)
refusal_back Case.Version = (refl, refl)
refusal_back Case.Length = (refl, refl)
refusal_back Case.Closing = (refl, refl)
refusal_back Case.Sum = (refl, refl)
refusal_back Case.Type = (refl, refl)
refusal_back Case.Form = (refl, refl)
refusal_back Case.Place = (refl, refl)
refusal_back Case.Twice = (refl, refl)
refusal_back Case.Datatype = (refl, refl)
refusal_back Case.Pair = (refl, refl)
refusal_back Case.Instances = (refl, refl)
refusal_back (Case.Missing t) = (refl, refl)
refusal_back Case.Room = (refl, refl)

abbrev answer_of : Told → Result ℕ Refused
answer_of T = cond (eqb T.number 0) (Ok T.count) (Err (record { why = refusal_of T.number T.tag; at = T.place }))

answer_back : (x : Result ℕ Refused) → answer_of (told_by x) ≡ x
answer_back (Ok n) = refl
answer_back (Err r) = let h = refusal_back r.why in rw (h.0, h.1)

pub told_by_injective : (x y : Result ℕ Refused) → told_by x ≡ told_by y → x ≡ y
told_by_injective x y e = sym (answer_back x) ∙ ap answer_of e ∙ answer_back y

-- two answers that both meet a reading's contract are the same
pub one_answer : (x y : Result ℕ Refused) (A : Answer (List Row)) → told_by x ≡ told length A → told_by y ≡ told length A → x ≡ y
one_answer x y A e f = told_by_injective x y (e ∙ sym f)

-- an answer that tells of a refusal tells its number, place and tag
pub told_err : (r : Refused) (A : Answer (List Row)) → told_by (Err r) ≡ told length A → A ≡ refused (number r.why) r.at (tag_of r.why)
unfolding told
told_err r (gives q) e = absurd (let n : number r.why ≡ 0 = ap (λ T. T.number) e in eqb-false (number r.why) 0 (refusal_back r.why).0 n)
told_err r (refused n p t) e =
    let a : number r.why ≡ n = ap (λ T. T.number) e in
    let b : r.at ≡ p = ap (λ T. T.place) e in
    let c : tag_of r.why ≡ t = ap (λ T. T.tag) e in
    rw (a, b, c)

-- and one that tells of an acceptance tells the count of the rows, if each refusal has a number
pub told_ok : (n : ℕ) (A : Answer (List Row)) → told_by (Ok n) ≡ told length A → ((m p t : ℕ) → A ≡ refused m p t → 1 ≤ m)
    → (q : List Row) × (A ≡ gives q) × (n ≡ length q)
unfolding told
told_ok n (gives q) e some = (q, refl, ap (λ T. T.count) e)
told_ok n (refused m p t) e some =
    absurd (let z : 0 ≡ m = ap (λ T. T.number) e in let y : 1 ≤ m = some m p t refl in omega arith)
