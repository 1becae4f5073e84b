-- The program's answer by an input's parts. Assumes nothing.
use Rattle.std.proofs.Common.{◌≡◌, refl, sym, Bool, true, false, ◌+◌, ℕ, List, [], ◌++◌, length, take, drop, ltb}
use Rattle.std.specs.Prelude.{Ok, Err}
use Rattle.numbers.specs.Bytes.{le16}
use Rattle.reader.specs.Reading.{refused, read}
use Rattle.console.specs.declared.input.Cut.{Cut}
use Rattle.console.specs.declared.input.Cut.TheVariants.{Large, Bad}
use Rattle.console.specs.Program.{decided, full_room, lines, printed}
use Rattle.console.specs.Input.{parts, answered, cut_number}

-- whatever the three tests say
by_tests : (a b c : Bool) (book message : List ℕ)
    → elim a [ true ↦ refused 16 0 0 | false ↦ elim b [ true ↦ refused 1 0 0 | false ↦ elim c [ true ↦ refused 16 0 0 | false ↦ read book message full_room ] ] ]
    ≡ answered (elim a [ true ↦ Err Bad | false ↦ elim b [ true ↦ Err Large | false ↦ elim c [ true ↦ Err Bad | false ↦ Ok (book, message) ] ] ])
by_tests true b c book message = refl
by_tests false true c book message = refl
by_tests false false true book message = refl
by_tests false false false book message = refl

pub decided_is : (input : List ℕ) → decided input ≡ answered (parts input)
unfolding decided parts
decided_is input =
    by_tests (ltb (length input) 2) (ltb 16384 (le16 input)) (ltb (length input) (2 + le16 input)) (take (le16 input) (drop 2 input)) (drop (2 + le16 input) input)

-- by an answer in hand
pub decided_ok : (input book message : List ℕ) → parts input ≡ Ok (book, message) → decided input ≡ read book message full_room
decided_ok input book message e = rw (decided_is input, e)

pub decided_err : (input : List ℕ) (c : Cut) → parts input ≡ Err c → decided input ≡ refused (cut_number c) 0 0
decided_err input c e = rw (decided_is input, e)

-- and the text, put behind nothing
pub printed_ok : (input book message old out : List ℕ) → Ok (book, message) ≡ parts input → old ≡ [] → out ≡ old ++ lines (read book message full_room)
    → out ≡ printed input
unfolding printed
printed_ok input book message old out e z h = rw (decided_ok input book message (sym e)) (rw z at h)

pub printed_err : (input old out : List ℕ) (c : Cut) (n : ℕ) → Err c ≡ parts input → n ≡ cut_number c → old ≡ [] → out ≡ old ++ lines (refused n 0 0)
    → out ≡ printed input
unfolding printed
printed_err input old out c n e k z h = rw (decided_err input c (sym e)) (rw (z, k) at h)
