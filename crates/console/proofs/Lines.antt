-- Laws of the lines: a number's text, what is left of a line and of the rows while they are put, and the rows of a reading. Assumes nothing.
use Rattle.std.proofs.Common.{◌≡◌, refl, sym, ap, ◌∙◌, ℕ, zero, suc, ◌+◌, ◌*◌, ◌/◌, ◌%◌, ◌^◌, ◌<◌, ◌≤◌, true, false, List, [], ◌∷◌, ◌++◌, length, take, drop, min, eqb, leb, append_assoc, add-one, arith, drop-cons, length-drop, length-take, get_or, map, drop_of_length-le, le-leb, lit<}
use Rattle.std.specs.Fmt.{decimal}
use Rattle.std.specs.Array.{IsMapOf}
use Rattle.std.specs.Fn.{Mut, Called}
use Rattle.std.specs.Simd.{first_chunks}
use Rattle.std.proofs.lemmas.Bool.{lt-leb}
use Rattle.std.proofs.lemmas.List.{append-nil, get_or-take, ext_get_or}
use Rattle.std.proofs.lemmas.Fmt.{PrependsLastDigit, decimal_from_prepends, length-decimal-le_succ}
use borrow.Author.Tests.{eq-eqb, ne_eqb}
use Rattle.numbers.specs.Bytes.{bytes}
use Rattle.numbers.specs.Decimal.{render_onto, render}
use Rattle.message.specs.Rows.{Row, flat}
use Rattle.reader.specs.Reading.{gives}
use Rattle.console.specs.Program.{line, row_lines, lines}
use Rattle.console.specs.Rows.{row_from, rows_in}

-- the definition puts digits as std does, the last one first
onto : PrependsLastDigit render_onto
unfolding render_onto
onto = record {
  one = λ k n acc h. let e : eqb (n / 10) 0 ≡ true = eq-eqb (n / 10) 0 (omega arith) in let d : 48 + n % 10 ≡ 48 + n = omega arith in rw (e, render_onto, d);
  more = λ k n acc h. let e : eqb (n / 10) 0 ≡ false = ne_eqb (n / 10) 0 (omega arith) in rw (e, render_onto);
}

-- what std writes for a number
pub decimal_is : (n : ℕ) → n < 2 ^ 64 → decimal n ≡ render n
unfolding render
decimal_is n h = sym (decimal_from_prepends render_onto onto (suc n) n [] h (omega (arith, length-decimal-le_succ n h)) ∙ append-nil (decimal n))

-- what stands behind a number in a line
abbrev behind : List ℕ → List ℕ
behind [] = 10 ∷ []
behind (m ∷ l) = 32 ∷ line (m ∷ l)

-- a line from its number i on, with the space before it
abbrev pub line_left : ℕ → List ℕ → List ℕ
line_left zero s = line s
line_left (suc i) s = behind (drop (suc i) s)

line_first : (n : ℕ) (l : List ℕ) → line (n ∷ l) ≡ render n ++ behind l
unfolding line
line_first n [] = refl
line_first n (m ∷ l) = refl

pub line_start : (s : List ℕ) → 0 < length s → line s ≡ render (get_or s 0 0) ++ line_left 1 s
line_start [] h = absurd (omega arith)
line_start (n ∷ l) h = line_first n l

pub line_next : (i : ℕ) (s : List ℕ) → 0 < i → i < length s → line_left i s ≡ 32 ∷ (render (get_or s i 0) ++ line_left (i + 1) s)
line_next zero s p h = absurd (omega arith)
line_next (suc i) s p h = rw (add-one, drop-cons s (suc i) 0 h) (ap (32 ∷◌) (line_first (get_or s (suc i) 0) (drop (suc (suc i)) s)))

pub line_end : (i : ℕ) (s : List ℕ) → length s ≤ i → line_left i s ≡ 10 ∷ []
unfolding line
line_end zero [] h = refl
line_end zero (n ∷ l) h = absurd (omega arith)
line_end (suc i) s h = rw (drop_of_length-le s h)

-- the loop that puts a line: the text so far, and what is left of the line
module _ (old out s : List ℕ) (i : ℕ) (inv : out ++ line_left i s ≡ old ++ line s) where
  pub put_first : i ≡ 0 → i < length s → (out ++ render (get_or s i 0)) ++ line_left (i + 1) s ≡ old ++ line s
  put_first e h =
      let k : line_left i s ≡ render (get_or s i 0) ++ line_left (i + 1) s = rw e (line_start s (rw e at h)) in
      append_assoc out (render (get_or s i 0)) (line_left (i + 1) s) ∙ ap (out ++◌) (sym k) ∙ inv

  pub put_next : 0 < i → i < length s → ((out ++ 32 ∷ []) ++ render (get_or s i 0)) ++ line_left (i + 1) s ≡ old ++ line s
  put_next p h =
      append_assoc (out ++ 32 ∷ []) (render (get_or s i 0)) (line_left (i + 1) s)
      ∙ append_assoc out (32 ∷ []) (render (get_or s i 0) ++ line_left (i + 1) s)
      ∙ ap (out ++◌) (sym (line_next i s p h))
      ∙ inv

  pub put_end : length s ≤ i → out ++ 10 ∷ [] ≡ old ++ line s
  put_end h = ap (out ++◌) (sym (line_end i s h)) ∙ inv

-- six of a list that goes on
row_take : (l : List ℕ) → row_from (take 6 l) ≡ row_from l
row_take l = rw (get_or-take 6 l 0 0 (lit< tt), get_or-take 6 l 1 0 (lit< tt), get_or-take 6 l 2 0 (lit< tt), get_or-take 6 l 3 0 (lit< tt), get_or-take 6 l 4 0 (lit< tt), get_or-take 6 l 5 0 (lit< tt))

-- a row's numbers
six : (l : List ℕ) → length l ≡ 6 → l ≡ get_or l 0 0 ∷ get_or l 1 0 ∷ get_or l 2 0 ∷ get_or l 3 0 ∷ get_or l 4 0 ∷ get_or l 5 0 ∷ []
six [] h = absurd (omega arith)
six (a ∷ []) h = absurd (omega arith)
six (a ∷ b ∷ []) h = absurd (omega arith)
six (a ∷ b ∷ c ∷ []) h = absurd (omega arith)
six (a ∷ b ∷ c ∷ d ∷ []) h = absurd (omega arith)
six (a ∷ b ∷ c ∷ d ∷ e ∷ []) h = absurd (omega arith)
six (a ∷ b ∷ c ∷ d ∷ e ∷ f ∷ []) h = refl
six (a ∷ b ∷ c ∷ d ∷ e ∷ f ∷ g ∷ l) h = absurd (omega arith)

many : (k : ℕ) (index : List ℕ) → length (first_chunks 6 k index) ≡ k
many zero index = refl
many (suc k) index = ap suc (many k (drop 6 index))

chunk_long : (k i : ℕ) (index : List ℕ) → i < k → 6 * k ≤ length index → length (get_or (first_chunks 6 k index) i []) ≡ 6
chunk_long zero i index h e = absurd (omega arith)
chunk_long (suc k) zero index h e = omega (arith, length-take 6 index)
chunk_long (suc k) (suc i) index h e = chunk_long k i (drop 6 index) (omega arith) (omega (arith, length-drop 6 index))

-- the first n rows are the first n chunks
rows_are : (n k : ℕ) (index : List ℕ) → k ≡ length index / 6 → map row_from (take (min n k) (first_chunks 6 k index)) ≡ rows_in n index
unfolding rows_in
rows_are zero k index e = let z : min 0 k ≡ 0 = omega arith in rw z
rows_are (suc n) zero index e =
    let z : min (suc n) 0 ≡ 0 = omega arith in
    let f : leb 6 (length index) ≡ false = lt-leb 6 (length index) (omega (arith, e)) in
    rw (z, f, rows_in)
rows_are (suc n) (suc k) index e =
    let z : min (suc n) (suc k) ≡ suc (min n k) = omega arith in
    let f : leb 6 (length index) ≡ true = le-leb 6 (length index) (omega (arith, e)) in
    rw (z, f, rows_in, row_take index) (ap (row_from index ∷◌) (rows_are n k (drop 6 index) (omega (arith, e, length-drop 6 index))))

-- the loop that puts the rows of chunks x, m of them: its text so far, and what is left
module _ (n m : ℕ) (index : List ℕ) (x : List (List ℕ)) (chunks : x ≡ first_chunks 6 (length index / 6) index) where
  pub rows_start : m ≡ min n (length x) → map row_from (take m x) ≡ rows_in n index
  rows_start e = rw (e, chunks, many (length index / 6) index) (rows_are n (length index / 6) index refl)

  pub row_long : (i : ℕ) → i < length (take m x) → length (get_or (take m x) i []) ≡ 6
  row_long i h =
      let k : length x ≡ length index / 6 = ap length chunks ∙ many (length index / 6) index in
      rw (get_or-take m x i [] (omega (arith, length-take m x)), chunks) (chunk_long (length index / 6) i index (omega (arith, k, length-take m x)) (omega arith))

  pub rows_next : (i : ℕ) (out new l all : List ℕ) → out ++ row_lines n (map row_from (drop i (take m x))) ≡ all → i < length (take m x)
      → l ≡ get_or (take m x) i [] → new ≡ out ++ line l → new ++ row_lines n (map row_from (drop (i + 1) (take m x))) ≡ all
  unfolding row_lines
  rows_next i out new l all inv h e f =
      let left = drop (suc i) (take m x) in
      let k : row_lines n (map row_from (drop i (take m x))) ≡ line l ++ row_lines n (map row_from left) =
      rw (drop-cons (take m x) i [] h, e) (ap (λ r. line r ++ row_lines n (map row_from left)) (sym (six (get_or (take m x) i []) (row_long i h)))) in
      rw (f, add-one) (append_assoc out (line l) (row_lines n (map row_from left)) ∙ ap (out ++◌) (sym k) ∙ inv)

  pub rows_end : (i : ℕ) (out all : List ℕ) → out ++ row_lines n (map row_from (drop i (take m x))) ≡ all → length (take m x) ≤ i
      → (out ++ 79 ∷ 75 ∷ 32 ∷ []) ++ line (n ∷ []) ≡ all
  unfolding row_lines bytes
  rows_end i out all inv h =
      let k : drop i (take m x) ≡ [] = drop_of_length-le (take m x) h in
      append_assoc out (79 ∷ 75 ∷ 32 ∷ []) (line (n ∷ [])) ∙ rw k at inv

-- an array whose numbers a function leaves as they are
pub map_same : {F : Type 0} (g : Mut F (ℕ × Unit {0}) ℕ) (f : F) (l r : List ℕ) (n : ℕ) → IsMapOf g f l r n → length l ≡ n
    → ((p q : F) (k y : ℕ) → Called g p (k, tt) y q → y ≡ k) → r ≡ l
map_same g f l r n m e each = ext_get_or 0 r l (m.long ∙ sym e) (λ i h. go i (rw m.long at h))
  where
    go : (i : ℕ) → i < n → get_or r i 0 ≡ get_or l i 0
    go i h = let (p, q, ran) = m.at i 0 0 h in each p q (get_or l i 0) (get_or r i 0) ran

-- a reading's rows are the first rows of its index, whatever stands behind them
rows_of_flat : (q : List Row) (r : List ℕ) → rows_in (length q) (flat q ++ r) ≡ q
unfolding rows_in flat
rows_of_flat [] r = refl
rows_of_flat (x ∷ q) r =
    let e : leb 6 (suc (suc (suc (suc (suc (suc (length (flat q ++ r)))))))) ≡ true = le-leb 6 (suc (suc (suc (suc (suc (suc (length (flat q ++ r)))))))) (omega arith) in
    rw (e, rows_in) (ap (x ∷◌) (rows_of_flat q r))

module _ (index r : List ℕ) (q : List Row) (n : ℕ) (e : index ≡ flat q ++ r) (h : length q ≡ n) where
  pub rows_read : rows_in n index ≡ q
  rows_read = rw (e, ← h) (rows_of_flat q r)

  -- so the text that is put is that of the answer
  pub rows_text : row_lines n (rows_in n index) ≡ lines (gives q)
  unfolding lines
  rows_text = rw (rows_read, h)
