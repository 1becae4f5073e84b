-- What an arrangement is written out. Everything is put in front of the bytes r that follow. Assumes nothing.
use Rattle.std.specs.Prelude.{ℕ, zero, suc, List, [], ◌∷◌, ◌++◌}
use Rattle.numbers.specs.Decimal.{render}
use Rattle.message.specs.Arrangement.{Piece, single, pair, Node, leaf, count, Item, Items, Arrangement}

-- tag, `=`, value, `|`
unfoldable pub put_field : ℕ → List ℕ → List ℕ → List ℕ
unfolding render
put_field t v r = render t ++ (61 ∷ (v ++ (1 ∷ r)))

unfoldable pub put : Piece → List ℕ → List ℕ
unfolding put_field
put (single t v) r = put_field t v r
put (pair l w d v) r = put_field l w (put_field d v r)

module _ {I : Type 0} (put : I → List ℕ → List ℕ) where
  unfoldable pub put_all : List I → List ℕ → List ℕ
  put_all [] r = r
  put_all (i ∷ l) r = put i (put_all l r)

unfoldable pub put_node : {I : Type 0} → (I → List ℕ → List ℕ) → Node I → List ℕ → List ℕ
put_node below (leaf k) r = put k r
put_node below (count t v l) r = put (single t v) (put_all (put_all below) l r)

unfoldable pub put_item : (d : ℕ) → Item d → List ℕ → List ℕ
put_item zero i r = absurd i
put_item (suc d) n r = put_node (put_item d) n r

unfoldable pub body : Items → List ℕ
unfolding put_item put_node put_all put
body a = put_all (put_item 5) a []

-- 8=V|9=N| in front of r, 35=T| in front of r, and 10=ddd|
abbrev pub header : List ℕ → List ℕ → List ℕ → List ℕ
header W N r = 56 ∷ 61 ∷ (W ++ (1 ∷ 57 ∷ 61 ∷ (N ++ (1 ∷ r))))

abbrev pub type_field : List ℕ → List ℕ → List ℕ
type_field T r = 51 ∷ 53 ∷ 61 ∷ (T ++ (1 ∷ r))

abbrev pub trailer : List ℕ → List ℕ
trailer z = 49 ∷ 48 ∷ 61 ∷ (z ++ (1 ∷ []))

-- what N counts: the bytes after the `|` of field 9 up to those seven of field 10
abbrev pub counted : Arrangement → List ℕ
counted A = type_field A.type (body A.items)

-- what ddd sums: all bytes before `10=`
abbrev pub summed : Arrangement → List ℕ
summed A = header A.version A.body_length (counted A)

unfoldable pub written : Arrangement → List ℕ
unfolding body
written A = header A.version A.body_length (counted A ++ trailer A.check_sum)
