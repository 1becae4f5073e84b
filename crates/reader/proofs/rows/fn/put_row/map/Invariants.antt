use Rattle.std.proofs.Common.{◌≡◌, ◌/◌, ◌%◌, [], ◌∷◌}
use Rattle.reader.proofs.rows.fn.put_row.map.Given as goal

abbrev pub ensures : goal.ensures
ensures l r = r ≡ l.n % 256 ∷ l.n / 256 ∷ []
