-- The near misses, by computation, so that each clause of `permitted`, and not only the shape of a proof, is what guards it: an edit of a
-- clause is refused here. Assumes nothing.
use Rattle.std.specs.Prelude.{◌≡◌, refl, true, false, [], ◌∷◌, map, replicate}
use Rattle.numbers.specs.Bytes.{bytes, total, free, mem}
use Rattle.numbers.specs.Decimal.{digits, value_from}
use Rattle.message.specs.Written.{body}
use Rattle.message.specs.Permitted.{permitted}
use Rattle.message.specs.NearMisses.{book, odd, f, under, unspoiled, near_misses, odd_misses, x}

pub near_misses_lem : (map (permitted book) unspoiled ≡ replicate 7 true) × (map (permitted book) near_misses ≡ replicate 38 false)
    × (map (permitted odd) (x (f 11 "A" ∷ []) ∷ unspoiled) ≡ replicate 8 true) × (map (permitted odd) odd_misses ≡ replicate 7 false)
unfolding unspoiled near_misses odd_misses book odd permitted body digits value_from total free mem bytes under
near_misses_lem = (refl, refl, refl, refl)
