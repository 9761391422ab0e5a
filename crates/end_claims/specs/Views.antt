-- How the code holds the texts that definitions speak of.
use Rattle.end_claims.specs.declared.reading.Sides.{Sides as Held}
use Rattle.end_claims.specs.Reading.{Sides}

-- the sides of a comparison, borrowed from a text
abbrev pub sides_seen : Held → Sides
sides_seen sides = record { left = sides.left.now; by = sides.by; right = sides.right.now }
