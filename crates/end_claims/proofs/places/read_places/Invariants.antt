use Rattle.std.proofs.Common.{◌≡◌, drop, map, []}
use Rattle.std.specs.List.{flat_map, fold}
use Rattle.std.specs.Option.{option_map}
use Rattle.end_claims.specs.Named.{with_place}
use Rattle.end_claims.specs.Reading.{each, places_part}
use Rattle.end_claims.proofs.places.read_places.Given as goal

-- with what the pieces that are left name, these are all places
abbrev pub invariant-loop-k : goal.invariant-loop-k
invariant-loop-k l =
    option_map (λ parts. fold with_place l.places (flat_map (λ part. part) parts))
    (each (places_part l.cores) (map (λ piece. piece.now) (drop l.k l.pieces.items)))
    ≡ option_map (λ parts. fold with_place [] (flat_map (λ part. part) parts))
    (each (places_part l.cores) (map (λ piece. piece.now) l.pieces.items))
