use Rattle.std.proofs.Common.{◌≡◌, ◌++◌, drop, map}
use Rattle.std.specs.Option.{option_map}
use Rattle.end_claims.specs.Reading.{alternative_of, each}
use Rattle.end_claims.proofs.reading.read_claim.Given as goal

-- with what the pieces that are left are, these are all alternatives
abbrev pub invariant-loop-k : goal.invariant-loop-k
invariant-loop-k l =
    option_map (λ more. l.claim ++ more) (each alternative_of (map (λ piece. piece.now) (drop l.k l.pieces.items)))
    ≡ each alternative_of (map (λ piece. piece.now) l.pieces.items)
