use Rattle.std.proofs.Common.{◌≡◌, ◌++◌, drop, map}
use Rattle.std.specs.Option.{option_map}
use Rattle.end_claims.specs.Reading.{atom_of, each}
use Rattle.end_claims.proofs.reading.alternative_of.Given as goal

-- with what the pieces that are left are, these are all atoms
abbrev pub invariant-loop-k : goal.invariant-loop-k
invariant-loop-k l =
    option_map (λ more. l.atoms ++ more) (each atom_of (map (λ piece. piece.now) (drop l.k l.pieces.items)))
    ≡ each atom_of (map (λ piece. piece.now) l.pieces.items)
