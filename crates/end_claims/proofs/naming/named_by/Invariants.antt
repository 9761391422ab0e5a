use Rattle.std.proofs.Common.{◌≡◌, drop, []}
use Rattle.std.specs.List.{flat_map, fold}
use Rattle.end_claims.specs.Named.{named_in, with_place}
use Rattle.end_claims.proofs.naming.named_by.Given as goal

-- with what the alternatives that are left name, these are all places
abbrev pub invariant-loop-k : goal.invariant-loop-k
invariant-loop-k l =
    fold with_place l.places (flat_map (flat_map (named_in l.cores)) (drop l.k l.alternatives))
    ≡ fold with_place [] (flat_map (flat_map (named_in l.cores)) l.alternatives)
