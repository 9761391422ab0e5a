use Rattle.std.proofs.Common.{◌≡◌, ◌++◌, drop, length, true}
use Rattle.end_claims.specs.Ends.{values_at}
use Rattle.end_claims.specs.Named.{are_within}
use Rattle.end_claims.proofs.asking.values_at.Given as goal

-- with the values of the places that are left, these are all values, and the end has them
abbrev pub invariant-loop-k : goal.invariant-loop-k
invariant-loop-k g l = let end = g.E.EndView.end l.end in record {
  same : l.values ++ values_at end (drop l.k l.places) ≡ values_at end l.places;
  has : are_within (length end.cores) end.image.words (drop l.k l.places) ≡ true;
}
