use Rattle.std.proofs.Common.{◌≡◌, drop, length, true}
use Rattle.end_claims.specs.Ends.{have_values}
use Rattle.end_claims.specs.Named.{are_within}
use Rattle.end_claims.proofs.asking.has_values.Given as goal

-- all have their values where those that are left do, and the end has them
abbrev pub invariant-loop-k : goal.invariant-loop-k
invariant-loop-k g l = let end = g.E.EndView.end l.end in record {
  same : have_values end l.places l.values ≡ have_values end (drop l.k l.places) (drop l.k l.values);
  has : are_within (length end.cores) end.image.words (drop l.k l.places) ≡ true;
}
