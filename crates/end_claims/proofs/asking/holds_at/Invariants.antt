use Rattle.std.proofs.Common.{◌≡◌, drop, length, true}
use Rattle.end_claims.specs.Meaning.{holds_at}
use Rattle.end_claims.specs.Named.{are_named_within}
use Rattle.end_claims.proofs.asking.holds_at.Given as goal

-- the claim holds where what is left of it does, and the end has what that names
abbrev pub invariant-loop-k : goal.invariant-loop-k
invariant-loop-k g l = let end = g.E.EndView.end l.end in record {
  same : holds_at end l.alternatives ≡ holds_at end (drop l.k l.alternatives);
  has : are_named_within (length end.cores) end.image.words (drop l.k l.alternatives) ≡ true;
}
