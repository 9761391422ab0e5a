use Rattle.std.proofs.Common.{◌≡◌, drop, length, true}
use Rattle.std.specs.List.{list_all}
use Rattle.end_claims.specs.Meaning.{atom_holds}
use Rattle.end_claims.specs.Named.{within}
use Rattle.end_claims.proofs.asking.all_hold.Given as goal

-- all hold where all that are left do, and the end has what these name
abbrev pub invariant-loop-k : goal.invariant-loop-k
invariant-loop-k g l = let end = g.E.EndView.end l.end in record {
  same : list_all (atom_holds end) l.atoms ≡ list_all (atom_holds end) (drop l.k l.atoms);
  has : list_all (within (length end.cores) end.image.words) (drop l.k l.atoms) ≡ true;
}
