use Rattle.std.proofs.Common.{◌≡◌}
use Rattle.std.specs.List.{fold}
use Rattle.end_claims.specs.Named.{all_ended, with_place}
use Rattle.end_claims.proofs.naming.put_all_ended.Given as goal

-- the cores so far are put
abbrev pub invariant-loop-core : goal.invariant-loop-core
invariant-loop-core l = l.places ≡ fold with_place l.fn.places (all_ended l.core)
