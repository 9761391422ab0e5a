use Rattle.std.proofs.Common.{◌≡◌, ◌∙◌, ◌<◌, ◌^◌, sym, arith, false}
use Rattle.std.specs.Prelude.{nat_lt}
use Rattle.std.proofs.lemmas.Bool.{le-ltb}
use Rattle.rtr_types.specs.declared.TheConstants.{CORES_MAX}
use Rattle.turn_policies.proofs.SetMembers.{has_past}
use Rattle.turn_policies.proofs.actor_set.has_core.Goals as goal

pub returns-else-core-lt-CORES_MAX : goal.returns-else-core-lt-CORES_MAX
returns-else-core-lt-CORES_MAX c =
    let past = c.if-core-lt-CORES_MAX.false in
    le-ltb c.args.core CORES_MAX past ∙ sym (has_past c.args.set c.args.core (omega arith) past)
