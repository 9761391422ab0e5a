use Rattle.std.proofs.Common.{◌∙◌, ap, sym, arith}
use Rattle.std.proofs.lemmas.Bool.{le-ltb}
use Rattle.rtr_types.specs.declared.TheConstants.{CORES_MAX}
use Rattle.turn_lists.specs.declared.actor.Actor.{Actor}
use Rattle.turn_policies.proofs.SetMembers.{has_past}
use Rattle.hunt_runs.specs.Directing.{is_round}
use Rattle.hunt_runs.proofs.director.is_round.Goals as goal

pub returns-else-core-lt-CORES_MAX : goal.returns-else-core-lt-CORES_MAX
returns-else-core-lt-CORES_MAX c =
    let past = c.if-core-lt-CORES_MAX.false in
    le-ltb c.in-Core.core CORES_MAX past ∙ sym (has_past c.args.round c.in-Core.core (omega arith) past)
    ∙ ap (λ (a : Actor). is_round c.args.round a) (sym c.in-Core.is)
