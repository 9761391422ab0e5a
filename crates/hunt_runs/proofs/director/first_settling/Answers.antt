use Rattle.std.proofs.Common.{◌∙◌, ◌+◌, ◌-◌, sym}
use Rattle.std.specs.List.{range_with_len}
use Rattle.hunt_runs.specs.Seen.{first_settling}
use Rattle.hunt_runs.proofs.Decisions.{none_first, settles_next}
use Rattle.hunt_runs.proofs.director.first_settling.Goals as goal

pub loop-core-preserved : goal.loop-core-preserved
loop-core-preserved g c =
    let seen = g.M.HuntedMachine.seen c.args.machine.now in
    let k = c.loop-core.core in
    let n = c.args.enabled.cores in
    let found = c.settling-actor.result in
    sym (none_first found (first_settling seen (range_with_len (k + 1) (n - (k + 1))))
    (sym c.is_some.ensures ∙ c.if-is_some.false))
    ∙ settles_next seen k n found c.loop-core-test.true c.settling-actor.ensures.value
    ∙ c.loop-core.invariant
