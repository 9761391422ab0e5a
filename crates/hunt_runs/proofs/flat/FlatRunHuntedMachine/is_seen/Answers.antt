use Rattle.std.proofs.Common.{◌∙◌, ap, subst, sym}
use Rattle.flat_machine.specs.declared.machine.FlatMachine.{FlatMachine}
use Rattle.hunt_runs.specs.FlatSeen.{FlatRuns, seen_of}
use Rattle.hunt_runs.specs.PlainSeen.{seen_of as plain_seen_of}
use Rattle.hunt_runs.proofs.FlatMarks.{seen_is}
use Rattle.hunt_runs.proofs.flat.FlatRunHuntedMachine.is_seen.Goals as goal

pub returns-clause-seen : goal.returns-clause-seen
returns-clause-seen c = λ image params schedule t rest at.
    let m = c.self.inside.machine in
    let runs = subst (λ (x : FlatMachine). FlatRuns x.flat image params schedule t rest) (sym c.self.view_is) at in
    ap seen_of (sym c.self.view_is) ∙ (seen_is m runs.s runs.memory runs.stands c.self.invariant.1
    ∙ ap plain_seen_of runs.runs.state)
