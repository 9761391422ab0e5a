use Rattle.std.proofs.Common.{ap, arith, subst}
use Rattle.clock_core.specs.Counts.{no_counts}
use Rattle.race_log.specs.Sources.{log_edges}
use Rattle.replay_core.specs.Play.{instr}
use Rattle.replay_core.specs.Sources.{AreSources}
use Rattle.rv_core.specs.declared.core_state.Core.{Core}
use Rattle.replay_table.specs.Seats.{Sitting}
use Rattle.replay_table.proofs.seat.CoreSeat.free_to.Goals as goal

pub returns-clause-free : goal.returns-clause-free
returns-clause-free g c n from to =
    let h = c.self.invariant.1 in
    let count = ap (λ (x : Sitting). x.core.count) c.self.view_is in
    let at = ap (λ (x : Core). x.count) c.core-core.ensures in
    let is = c.count.ensures in
    subst (λ (x : Sitting). AreSources (log_edges g.J.Job.which g.J.Job.recording) (instr x.core.id n) no_counts)
    c.self.view_is
    (c.free_to-free.ensures g.J.Job.which g.J.Job.recording c.self.inside.past.core n h.valid h.upcoming
    (omega (arith, from)) (omega (arith, to, c.min.ensures)))
