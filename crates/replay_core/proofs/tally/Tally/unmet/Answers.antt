use Rattle.std.proofs.Common.{◌+◌, ℕ, List, length, sym, ap, subst, arith}
use Rattle.std.specs.Prelude.{Option}
use Rattle.rtr_types.specs.declared.TheConstants.{CORES_MAX}
use Rattle.rtr_types.proofs.Ranges.{zero_at}
use Rattle.clock_core.specs.Counts.{no_counts}
use Rattle.race_log.specs.Sources.{log_edges}
use Rattle.replay_core.specs.Play.{instr}
use Rattle.replay_core.specs.Sources.{AreSources, sources_in}
use Rattle.replay_core.specs.Tallies.{Tallied, count_of, next_of}
use Rattle.replay_core.proofs.LowCounts.{sourced_in, wanted_here}
use Rattle.replay_core.proofs.tally.Tally.unmet.Goals as goal

pub returns-in-None : goal.returns-in-None
returns-in-None c =
    let u = c.args.self.now in
    let h = c.self.invariant in
    let which = c.self.inside.which in
    let r = c.self.inside.recording.now in
    let counts = c.self.inside.counts.items in
    let all = ap (λ (t : Tallied). length t.plan.totals) c.self.view_is in
    let cores = h.valid.each_core in
    let found : AreSources (log_edges which r) (instr c.args.core (count_of counts c.args.core + 1))
    (sources_in c.index.result.now) =
    wanted_here which r c.self.inside.sources counts c.self.inside.wanted.items c.args.core c.index.result.now
    c.index.result.now h
    (omega (arith, c.requires)) c.index.ensures in
    let none : AreSources (log_edges which r) (instr c.args.core (count_of counts c.args.core + 1)) no_counts =
    subst (λ (o : Option (List ℕ)). AreSources (log_edges which r) (instr c.args.core (count_of counts c.args.core + 1))
    (sources_in o)) c.in-None.is found in
    sourced_in which r u.plan (count_of u.counts) c.args.core (count_of u.counts c.args.core + 1) no_counts h.valid
    (ap (λ (t : Tallied). t.plan) (sym c.self.view_is))
    (subst (λ (t : Tallied). AreSources t.plan.edges (next_of t.counts c.args.core) no_counts) c.self.view_is none)
    (λ i lt. let zero = zero_at CORES_MAX i in omega arith)
