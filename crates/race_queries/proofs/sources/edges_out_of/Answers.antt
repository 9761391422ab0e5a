use Rattle.std.proofs.Common.{List, ap, sym, subst, arith}
use Rattle.rtr_types.specs.declared.instr.Instr.{Instr}
use Rattle.race_log.specs.declared.recording.Recording.{Recording}
use Rattle.race_queries.specs.Places.{AreTargetsUpTo}
use Rattle.race_queries.specs.Queries.{AreEdgesOutOf}
use Rattle.race_queries.proofs.Edges.{targets_end, targets_start}
use Rattle.race_queries.proofs.sources.edges_out_of.Goals as goal

pub loop-core-init : goal.loop-core-init
loop-core-init c =
    let a = c.args.audited.now in
    subst (λ (l : List Instr). AreTargetsUpTo a.which a.recording c.args.at 0 0 l) (sym c.new-list.ensures.items)
    (targets_start a.which a.recording c.recording-recording.ensures.valid c.args.at)

pub returns : goal.returns
returns c =
    let a = c.args.audited.now in
    let cores = ap (λ (r : Recording). r.params.cores) c.recording-recording.ensures.recording in
    subst (λ (l : List Instr). AreEdgesOutOf a.which a.recording c.args.at l) (sym c.from_vec.ensures)
    (targets_end a.which a.recording c.recording-recording.ensures.valid c.args.at c.loop-core.core 0
    c.loop-core.list.items c.loop-core.invariant (omega (arith, c.loop-core-test.false)))
