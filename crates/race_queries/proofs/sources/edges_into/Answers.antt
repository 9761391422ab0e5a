use Rattle.std.proofs.Common.{Global, Vec, List, ◌+◌, ◌∙◌, ap, sym, subst, arith}
use Rattle.rtr_types.specs.declared.instr.Instr.{Instr}
use Rattle.race_log.specs.declared.recording.Recording.{Recording}
use Rattle.race_queries.specs.Places.{AreSourcesUpTo}
use Rattle.race_queries.specs.Queries.{AreEdgesInto}
use Rattle.race_queries.proofs.Edges.{edge_as, sources_end, sources_next, sources_on}
use Rattle.race_queries.proofs.sources.edges_into.Goals as goal
use Rattle.race_queries.proofs.sources.edges_into.Goals.{in-Some+in_ok-push, in_default}

pub loop-core-preserved : goal.loop-core-preserved
loop-core-preserved c =
    let a = c.args.audited.now in
    let which = c.which.ensures in
    let recording = c.recording-recording.ensures.recording in
    let core = c.loop-core.core in
    elim c.match-source.branch [
      | in-Some+in_ok-push w ↦
          subst (λ (l : List Instr). AreSourcesUpTo a.which a.recording c.args.at (core + 1) l)
          (sym (ap (λ (v : Vec Instr Global). v.items) w.list-is ∙ w.in_ok-push.ensures.items))
          (sources_on a.which a.recording c.args.at core c.loop-core.list.items c.loop-core.invariant w.in-Some.count
          (edge_as which recording w.in-Some.ensures.found)
          (λ b edge. w.in-Some.ensures.only b (edge_as (sym which) (sym recording) edge)))
      | in_default w ↦
          subst (λ (l : List Instr). AreSourcesUpTo a.which a.recording c.args.at (core + 1) l)
          (sym (ap (λ (v : Vec Instr Global). v.items) w.list-is))
          (sources_next a.which a.recording c.args.at core c.loop-core.list.items c.source.result c.loop-core.invariant
          w.in_default.is (λ b edge. c.source.ensures.only b (edge_as (sym which) (sym recording) edge)))
    ]

pub returns : goal.returns
returns c =
    let a = c.args.audited.now in
    let cores = ap (λ (r : Recording). r.params.cores) c.recording-recording.ensures.recording in
    subst (λ (l : List Instr). AreEdgesInto a.which a.recording c.args.at l) (sym c.from_vec.ensures)
    (sources_end a.which a.recording c.args.at c.loop-core.core c.loop-core.list.items c.loop-core.invariant
    c.recording-recording.ensures.valid (omega (arith, c.loop-core-test.false)))
