use Rattle.std.proofs.Common.{Global, Vec, ℕ, List, ◌+◌, ◌∙◌, ap, sym, subst, arith}
use Rattle.std.specs.Prelude.{slice_index}
use Rattle.rtr_types.specs.declared.instr.Instr.{Instr}
use Rattle.race_log.specs.Sources.{HasEdge}
use Rattle.replay_core.specs.Play.{instr}
use Rattle.race_queries.specs.Places.{AreTargetsUpTo}
use Rattle.race_queries.proofs.Edges.{found_of, not_found, targets_by, targets_next, targets_on}
use Rattle.race_queries.proofs.sources.put_targets.Goals as goal
use Rattle.race_queries.proofs.sources.put_targets.Goals.{then-eq+in_ok-push, else-eq}

pub loop-done-preserved : goal.loop-done-preserved
loop-done-preserved c =
    let r = c.args.recording.now in
    let n = c.loop-done.done in
    elim c.if-eq.branch [
      | then-eq+in_ok-push w ↦
          subst (λ (l : List Instr). AreTargetsUpTo c.args.which r c.args.at c.args.core (n + 1) l)
          (sym (ap (λ (v : Vec Instr Global). v.items) w.list-is ∙ w.in_ok-push.ensures.items))
          (targets_on c.args.which r c.requires.valid c.args.at c.args.core n c.loop-done.list.items
          c.loop-done.invariant
          (found_of c.source.result c.args.at.count
          (λ a. HasEdge c.args.which r (instr c.args.at.core a) (instr c.args.core (n + 1))) c.source.ensures.found
          (sym c.eq.ensures ∙ w.if-eq.true)))
      | else-eq w ↦
          subst (λ (l : List Instr). AreTargetsUpTo c.args.which r c.args.at c.args.core (n + 1) l)
          (sym (ap (λ (v : Vec Instr Global). v.items) w.list-is))
          (targets_by c.args.which r c.requires.valid c.args.at c.args.core n c.loop-done.list.items
          c.loop-done.invariant
          (λ edge. not_found c.source.result c.args.at.count (sym c.eq.ensures ∙ w.if-eq.false)
          (c.source.ensures.only c.args.at.count edge)))
    ]

pub returns : goal.returns
returns c =
    let r = c.args.recording.now in
    let same = ap (λ (l : List ℕ). slice_index l c.args.core) c.as_slice.ensures in
    targets_next c.args.which r c.requires.valid c.args.at c.args.core c.loop-done.done c.loop-done.list.items
    c.loop-done.invariant (let end = c.loop-done-test.false in omega arith)
