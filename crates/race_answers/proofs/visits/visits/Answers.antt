use Rattle.std.proofs.Common.{◌+◌, sym, ◌∙◌, eq-eqb}
use Rattle.roomy_lists.specs.Lists.{items_in}
use Rattle.what_if.proofs.Tries.{differ_so}
use Rattle.replay_core.specs.Play.{instr}
use Rattle.race_answers.specs.Pcs.{pc_in}
use Rattle.race_answers.proofs.MoreVisits.{no_visit, one_visit}
use Rattle.race_answers.proofs.visits.visits.Goals.{then-pc_in-pc+in_ok-push, else-pc_in-pc}
use Rattle.race_answers.proofs.visits.visits.Goals as goal

pub loop-k-preserved : goal.loop-k-preserved
loop-k-preserved c =
    let pcs = items_in c.args.known.now.pcs in
    let pc = c.args.pc in
    let core = c.args.core in
    let k = c.loop-k.k in
    elim c.if-pc_in-pc.branch [
      | then-pc_in-pc+in_ok-push w ↦
          w.list-is
          ∙ one_visit pcs pc core k c.loop-k.list w.push.new.self c.loop-k.invariant
          (eq-eqb (pc_in pcs (instr core (k + 1))) pc (sym c.pc_in.ensures ∙ w.if-pc_in-pc.true)) w.in_ok-push.ensures.ok
      | else-pc_in-pc w ↦
          w.list-is
          ∙ no_visit pcs pc core k c.loop-k.list c.loop-k.invariant
          (differ_so (pc_in pcs (instr core (k + 1))) pc (λ e. w.if-pc_in-pc.false (c.pc_in.ensures ∙ e)))
    ]
