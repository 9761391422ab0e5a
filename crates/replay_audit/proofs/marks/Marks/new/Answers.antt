use Rattle.std.proofs.Common.{◌∙◌, ap, replicate}
use Rattle.replay_audit.specs.declared.marks.Mark.{Mark}
use Rattle.replay_audit.proofs.MarkLaws.{sound_start}
use Rattle.replay_audit.proofs.marks.Marks.new.Goals as goal

pub invariant_of-result : goal.invariant_of-result
invariant_of-result c =
    sound_start c.args.words c.in_ok-marks.marks c.new-crowds.result.items
    (c.in_ok-marks.ensures ∙ ap (λ (m : Mark). replicate c.args.words m) c.first.ensures)
