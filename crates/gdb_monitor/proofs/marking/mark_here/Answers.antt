use Rattle.std.proofs.Common.{ap, ◌∙◌}
use Rattle.rtr_types.specs.declared.cut.Cut.{Cut}
use Rattle.cut_marks.specs.Marks.{mark_of, with_mark}
use Rattle.gdb_monitor.specs.Texts.{cut_text}
use Rattle.gdb_monitor.proofs.marking.mark_here.Goals as goal

pub returns-clause-told : goal.returns-clause-told
returns-clause-told c = c.in_ok-told.ensures ∙ ap cut_text c.cut-cut.ensures.cut

pub returns-clause-ok : goal.returns-clause-ok
returns-clause-ok c =
    c.in_ok-put.ensures.ok
    ∙ ap (λ (cut : Cut). with_mark (mark_of c.args.name.now cut) c.args.marks.now) c.cut-cut.ensures.cut
