use Rattle.std.proofs.Common.{refl, sym, ap, subst, ◌∙◌}
use Rattle.std.specs.Prelude.{IfOk}
use Rattle.gdb_commands.specs.declared.commands.Command.{Command}
use Rattle.gdb_monitor.specs.Obeying.{Obeys}
use Rattle.gdb_monitor.specs.Texts.{cut_text}
use Rattle.gdb_monitor.proofs.AnswerFrames.{if_ok}
use Rattle.gdb_monitor.proofs.obeying.obey.Goals as goal

pub returns-in-Cut-clause-ok : goal.returns-in-Cut-clause-ok
returns-in-Cut-clause-ok c =
    let p = c.args.place.now in
    subst (λ (k : Command). IfOk c.cut_text.result (Obeys k c.args.marks.now p p)) (sym c.in-Cut.is)
    (if_ok c.cut_text.result
    (λ told is. record { place = refl; told_is = is ∙ ap cut_text c.cut.ensures.cut }) c.cut_text.ensures)
