use Rattle.std.proofs.Common.{refl}
use Rattle.move_marks.specs.declared.marks.MoveKind.TheVariants.{Own}
use Rattle.msi_state.specs.Events.{Accesses}
use Rattle.msi_state.specs.declared.moves.Move.TheVariants.{Core as CoreMove}
use Rattle.flat_machine.proofs.MadeMoves.{has_made}
use Rattle.flat_machine.proofs.MarkedChoice.{marked_on}
use Rattle.flat_machine.proofs.machine.FlatMachine.read.Goals as goal

pub returns-in-Hit-clause-made : goal.returns-in-Hit-clause-made
returns-in-Hit-clause-made c =
    let m = c.args.self.now in
    let w = c.requires.stands in
    has_made m _ (CoreMove c.args.core) (Accesses c.load.result) w
    (marked_on m.flat m.marks w.s w.memory c.requires.kept.marked w.stands Own c.args.core c.requires.can)
    c.requires.kept c.load.ensures refl
