use Rattle.std.proofs.Common.{refl}
use Rattle.move_marks.specs.declared.marks.MoveKind.TheVariants.{FromHome}
use Rattle.msi_state.specs.Events.{Accesses, Nothing}
use Rattle.msi_state.specs.declared.moves.Move.TheVariants.{FromHome as MessageMove}
use Rattle.flat_machine.proofs.MadeMoves.{has_made}
use Rattle.flat_machine.proofs.MarkedChoice.{marked_on}
use Rattle.flat_machine.proofs.machine.FlatMachine.take_message.Goals as goal

pub returns-then-brings_data : goal.returns-then-brings_data
returns-then-brings_data c =
    let m = c.args.self.now in
    let w = c.requires.stands in
    has_made m _ (MessageMove c.args.core) (Accesses c.hear_data.result) w
    (marked_on m.flat m.marks w.s w.memory c.requires.kept.marked w.stands FromHome c.args.core c.requires.can)
    c.requires.kept c.hear_data.ensures refl

pub returns-else-brings_data : goal.returns-else-brings_data
returns-else-brings_data c =
    let m = c.args.self.now in
    let w = c.requires.stands in
    has_made m _ (MessageMove c.args.core) Nothing w
    (marked_on m.flat m.marks w.s w.memory c.requires.kept.marked w.stands FromHome c.args.core c.requires.can)
    c.requires.kept c.hear.ensures refl
