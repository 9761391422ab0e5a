use Rattle.std.proofs.Common.{◌≡◌, refl, subst, sym, true}
use Rattle.rtr_types.specs.CoreSets.{has}
use Rattle.move_marks.specs.Kinds.{set_of}
use Rattle.move_marks.specs.declared.marks.MoveKind.{MoveKind}
use Rattle.move_marks.specs.declared.marks.MoveKind.TheVariants.{Request, Response}
use Rattle.msi_state.specs.Events.{Nothing}
use Rattle.msi_state.specs.declared.moves.Move.TheVariants.{Request as RequestMove, Response as ResponseMove}
use Rattle.flat_machine.proofs.MadeMoves.{has_made}
use Rattle.flat_machine.proofs.MarkedChoice.{marked_on}
use Rattle.flat_machine.specs.Machines.{HasMade, move_of}
use Rattle.flat_machine.proofs.machine.FlatMachine.make.Goals as goal

pub returns-in-Request-clause-made : goal.returns-in-Request-clause-made
returns-in-Request-clause-made c =
    let m = c.args.self.now in
    let w = c.requires.stands in
    let can = subst (λ (k : MoveKind). has (set_of k m.marks) c.args.core ≡ true) c.in-Request.is c.requires.can in
    subst (λ (k : MoveKind). HasMade m (record {
      flat = c.serve.new.flat;
      marks = c.serve.new.marks;
      places = m.places;
    }) (move_of k c.args.core) Nothing) (sym c.in-Request.is)
    (has_made m _ (RequestMove c.args.core) Nothing w
    (marked_on m.flat m.marks w.s w.memory c.requires.kept.marked w.stands Request c.args.core can)
    c.requires.kept c.serve.ensures refl)

pub returns-in-Response-clause-made : goal.returns-in-Response-clause-made
returns-in-Response-clause-made c =
    let m = c.args.self.now in
    let w = c.requires.stands in
    let can = subst (λ (k : MoveKind). has (set_of k m.marks) c.args.core ≡ true) c.in-Response.is c.requires.can in
    subst (λ (k : MoveKind). HasMade m (record {
      flat = c.receive.new.flat;
      marks = c.receive.new.marks;
      places = m.places;
    }) (move_of k c.args.core) Nothing) (sym c.in-Response.is)
    (has_made m _ (ResponseMove c.args.core) Nothing w
    (marked_on m.flat m.marks w.s w.memory c.requires.kept.marked w.stands Response c.args.core can)
    c.requires.kept c.receive.ensures refl)
