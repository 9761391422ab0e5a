use Rattle.std.proofs.Common.{◌∙◌, ◌==◌, ◌/◌, ◌%◌, refl, sym}
use Rattle.std.specs.Prelude.{is_some}
use Rattle.rtr_types.specs.declared.TheConstants.{BLOCK_WORDS, LINES}
use Rattle.flat_cores.specs.Needs.{written}
use Rattle.flat_state.specs.Shows.{line_at, node_at}
use Rattle.move_marks.specs.declared.marks.MoveKind.TheVariants.{Own}
use Rattle.msi_state.specs.Events.{Nothing}
use Rattle.msi_state.specs.declared.moves.Move.TheVariants.{Core as CoreMove}
use Rattle.flat_machine.proofs.MadeMoves.{has_made}
use Rattle.flat_machine.proofs.MarkedChoice.{marked_on}
use Rattle.flat_machine.proofs.LineWays.{give_copy, left_way, line_still, looks_within}
use Rattle.flat_machine.proofs.MadeMoves.{made_after}
use Rattle.flat_marks.proofs.NodeMarks.{own_still, own_there}
use Rattle.flat_machine.proofs.machine.FlatMachine.ask_by.Goals as goal

pub entry_of-requires-clause-within : goal.entry_of-requires-clause-within
entry_of-requires-clause-within c =
    let m = c.args.self.now in
    let w = c.requires.stands in
    looks_within m.flat w.s w.memory c.args.core c.args.word w.stands
    (own_there m.flat m.marks c.args.core c.requires.kept.marked c.requires.can) c.requires.need

pub give_back-requires-clause-copy : goal.give_back-requires-clause-copy
give_back-requires-clause-copy c =
    let m = c.args.self.now in
    let n = node_at m.flat.nodes.items c.args.core in
    let l = line_at n (c.args.word / BLOCK_WORDS % LINES) in
    (give_copy l.state (l.block == (c.args.word / BLOCK_WORDS)) (is_some (written n.need))
    (line_still n (c.args.word / BLOCK_WORDS % LINES)
    (own_still m.flat m.marks c.args.core c.requires.kept.marked c.requires.can))
    (sym c.requires.way ∙ left_way c.args.way c.requires.missed c.in_default.not-Ask c.in_default.not-Upgrade)).0

pub returns-in_ok-place-in-Ask-clause-made : goal.returns-in_ok-place-in-Ask-clause-made
returns-in_ok-place-in-Ask-clause-made c =
    let m = c.args.self.now in
    let w = c.requires.stands in
    let entry = c.in_ok-place-in-Ask.ensures.entry in
    made_after m c.entry_of.new.self _ (CoreMove c.args.core) Nothing entry.stands
    (has_made c.entry_of.new.self _ (CoreMove c.args.core) Nothing
    (record { s = w.s; memory = w.memory; stands = entry.stands w.s w.memory w.stands })
    (marked_on m.flat m.marks w.s w.memory c.requires.kept.marked w.stands Own c.args.core c.requires.can) entry.kept
    c.ask.ensures refl)

pub returns-in-Upgrade-clause-made : goal.returns-in-Upgrade-clause-made
returns-in-Upgrade-clause-made c =
    let m = c.args.self.now in
    let w = c.requires.stands in
    has_made m _ (CoreMove c.args.core) Nothing w
    (marked_on m.flat m.marks w.s w.memory c.requires.kept.marked w.stands Own c.args.core c.requires.can)
    c.requires.kept c.upgrade.ensures refl

pub returns-in_default-clause-made : goal.returns-in_default-clause-made
returns-in_default-clause-made c =
    let m = c.args.self.now in
    let w = c.requires.stands in
    has_made m _ (CoreMove c.args.core) Nothing w
    (marked_on m.flat m.marks w.s w.memory c.requires.kept.marked w.stands Own c.args.core c.requires.can)
    c.requires.kept c.give_back.ensures refl
