-- A core's move changes its own port alone, so the other cores' marks stand; where it asked, its request is the one not
-- looked at.
use Rattle.std.proofs.Common.{◌∙◌, ap, subst, sym, ℕ}
use Rattle.std.specs.Prelude.{not}
use Rattle.msi_state.specs.declared.moves.Move.TheVariants.{Core}
use Rattle.machine_invariant.proofs.MoveGrounds.{rooms_there}
use Rattle.msi_machine.specs.Standings.{AskerOpen}
use Rattle.msi_machine.proofs.MarksAndEnd.{core_still}
use Rattle.msi_machine.proofs.OwnMoves.{asked_open, retired_open}
use Rattle.msi_machine.proofs.parts.Parts.move_core.Goals as goal

pub work-retired-requires-clause-asks : goal.work-retired-requires-clause-asks
work-retired-requires-clause-asks g c =
    record {
      still = core_still g.R.Rider.riding g.K.Carry.carrying c.args.self.now.state c.args.c c.requires.can.enabled;
      room = rooms_there g.R.Rider.riding g.K.Carry.carrying c.args.self.now.state (Core c.args.c) c.requires.can.holds
          c.requires.can.enabled;
    }

pub returns-then-is_none-clause-open : goal.returns-then-is_none-clause-open
returns-then-is_none-clause-open g c =
    asked_open g.R.Rider.riding g.K.Carry.carrying c.args.self.now.state c.work-retired.new.self.state
    c.args.marks.now c.set.new.self c.args.c c.work-retired.new.standing c.requires.can.holds c.requires.can.enabled
    c.requires.marked c.work-retired.ensures.made.state c.work-retired.ensures.renewed
    (c.set.ensures.this ∙ c.may_move.ensures) c.set.ensures.others

pub returns-else-is_none-clause-open : goal.returns-else-is_none-clause-open
returns-else-is_none-clause-open g c =
    subst (λ (n : ℕ). AskerOpen g.R.Rider.riding g.K.Carry.carrying c.work-retired.new.self.state
    (record c.args.marks.now { moves = c.set.new.self }) n) (sym c.requires.none)
    (retired_open g.R.Rider.riding g.K.Carry.carrying c.args.self.now.state c.work-retired.new.self.state
    c.args.marks.now c.set.new.self c.args.c c.work-retired.new.standing c.requires.can.holds c.requires.can.enabled
    c.requires.marked c.work-retired.ensures.made.state c.work-retired.ensures.renewed
    (c.set.ensures.this ∙ c.may_move.ensures) c.set.ensures.others c.work-retired.result
    c.work-retired.ensures.made.retired (c.is_none.ensures ∙ ap not c.if-is_none.false))
