use Rattle.std.proofs.Common.{ℕ, subst}
use Rattle.std.specs.Prelude.{Option}
use Rattle.gdb_moves.specs.Directions.{GoesTo}
use Rattle.gdb_moves.specs.Stopping.{stopping_of, stops_at}
use Rattle.gdb_moves.proofs.AheadLemmas.{free_step, step_ahead, step_closed}
use Rattle.gdb_moves.proofs.hearing.Hearing.step_until.Goals as goal

pub go_to-requires-clause-closed : goal.go_to-requires-clause-closed
go_to-requires-clause-closed c = step_closed c.args.direction _ _ _ c.args.core _ c.in_ok-to.ensures.step

pub go_to-requires-clause-ahead : goal.go_to-requires-clause-ahead
go_to-requires-clause-ahead c = step_ahead c.args.direction _ _ _ c.args.core _ c.in_ok-to.ensures.step

pub returns-in-None-clause-steps : goal.returns-in-None-clause-steps
returns-in-None-clause-steps c =
    free_step c.args.direction (stopping_of c.args.self.now) c.args.core c.args.place.now c.go_to.new.place
    c.in_ok-to.to c.go_to.ensures.kept c.in_ok-to.ensures.step
    (subst (λ (o : Option ℕ). GoesTo c.args.direction (stops_at (stopping_of c.args.self.now)) c.args.place.now
    c.in_ok-to.to c.go_to.new.place o) c.in-None.is c.in_ok-go_to.ensures.goes)

pub returns-in_ok-halt-in-Some-clause-steps : goal.returns-in_ok-halt-in-Some-clause-steps
returns-in_ok-halt-in-Some-clause-steps c = record {
  to = c.in_ok-to.to;
  step = c.in_ok-to.ensures.step;
  mid = c.go_to.new.place;
  kept = c.go_to.ensures.kept;
  before = c.in-Some.before;
  first = subst (λ (o : Option ℕ). GoesTo c.args.direction (stops_at (stopping_of c.args.self.now)) c.args.place.now
      c.in_ok-to.to c.go_to.new.place o) c.in-Some.is c.in_ok-go_to.ensures.goes;
  halts = c.in_ok-halt-in-Some.ensures.halts;
}
