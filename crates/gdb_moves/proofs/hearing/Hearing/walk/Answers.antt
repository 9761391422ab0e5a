use Rattle.std.proofs.Common.{ℕ, subst}
use Rattle.std.specs.Prelude.{Option, Some}
use Rattle.std.proofs.lemmas.Result.{IfOk-weaker}
use Rattle.gdb_moves.specs.Directions.{GoesTo}
use Rattle.gdb_moves.specs.Stopping.{stopping_of, stops_at}
use Rattle.gdb_moves.proofs.hearing.Hearing.walk.Goals as goal

pub returns-in-Some-clause-walks : goal.returns-in-Some-clause-walks
returns-in-Some-clause-walks c = IfOk-weaker c.halt.result _ _
    (λ stop halts. record {
      mid = c.go_to.new.place;
      kept = c.go_to.ensures.kept;
      before = Some c.in-Some.core;
      goes = subst (λ (o : Option ℕ). GoesTo c.args.direction (stops_at (stopping_of c.args.self.now)) c.args.place.now
          c.args.to.now c.go_to.new.place o) c.in-Some.is c.in_ok-go_to.ensures.goes;
      ends = halts;
    })
    c.halt.ensures.halts
