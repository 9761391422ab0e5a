use Rattle.gdb_moves.specs.declared.direction.Direction.TheVariants.{Forward, Back}
use Rattle.gdb_moves.specs.Stopping.{stopping_of, stops_at}
use Rattle.gdb_moves.proofs.AheadLemmas.{next_where}
use Rattle.gdb_moves.proofs.hearing.Hearing.go_to.Goals as goal

pub returns-in-Forward-clause-next : goal.returns-in-Forward-clause-next
returns-in-Forward-clause-next c =
    next_where c.go_to.result _ Forward (stops_at (stopping_of c.args.self.now)) c.args.place.now c.go_to.new.self
    c.args.to.now c.in-Forward.is c.cut.ensures.stands c.requires.valid c.requires.closed c.requires.ahead
    c.go_to.ensures.kept c.go_to.ensures.ok

pub returns-in-Back-clause-next : goal.returns-in-Back-clause-next
returns-in-Back-clause-next c =
    next_where c.back.result _ Back (stops_at (stopping_of c.args.self.now)) c.args.place.now c.back.new.self
    c.args.to.now c.in-Back.is c.cut.ensures.stands c.requires.valid c.requires.closed c.requires.ahead
    c.back.ensures.kept c.back.ensures.ok
