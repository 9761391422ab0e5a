use Rattle.replay_table.proofs.LastView.{gather_table, gather_rest}
use Rattle.table_examples.proofs.seats.pair.Goals as goal

pub returns : goal.returns
returns g c =
    let second = c.in_ok-second.ensures.items in
    let rest = gather_rest c.args.table.now c.args.seats.items c.pop.new.self.items c.in_ok-second.second second
    c.requires in (
      gather_table c.args.table.now c.pop.new.self.items c.pop-2.new.self.items c.in_ok-first.first
          c.in_ok-first.ensures.items rest,
      gather_table c.args.table.now c.args.seats.items c.pop.new.self.items c.in_ok-second.second second
          c.requires,
    )
