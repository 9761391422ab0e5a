use Rattle.race_cuts.proofs.OpenEdges.{greatest_is_open}
use Rattle.gdb_monitor.proofs.laws.edges_are_decisions.Goals as goal

pub returns : goal.returns
returns c r x y cut known has greatest =
    let open_at = greatest_is_open r x y cut known has greatest in
    record { greatest = greatest; both = record { first = open_at.first; second = open_at.second } }
