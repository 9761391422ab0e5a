use Rattle.std.proofs.Common.{arith}
use Rattle.turn_lists.proofs.TextLemmas.{no_count}
use Rattle.turn_lists.proofs.reading.turn_from.Goals as goal

pub returns-in_default-number_of : goal.returns-in_default-number_of
returns-in_default-number_of c = λ t fits actor count.
    let none = c.if-count-gt0.false in
    no_count c.args.count.now c.in-Some-number_of.count c.in-Some-number_of.ensures.1 (omega arith) t fits count
