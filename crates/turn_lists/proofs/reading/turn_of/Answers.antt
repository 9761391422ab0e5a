use Rattle.std.proofs.Common.{arith}
use Rattle.std.proofs.lemmas.Str.Pattern.{split_parts}
use Rattle.turn_lists.proofs.TextLemmas.{no_star, turn_joined}
use Rattle.turn_lists.proofs.reading.turn_of.Goals as goal

pub returns-in-Some : goal.returns-in-Some
returns-in-Some c =
    let parts = split_parts 42 c.args.text.now c.split_once.result c.split_once.ensures.cases (omega arith) in
    let here = rw c.in-Some.is at parts in
    turn_joined c.args.text.now c.in-Some.actor.now c.in-Some.count.now c.turn_from.result c.turn_from.ensures here.0
    here.1

pub returns-in-None : goal.returns-in-None
returns-in-None c = λ t fits is.
    let parts = split_parts 42 c.args.text.now c.split_once.result c.split_once.ensures.cases (omega arith) in
    no_star c.args.text.now (rw c.in-None.is at parts) t is
