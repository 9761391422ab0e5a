use Rattle.std.proofs.Common.{arith}
use Rattle.std.proofs.lemmas.Str.Pattern.{strip_prefix_char}
use Rattle.turn_lists.proofs.TextLemmas.{no_buffer, no_core}
use Rattle.turn_lists.proofs.reading.actor_of.Goals as goal

pub returns-in-None-core_of : goal.returns-in-None-core_of
returns-in-None-core_of c =
    let cut = strip_prefix_char 119 c.args.text.now c.strip_prefix.result c.strip_prefix.ensures.cases (omega arith) in
    no_buffer c.args.text.now c.in-Some.core.now (rw c.in-Some.is at cut) c.in-None-core_of.ensures

pub returns-in-None-core_of-2 : goal.returns-in-None-core_of-2
returns-in-None-core_of-2 c =
    let cut = strip_prefix_char 119 c.args.text.now c.strip_prefix.result c.strip_prefix.ensures.cases (omega arith) in
    no_core c.args.text.now (rw c.in-None.is at cut) c.in-None-core_of-2.ensures
