use Rattle.std.proofs.Common.{rules}
use Rattle.rtr_cli.proofs.CompletenessLemmas.{lacks_memory}
use Rattle.rtr_cli.proofs.RefusalLemmas.{refused_answers}
use Rattle.rtr_cli.proofs.tool.perform.Goals as goal

-- the input was taken, and is refused
pub returns-in-Err-clause-answered : goal.returns-in-Err-clause-answered
returns-in-Err-clause-answered g c =
    let taken = rw c.most_of.ensures at c.in-Ok.ensures.bytes in
    refused_answers c.args.command c.in-Ok.bytes.items c.in-Err.exit _ _ _ _ taken c.in-Err.ensures.refused
    (search rules)

-- so memory ran out where the command accepts it
pub returns-in-Err-clause-complete : goal.returns-in-Err-clause-complete
returns-in-Err-clause-complete g c =
    let taken = rw c.most_of.ensures at c.in-Ok.ensures.bytes in
    λ bytes is accepts read write.
    lacks_memory c.args.command c.in-Err.exit _ _ bytes c.in-Ok.bytes.items is accepts taken c.in-Err.ensures.refused

-- a part of what the command makes of it was given
pub returns-clause-answered : goal.returns-clause-answered
returns-clause-answered g c =
    let taken = rw c.most_of.ensures at c.in-Ok.ensures.bytes in
    let part = rw c.as_slice.ensures.value at c.in-Err-write_all.ensures.part in
    (c.in-Ok.bytes.items, c.in-Ok-make.out.items, taken, c.in-Ok-make.ensures.made, c.in-Ok-make.ensures.promised, part)

-- or all of it
pub returns-in-Ok-write_all-clause-answered : goal.returns-in-Ok-write_all-clause-answered
returns-in-Ok-write_all-clause-answered g c =
    let taken = rw c.most_of.ensures at c.in-Ok.ensures.bytes in
    let all = rw c.as_slice.ensures.value at c.in-Ok-write_all.ensures.all in
    (c.in-Ok.bytes.items, c.in-Ok-make.out.items, taken, c.in-Ok-make.ensures.made, c.in-Ok-make.ensures.promised, all)
