use Rattle.std.proofs.Common.{arith, rules}
use Rattle.rtr_cli.proofs.CompletenessLemmas.{lacks_memory}
use Rattle.gdb_cli.proofs.AnswerLemmas.{refused_core, whole_read}
use Rattle.gdb_cli.specs.Cores.{printed_by}
use Rattle.gdb_cli.proofs.tool.give_core.Goals as goal

-- the recording was taken, and is refused
pub returns-in-Err-clause-answered : goal.returns-in-Err-clause-answered
returns-in-Err-clause-answered g c =
    let was = whole_read (g.I.Source.left c.args.input.now) (g.I.Source.left c.read_all.new.source) c.in-Ok.bytes.items
    c.in-Ok.ensures.bytes c.in-Ok.ensures.end (omega (arith, c.in-Ok.ensures.within, c.in-Ok.bytes.ok)) in
    refused_core c.args.moment c.in-Ok.bytes.items c.in-Err.exit _ _ _ _ was c.in-Err.ensures.refused (search rules)

-- so memory ran out where `rtr at` accepts it
pub returns-in-Err-clause-complete : goal.returns-in-Err-clause-complete
returns-in-Err-clause-complete g c =
    let was = whole_read (g.I.Source.left c.args.input.now) (g.I.Source.left c.read_all.new.source) c.in-Ok.bytes.items
    c.in-Ok.ensures.bytes c.in-Ok.ensures.end (omega (arith, c.in-Ok.ensures.within, c.in-Ok.bytes.ok)) in
    λ bytes is accepts read write.
    lacks_memory (printed_by c.args.moment) c.in-Err.exit _ _ bytes c.in-Ok.bytes.items is accepts was
    c.in-Err.ensures.refused

-- a part of the file was given
pub returns-clause-answered : goal.returns-clause-answered
returns-clause-answered g c =
    let was = whole_read (g.I.Source.left c.args.input.now) (g.I.Source.left c.read_all.new.source) c.in-Ok.bytes.items
    c.in-Ok.ensures.bytes c.in-Ok.ensures.end (omega (arith, c.in-Ok.ensures.within, c.in-Ok.bytes.ok)) in
    let part = rw c.as_slice.ensures at c.in-Err-write_all.ensures.part in
    let made = c.in-Ok-core_of.ensures in
    (c.in-Ok.bytes.items, c.in-Ok-core_of.file, was, made.made, made.promised, part)

-- or all of it
pub returns-in-Ok-write_all-clause-answered : goal.returns-in-Ok-write_all-clause-answered
returns-in-Ok-write_all-clause-answered g c =
    let was = whole_read (g.I.Source.left c.args.input.now) (g.I.Source.left c.read_all.new.source) c.in-Ok.bytes.items
    c.in-Ok.ensures.bytes c.in-Ok.ensures.end (omega (arith, c.in-Ok.ensures.within, c.in-Ok.bytes.ok)) in
    let whole = rw c.as_slice.ensures at c.in-Ok-write_all.ensures.all in
    let made = c.in-Ok-core_of.ensures in
    (c.in-Ok.bytes.items, c.in-Ok-core_of.file, was, made.made, made.promised, whole)
