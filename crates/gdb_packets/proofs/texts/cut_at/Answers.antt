use Rattle.std.proofs.Common.{◌+◌, ◌-◌, Some, length, take, drop, length-drop, ap, ◌∙◌, arith}
use Rattle.std.proofs.lemmas.List.{take_all}
use Rattle.gdb_packets.proofs.TextLemmas.{cut_found, cut_goes_on, cut_nowhere}
use Rattle.gdb_packets.proofs.texts.cut_at.Goals as goal

pub returns-then-b-byte-clause-parts : goal.returns-then-b-byte-clause-parts
returns-then-b-byte-clause-parts c =
    let text = c.args.text.now in
    let i = c.loop-i.i in
    let rest = drop (i + 1) text in
    ap (λ back. Some (take i text, back))
    (take_all (length text - (i + 1)) rest (omega (arith, length-drop (i + 1) text)))
    ∙ cut_found c.args.byte text i (omega arith) c.if-b-byte.true c.loop-i.invariant

pub loop-i-preserved : goal.loop-i-preserved
loop-i-preserved c =
    cut_goes_on c.args.byte c.args.text.now c.loop-i.i (omega arith) c.if-b-byte.false c.loop-i.invariant

pub returns-clause-parts : goal.returns-clause-parts
returns-clause-parts c = cut_nowhere c.args.byte c.args.text.now c.loop-i.i (omega arith) c.loop-i.invariant
