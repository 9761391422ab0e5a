use Rattle.std.proofs.Common.{◌<◌, ◌+◌, ◌||◌, ◌∙◌, ap, arith, false, get_or, length, refl, sym, List, Bool, ℕ}
use Rattle.std.specs.Prelude.{map}
use Rattle.std.proofs.lemmas.List.{take_all}
use Rattle.race_log.specs.Sources.{edge_between}
use Rattle.clock_entries.specs.Ends.{instr, is_end}
use Rattle.certificate_codec.proofs.Marks.{marked_more, none_there}
use Rattle.certificate_codec.proofs.edge_ends.mark_pair.Goals as goal

pub returns-then-to-core : goal.returns-then-to-core
returns-then-to-core c n lt =
    sym (ap (λ (b : Bool). b || get_or c.args.marks.now n false)
    (none_there c.args.from c.args.to c.args.counts.now c.args.core (n + 1) c.if-from-core.true c.if-to-core.true))

pub loop-source-preserved : goal.loop-source-preserved
loop-source-preserved c n lt =
    let counts = c.args.counts.now in
    let i = c.loop-source.source-index in
    let first : n < length c.loop-source.marks = omega (arith, c.loop-source.auto.marks) in
    let second : n < length c.mark.new.marks = omega (arith, c.loop-source.auto.marks, c.mark.auto.marks) in
    marked_more c.args.from c.args.to counts i (get_or counts i (0, 0)) (0, 0) (instr c.args.core (n + 1))
    (get_or c.args.marks.now n false) (get_or c.loop-source.marks n false) (get_or c.mark.new.marks n false)
    (get_or c.mark-in-loop-source.new.marks n false) c.loop-source-test.true refl (c.loop-source.invariant n lt)
    (c.mark.ensures n first) (c.mark-in-loop-source.ensures n second)

pub returns : goal.returns
returns c n lt =
    c.loop-source.invariant n lt
    ∙ ap (λ (some : List (ℕ × ℕ)). is_end (map (edge_between c.args.from c.args.to) some) (instr c.args.core (n + 1))
    || get_or c.args.marks.now n false)
    (take_all c.loop-source.source-index c.args.counts.now (omega (arith, c.loop-source-test.false)))
