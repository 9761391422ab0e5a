use Rattle.std.proofs.Common.{List, ap, sym, ◌∙◌}
use Rattle.rtr_types.specs.declared.instr.Instr.{Instr}
use Rattle.gdb_places.specs.Waits.{waits_below, with_wait}
use Rattle.gdb_places.proofs.WaitsMore.{waits_more, waits_none}
use Rattle.gdb_places.proofs.waits.waits_of.Goals as goal

pub loop-core-init : goal.loop-core-init
loop-core-init c = c.new-list.ensures ∙ waits_none c.args.which c.args.recording.now c.args.cut.now c.args.at

pub loop-core-preserved : goal.loop-core-preserved
loop-core-preserved c =
    let r = c.args.recording.now in
    let core = c.loop-core.core in
    c.in_ok-put_wait.ensures
    ∙ ap (λ (list : List Instr). with_wait list core c.wait_of-wait.result) c.loop-core.invariant
    ∙ ap (λ wait. with_wait (waits_below c.args.which r c.args.cut.now c.args.at core) core wait) c.wait_of-wait.ensures
    ∙ sym (waits_more c.args.which r c.args.cut.now c.args.at core)
