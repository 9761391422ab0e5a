-- each load puts its line
use Rattle.std.proofs.Common.{arith}
use Rattle.state_text.specs.States.{load_line}
use Rattle.state_text.proofs.PlaceLemmas.{grown, items_more}
use Rattle.state_text.proofs.states.put_loads_of.Goals as goal

pub loop-note-preserved : goal.loop-note-preserved
loop-note-preserved c =
    grown _ c.in_ok-put_load.ensures c.loop-note.invariant
    (items_more (load_line c.args.number) _ c.args.notes.now c.loop-note.note-index _ (omega arith))
