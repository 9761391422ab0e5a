use Rattle.msi_laws.proofs.Ready.{memory_ready}
use Rattle.move_marks.proofs.late.with_late.Goals as goal

pub has_free_head-requires-clause-heads : goal.has_free_head-requires-clause-heads
has_free_head-requires-clause-heads g c =
    (memory_ready g.R.Rider.riding g.K.Carry.carrying c.args.memory.now.memory c.requires.holds).heads
