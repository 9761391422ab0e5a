-- Each head has its row, and each argument is a thread.
use Rattle.std.proofs.Common.{refl, ◌∙◌}
use Rattle.gdb_packets.specs.declared.asks.Plain.TheVariants as plain
use Rattle.gdb_packets.specs.Asks.{thread_of}
use Rattle.gdb_packets.proofs.AskLemmas.{or_on, read_by}
use Rattle.gdb_packets.proofs.plain.thread_asks.Goals as goal

pub returns : goal.returns
returns c =
    let look = c.ask.ensures thread_of plain.LookAt (read_by thread_of) (λ thread asked gives. gives) in
    let move = c.ask-2.ensures thread_of plain.MoveWith (read_by thread_of) (λ thread asked gives. gives) in
    let there = c.ask-3.ensures thread_of plain.IsThere (read_by thread_of) (λ thread asked gives. gives) in
    let text = c.ask-4.ensures thread_of plain.ThreadText (read_by thread_of) (λ thread asked gives. gives) in
    c.or-3.ensures
    ∙ or_on _ _ _ _ _ _ _ c.or-2.ensures refl there text
    ∙ or_on _ _ _ _ _ _ _ c.or.ensures look move refl
