use Rattle.std.proofs.Common.{◌≡◌, ◌++◌, [], arith, get_or, length, append_assoc}
use Rattle.log_codec.specs.Spelling.{number}
use Rattle.rtr_types.specs.Turns.{stay}
use Rattle.log_codec.specs.Turns.{spelled_in_turn, alike}
use Rattle.log_codec.proofs.InTurn.{puts_on, puts_done}
use Rattle.log_codec.specs.CoreCounts.{counts_text}
use Rattle.certificate_codec.specs.Spelling.{entries_text}
use Rattle.certificate_codec.proofs.writing.CoreEntriesSpelled.put.Goals as goal

pub loop-place-init : goal.loop-place-init
loop-place-init c = rw (c.in_ok-put_u32.ensures.ok, c.len.ensures)
    (append_assoc c.args.out.now.items (number (length c.args.self.now))
    (spelled_in_turn (alike counts_text) stay (tt {0}) c.args.self.now))

pub loop-place-preserved : goal.loop-place-preserved
loop-place-preserved c =
    let i = c.loop-place.place in
    let is : c.put_counts.new.out.items ≡ c.loop-place.out.items ++ counts_text (get_or c.args.self.now i []) =
    rw (← c.entry.ensures) c.in_ok-put_counts.ensures in
    puts_on (alike counts_text) stay c.loop-place.out.items c.put_counts.new.out.items
    (c.args.out.now.items ++ entries_text c.args.self.now) (tt {0}) c.args.self.now i []
    (omega (arith, c.loop-place-test.true, c.len-place-end.ensures)) is c.loop-place.invariant

pub returns : goal.returns
returns c = puts_done (alike counts_text) stay c.loop-place.out.items
    (c.args.out.now.items ++ entries_text c.args.self.now) (tt {0}) c.args.self.now c.loop-place.place
    (omega (arith, c.loop-place-test.false, c.len-place-end.ensures)) c.loop-place.invariant
