use Rattle.rtr_types.specs.Turns.{count_up}
use Rattle.log_codec.proofs.InTurn.{HasRead}
use Rattle.part_lists.proofs.reading.read_items.Given as goal

abbrev pub invariant-loop-place : goal.invariant-loop-place
invariant-loop-place g l =
    HasRead _ _ (g.R.ReadsItems.item_at l.reader) count_up l.count 0 l.bytes l.place l.place l.found l.rest
