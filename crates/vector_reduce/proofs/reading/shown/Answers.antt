use Rattle.std.proofs.Common.{◌≡◌, ℕ, List, length, ap, ◌∙◌}
use Rattle.rtr_types.specs.Turns.{stay, count_up}
use Rattle.log_codec.specs.Turns.{read_in_turn}
use Rattle.part_lists.proofs.ItemsInTurn.{read_alike}
use Rattle.vector_reduce.specs.Reading.{one_at, shown_in}
use Rattle.vector_reduce.specs.declared.pair_vector.PairVector.{PairVector}
use Rattle.vector_reduce.proofs.Parts.{few_totals}
use Rattle.vector_reduce.proofs.reading.shown.Goals as goal

pub read_items-requires : goal.read_items-requires
read_items-requires c place lt = few_totals c.args.recording.now c.requires

pub returns : goal.returns
unfolding one_at
returns c =
    let r = c.args.recording.now in
    let bytes = c.args.bytes.now in
    let n = c.len-vectors.result in
    let read : read_in_turn (λ (place : ℕ). one_at r.totals tt) count_up n 0 bytes ≡ shown_in r bytes =
    read_alike (one_at r.totals tt) count_up stay n 0 tt bytes
    ∙ ap (λ (k : ℕ). read_in_turn (one_at r.totals) stay k tt bytes)
    (c.len-vectors.ensures ∙ ap (λ (l : List PairVector). length l) c.in_ok-vectors_of.ensures) in
    rw (← read) c.read_items.ensures
