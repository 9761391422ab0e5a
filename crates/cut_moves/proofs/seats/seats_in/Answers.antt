use Rattle.std.proofs.Common.{◌≡◌, ◌∙◌, arith, ◌++◌, ◌∷◌, [], List, ℕ, ap}
use Rattle.std.specs.Prelude.{slice_index, slice_index_or, slice_set}
use Rattle.std.proofs.lemmas.List.{get_or_default}
use Rattle.cut_moves.proofs.SeatCounts.{seats_more}
use Rattle.cut_moves.proofs.seats.seats_in.Goals as goal

pub loop-number-preserved : goal.loop-number-preserved
loop-number-preserved c =
    let places = c.args.places.now in
    let n = c.loop-number.number in
    let core = slice_index places n in
    let inside = c.loop-number-test.true in
    let few = c.requires.few n inside in
    let wide = c.loop-number.invariant.wide in
    let old : c.index_mut.result.now ≡ slice_index_or c.loop-number.seats.items core [] =
    c.index_mut.ensures.value
    ∙ get_or_default c.loop-number.seats.items core c.index_mut.result.now [] (omega arith) in
    seats_more places n c.loop-number.seats.items _ c.loop-number.invariant inside few
    (ap (λ (l : List ℕ). slice_set c.loop-number.seats.items core l)
    (c.in_ok-push.ensures.ok ∙ ap (λ (l : List ℕ). l ++ n ∷ []) old))
