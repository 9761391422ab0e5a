use Rattle.std.proofs.Common.{sym, subst, arith}
use Rattle.rtr_types.specs.declared.pairs.Which.{Which}
use Rattle.race_log.specs.declared.recording.Recording.{Recording}
use Rattle.cut_moves.proofs.Hulls.{whole_closed}
use Rattle.cut_replay.specs.ClosedCuts.{IsClosed}
use Rattle.place_examples.proofs.long_tests.gone_through.Goals as goal

pub move_on-requires-clause-closed : goal.move_on-requires-clause-closed
move_on-requires-clause-closed c =
    let a = c.args.audited.now in
    let place = c.in_ok-place.place in
    subst (λ (w : Which). IsClosed w place.recording c.whole.result) (sym c.in_ok-place.ensures.which)
    (subst (λ (r : Recording). IsClosed a.which r c.whole.result) (sym c.in_ok-place.ensures.recording)
    (whole_closed _ _ _ c.recording.ensures.valid c.whole.ensures))

pub move_on-requires-clause-within : goal.move_on-requires-clause-within
move_on-requires-clause-within c = λ core. let none = c.in_ok-place.ensures.nothing core in omega arith
