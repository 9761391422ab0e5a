use Rattle.std.proofs.Common.{◌≡◌, ap, sym, subst, arith}
use Rattle.rtr_types.specs.declared.cut.Cut.{Cut}
use Rattle.rtr_types.specs.declared.pairs.Which.{Which}
use Rattle.race_log.specs.declared.recording.Recording.{Recording}
use Rattle.cut_replay.specs.ClosedCuts.{IsClosed, count_in}
use Rattle.place_examples.proofs.stop_tests.stopped.Goals as goal

pub go_to-requires-clause-within : goal.go_to-requires-clause-within
go_to-requires-clause-within c = λ core. let none = c.in_ok-place.ensures.nothing core in omega arith

pub back-requires-clause-closed : goal.back-requires-clause-closed
back-requires-clause-closed c =
    let place = c.in_ok-place.place in
    let later = c.seek.new.self in
    subst (λ (w : Which). IsClosed w later.recording c.cut-nothing.result) (sym c.seek.ensures.kept.which)
    (subst (λ (r : Recording). IsClosed place.which r c.cut-nothing.result) (sym c.seek.ensures.kept.recording)
    (subst (λ (k : Cut). IsClosed place.which place.recording k) (sym c.cut-nothing.ensures.cut)
    c.cut-nothing.ensures.stands.closed))

pub back-requires-clause-within : goal.back-requires-clause-within
back-requires-clause-within c = λ core.
    let none = c.in_ok-place.ensures.nothing core in
    let is = ap (λ (k : Cut). count_in k core) c.cut-nothing.ensures.cut in
    omega arith
