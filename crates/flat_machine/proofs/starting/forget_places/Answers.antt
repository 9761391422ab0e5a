use Rattle.std.proofs.Common.{arith}
use Rattle.flat_state.specs.Shows.{home_at}
use Rattle.flat_machine.proofs.ForgottenPlaces.{all_forgotten, one_forgotten, slot_lies}
use Rattle.flat_machine.proofs.starting.forget_places.Goals as goal

pub loop-place-preserved : goal.loop-place-preserved
loop-place-preserved c =
    let home = c.args.home.now in
    let l = c.loop-place in
    let within = c.loop-place-test.true in
    let lies = slot_lies c.args.places.now (home_at home l.place).block l.place (c.requires.here l.place within) in
    one_forgotten home c.args.places.now l.places l.place (omega (arith, lies, l.invariant.long)) l.invariant

pub returns : goal.returns
returns c =
    let l = c.loop-place in
    let all = c.loop-place-test.false in
    all_forgotten c.args.home.now c.args.places.now l.places l.place all l.invariant
