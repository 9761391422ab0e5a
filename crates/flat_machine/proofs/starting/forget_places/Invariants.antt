use Rattle.flat_machine.proofs.ForgottenPlaces.{Forgotten}
use Rattle.flat_machine.proofs.starting.forget_places.Given as goal

abbrev pub invariant-loop-place : goal.invariant-loop-place
invariant-loop-place l = Forgotten l.home l.fn.places l.places l.place
