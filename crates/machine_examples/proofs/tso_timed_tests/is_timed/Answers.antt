use Rattle.access_times.specs.Times.{times_riding}
use Rattle.machine_examples.proofs.Inside.{cores_accepted}
use Rattle.machine_examples.proofs.tso_timed_tests.is_timed.Goals as goal

pub step_timed-taken-requires-clause-accepts : goal.step_timed-taken-requires-clause-accepts
step_timed-taken-requires-clause-accepts c = λ m is.
    cores_accepted _ _ _ _ times_riding c.make_room.new.machine.state m _ _ _ c.cores_are_numbered.ensures.few
    c.cores_are_numbered.ensures.numbers
