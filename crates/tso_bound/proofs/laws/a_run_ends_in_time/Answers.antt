use Rattle.tso_state.specs.Runs.{run}
use Rattle.tso_state.specs.States.{all_done}
use Rattle.tso_bound.specs.Ends.{most_steps}
use Rattle.machine_bound.proofs.BoundPromise.{ends_in_time}
use Rattle.tso_bound.proofs.RunEnds.{left_within, end_in_time, most_steps_few}
use Rattle.tso_bound.proofs.laws.a_run_ends_in_time.Goals as goal

pub returns : goal.returns
returns c = ends_in_time run all_done most_steps left_within end_in_time most_steps_few
