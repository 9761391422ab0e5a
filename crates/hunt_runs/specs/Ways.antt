-- What a run on its way has come to.
use Rattle.hunt_runs.specs.Courses.{Gone}
use Rattle.hunt_runs.specs.declared.led.Run.{Run}

abbrev pub gone_in : {M P : Type 0} → Run M P → Gone P
gone_in run = record { choices = run.choices; directed = run.director }
