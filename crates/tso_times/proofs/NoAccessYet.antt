-- At the start nothing was accessed.
use Rattle.std.proofs.Common.{[], arith}
use Rattle.access_times.specs.Riding.{Carrying}
use Rattle.image_mem.specs.Contents.{Contents}
use Rattle.std.specs.Prelude.{ℕ}
use Rattle.machine_times.specs.StandsFor.{TimesParts}
use Rattle.machine_times.proofs.NewMachine.{IsFresh, machine_start}
use Rattle.tso_state.specs.States.{state_start}
use Rattle.tso_times.specs.Timed.{StandsAfter}

pub buffered_start : {R K : Type 0} (parts : TimesParts R) (carrying : Carrying K) → IsFresh parts →
    (image : Contents) (cores limit : ℕ) →
    StandsAfter parts carrying [] (state_start parts.riding carrying image cores limit)
buffered_start parts carrying fresh image cores limit =
    record { all = (machine_start parts carrying fresh image cores limit).all; told = λ c word within. omega arith }
