-- The machine over every run, from what its steps keep.
use Rattle.std.proofs.Common.{ℕ, ◌<◌, ◌^◌, arith}
use Rattle.access_times.specs.Riding.{none_carrying, none_riding}
use Rattle.machine_bound.proofs.RunEnds.{InRange, end_in_time, run_ends}
use Rattle.machine_bound.specs.Ends.{end_of}
use Rattle.machine_data.proofs.Remembers.{each_finds_last, final_values}
use Rattle.machine_invariant.proofs.DoneCores.{links_left}
use Rattle.machine_invariant.proofs.MoveGrounds.{rows_there, rooms_there}
use Rattle.machine_invariant.proofs.Stuck.{some_move}
use Rattle.machine_invariant.proofs.StartInvariant.{holds_run}
use Rattle.msi_laws.specs.Holds.{block_in}
use Rattle.msi_laws.proofs.KindsShown.{blocks_hold}
use Rattle.msi_protocol.proofs.Keeps.{one_writer_holds}
use Rattle.machine_invariant.specs.Holds.{MachineHolds}
use Rattle.msi_state.specs.Runs.{run}
use Rattle.msi_state.specs.States.{PlainState}
use Rattle.run_outcome.specs.EveryRun.{EveryRunLaw, StateHolds}

state_holds : (s : PlainState) → MachineHolds none_riding none_carrying s → StateHolds s
state_holds s h =
    record {
      one_writer = λ b. one_writer_holds (block_in none_riding none_carrying s.memory b)
          (blocks_hold none_riding none_carrying s.memory h.memory b);
      rows = λ m can. rows_there none_riding none_carrying s m h can;
      rooms = λ m can. rooms_there none_riding none_carrying s m h can;
      going = some_move none_riding none_carrying s h;
    }

pub every_run : EveryRunLaw
every_run image params choices fits =
    let small : params.limit < 2 ^ 32 = omega (arith, fits.limit) in
    let range : InRange params = record { cores = fits.cores; limit = small } in
    let t : ℕ = end_of image params choices in
    let end = run_ends image params choices range in
    record {
      states = λ u. state_holds (run image params choices u) (holds_run image params choices u fits.cores small);
      finds = λ u. each_finds_last image params choices u fits.cores small;
      end = record {
        ends = end;
        in_time = end_in_time image params choices range;
        quiet = links_left none_riding none_carrying (run image params choices t) (holds_run image params choices t
            fits.cores small) end.done;
        memory = final_values image params choices t fits.cores small end.done;
      };
    }
