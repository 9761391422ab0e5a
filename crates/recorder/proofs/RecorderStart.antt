-- Where the recorder stands before the first choice.
use Rattle.std.proofs.Common.{◌≡◌, refl, []}
use Rattle.std.specs.Prelude.{replicate}
use Rattle.access_times.specs.Times.{times_riding}
use Rattle.access_times.specs.declared.times.Times.{Times}
use Rattle.edge_regulate.specs.Seats.{Follows}
use Rattle.image_mem.specs.Contents.{Contents}
use Rattle.know_history.specs.Knowledge.{known_carrying}
use Rattle.know_history.specs.Notes.{no_notes}
use Rattle.know_history.specs.declared.known.Known.{Known}
use Rattle.machine_plain.specs.Plain.{plain}
use Rattle.msi_state.specs.Runs.{opening_state}
use Rattle.msi_state.specs.States.{State, state_start}
use Rattle.online_reduce.specs.Reduced.{unreduced}
use Rattle.rtr_types.specs.Pairs.{pair_count}
use Rattle.rtr_types.specs.Parameters.{Fits}
use Rattle.rtr_types.specs.declared.params.Params.{Params}
use Rattle.run_records.proofs.RecordedPlaces.{notes_start, regulates_start}
use Rattle.run_records.specs.Clerks.{Noted}
use Rattle.run_records.specs.Standing.{RecordsAt}
use Rattle.schedule_pick.specs.Choices.{Choices}

pub records_start : (image : Contents) (params : Params) (schedule : Choices) (s : State Times Known) (c : Noted)
    → Fits params → s ≡ state_start times_riding known_carrying image params.cores params.limit
    → plain s ≡ opening_state image params → c.reduction.state ≡ unreduced params.cores → c.untold ≡ []
    → c.regulation.regulation.cores ≡ params.cores
    → Follows (no_notes params.cores) (replicate (pair_count params.cores) []) c.regulation
    → RecordsAt image params schedule 0 s c schedule
records_start image params schedule s c fits is opening reduction untold cores follows = record {
  history = no_notes params.cores;
  notes = notes_start image params schedule s c.reduction.state (no_notes params.cores) fits is opening reduction refl;
  regulates = regulates_start params.cores c reduction untold cores follows;
}
