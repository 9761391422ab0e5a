-- A machine in the opening state stands at the start of the run, whatever the schedule.
use Rattle.std.proofs.Common.{◌≡◌, ◌∙◌, ap, arith, length}
use Rattle.std.proofs.lemmas.List.FromFn.{length-map-range_with_len}
use Rattle.image_mem.specs.Contents.{Contents}
use Rattle.rtr_types.specs.declared.params.Params.{Params}
use Rattle.rv_core.specs.States.{starting}
use Rattle.schedule_pick.specs.Choices.{Choices, choice_at}
use Rattle.msi_state.specs.Runs.{opening_state}
use Rattle.msi_state.specs.States.{PlainState}
use Rattle.run_outcome.specs.Outcomes.{RunsAt}
use Rattle.tso_state.specs.Runs.{opening_state as tso_opening_state}
use Rattle.tso_state.specs.States.{PlainState as TsoState, buffered_start}
use Rattle.tso_outcome.specs.Outcomes.{RunsAt as TsoRunsAt}

pub runs_from_start : (image : Contents) (params : Params) (s : PlainState) → s ≡ opening_state image params
    → (schedule : Choices) → RunsAt image params schedule 0 s schedule
runs_from_start image params s is schedule =
    record {
      state = is;
      cores = ap (λ (now : PlainState). length now.cores) is
          ∙ length-map-range_with_len (λ id. starting id params.limit) 0 params.cores;
      rest_is = λ u. ap (choice_at schedule) (omega arith);
      going = λ u lt. absurd (omega (arith, lt));
    }

pub tso_runs_from_start : (image : Contents) (params : Params) (s : TsoState) → s ≡ tso_opening_state image params
    → (schedule : Choices) → TsoRunsAt image params schedule 0 s schedule
tso_runs_from_start image params s is schedule =
    record {
      state = is;
      cores = ap (λ (now : TsoState). length now.cores) is
          ∙ length-map-range_with_len (λ id. buffered_start id params.limit) 0 params.cores;
      rest_is = λ u. ap (choice_at schedule) (omega arith);
      going = λ u lt. absurd (omega (arith, lt));
    }
