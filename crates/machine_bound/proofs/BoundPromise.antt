-- What is promised of the ends of runs, by lemmas for parameters in their ranges: until a run has ended, its steps and
-- those that are left are no more than most_steps.
use Rattle.std.proofs.Common.{ℕ, ◌+◌, ◌*◌, ◌<◌, ◌≤◌, ◌^◌, Bool, arith}
use Rattle.image_mem.specs.Contents.{Contents}
use Rattle.rtr_types.specs.Parameters.{Fits}
use Rattle.rtr_types.specs.declared.params.Params.{Params}
use Rattle.msi_state.specs.Choosing.{IsFirst}
use Rattle.machine_bound.specs.Ends.{EndsInTime, first_end}
use Rattle.machine_bound.proofs.RunEnds.{InRange}
use Rattle.machine_bound.proofs.Firsts.{FailsBefore, first_end_within, left_ends, one_first}

module _ {S : Type 0} (run : Contents → Params → (choices : ℕ → ℕ) → (t : ℕ) → S) (all_done : S → Bool)
    (most_steps : Params → ℕ) {more : ℕ} {instructions left : S → ℕ} where
  pub ends_in_time :
      ((image : Contents) (params : Params) (choices : ℕ → ℕ) (t : ℕ) → InRange params →
      FailsBefore (λ u. all_done (run image params choices u)) t →
      t + left (run image params choices t) ≤ most_steps params) →
      ((image : Contents) (params : Params) (choices : ℕ → ℕ) → InRange params →
      first_end run all_done most_steps image params choices
      ≤ (2 * params.cores + more)
      * instructions (run image params choices (first_end run all_done most_steps image params choices))) →
      ((params : Params) → Fits params → most_steps params < 2 ^ 32) →
      EndsInTime run (λ image params choices t. IsFirst (λ u. all_done (run image params choices u)) t)
      (first_end run all_done most_steps) most_steps more instructions left
  ends_in_time left_within in_time few = record {
    ends = λ image params choices le lt. ends image params choices (record { cores = le; limit = lt });
    alone = λ image params choices t le lt is.
        one_first (λ u. all_done (run image params choices u)) t
        (first_end run all_done most_steps image params choices) is
        (ends image params choices (record { cores = le; limit = lt }));
    in_time = λ image params choices le lt. in_time image params choices (record { cores = le; limit = lt });
    within = λ image params choices. first_end_within run all_done most_steps image params choices;
    remaining = λ image params choices t le lt before.
        left_within image params choices t (record { cores = le; limit = lt })
        (λ u early. (ends image params choices (record { cores = le; limit = lt })).first u (omega arith));
    few = few;
  }
    where
      ends : (image : Contents) (params : Params) (choices : ℕ → ℕ) → InRange params →
          IsFirst (λ u. all_done (run image params choices u)) (first_end run all_done most_steps image params choices)
      ends image params choices fits =
          left_ends run all_done most_steps image params choices _
          (λ t more. left_within image params choices t fits more)
