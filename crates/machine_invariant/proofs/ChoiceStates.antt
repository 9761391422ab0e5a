-- What a choice takes, and what all states that choices lead to have.
use Rattle.std.proofs.Common.{◌≡◌, ◌∙◌, refl, ℕ, ◌<◌, ◌≤◌, ◌^◌, Bool, true, List, [], ◌∷◌, length, get_or, Option}
use Rattle.std.proofs.Common.{Some, None, zero, suc}
use Rattle.std.specs.List.{filter}
use Rattle.std.proofs.lemmas.List.Elements.{filter_passes}
use Rattle.std.proofs.lemmas.List.FromFn.{length-map-range_with_len}
use Rattle.access_times.specs.Riding.{none_riding, none_carrying}
use Rattle.image_mem.specs.Contents.{Contents}
use Rattle.rtr_types.specs.declared.TheConstants.{CORES_MAX}
use Rattle.rtr_types.specs.declared.params.Params.{Params}
use Rattle.msi_laws.proofs.MoveNumbers.{taken_is}
use Rattle.msi_state.specs.Choosing.{by_move, chosen_of, state_after}
use Rattle.msi_state.specs.CoreStates.{PlainCores, cores_start}
use Rattle.machine_invariant.specs.Promises.{EachRunHas}

-- what a choice takes is one of the moves
pub chosen_at : {M : Type 0} (ms : List M) (P : M → Type 0) (choice : ℕ) (m : M) →
    ((i : ℕ) (d : M) → i < length ms → P (get_or ms i d)) → chosen_of ms choice ≡ Some m → P m
chosen_at [] P choice m each is = absurd (cc)
chosen_at (first ∷ later) P choice m each is = taken_is first later P choice m each is

-- what it takes of those that pass a test passes it
pub chosen_passes : {M : Type 0} (test : M → Bool) (ms : List M) (choice : ℕ) (m : M) →
    chosen_of (filter test ms) choice ≡ Some m → test m ≡ true
chosen_passes {M = M} test ms choice m is =
    chosen_at (filter test ms) (λ (x : M). test x ≡ true) choice m (filter_passes test ms) is

-- what the start has, and each move that a choice takes keeps, each state has that choices lead to
module _ {S M : Type 0} (moves : S → List M) (step : S → M → S) (P : S → Type 0)
    (keeps : (s : S) (choice : ℕ) (m : M) → chosen_of (moves s) choice ≡ Some m → P s → P (step s m)) where
  moved_has : (s : S) (choice : ℕ) (taken : Option M) → chosen_of (moves s) choice ≡ taken → P s →
      P (by_move s (step s) taken)
  moved_has s choice None is h = h
  moved_has s choice (Some m) is h = keeps s choice m is h

  pub each_after : (start : S) (choices : ℕ → ℕ) (t : ℕ) → P start → P (state_after moves step start choices t)
  each_after start choices zero h = h
  each_after start choices (suc t) h =
      let s : S = state_after moves step start choices t in
      moved_has s (choices t) (chosen_of (moves s) (choices t)) refl (each_after start choices t h)

-- so each state of a run has what the start has and moves keep
module _ {S M : Type 0} (opening : Contents → Params → S) (moves : S → List M) (step : S → M → S)
    (Holds : S → Type 0) where
  pub each_run_has :
      ((image : Contents) (params : Params) → params.cores ≤ CORES_MAX → params.limit < 2 ^ 32 →
      Holds (opening image params)) →
      ((s : S) (choice : ℕ) (m : M) → chosen_of (moves s) choice ≡ Some m → Holds s → Holds (step s m)) →
      EachRunHas (λ image params choices t. state_after moves step (opening image params) choices t) Holds
  each_run_has started kept image params choices t few small =
      each_after moves step Holds kept (opening image params) choices t (started image params few small)

-- no core comes or goes where no move changes their number
pub cores_stay : {C M : Type 0} (moves : PlainCores C → List M) (step : PlainCores C → M → PlainCores C) →
    ((s : PlainCores C) (m : M) → length (step s m).cores ≡ length s.cores) →
    (starts : ℕ → C) (image : Contents) (cores : ℕ) (choices : ℕ → ℕ) (t : ℕ) →
    length (state_after moves step (cores_start starts none_riding none_carrying image cores) choices t).cores ≡ cores
cores_stay {C = C} moves step same starts image cores choices t =
    each_after moves step (λ (s : PlainCores C). length s.cores ≡ cores) (λ s choice m is e. same s m ∙ e)
    (cores_start starts none_riding none_carrying image cores) choices t
    (length-map-range_with_len starts 0 cores)
