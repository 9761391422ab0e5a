-- What is said of a run that is followed by hand.
use Rattle.std.specs.Prelude.{ℕ, ◌+◌, ◌==◌, ◌&&◌, Bool, not, List, [], ◌∷◌, map, Option, if◌then◌else◌, slice_index}
use Rattle.std.specs.List.{range_with_len, list_all}
use Rattle.access_times.specs.Riding.{none_riding, none_carrying}
use Rattle.image_mem.specs.Contents.{Contents, opening_words}
use Rattle.rtr_types.specs.declared.params.Params.{Params}
use Rattle.rv_core.specs.declared.core_state.Core.{Core}
use Rattle.rv_core.specs.declared.core_state.Stop.{Stop}
use Rattle.rv_core.specs.declared.outcome.LoadNote.{LoadNote}
use Rattle.rv_core.specs.Steps.{need, stop_of}
use Rattle.msi_state.specs.declared.moves.Move.{Move}
use Rattle.msi_state.specs.States.{PlainState, all_done}
use Rattle.msi_state.specs.Events.{Event}
use Rattle.msi_state.specs.FinalMemory.{final_memory}
use Rattle.msi_state.specs.Runs.{chosen, stepped_by, event_by, run, totals, accesses, loads_of}

-- the move that a choice took, and what it told the clerk
pub record StepTaken : Type 0 where
  pub move : Option Move
  pub told : Event

-- what each of the choices did, from this state on
abbrev pub followed : PlainState → List ℕ → List StepTaken
followed s [] = []
followed s (choice ∷ choices) =
    let move = chosen s choice in
    record { move = move; told = event_by s move } ∷ followed (stepped_by s move) choices

-- these choices, and after the last of them 0 for ever
abbrev pub then_zeros : List ℕ → ℕ → ℕ
then_zeros choices t = slice_index choices t

-- the run is over after exactly t choices
abbrev pub ends_at : Contents → Params → (ℕ → ℕ) → ℕ → Bool
ends_at image params choices t =
    all_done (run image params choices t)
    && list_all (λ u. not (all_done (run image params choices u))) (range_with_len 0 t)

-- the values of a list that differ from those of a second list, each behind its place, from this place on
abbrev pub changed : (place : ℕ) → List ℕ → List ℕ → List (ℕ × ℕ)
changed place [] others = []
changed place (x ∷ xs) [] = (place, x) ∷ changed (place + 1) xs []
changed place (x ∷ xs) (y ∷ ys) =
    if x == y then changed (place + 1) xs ys else (place, x) ∷ changed (place + 1) xs ys

-- the values of a list that aren't 0, each behind its place, from this place on
abbrev pub nonzero : (place : ℕ) → List ℕ → List (ℕ × ℕ)
nonzero place [] = []
nonzero place (x ∷ xs) = if x == 0 then nonzero (place + 1) xs else (place, x) ∷ nonzero (place + 1) xs

-- what a state is to a reader: by core why it stopped, how many instructions it executed, its pc and those of its
-- registers that aren't 0; and the words of memory that aren't the image's
pub record Seen : Type 0 where
  pub stops : List Stop
  pub executed : List ℕ
  pub pcs : List ℕ
  pub registers : List (List (ℕ × ℕ))
  pub memory : List (ℕ × ℕ)

-- of cores that run this image, which executed so many instructions and left these words
abbrev pub seen_in : Contents → List Core → (executed words : List ℕ) → Seen
seen_in image cores executed words =
    record {
      stops = map (λ core. stop_of (need image core)) cores;
      executed = executed;
      pcs = map (λ core. core.pc) cores;
      registers = map (λ core. nonzero 0 core.registers) cores;
      memory = changed 0 words (opening_words image);
    }

abbrev pub seen : PlainState → Seen
seen s = seen_in s.image s.cores (totals s) (final_memory none_riding none_carrying s)

-- each core's loads within the first t choices
abbrev pub loads_by : Contents → Params → (ℕ → ℕ) → ℕ → List (List LoadNote)
loads_by image params choices t =
    map (λ c. loads_of c (accesses image params choices t)) (range_with_len 0 params.cores)
