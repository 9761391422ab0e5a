-- Rule: what is seen of the flat machine: seen_of
-- What is seen of the flat machine, and where it stands in a run.
use Rattle.std.specs.Prelude.{ℕ, List, false, length, map}
use Rattle.std.specs.List.{list_all}
use Rattle.image_mem.specs.Contents.{Contents}
use Rattle.rtr_types.specs.CoreSets.{no_cores}
use Rattle.rtr_types.specs.declared.params.Params.{Params}
use Rattle.rv_core.specs.Steps.{is_done, need}
use Rattle.schedule_pick.specs.Choices.{Choices}
use Rattle.move_marks.specs.Kinds.{marked, set_of}
use Rattle.move_marks.specs.declared.marks.MoveKind.TheVariants.{Own}
use Rattle.msi_state.specs.States.{PlainState, core_at}
use Rattle.run_outcome.specs.Outcomes.{RunsAt}
use Rattle.flat_state.specs.Shows.{Stands}
use Rattle.flat_state.specs.declared.flat.Flat.{Flat}
use Rattle.flat_machine.specs.declared.machine.FlatMachine.{FlatMachine}
use Rattle.hunt_runs.specs.PlainSeen.{is_local}
use Rattle.hunt_runs.specs.Seen.{Seen}

-- what is seen of the machine: of the moves that can be made those that it marks
abbrev pub seen_of : FlatMachine → Seen
seen_of m = record {
  cores = map (λ n. n.core) m.flat.nodes.items;
  actors = record { cores = set_of Own m.marks; buffers = no_cores };
  steps = length (marked m.marks);
  load_first = λ c. false;
  unseen = λ c. is_local (need m.flat.program (core_at (map (λ n. n.core) m.flat.nodes.items) c));
  stores = λ c. 0;
  ended = list_all (λ n. is_done n.need) m.flat.nodes.items;
}

-- the flat state stands where the plain machine is, so many choices into the run
pub record FlatRuns (f : Flat) (image : Contents) (params : Params) (schedule : Choices) (t : ℕ) (rest : Choices)
    : Type 0 where
  pub s : PlainState
  pub memory : ℕ → List ℕ
  pub stands : Stands f s memory
  pub runs : RunsAt image params schedule t s rest
