-- Where the flat machine begins, what a step of it leaves, and what it has come to at its end.
use Rattle.std.proofs.Common.{◌≡◌, ◌∙◌, refl, sym, ap, subst, ℕ, suc, ◌≤◌, true, false, List, length, arith}
use Rattle.std.specs.Prelude.{map}
use Rattle.std.specs.List.{list_all}
use Rattle.std.proofs.lemmas.List.FromFn.{length-map-range_with_len}
use Rattle.access_times.specs.Riding.{none_carrying, none_riding}
use Rattle.image_mem.specs.Contents.{Contents}
use Rattle.rtr_types.specs.Parameters.{Fits}
use Rattle.rtr_types.specs.declared.params.Params.{Params}
use Rattle.rv_core.specs.States.{starting}
use Rattle.rv_core.specs.Steps.{is_done}
use Rattle.rv_core.specs.declared.core_state.Core.{Core}
use Rattle.schedule_pick.specs.Choices.{Choices, choice_at, choices_after}
use Rattle.machine_bound.proofs.Firsts.{one_first}
use Rattle.machine_bound.proofs.RunEnds.{owed_start}
use Rattle.machine_bound.specs.Ends.{end_of, most_steps}
use Rattle.machine_data.specs.Coherent.{memory_after, opening_memory}
use Rattle.machine_invariant.proofs.DoneCores.{links_left}
use Rattle.msi_state.specs.Events.{Event}
use Rattle.msi_state.specs.FinalMemory.{final_memory, final_words}
use Rattle.msi_state.specs.Runs.{opening_state, outcome_at, plain_event, plain_step, run}
use Rattle.msi_state.specs.States.{PlainState, all_done}
use Rattle.run_outcome.proofs.RunPlaces.{run_ends, runs_end}
use Rattle.run_outcome.specs.Outcomes.{outcome_of}
use Rattle.run_steps.specs.Ends.{words_in}
use Rattle.flat_state.specs.Shows.{IsSomewhere, Stands}
use Rattle.flat_state.specs.declared.flat.Flat.{Flat}
use Rattle.flat_state.specs.declared.node.Node.{Node}
use Rattle.flat_laws.proofs.LastWords.{cores_shown, done_shown}
use Rattle.flat_laws.proofs.LeftSteps.{left_shown}
use Rattle.flat_laws.specs.StepsLeft.{left_kept}
use Rattle.flat_machine.proofs.LastPlaces.{noted_final}
use Rattle.flat_machine.specs.Machines.{HasStepped, IsKept, words_noted}
use Rattle.flat_machine.specs.declared.machine.FlatMachine.{FlatMachine}
use Rattle.hunt_runs.specs.Ends.{EndsAs}
use Rattle.hunt_runs.specs.FlatSeen.{FlatRuns}
use Rattle.hunt_runs.specs.PlainSeen.{changes_at, changes_in}
use Rattle.hunt_runs.proofs.PlainRuns.{event_is, stands_next}
use Rattle.hunt_runs.proofs.StartBounds.{few_left}
use Rattle.hunt_runs.proofs.StartRuns.{runs_from_start}

-- ---- before the first step

module _ (f : Flat) (image : Contents) (params : Params)
    (stands : Stands f (opening_state image params) (opening_memory image)) where
  pub flat_begins : (schedule : Choices) → FlatRuns f image params schedule 0 schedule
  flat_begins schedule = record {
    s = opening_state image params;
    memory = opening_memory image;
    stands = stands;
    runs = runs_from_start image params (opening_state image params) refl schedule;
  }

  pub flat_few : left_kept f.nodes.items ≤ most_steps params
  flat_few =
      subst (λ (n : ℕ). n ≤ most_steps params) (sym (left_shown f (opening_state image params) (opening_memory image)
      stands))
      (few_left none_riding none_carrying image params (owed_start none_riding none_carrying params.cores))

  pub flat_cores : length (map (λ (n : Node). n.core) f.nodes.items) ≡ params.cores
  flat_cores =
      ap (λ (l : List Core). length l) (cores_shown f (opening_state image params) (opening_memory image) stands)
      ∙ length-map-range_with_len (λ (id : ℕ). starting id params.limit) 0 params.cores

-- ---- a step

pub flat_kept : (old new : FlatMachine) (choice : ℕ) (e : Event) → HasStepped old new choice e → IsSomewhere old.flat →
    IsSomewhere new.flat × IsKept new
flat_kept old new choice e stepped w = (
  record {
    s = plain_step w.s stepped.taken;
    memory = memory_after (plain_event w.s stepped.taken) w.memory;
    stands = stepped.made.makes w.s w.memory w.stands (stepped.can w.s w.memory w.stands);
  },
  stepped.made.kept,
)

module _ (old new : FlatMachine) (choice : ℕ) (e : Event) (stepped : HasStepped old new choice e)
    (going : list_all (λ n. is_done n.need) old.flat.nodes.items ≡ false) where
  pub flat_next : (image : Contents) (params : Params) (schedule : Choices) (t : ℕ) (rest : Choices) →
      choice ≡ choice_at rest 0 → FlatRuns old.flat image params schedule t rest →
      FlatRuns new.flat image params schedule (suc t) (choices_after rest)
  flat_next image params schedule t rest is at = record {
    s = plain_step at.s stepped.taken;
    memory = memory_after (plain_event at.s stepped.taken) at.memory;
    stands = stepped.made.makes at.s at.memory at.stands (stepped.can at.s at.memory at.stands);
    runs = stands_next image params schedule t choice at.s (plain_step at.s stepped.taken) rest stepped.taken
        (sym (done_shown old.flat at.s at.memory at.stands) ∙ going) (stepped.chooses at.s at.memory at.stands) refl is
        at.runs;
  }

  pub flat_changes : (image : Contents) (params : Params) (schedule : Choices) (t : ℕ) (rest : Choices) →
      choice ≡ choice_at rest 0 → FlatRuns old.flat image params schedule t rest →
      changes_in e ≡ changes_at image params schedule t
  flat_changes image params schedule t rest is at =
      sym (ap changes_in (stepped.made.told at.s at.memory at.stands (stepped.can at.s at.memory at.stands)))
      ∙ event_is image params schedule t choice at.s rest stepped.taken (stepped.chooses at.s at.memory at.stands) is
      at.runs

-- ---- at the end

pub flat_ends : (m : FlatMachine) (image : Contents) (params : Params) (schedule : Choices) (t : ℕ) (rest : Choices) →
    IsKept m → list_all (λ n. is_done n.need) m.flat.nodes.items ≡ true → Fits params →
    FlatRuns m.flat image params schedule t rest →
    EndsAs (map (λ n. n.core) m.flat.nodes.items) (words_noted m) m.flat.program.words
    (outcome_of image params schedule)
unfolding outcome_of
flat_ends m image params schedule t rest kept ended fits at =
    let choices : ℕ → ℕ = choice_at schedule in
    let done : all_done at.s ≡ true = sym (done_shown m.flat at.s at.memory at.stands) ∙ ended in
    let last : t ≡ end_of image params choices =
    one_first (λ u. all_done (run image params choices u)) t (end_of image params choices)
    (runs_end image params schedule t at.s rest done at.runs)
    (run_ends image params choices (record { cores = fits.cores; limit = omega (arith, fits.limit) })) in
    let empty = links_left none_riding none_carrying at.s at.stands.holds done in
    let words : words_noted m ≡ final_words none_riding none_carrying at.s =
    λ i block. noted_final m at.s at.memory block at.stands kept empty i in
    record {
      cores_are = cores_shown m.flat at.s at.memory at.stands
          ∙ (ap (λ (u : PlainState). u.cores) at.runs.state ∙ ap (λ u. (outcome_at image params choices u).cores) last);
      words_are = (λ i. words_in (words i) (at.stands.shows.image i).words)
          ∙ (ap (λ (u : PlainState). final_memory none_riding none_carrying u) at.runs.state
          ∙ ap (λ u. (outcome_at image params choices u).words) last);
    }
