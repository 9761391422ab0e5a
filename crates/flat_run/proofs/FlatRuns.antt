-- The flat machine on its way through a run, from its start to its end.
use Rattle.std.proofs.Common.{◌≡◌, ◌∙◌, ap, refl, sym, subst, ℕ, suc, ◌<◌, List, [], length, map, arith, true, false}
use Rattle.std.specs.Prelude.{replicate}
use Rattle.std.specs.List.{list_all}
use Rattle.std.proofs.lemmas.List.FromFn.{length-map-range_with_len}
use Rattle.access_times.specs.Riding.{none_riding, none_carrying}
use Rattle.image_mem.specs.Contents.{Contents}
use Rattle.rtr_types.specs.Parameters.{Fits}
use Rattle.rtr_types.specs.declared.access.Access.{Access}
use Rattle.rtr_types.specs.declared.params.Params.{Params}
use Rattle.rv_core.specs.Steps.{is_done}
use Rattle.rv_core.specs.declared.core_state.Core.{Core}
use Rattle.rv_core.specs.declared.outcome.LoadNote.{LoadNote}
use Rattle.rv_core.specs.declared.outcome.Outcome.{Outcome}
use Rattle.schedule_pick.specs.Choices.{Choices, choice_at, choices_after}
use Rattle.machine_bound.proofs.Firsts.{one_first}
use Rattle.machine_data.specs.Coherent.{memory_after, opening_memory}
use Rattle.machine_invariant.proofs.DoneCores.{links_left}
use Rattle.msi_state.specs.Events.{Event, Accesses}
use Rattle.msi_state.specs.FinalMemory.{final_words}
use Rattle.msi_state.specs.Runs.{accesses, loads_of, opening_state, outcome_at, plain_event, plain_step, run}
use Rattle.msi_state.specs.States.{PlainState, all_done}
use Rattle.msi_state.specs.Steps.{enabled}
use Rattle.flat_state.specs.Shows.{IsSomewhere, Stands}
use Rattle.flat_laws.proofs.LastWords.{cores_shown, done_shown}
use Rattle.flat_machine.proofs.LastPlaces.{noted_final}
use Rattle.flat_machine.specs.Machines.{HasStepped, IsKept, words_noted}
use Rattle.flat_machine.specs.declared.machine.FlatMachine.{FlatMachine}
use Rattle.run_outcome.proofs.CoreMoves.{CoresAfter, cores_moved}
use Rattle.run_outcome.proofs.RunPlaces.{run_ends, runs_end, stands_next, stands_start, steps_by}
use Rattle.run_outcome.specs.Loads.{lists_told}
use Rattle.run_outcome.specs.Outcomes.{end_of, outcome_of}
use Rattle.run_steps.specs.Ends.{outcome_with}
use Rattle.flat_run.specs.InRun.{StandsInRun}

-- a flat machine that stands in a run, and its next step
module _ (m : FlatMachine) (loads : List (List LoadNote)) (rest : Choices) (image : Contents) (params : Params)
    (schedule : Choices) (t : ℕ) (at : StandsInRun m loads rest image params schedule t) where
  pub somewhere : IsSomewhere m.flat
  somewhere = record { s = at.s; memory = at.memory; stands = at.stands }

  long : length loads ≡ length at.s.cores
  long = ap length at.runs.loads_are
      ∙ (length-map-range_with_len (λ (c : ℕ). loads_of c (accesses image params (choice_at schedule) t)) 0 params.cores
      ∙ sym at.runs.runs.cores)

  module _ (m' : FlatMachine) (choice : ℕ) (e : Event) (stepped : HasStepped m m' choice e) where
    can : enabled none_riding none_carrying at.s stepped.taken ≡ true
    can = stepped.can at.s at.memory at.stands

    tells : plain_event at.s stepped.taken ≡ e
    tells = stepped.made.told at.s at.memory at.stands can

    -- an access is of a core that has a list
    pub access_listed : (a : Access) → e ≡ Accesses a → a.at.core < length loads
    access_listed a is =
        let after : CoresAfter at.s.image at.s.cores (Accesses a) (plain_step at.s stepped.taken).cores =
        subst (λ (x : Event). CoresAfter at.s.image at.s.cores x (plain_step at.s stepped.taken).cores) (tells ∙ is)
        (cores_moved none_riding none_carrying at.s stepped.taken tt can at.stands.holds) in
        subst (λ (n : ℕ). a.at.core < n) (sym long) after.retires.within

    -- it stands one choice further
    pub steps_on : (loads' : List (List LoadNote)) (rest' : Choices) →
        list_all (λ n. is_done n.need) m.flat.nodes.items ≡ false → choice ≡ choice_at rest 0 →
        rest' ≡ choices_after rest → loads' ≡ lists_told loads e →
        StandsInRun m' loads' rest' image params schedule (suc t)
    steps_on loads' rest' going number left told =
        record {
          s = plain_step at.s stepped.taken;
          memory = memory_after (plain_event at.s stepped.taken) at.memory;
          stands = stepped.made.makes at.s at.memory at.stands can;
          kept = stepped.made.kept;
          runs = stands_next image params schedule t at.s (plain_step at.s stepped.taken) loads loads' rest rest'
              stepped.taken (sym (done_shown m.flat at.s at.memory at.stands) ∙ going)
              (steps_by {s = at.s} {s' = plain_step at.s stepped.taken} number (stepped.chooses at.s at.memory at.stands) refl left)
              (told ∙ ap (lists_told loads) (sym tells)) at.runs;
        }

  pub cores_count : params.cores ≡ length (map (λ n. n.core) m.flat.nodes.items)
  cores_count = sym at.runs.runs.cores ∙ ap length (sym (cores_shown m.flat at.s at.memory at.stands))

  -- where no step is left it has the outcome
  pub flat_outcome : Fits params → list_all (λ n. is_done n.need) m.flat.nodes.items ≡ true →
      outcome_with (map (λ n. n.core) m.flat.nodes.items) (words_noted m) m.flat.program.words loads
      ≡ outcome_of image params schedule
  unfolding outcome_of
  flat_outcome fits ended =
      let choices : ℕ → ℕ = choice_at schedule in
      let done : all_done at.s ≡ true = sym (done_shown m.flat at.s at.memory at.stands) ∙ ended in
      let empty = links_left none_riding none_carrying at.s at.stands.holds done in
      let last : t ≡ end_of image params choices =
      one_first (λ u. all_done (run image params choices u)) t (end_of image params choices)
      (runs_end image params schedule t at.s rest done at.runs.runs)
      (run_ends image params choices (record { cores = fits.cores; limit = omega (arith, fits.limit) })) in
      let blocks : words_noted m ≡ final_words none_riding none_carrying at.s =
      λ i block. noted_final m at.s at.memory block at.stands at.kept empty i in
      let left : PlainState → List (List LoadNote) → Outcome =
      λ u ls. outcome_with u.cores (final_words none_riding none_carrying u) u.image.words ls in
      ap (λ (cores : List Core). outcome_with cores (words_noted m) m.flat.program.words loads)
      (cores_shown m.flat at.s at.memory at.stands)
      ∙ (ap (λ (words : ℕ → List ℕ). outcome_with at.s.cores words m.flat.program.words loads) blocks
      ∙ (ap (λ (c : Contents). outcome_with at.s.cores (final_words none_riding none_carrying at.s) c.words loads)
      at.stands.shows.image
      ∙ (ap (λ (u : PlainState). left u loads) at.runs.runs.state
      ∙ (ap (left (run image params choices t)) at.runs.loads_are
      ∙ ap (outcome_at image params choices) last))))

-- before its first step
pub stands_first : (m : FlatMachine) (loads : List (List LoadNote)) (image : Contents) (params : Params)
    (schedule : Choices) → Stands m.flat (opening_state image params) (opening_memory image) → IsKept m →
    loads ≡ replicate params.cores [] → StandsInRun m loads schedule image params schedule 0
stands_first m loads image params schedule stands kept none =
    record {
      s = opening_state image params;
      memory = opening_memory image;
      stands = stands;
      kept = kept;
      runs = stands_start image params schedule (opening_state image params) loads refl none;
    }
