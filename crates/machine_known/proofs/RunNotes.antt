-- The history of a run goes on as the run does.
use Rattle.std.proofs.Common.{◌≡◌, ◌∙◌, ap, refl, sym, ℕ, suc, ◌+◌, ◌≤◌, Option, Some, None, arith}
use Rattle.std.specs.Prelude.{IsTrue}
use Rattle.access_times.specs.Riding.{none_riding}
use Rattle.image_mem.specs.Contents.{Contents}
use Rattle.rtr_types.specs.declared.TheConstants.{CORES_MAX}
use Rattle.rtr_types.specs.declared.instr.Instr.{Instr}
use Rattle.rtr_types.specs.declared.params.Params.{Params}
use Rattle.know_history.specs.declared.known.Known.{Known}
use Rattle.know_history.specs.Happenings.{Happening}
use Rattle.know_history.specs.Knowledge.{known_carrying}
use Rattle.know_history.specs.Notes.{IsNoted, no_notes}
use Rattle.know_history.specs.Rows.{with_note}
use Rattle.know_history.proofs.NotedRetirement.{is_noted}
use Rattle.msi_state.specs.Events.{Accesses, Event, Nothing, Retires, instr_of}
use Rattle.machine_plain.specs.Plain.{plain}
use Rattle.msi_state.specs.Runs.{chosen, run}
use Rattle.msi_state.specs.States.{PlainState, State}
use Rattle.msi_state.specs.Steps.{carry_told, enabled, event}
use Rattle.msi_state.specs.declared.moves.Move.{Move}
use Rattle.machine_plain.proofs.ForgetfulSteps as forgetting
use Rattle.machine_known.specs.Events.{happening_at, happening_by, happening_of}
use Rattle.machine_known.specs.Histories.{HistoryTold, KnowsAt}
use Rattle.machine_known.specs.Known.{known_stepped}
use Rattle.machine_known.specs.RunHistory.{carrying_at, notes_at, with_event, with_move}
use Rattle.machine_known.proofs.NotedRuns.{knows_start, knows_step, retires_within}
use Rattle.machine_known.proofs.KnownRuns.{run_orderly_law, run_plain, taken_enabled}

module _ (image : Contents) (params : Params) (choices : ℕ → ℕ) (few : params.cores ≤ CORES_MAX) where
  abbrev events : ℕ → Happening
  events = happening_at image params choices

  -- what holds of the run's own history after t choices
  abbrev pub KnowsRun : ℕ → Type 0
  KnowsRun t = KnowsAt (happening_at image params choices) t (carrying_at image params choices t)
      (notes_at image params choices t)

  pub run_known_start : KnowsRun 0
  run_known_start = knows_start none_riding (happening_at image params choices) image params.cores params.limit
      (no_notes params.cores) few refl

  -- a retirement is noted as it is to be
  noted_next : (t : ℕ) (m : Move) (at : Instr) (known : Known) →
      IsTrue (enabled none_riding known_carrying (carrying_at image params choices t) m) →
      (events t).retires ≡ Some at →
      instr_of (event none_riding known_carrying (carrying_at image params choices t) m) ≡ Some at → KnowsRun t →
      IsNoted (notes_at image params choices t) at known (with_note (notes_at image params choices t) at known)
  noted_next t m at known can retires is h =
      let notes = notes_at image params choices t in
      let within = retires_within none_riding events t (carrying_at image params choices t) m can h.retired at is in
      let count = (run_orderly_law image params choices few t at retires).count in
      let noted = h.noted at.core within in
      let cores = h.cores in
      is_noted notes at known (with_note notes at known) (omega arith) (count ∙ ap (λ (n : ℕ). n + 1) (sym noted)) refl

  event_noted : (t : ℕ) (m : Move) (known : Known) (e : Event) →
      IsTrue (enabled none_riding known_carrying (carrying_at image params choices t) m) →
      (events t).retires ≡ instr_of e → event none_riding known_carrying (carrying_at image params choices t) m ≡ e →
      KnowsRun t →
      HistoryTold e known (notes_at image params choices t) (with_event (notes_at image params choices t) e known)
  event_noted t m known Nothing can retires is h = refl
  event_noted t m known (Retires at) can retires is h = noted_next t m at known can retires (ap instr_of is) h
  event_noted t m known (Accesses a) can retires is h = noted_next t m a.at known can retires (ap instr_of is) h

  -- the history goes on with the move that the run takes
  pub run_known_next : (t : ℕ) (m : Move) → chosen (run image params choices t) (choices t) ≡ Some m → KnowsRun t →
      KnowsRun (suc t)
  run_known_next t m taken h = by (chosen (plain (carrying_at image params choices t)) (choices t)) refl
    where
      s : State (Unit {0}) Known
      s = carrying_at image params choices t

      here : plain (carrying_at image params choices t) ≡ run image params choices t
      here = run_plain none_riding image params choices (λ u. tt) t

      by : (o : Option Move) → chosen (plain (carrying_at image params choices t)) (choices t) ≡ o →
          KnowsAt events (suc t) (known_stepped none_riding tt (carrying_at image params choices t) o)
          (with_move (carrying_at image params choices t) (notes_at image params choices t) o)
      by None none = absurd (let clash : Some m ≡ None = sym taken ∙ ap (λ (u : PlainState). chosen u (choices t))
          (sym here) ∙ none in cc)
      by (Some n) is =
          let e = event none_riding known_carrying (carrying_at image params choices t) n in
          let can = taken_enabled none_riding (carrying_at image params choices t) (choices t) n is in
          let happens : happening_at image params choices t ≡ happening_of (plain (carrying_at image params choices t))
          n =
          ap (λ (u : PlainState). happening_by u (chosen u (choices t))) (sym here)
          ∙ ap (happening_by (plain (carrying_at image params choices t))) is in
          let retires : (happening_at image params choices t).retires ≡ instr_of e =
          ap (λ (p : Happening). p.retires) happens
          ∙ sym (ap instr_of (forgetting.plain_event none_riding known_carrying (carrying_at image params choices t)
          n)) in
          knows_step none_riding (happening_at image params choices) t (carrying_at image params choices t) n tt
          (notes_at image params choices t)
          (with_move (carrying_at image params choices t) (notes_at image params choices t) (Some n))
          (run_orderly_law image params choices few) can happens
          (event_noted t n (carry_told none_riding known_carrying (carrying_at image params choices t) n) e can retires
          refl h) h
