-- What retires is told with a carry that knows no less than was noted before, so that what is noted of it is what the
-- carry
-- counts.
use Rattle.std.proofs.Common.{◌≡◌, ◌≢◌, ◌∙◌, refl, ap, sym, ℕ, ◌+◌, ◌-◌, ◌<◌, ◌≤◌, ◌⊎◌, inl, inr, Some, arith}
use Rattle.std.proofs.lemmas.Bool.{cases_eq}
use Rattle.access_times.specs.Times.{times_riding}
use Rattle.access_times.specs.declared.times.Times.{Times}
use Rattle.image_mem.specs.Contents.{Contents}
use Rattle.rtr_types.specs.declared.TheConstants.{CORES_MAX}
use Rattle.rtr_types.specs.declared.instr.Instr.{Instr}
use Rattle.rtr_types.specs.declared.params.Params.{Params}
use Rattle.schedule_pick.specs.Choices.{Choices, choice_at}
use Rattle.know_history.specs.Happenings.{Happening, IsKnownAt}
use Rattle.know_history.specs.Knowledge.{count_in, known_carrying}
use Rattle.know_history.specs.Laws.{AreOrderly, IsKnownCount}
use Rattle.know_history.specs.Notes.{Notes, known_at, noted_count}
use Rattle.know_history.specs.Rows.{with_note}
use Rattle.know_history.specs.declared.known.Known.{Known}
use Rattle.know_history.proofs.Histories.{none_before}
use Rattle.know_history.proofs.KnownAt.{known_stays_law}
use Rattle.machine_known.specs.Events.{happening_at, happening_of}
use Rattle.machine_known.proofs.KnownRuns.{known_step, run_orderly_law, taken_enabled}
use Rattle.machine_plain.specs.Plain.{plain}
use Rattle.msi_state.specs.Events.{instr_of}
use Rattle.msi_state.specs.States.{State}
use Rattle.msi_state.specs.Steps.{carry_told, event}
use Rattle.msi_state.specs.declared.moves.Move.{Move}
use Rattle.edge_regulate.specs.Seats.{IsNotedNext}
use Rattle.online_reduce.specs.Reduced.{IsNext, Reduced}
use Rattle.run_records.specs.Standing.{NotesAt}
use Rattle.run_records.proofs.RecordedPlaces.{Turned, counts_noted, few_cores, next_noted, turned_happens}

module _ (image : Contents) (params : Params) (schedule : Choices) (t : ℕ) (s s' : State Times Known) (m : Move)
    (r after : Reduced)
    (notes : Notes) (rest rest' : Choices) (turned : Turned s s' m r after rest rest')
    (h : NotesAt image params schedule t s r notes rest) (y : Instr) (next : IsNext r y)
    (is : instr_of (event times_riding known_carrying s m) ≡ Some y) where
  abbrev carry : Known
  carry = carry_told times_riding known_carrying s m

  abbrev events : ℕ → Happening
  events = happening_at image params (choice_at schedule)

  orderly : AreOrderly (happening_at image params (choice_at schedule))
  orderly = run_orderly_law image params (choice_at schedule) (few_cores image params schedule t s r notes rest h)

  happens : happening_at image params (choice_at schedule) t ≡ happening_of (plain s) m
  happens = turned_happens image params schedule t s s' m r after notes rest rest' turned h

  retires : (happening_at image params (choice_at schedule) t).retires ≡ Some y
  retires = ap (λ (p : Happening). p.retires) happens ∙ ap instr_of (sym turned.event_is) ∙ is

  -- the carry counts what is known
  counts : IsKnownCount events carry y
  counts =
      (known_step times_riding events t s m turned.rider orderly
      (taken_enabled times_riding s (choice_at rest 0) m turned.steps.taken) happens h.knows.retired.ports
      h.knows.carries).known y is

  -- so it counts what was known at the retirement before
  carry_more : (of : ℕ) → «of» < CORES_MAX → «of» ≢ y.core →
      known_at notes y.core (y.count - 1) «of» ≤ count_in carry «of»
  carry_more «of» few apart = by (cases_eq (known_at notes y.core (y.count - 1) «of») 0) (cases_eq (y.count - 1) 0)
    where
      x : Instr
      x = record { core = «of»; count = known_at notes y.core (y.count - 1) «of» }

      before : Instr
      before = record { core = y.core; count = y.count - 1 }

      noted : y.count ≡ noted_count notes y.core + 1
      noted = next.count ∙ ap (λ (i : ℕ). i + 1) (counts_noted image params schedule t s r notes rest h y.core
          next.core)

      by : (known_at notes y.core (y.count - 1) «of» ≡ 0) ⊎ (known_at notes y.core (y.count - 1) «of» ≢ 0) →
          (y.count - 1 ≡ 0) ⊎ (y.count - 1 ≢ 0) → known_at notes y.core (y.count - 1) «of» ≤ count_in carry «of»
      by (inl nothing) first = omega arith
      by (inr some) (inl first) =
          absurd (let zero = ap (λ (n : ℕ). known_at notes y.core n «of») first in let none =
          none_before notes y.core «of» in omega arith)
      by (inr some) (inr later) =
          let known : IsKnownAt events x before =
          (h.knows.history x before (grind arith) (let n = noted in omega arith) few apart (grind arith)).0
          (omega arith) in
          (counts.others x few apart (grind arith)).1 (known_stays_law events x before y t orderly known refl
          (grind arith) retires)

  -- what is noted of it
  pub noted_next : IsNotedNext notes y carry (with_note notes y carry)
  noted_next =
      let noted = next_noted image params schedule t s r notes rest h y carry next in
      record {
        next = next.count ∙ ap (λ (i : ℕ). i + 1) (counts_noted image params schedule t s r notes rest h y.core
            next.core);
        noted = noted;
        exact = λ «of» few apart.
            let greater = noted.greater «of» apart in
            let more = carry_more «of» few apart in
            grind arith;
      }
