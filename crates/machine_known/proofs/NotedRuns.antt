-- A history in which a run's retirements are noted.
use Rattle.std.proofs.Common.{◌≡◌, ◌≢◌, ◌∙◌, ap, refl, sym, ℕ, suc, ◌+◌, ◌<◌, ◌==◌, ◌⊎◌, inl, inr, false, Option, Some}
use Rattle.std.proofs.Common.{None, List, [], length, arith}
use Rattle.std.specs.Prelude.{IsTrue, replicate, slice_index_or}
use Rattle.std.proofs.lemmas.Bool.{cases_eq}
use Rattle.std.proofs.lemmas.Bool.Decides.{nat_tests}
use Rattle.std.proofs.lemmas.List.{length-replicate}
use Rattle.std.proofs.lemmas.List.FromFn.{length-map-range_with_len}
use Rattle.access_times.specs.Riding.{Riding}
use Rattle.rv_core.specs.States.{starting}
use Rattle.clock_core.specs.declared.clock.Clock.{Clock}
use Rattle.rtr_types.specs.declared.instr.Instr.{Instr}
use Rattle.know_history.specs.declared.known.Known.{Known}
use Rattle.know_history.specs.Knowledge.{known_carrying}
use Rattle.know_history.specs.Happenings.{Happening}
use Rattle.know_history.specs.Knowing.{is_of, retired_in}
use Rattle.know_history.specs.Laws.{AreOrderly, HistoryKnows, IsKnownCount}
use Rattle.know_history.specs.Notes.{IsNoted, Notes, core_count, noted_count}
use Rattle.know_history.proofs.CarryCounts.{is_counted}
use Rattle.know_history.proofs.Histories.{history_law, history_start_law, none_noted}
use Rattle.msi_state.specs.Moves.{core_of}
use Rattle.msi_state.specs.Events.{Accesses, Event, Nothing, Retires, instr_of}
use Rattle.msi_state.specs.States.{State}
use Rattle.msi_state.specs.Steps.{carry_told, enabled, event, step}
use Rattle.msi_state.specs.declared.moves.Move.{Move}
use Rattle.machine_plain.proofs.ForgetfulSteps as forgetting
use Rattle.machine_known.specs.Histories.{HistoryTold, KnowsStartLaw, KnowsStepLaw}
use Rattle.machine_known.specs.Known.{CountsRetired, StepKnows}
use Rattle.machine_known.proofs.CarryActs.{retired_next}
use Rattle.machine_known.proofs.RetiredNext.{at_core, counts_step, state_counts}
use Rattle.machine_known.proofs.KnownRuns.{counts_start, known_start, known_step}

-- what a history is after what it was told of
record NotedAfter (event_at : ℕ → Happening) (t cores : ℕ) (h : Notes) : Type 0 where
  many : core_count h ≡ cores
  noted : (core : ℕ) → core < cores → noted_count h core ≡ retired_in event_at t core
  history : HistoryKnows event_at h

unretired : (event_at : ℕ → Happening) (t core : ℕ) (o : Option Instr) → (event_at t).retires ≡ o →
    is_of core o ≡ false → retired_in event_at t core
    ≡ retired_in event_at (suc t) core
unretired event_at t core o is test = let same : is_of core (event_at t).retires ≡ false = ap (is_of core) is ∙ test in
    rw same refl

noted_none : (event_at : ℕ → Happening) (t cores : ℕ) (old new : Notes) → (event_at t).retires ≡ None → new ≡ old →
    NotedAfter event_at t cores old →
    NotedAfter event_at (suc t) cores new
noted_none event_at t cores old new is same h =
    rw same (record {
      many = h.many;
      noted = λ core lt. h.noted core lt ∙ unretired event_at t core None is refl;
      history = h.history;
    })

noted_one : (event_at : ℕ → Happening) (t cores : ℕ) (y : Instr) (known : Known) (old new : Notes) →
    AreOrderly event_at → y.core < cores →
    (event_at t).retires ≡ Some y → IsKnownCount event_at known y → IsNoted old y known new →
    NotedAfter event_at t cores old →
    NotedAfter event_at (suc t) cores new
noted_one event_at t cores y known old new orderly within is counts note h =
    record {
      many = note.cores ∙ h.many;
      noted = λ core lt. by core lt (cases_eq core y.core);
      history = history_law event_at t y known old new orderly is ((orderly t y is).count
          ∙ ap (λ (n : ℕ). n + 1) (sym (h.noted y.core within))) counts note h.history;
    }
  where
    other_core : (i j : ℕ) → j ≢ i → (i == j) ≡ false
    other_core i j apart = grind (arith, nat_tests)

    by : (core : ℕ) → core < cores → (core ≡ y.core) ⊎ (core ≢ y.core) → noted_count new core ≡ retired_in event_at
        (suc t) core
    by core lt (inl e) = ap (noted_count new) e ∙ (note.count ∙ (sym (is_counted event_at t y is (orderly t y is))
        ∙ ap (retired_in event_at (suc t)) (sym e)))
    by core lt (inr apart) = note.others core apart
        ∙ (h.noted core lt ∙ unretired event_at t core (Some y) is (other_core y.core core apart))

told : (event_at : ℕ → Happening) (t cores : ℕ) (e : Event) (known : Known) (old new : Notes) → AreOrderly event_at →
    ((y : Instr) → instr_of e ≡ Some y → y.core < cores) → (event_at t).retires ≡ instr_of e →
    ((y : Instr) → instr_of e ≡ Some y → IsKnownCount event_at known y) → HistoryTold e known old new →
    NotedAfter event_at t cores old →
    NotedAfter event_at (suc t) cores new
told event_at t cores Nothing known old new orderly within is counts note h =
    noted_none event_at t cores old new is note h
told event_at t cores (Retires at) known old new orderly within is counts note h =
    noted_one event_at t cores at known old new orderly (within at refl) is (counts at refl) note h
told event_at t cores (Accesses a) known old new orderly within is counts note h =
    noted_one event_at t cores a.at known old new orderly (within a.at refl) is (counts a.at refl) note h

module _ {R : Type 0} where
  pub knows_start : (riding : Riding R) → KnowsStartLaw riding
  knows_start riding event_at image cores limit h few is =
      record {
        carries = (known_start riding event_at image cores limit).1;
        retired = counts_start riding event_at image cores limit few;
        cores = ap length is ∙ (length-replicate {A = List Clock} cores []
            ∙ sym (length-map-range_with_len (λ (id : ℕ). starting id limit) 0 cores));
        noted = λ core lt. (let e : noted_count h core
            ≡ length (slice_index_or {A = List Clock} (replicate cores []) core []) = ap
            (λ (lists : List (List Clock)). length (slice_index_or lists core [])) is in let none =
            none_noted cores core in omega arith);
        history = history_start_law event_at h cores is;
      }

  -- what retires is one of the state's cores
  pub retires_within : (riding : Riding R) (event_at : ℕ → Happening) (t : ℕ) (s : State R Known) (m : Move) →
      IsTrue (enabled riding known_carrying s m) →
      CountsRetired event_at t s → (y : Instr) → instr_of (event riding known_carrying s m) ≡ Some y →
      y.core < length s.cores
  retires_within riding event_at t s m e counts y f =
      let lt = at_core riding known_carrying s m e counts.ports in
      let same : y.core ≡ core_of m =
      ap (λ (i : Instr). i.core) (sym (retired_next riding known_carrying s m y f)) ∙ counts.numbers (core_of m) lt in
      omega arith

  pub knows_step : (riding : Riding R) → KnowsStepLaw riding
  knows_step riding event_at t s m rider old new orderly e is note h =
      record {
        carries = next.goes_on;
        retired = counts_step riding known_carrying event_at t s m rider e is h.retired;
        cores = after.many ∙ sym long;
        noted = λ core lt. after.noted core (rw long at lt);
        history = after.history;
      }
    where
      next : StepKnows riding event_at t s m rider
      next = known_step riding event_at t s m rider orderly e is h.retired.ports h.carries

      long : length (step riding known_carrying rider s m).cores ≡ length s.cores
      long = (state_counts riding known_carrying s m rider (at_core riding known_carrying s m e h.retired.ports)).long

      retires : (event_at t).retires ≡ instr_of (event riding known_carrying s m)
      retires = ap (λ (p : Happening). p.retires) is
          ∙ sym (ap instr_of (forgetting.plain_event riding known_carrying s m))

      after : NotedAfter event_at (suc t) (length s.cores) new
      after = told event_at t (length s.cores) (event riding known_carrying s m)
          (carry_told riding known_carrying s m) old new orderly
          (retires_within riding event_at t s m e h.retired) retires next.known note
          (record { many = h.cores; noted = h.noted; history = h.history })
