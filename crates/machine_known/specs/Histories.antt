-- Where a run stands whose retirements are noted in a history of what is known.
use Rattle.std.specs.Prelude.{◌≡◌, ℕ, suc, ◌<◌, IsTrue, length, ◌≤◌}
use Rattle.access_times.specs.Riding.{Riding}
use Rattle.image_mem.specs.Contents.{Contents}
use Rattle.rtr_types.specs.declared.TheConstants.{CORES_MAX}
use Rattle.know_history.specs.declared.known.Known.{Known}
use Rattle.know_history.specs.Knowledge.{known_carrying}
use Rattle.know_history.specs.Happenings.{Happening}
use Rattle.know_history.specs.Knowing.{AllKnow, retired_in}
use Rattle.know_history.specs.Laws.{AreOrderly, HistoryKnows}
use Rattle.know_history.specs.Notes.{IsNoted, Notes, core_count, no_notes, noted_count}
use Rattle.msi_state.specs.declared.moves.Move.{Move}
use Rattle.msi_state.specs.Events.{Accesses, Event, Nothing, Retires}
use Rattle.machine_plain.specs.Plain.{plain}
use Rattle.msi_state.specs.States.{State, state_start}
use Rattle.msi_state.specs.Steps.{carry_told, enabled, event, step}
use Rattle.machine_known.specs.Events.{carries_of, happening_of}
use Rattle.machine_known.specs.Known.{CountsRetired}

-- after the first t events the carries count what reached them, and the history holds what is known at each
-- retirement
pub record KnowsAt {R : Type 0} (event_at : ℕ → Happening) (t : ℕ) (s : State R Known) (h : Notes) : Type 0 where
  pub carries : AllKnow event_at t (carries_of known_carrying s)
  pub retired : CountsRetired event_at t s
  pub cores : core_count h ≡ length s.cores
  pub noted : (core : ℕ) → core < length s.cores → noted_count h core ≡ retired_in event_at t core
  pub history : HistoryKnows event_at h

-- the history before and after an event was told of, with this carry
abbrev pub HistoryTold : Event → Known → Notes → Notes → Type 0
HistoryTold Nothing known old new = new ≡ old
HistoryTold (Retires at) known old new = IsNoted old at known new
HistoryTold (Accesses a) known old new = IsNoted old a.at known new

abbrev pub KnowsStartLaw : {R : Type 0} → Riding R → Type 0
KnowsStartLaw riding = (event_at : ℕ → Happening) (image : Contents) (cores limit : ℕ) (h : Notes) →
    cores ≤ CORES_MAX → h ≡ no_notes cores → KnowsAt event_at 0 (state_start riding known_carrying image cores limit) h

abbrev pub KnowsStepLaw : {R : Type 0} → Riding R → Type 0
KnowsStepLaw {R} riding =
    (event_at : ℕ → Happening) (t : ℕ) (s : State R Known) (m : Move) (rider : R) (old new : Notes) →
    AreOrderly event_at → IsTrue (enabled riding known_carrying s m) → event_at t ≡ happening_of (plain s) m →
    HistoryTold (event riding known_carrying s m)
    (carry_told riding known_carrying s m) old new → KnowsAt event_at t s old →
    KnowsAt event_at (suc t) (step riding known_carrying rider s m) new
