-- The order in which instructions retire while things happen, and that what a history holds as known has retired
-- before.
use Rattle.std.specs.Prelude.{◌≡◌, ℕ, zero, suc, ◌<◌, ◌≤◌, List, [], ◌∷◌, ◌++◌, Option, Some, None}
use Rattle.rtr_types.specs.declared.TheConstants.{CORES_MAX}
use Rattle.rtr_types.specs.declared.instr.Instr.{Instr}
use Rattle.know_history.specs.Happenings.{Happening}
use Rattle.know_history.specs.Knowing.{retired_in}
use Rattle.know_history.specs.Laws.{AreOrderly, HistoryKnows}
use Rattle.know_history.specs.Notes.{Notes, known_at, noted_count}
use Rattle.regulated_log.specs.Logs.{IsPast}

abbrev pub core_of : Option Instr → List ℕ
core_of None = []
core_of (Some x) = x.core ∷ []

-- the cores of the instructions that retired in the first t events, in order
abbrev pub retirements : (event : ℕ → Happening) → (t : ℕ) → List ℕ
retirements event zero = []
retirements event (suc t) = retirements event t ++ core_of (event t).retires

-- What a history holds as known, of all retirements in the first t events, has retired before.
abbrev pub HistoryPastLaw : Type 0
HistoryPastLaw = (event : ℕ → Happening) (t cores : ℕ) (h : Notes) → cores ≤ CORES_MAX → AreOrderly event →
    ((core : ℕ) → core < cores → noted_count h core ≡ retired_in event t core) → HistoryKnows event h →
    IsPast cores (retirements event t) (known_at h)
