-- What is known of instructions, by the events in which they retire.
use Rattle.std.specs.Prelude.{◌≡◌, ◌≢◌, ℕ, suc, ◌+◌, ◌<◌, ◌≤◌, ◌↔◌, Some}
use Rattle.rtr_types.specs.declared.TheConstants.{CORES_MAX}
use Rattle.rtr_types.specs.declared.instr.Instr.{Instr}
use Rattle.know_history.specs.declared.known.Known.{Known}
use Rattle.know_history.specs.Knowledge.{count_in, known_carrying}
use Rattle.know_history.specs.Notes.{IsNoted, Notes, known_at, no_notes, noted_count}
use Rattle.know_history.specs.Happenings.{Actor, Happening, IsKnownAt}
use Rattle.know_history.specs.Knowing.{AllKnow, Carries, CarriesFollow, IsOrderly, carry_left}

-- each core's instructions retire one after the other, in its own events
abbrev pub AreOrderly : (event : ℕ → Happening) → Type 0
AreOrderly event = (t : ℕ) → IsOrderly event t

-- as many of the instructions of each other core as the carry counts are known at y, and of y's own core it
-- counts y and those before
pub record IsKnownCount (event : ℕ → Happening) (known : Known) (y : Instr) : Type 0 where
  pub others : (x : Instr) → x.core < CORES_MAX → x.core ≢ y.core → 1 ≤ x.count → (x.count ≤ count_in known x.core)
      ↔ IsKnownAt event x y
  pub own : count_in known y.core ≡ y.count

-- Where the carries count what reached them before an event, those that follow from them do after it.
abbrev pub CarriesKnowLaw : Type 0
CarriesKnowLaw = (event : ℕ → Happening) (t : ℕ) (actor : Actor) (c d : Carries Known) → AreOrderly event →
    (event t).actor ≡ Some actor → CarriesFollow known_carrying (event t) actor c d → AllKnow event t c →
    AllKnow event (suc t) d

-- And what an actor then carries counts what is known at the instruction that retires.
abbrev pub KnownCountLaw : Type 0
KnownCountLaw = (event : ℕ → Happening) (t : ℕ) (actor : Actor) (c : Carries Known) (y : Instr) → AreOrderly event →
    (event t).actor ≡ Some actor → (event t).retires ≡ Some y → AllKnow event t c →
    IsKnownCount event (carry_left known_carrying (event t) c actor) y

-- What is known retired earlier.
abbrev pub KnownEarlierLaw : Type 0
KnownEarlierLaw = (event : ℕ → Happening) (x y : Instr) (k : IsKnownAt event x y) → k.there < k.here

-- What is known at an instruction is known at each later one of its core.
abbrev pub KnownStaysLaw : Type 0
KnownStaysLaw = (event : ℕ → Happening) (x y z : Instr) (t : ℕ) → AreOrderly event → IsKnownAt event x y →
    z.core ≡ y.core → y.count < z.count → (event t).retires ≡ Some z → IsKnownAt event x z

-- the history holds of each retirement that it noted how many instructions of each other core are known at it
abbrev pub HistoryKnows : (event : ℕ → Happening) → Notes → Type 0
HistoryKnows event h = (x y : Instr) → 1 ≤ y.count → y.count ≤ noted_count h y.core → x.core < CORES_MAX →
    x.core ≢ y.core → 1 ≤ x.count → (x.count ≤ known_at h y.core y.count x.core) ↔ IsKnownAt event x y

-- A history in which nothing is noted does.
abbrev pub HistoryStartLaw : Type 0
HistoryStartLaw = (event : ℕ → Happening) (h : Notes) (cores : ℕ) → h ≡ no_notes cores → HistoryKnows event h

-- Where it does, it still does once the next retirement is noted with a carry that counts what is known at it.
abbrev pub HistoryLaw : Type 0
HistoryLaw = (event : ℕ → Happening) (t : ℕ) (y : Instr) (known : Known) (old new : Notes) → AreOrderly event →
    (event t).retires ≡ Some y → y.count ≡ noted_count old y.core + 1 → IsKnownCount event known y →
    IsNoted old y known new → HistoryKnows event old → HistoryKnows event new

-- Two histories that hold what is known hold the same.
abbrev pub SameHistoryLaw : Type 0
SameHistoryLaw =
    (event : ℕ → Happening) (h g : Notes) (core count of : ℕ) → HistoryKnows event h → HistoryKnows event g →
    1 ≤ count →
    count ≤ noted_count h core → count ≤ noted_count g core → «of» < CORES_MAX → «of» ≢ core →
    known_at h core count «of» ≡ known_at g core count «of»

-- what a history holds that notes each retirement with what is known at it
pub record HistoryLaws : Type 0 where
  pub start : HistoryStartLaw
  pub noted : HistoryLaw
  pub same : SameHistoryLaw
