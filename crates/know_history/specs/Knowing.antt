-- What carries hold while things happen, and when they count exactly what is known.
use Rattle.std.specs.Prelude.{◌≡◌, ℕ, zero, suc, ◌+◌, ◌<◌, ◌≤◌, ◌==◌, ◌⊎◌, ◌↔◌, Bool, false, Option, Some, None, List}
use Rattle.std.specs.Prelude.{[], ◌∷◌, length, if◌then◌else◌}
use Rattle.rtr_types.specs.declared.TheConstants.{CORES_MAX}
use Rattle.rtr_types.specs.declared.instr.Instr.{Instr}
use Rattle.access_times.specs.Riding.{Carrying}
use Rattle.know_history.specs.declared.known.Known.{Known}
use Rattle.know_history.specs.Knowledge.{count_in}
use Rattle.know_history.specs.Happenings.{Actor, AtCore, Channel, Happening, Leads, left_on, on_link, with_sent}

-- Each core's instructions retire one after the other, in its own events.

abbrev pub is_of : (core : ℕ) → Option Instr → Bool
is_of core None = false
is_of core (Some x) = x.core == core

-- how many of the core's instructions retired in the first t events
abbrev pub retired_in : (event : ℕ → Happening) → (t core : ℕ) → ℕ
retired_in event zero core = 0
retired_in event (suc t) core =
    if is_of core (event t).retires then retired_in event t core + 1 else retired_in event t core

-- event t is one of the instruction's core, of which the instruction is the next
pub record IsNext (event : ℕ → Happening) (t : ℕ) (x : Instr) : Type 0 where
  pub core : x.core < CORES_MAX
  pub own : (event t).actor ≡ Some (AtCore x.core)
  pub count : x.count ≡ retired_in event t x.core + 1

abbrev pub IsOrderly : (event : ℕ → Happening) → (t : ℕ) → Type 0
IsOrderly event t = (x : Instr) → (event t).retires ≡ Some x → IsNext event t x

-- Carries: each actor's, and those of the messages on each link, oldest first.
pub record Carries (K : Type 0) : Type 0 where
  pub own : Actor → K
  pub sent : Channel → List K

module _ {K : Type 0} where
  abbrev pub joined_oldest : Carrying K → List K → K → K
  joined_oldest carrying [] own = own
  joined_oldest carrying (oldest ∷ others) own = carrying.joined own oldest

  -- an actor's carry once it took the oldest message from the link that is named
  abbrev pub carry_taken : Carrying K → Option Channel → (Channel → List K) → K → K
  carry_taken carrying None sent own = own
  carry_taken carrying (Some link) sent own = joined_oldest carrying (sent link) own

  abbrev pub carry_retired : Carrying K → Option Instr → K → K
  carry_retired carrying None own = own
  carry_retired carrying (Some x) own = carrying.retired own x

  -- the carry of the actor whose event it is, after it
  abbrev pub carry_left : Carrying K → Happening → Carries K → Actor → K
  carry_left carrying e c actor = carry_retired carrying e.retires (carry_taken carrying e.takes c.sent (c.own actor))

-- the carries before and after an actor's event: each message that it sends has a copy of the actor's carry,
-- taken after all else
pub record CarriesFollow {K : Type 0} (carrying : Carrying K) (e : Happening) (actor : Actor)
    (c d : Carries K) : Type 0 where
  pub acting : d.own actor ≡ carry_left carrying e c actor
  pub resting : (other : Actor) → (other ≡ actor → ⊥) → d.own other ≡ c.own other
  pub sent : (link : Channel) →
      d.sent link ≡ with_sent (e.sends link) (d.own actor) (left_on e.takes link (c.sent link))

-- t is u or leads to it
abbrev pub IsOrLeads : (event : ℕ → Happening) → (t u : ℕ) → Type 0
IsOrLeads event t u = (t ≡ u) ⊎ Leads event t u

-- t is one of the actor's among the first n events, or leads to one
pub record HasReached (event : ℕ → Happening) (n : ℕ) (actor : Actor) (t : ℕ) : Type 0 where
  pub last : ℕ
  pub within : last < n
  pub of_it : (event last).actor ≡ Some actor
  pub reaches : IsOrLeads event t last

-- x retires in an event of the set
abbrev pub RetiresIn : (event : ℕ → Happening) → (set : ℕ → Type 0) → Instr → Type 0
RetiresIn event set x = (t : ℕ) × ((event t).retires ≡ Some x) × set t

-- at each core's place stands how many of its instructions retire in events of the set, which are its first ones
pub record Counts (event : ℕ → Happening) (set : ℕ → Type 0) (known : Known) : Type 0 where
  pub places : length known.counts ≡ CORES_MAX
  pub at : (x : Instr) → x.core < CORES_MAX → 1 ≤ x.count → (x.count ≤ count_in known x.core) ↔ RetiresIn event set x

-- what an actor carries after event u, and so what it then sends, counts what is u or leads to it
abbrev pub CountsTo : (event : ℕ → Happening) → (u : ℕ) → Known → Type 0
CountsTo event u known = Counts event (λ t. IsOrLeads event t u) known

-- the carries on a link are those of these events, one by one
abbrev pub AllCount : (event : ℕ → Happening) → List ℕ → List Known → Type 0
AllCount event [] [] = Unit {0}
AllCount event (u ∷ us) (known ∷ knowns) = CountsTo event u known × AllCount event us knowns
AllCount event _ _ = ⊥

-- after the first n events each carry counts exactly what reached it
pub record AllKnow (event : ℕ → Happening) (n : ℕ) (c : Carries Known) : Type 0 where
  pub own : (actor : Actor) → Counts event (HasReached event n actor) (c.own actor)
  pub sent : (link : Channel) → AllCount event (on_link event n link) (c.sent link)
