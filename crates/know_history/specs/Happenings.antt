-- Rule: what is known: IsKnownAt
-- What happens one after the other among actors that send each other messages, and what of it leads to
-- what: Lamport's relation.
use Rattle.std.specs.Prelude.{◌≡◌, ℕ, zero, suc, ◌<◌, ◌==◌, ◌⊎◌, Bool, false, Option, Some, List, [], ◌∷◌, ◌++◌, drop}
use Rattle.std.specs.Prelude.{if◌then◌else◌}
use Rattle.rtr_types.specs.declared.instr.Instr.{Instr}

-- who acts: a core with its cache, or the home
pub data Actor : Type 0 where
  AtCore : (core : ℕ) → Actor
  AtHome : Actor

-- an ordered link: a core's requests to the home, its responses to the home, or its messages from the home
pub data Channel : Type 0 where
  Requests : (core : ℕ) → Channel
  Responses : (core : ℕ) → Channel
  Messages : (core : ℕ) → Channel

-- one event: whose it is (no one's, where nothing happens), the link from which it takes the oldest
-- message, the links to which it sends one, and the instruction that retires in it
pub record Happening : Type 0 where
  pub actor : Option Actor
  pub takes : Option Channel
  pub sends : Channel → Bool
  pub retires : Option Instr

abbrev pub is_channel : Option Channel → Channel → Bool
is_channel (Some (Requests c)) (Requests d) = c == d
is_channel (Some (Responses c)) (Responses d) = c == d
is_channel (Some (Messages c)) (Messages d) = c == d
is_channel _ _ = false

-- what is left of a link's messages once the oldest is taken from the link that is named
abbrev pub left_on : {T : Type 0} → Option Channel → Channel → List T → List T
left_on named link items = if is_channel named link then drop 1 items else items

-- a link's messages, with one more behind all others if it is sent
abbrev pub with_sent : {T : Type 0} → Bool → T → List T → List T
with_sent sent item items = if sent then items ++ item ∷ [] else items

-- Events are numbered from 0: `event t` is the one numbered t.

-- the messages on a link after the first t events, oldest first, each by the number of the event that
-- sent it
abbrev pub on_link : (event : ℕ → Happening) → (t : ℕ) → Channel → List ℕ
on_link event zero link = []
on_link event (suc t) link = with_sent ((event t).sends link) t (left_on (event t).takes link (on_link event t link))

-- both events are of one actor, t before u
pub record IsEarlier (event : ℕ → Happening) (t u : ℕ) : Type 0 where
  pub actor : Actor
  pub of_it : (event t).actor ≡ Some actor
  pub and_of_it : (event u).actor ≡ Some actor
  pub before : t < u

-- t sent the message that u takes
pub record IsDelivered (event : ℕ → Happening) (t u : ℕ) : Type 0 where
  pub link : Channel
  pub taken : (event u).takes ≡ Some link
  pub others : List ℕ
  pub oldest : on_link event u link ≡ t ∷ others

abbrev pub Directly : (event : ℕ → Happening) → (t u : ℕ) → Type 0
Directly event t u = IsEarlier event t u ⊎ IsDelivered event t u

-- a path of n steps and one more
abbrev pub Path : (event : ℕ → Happening) → ℕ → (t u : ℕ) → Type 0
Path event zero t u = Directly event t u
Path event (suc n) t u = (v : ℕ) × Path event n t v × Directly event v u

-- a nonempty path of such pairs leads from t to u
abbrev pub Leads : (event : ℕ → Happening) → (t u : ℕ) → Type 0
Leads event t u = (n : ℕ) × Path event n t u

-- the event in which x retires leads to the event in which y does
pub record IsKnownAt (event : ℕ → Happening) (x y : Instr) : Type 0 where
  pub there : ℕ
  pub here : ℕ
  pub retired : (event there).retires ≡ Some x
  pub retires : (event here).retires ≡ Some y
  pub leads : Leads event there here
