-- What a replay answers.
use Rattle.std.specs.Prelude.{◌≡◌, ◌<◌, ◌≤◌, ◌↔◌, ℕ, Bool, IsTrue, true, false, List, [], ◌∷◌, ◌++◌, length, map}
use Rattle.std.specs.Prelude.{nat_lt, slice_index_or, slice_set, Option, Some, None, if◌then◌else◌}
use Rattle.std.specs.List.{Contains, range_with_len}
use Rattle.rtr_types.specs.declared.TheConstants.{CORES_MAX}
use Rattle.rtr_types.specs.declared.instr.Instr.{Instr}
use Rattle.rtr_types.specs.declared.instr.Edge.{Edge}
use Rattle.rtr_types.specs.declared.access.Access.{Access}
use Rattle.rtr_types.specs.declared.cut.Cut.{Cut}
use Rattle.image_mem.specs.Contents.{Contents}
use Rattle.rv_core.specs.declared.core_state.Core.{Core}
use Rattle.rv_core.specs.declared.outcome.LoadNote.{LoadNote}
use Rattle.rv_core.specs.declared.outcome.Outcome.{Outcome}
use Rattle.rv_core.specs.Steps.{is_done}
use Rattle.load_lists.specs.Lists.{LoadRooms}
use Rattle.race_log.specs.declared.recording.Recording.{Recording}
use Rattle.race_log.specs.Validity.{Valid}
use Rattle.replay_core.specs.declared.answers.Advanced.{Advanced}
use Rattle.replay_core.specs.declared.answers.Advanced.TheVariants as advanced
use Rattle.replay_core.specs.declared.answers.ReplayFault.{ReplayFault}
use Rattle.replay_core.specs.declared.answers.ReplayFault.TheVariants as faults
use Rattle.replay_core.specs.Plans.{Plan, recorded_image}
use Rattle.replay_core.specs.Play.{Given, no_values, Use, loads_after, instr, need_at, place_given, touched_given}
use Rattle.replay_core.specs.Play.{start}
use Rattle.replay_core.specs.Play.{valued_short, valued_played}
use Rattle.replay_core.specs.Orders.{counts, nought, IsReplayOrder, IsWhole, low_order}

-- what contracts see of a replay under way: what it plays, what it has come to, and whether each core's loads have
-- room for one more
pub record UnderWay : Type 0 where
  pub plan : Plan
  pub state : Outcome
  pub roomy : Bool

-- the parts of a replay, as contracts see them
abbrev pub under_way : Plan → List Core → List ℕ → LoadRooms → UnderWay
under_way plan cores words loads =
    record { plan = plan; state = record { cores = cores; words = words; loads = loads.lists }; roomy = loads.roomy }

-- whether a core's place can be added to the order that was played
abbrev pub TellsOrders : Plan → Outcome → (core : ℕ) → Bool → Type 0
TellsOrders p s core answer = (given : Given) (order : List ℕ) → IsReplayOrder p order →
    s ≡ valued_played given p order →
    IsTrue answer ↔ IsReplayOrder p (order ++ core ∷ [])

-- at most one access, as a list
abbrev pub told : Option Access → List Access
told None = []
told (Some access) = access ∷ []

-- core c, given a value or none, has retired one instruction more, with this access
pub record RetiresGiven (p : Plan) (s : Outcome) (c : ℕ) (given : Option ℕ) (access : Option Access) (t : Outcome)
    : Type 0 where
  pub going : is_done (need_at p s c) ≡ false
  pub state : t ≡ place_given p s c given
  pub access_is : told access ≡ touched_given p s c given

abbrev pub Retires : Plan → Outcome → ℕ → Option Access → Outcome → Type 0
Retires p s c access t = RetiresGiven p s c None access t

-- core c's program is done, and nothing changed
pub record Stays (p : Plan) (s : Outcome) (c : ℕ) (t : Outcome) : Type 0 where
  pub done : is_done (need_at p s c) ≡ true
  pub state : t ≡ s

-- one place of the play, or none where it falls short
abbrev pub AdvancesGiven : Plan → Outcome → ℕ → (given : Option ℕ) → Advanced → Outcome → Type 0
AdvancesGiven p s c given (advanced.Retired access) t = RetiresGiven p s c given access t
AdvancesGiven p s c given advanced.Short t = Stays p s c t

abbrev pub Advances : Plan → Outcome → ℕ → Advanced → Outcome → Type 0
Advances p s c answer t = AdvancesGiven p s c None answer t

-- the counts of so many cores, and 0 at the other places
abbrev pub cut_counts : (cores : ℕ) → (ℕ → ℕ) → List ℕ
cut_counts cores f = map (λ c. if nat_lt c cores then f c else 0) (range_with_len 0 CORES_MAX)

abbrev pub cut_of : Plan → (ℕ → ℕ) → Cut
cut_of p f = record { cores = length p.totals; counts = cut_counts (length p.totals) f }

-- the low order is whole and plays, with the given values, to this outcome
pub record ReplaysValued (given : Given) (p : Plan) (outcome : Outcome) : Type 0 where
  pub plays : valued_short given p (start p) (low_order p) ≡ None
  pub whole : IsWhole p (low_order p)
  pub outcome_is : outcome ≡ valued_played given p (low_order p)

-- it plays, and ends at this cut before it is whole
pub record EndsAtValued (given : Given) (p : Plan) (cut : Cut) : Type 0 where
  pub plays : valued_short given p (start p) (low_order p) ≡ None
  pub not_whole : IsWhole p (low_order p) → ⊥
  pub cut_is : cut ≡ cut_of p (counts nought (low_order p))

-- why there is no outcome. Want of memory says nothing
abbrev pub RefusesValued : Given → Plan → ReplayFault → Type 0
RefusesValued given p (faults.Stuck cut) = EndsAtValued given p cut
RefusesValued given p (faults.Short core count) = valued_short given p (start p) (low_order p) ≡ Some (core, count)
RefusesValued given p faults.OutOfMemory = Unit {0}

-- the same without given values
abbrev pub Replays : Plan → Outcome → Type 0
Replays p outcome = ReplaysValued no_values p outcome

abbrev pub EndsAt : Plan → Cut → Type 0
EndsAt p cut = EndsAtValued no_values p cut

abbrev pub Refuses : Plan → ReplayFault → Type 0
Refuses p fault = RefusesValued no_values p fault

-- ---- what the parts of the code ask and tell

-- each core's loads, core 0 first
abbrev pub Loads : Type 0
Loads = List (List LoadNote)

-- the word that is used is one of so many
abbrev pub UsesWithin : Use → (words : ℕ) → Type 0
UsesWithin None words = Unit {0}
UsesWithin (Some used) words = used.1 < words

-- the core's list has what its instruction noted
abbrev pub AreNoted : (old : Loads) → (core : ℕ) → Use → (count value : ℕ) → (new : Loads) → Type 0
AreNoted old core used count value new =
    new ≡ slice_set old core (loads_after used (slice_index_or old core []) count value)

-- core `of` has come as far as the edge from it to `at` asks, if there is one
abbrev pub IsMet : List Edge → (ℕ → ℕ) → (of : ℕ) → Instr → Type 0
IsMet edges f of at = (a : ℕ) → Contains edges (record { from = instr of a; to = at }) → a ≤ f of

-- the parts of a replay belong to its recording
pub record HoldsTogether (r : Recording) (image : Contents) (cores : List Core) (words : List ℕ) (loads : Loads)
    : Type 0 where
  pub valid : Valid r
  pub image_is : image ≡ recorded_image r
  pub all_cores : length cores ≡ r.params.cores
  pub all_words : length words ≡ r.params.words
  pub all_loads : length loads ≡ r.params.cores
