-- Rule: what agrees with an order that decides with given values: AgreesValued, EveryValuedLaw
-- Laws of replay orders, whole or not.
use Rattle.std.specs.Prelude.{◌≡◌, ◌≢◌, ℕ, zero, suc, ◌+◌, ◌<◌, ◌≤◌, ◌⊎◌, ◌↔◌, false, All, List, ◌++◌, length}
use Rattle.std.specs.Prelude.{slice_index, Some, None, IsTrue}
use Rattle.std.specs.List.{Contains}
use Rattle.rtr_types.specs.Accesses.{is_write}
use Rattle.rtr_types.specs.declared.instr.Edge.{Edge}
use Rattle.rtr_types.specs.declared.access.Access.{Access}
use Rattle.rtr_types.specs.declared.pairs.Which.{Which}
use Rattle.clock_core.specs.Order.{Within, Before, Among}
use Rattle.conflict_edge.specs.Conflicts.{Conflicts, ConflictPair, CountsRise, StandsIn}
use Rattle.conflict_edge.specs.Least.{Suffices}
use Rattle.rv_core.specs.declared.outcome.LoadNote.{LoadNote}
use Rattle.rv_core.specs.declared.outcome.Outcome.{Outcome}
use Rattle.rv_core.specs.declared.core_state.Core.{Core}
use Rattle.rv_core.specs.declared.core_state.Need.TheVariants.{Local}
use Rattle.rv_core.specs.Steps.{need, after, is_done}
use Rattle.race_log.specs.declared.recording.Recording.{Recording}
use Rattle.race_log.specs.Sources.{log_edges}
use Rattle.race_log.specs.Validity.{Valid}
use Rattle.replay_core.specs.Plans.{Plan, recorded_image, plan_of}
use Rattle.replay_core.specs.Play.{Given, no_values, Use, use_of, core_at, need_at, loads_at, touched, start, Plays}
use Rattle.replay_core.specs.Play.{ValuedPlays}
use Rattle.replay_core.specs.Play.{played, valued_played, accesses_of, valued_accesses}
use Rattle.replay_core.specs.Orders.{counts, nought, Sourced, Ready, IsReplayOrder, IsWhole}
use Rattle.clock_entries.specs.Laws.{IsLog, IsAcyclic}
use Rattle.replay_audit.specs.Determinate.{Decides, DecidesValued, IsDeterminate}

-- ---- logs of recordings

-- the edges lead between instructions of different cores, which count from 1
abbrev pub RecordedLogLaw : Type 0
RecordedLogLaw = (which : Which) (r : Recording) → Valid r → IsLog (log_edges which r)

-- no log that has a whole replay order goes round
abbrev pub AcyclicLaw : Type 0
AcyclicLaw = (which : Which) (r : Recording) (order : List ℕ) → Valid r →
    IsReplayOrder (plan_of which r) order → IsWhole (plan_of which r) order → IsAcyclic (log_edges which r)

-- the counts of a replay order's accesses rise
abbrev pub AccessesRiseLaw : Type 0
AccessesRiseLaw = (which : Which) (r : Recording) (order : List ℕ) →
    IsReplayOrder (plan_of which r) order → CountsRise (accesses_of (plan_of which r) order)

-- ---- what an outcome has room for

-- the outcome has as many cores as the plan, each within its total, its memory is the image's, and each of its loads is
-- of a word of that memory
pub record OutcomeFits (p : Plan) (outcome : Outcome) : Type 0 where
  pub cores : length outcome.cores ≡ length p.totals
  pub words : length outcome.words ≡ p.image.words
  pub lists : length outcome.loads ≡ length p.totals
  pub within : All (λ notes. All (λ note. note.word < p.image.words) notes) outcome.loads

-- the play of every replay order fits
abbrev pub ReplayFitsLaw : Type 0
ReplayFitsLaw = (p : Plan) (order : List ℕ) → IsReplayOrder p order → OutcomeFits p (played p order)

-- ---- every order

-- a core can be added, and the longer order plays
abbrev pub GoesOnValued : Given → Plan → List ℕ → Type 0
GoesOnValued given p order =
    (c : ℕ) × Ready p (counts nought order) c × (is_done (need_at p (valued_played given p order) c) ≡ false)

abbrev pub GoesOn : Plan → List ℕ → Type 0
GoesOn p order = GoesOnValued no_values p order

-- the order agrees with the whole one as far as it goes: it plays, the log orders its conflicts, its accesses are among
-- those of the whole one, with their values and in the same order where they conflict, each core's loads are a front of
-- the core's loads there; and it goes on until it is whole, where it ends in the same outcome
pub record AgreesValued (given : Given) (p : Plan) (whole order : List ℕ) : Type 0 where
  pub plays : ValuedPlays given p (start p) order
  pub suffices : Suffices (valued_accesses given p order) (Among p.edges)
  pub accesses : (a : Access) → StandsIn (valued_accesses given p order) a → StandsIn (valued_accesses given p whole) a
  pub pairs : Within (ConflictPair (valued_accesses given p order)) (ConflictPair (valued_accesses given p whole))
  pub loads : (c : ℕ) → (later : List LoadNote)
      × (loads_at (valued_played given p whole) c ≡ loads_at (valued_played given p order) c ++ later)
  pub further : IsWhole p order ⊎ GoesOnValued given p order
  pub outcome : IsWhole p order → valued_played given p order ≡ valued_played given p whole

abbrev pub Agrees : Plan → (whole order : List ℕ) → Type 0
Agrees p whole order = AgreesValued no_values p whole order

-- where some whole order decides with the values that each order is given, every replay order agrees with it
abbrev pub EveryValuedLaw : Type 0
EveryValuedLaw = (given : Given) (p : Plan) (whole order : List ℕ) → IsLog p.edges →
    DecidesValued given p whole → IsReplayOrder p order → AgreesValued given p whole order

-- where some whole order decides, every replay order agrees with it
abbrev pub EveryOrderLaw : Type 0
EveryOrderLaw = (which : Which) (r : Recording) (whole order : List ℕ) → Valid r →
    Decides (plan_of which r) whole → IsReplayOrder (plan_of which r) order → Agrees (plan_of which r) whole order

-- two replay orders, of a recording that some whole order decides
pub record AreDecided (which : Which) (r : Recording) (whole order other : List ℕ) : Type 0 where
  pub valid : Valid r
  pub decides : Decides (plan_of which r) whole
  pub ordered : IsReplayOrder (plan_of which r) order
  pub others : IsReplayOrder (plan_of which r) other

-- an instruction has one access in all replay orders, with one word, one kind and the same values
abbrev pub OneAccessLaw : Type 0
OneAccessLaw = (which : Which) (r : Recording) (whole order other : List ℕ) (a b : Access) →
    AreDecided which r whole order other →
    StandsIn (accesses_of (plan_of which r) order) a → StandsIn (accesses_of (plan_of which r) other) b →
    a.at ≡ b.at → a ≡ b

-- so a load has one value in all of them
abbrev pub OneLoadLaw : Type 0
OneLoadLaw = (which : Which) (r : Recording) (whole order other : List ℕ) (c : ℕ) (m n : LoadNote) →
    AreDecided which r whole order other →
    Contains (loads_at (played (plan_of which r) order) c) m →
    Contains (loads_at (played (plan_of which r) other) c) n → m.count ≡ n.count → m ≡ n

-- the access that core c's next instruction makes after the order is a
abbrev pub MakesNext : Plan → List ℕ → ℕ → Access → Type 0
MakesNext p order c a = Ready p (counts nought order) c × StandsIn (touched p (played p order) c) a

-- two cores' next accesses that conflict are never both ready
abbrev pub NeverBothLaw : Type 0
NeverBothLaw = (which : Which) (r : Recording) (whole order : List ℕ) (c d : ℕ) (a b : Access) → Valid r →
    Decides (plan_of which r) whole → IsReplayOrder (plan_of which r) order →
    MakesNext (plan_of which r) order c a → MakesNext (plan_of which r) order d b → Conflicts a b → ⊥

-- ---- cores that are ahead by local instructions

-- two uses of one word, which one of them writes
abbrev pub Clash : Use → Use → Type 0
Clash None v = ⊥
Clash (Some u) None = ⊥
Clash (Some u) (Some v) = (u.1 ≡ v.1) × (IsTrue (is_write u.0) ⊎ IsTrue (is_write v.0))

-- core c, in the state k, is below its total, and the logged sources of its next instruction are within the counts
pub record IsDue (p : Plan) (f : ℕ → ℕ) (c : ℕ) (k : Core) : Type 0 where
  pub below : k.count < slice_index p.totals c
  pub sourced : Sourced p.edges f c (k.count + 1)

-- core c goes from the state k to the state a by n local instructions, each of which is due
abbrev pub IsAhead : Plan → (ℕ → ℕ) → (c n : ℕ) → Core → Core → Type 0
IsAhead p f c zero k a = k ≡ a
IsAhead p f c (suc n) k a = IsDue p f c k × (need p.image k ≡ Local) × IsAhead p f c n (after p.image k 0) a

-- and what comes after them is due
pub record IsDueAhead (p : Plan) (f : ℕ → ℕ) (c n : ℕ) (k a : Core) : Type 0 where
  pub inside : c < length p.totals
  pub ahead : IsAhead p f c n k a
  pub due : IsDue p f c a

-- core c stands at a, by n local instructions after the order that were due by what it had seen of the order
pub record StandsAhead (p : Plan) (order : List ℕ) (c n : ℕ) (a : Core) : Type 0 where
  pub seen : ℕ → ℕ
  pub within : (i : ℕ) → seen i ≤ counts nought order i
  pub ahead : IsDueAhead p seen c n (core_at (played p order) c) a

-- two cores that stand ahead never have next accesses that are both due and conflict
abbrev pub NeverDueLaw : Type 0
NeverDueLaw = (which : Which) (r : Recording) (whole order : List ℕ) (c d n m : ℕ) (a b : Core) → Valid r →
    Decides (plan_of which r) whole → IsReplayOrder (plan_of which r) order → c ≢ d →
    StandsAhead (plan_of which r) order c n a → StandsAhead (plan_of which r) order d m b →
    Clash (use_of (need (recorded_image r) a)) (use_of (need (recorded_image r) b)) → ⊥

-- ---- determinacy by any whole order

abbrev pub AnyWholeLaw : Type 0
AnyWholeLaw = (which : Which) (r : Recording) (order : List ℕ) → Valid r →
    IsReplayOrder (plan_of which r) order → IsWhole (plan_of which r) order →
    IsDeterminate which r ↔ Decides (plan_of which r) order

-- the log orders each two accesses that conflict, the one way or the other
abbrev pub IsSettled : List Edge → List Access → Type 0
IsSettled edges list = (a b : Access) → StandsIn list a → StandsIn list b → Conflicts a b →
    Before (Among edges) a.at b.at ⊎ Before (Among edges) b.at a.at

-- the play of a whole replay order, which falls short nowhere
pub record IsWholePlay (p : Plan) (order : List ℕ) : Type 0 where
  pub ordered : IsReplayOrder p order
  pub whole : IsWhole p order
  pub plays : Plays p (start p) order

abbrev pub SettledLaw : Type 0
SettledLaw = (which : Which) (r : Recording) (order : List ℕ) → Valid r → IsWholePlay (plan_of which r) order →
    IsDeterminate which r ↔ IsSettled (log_edges which r) (accesses_of (plan_of which r) order)
