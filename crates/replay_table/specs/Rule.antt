-- Rule: the rule of the table: TableRule, OrderStands
-- The rule of the table: what holds of its words and views between any two steps.
use Rattle.std.specs.Prelude.{◌≡◌, ℕ, ◌+◌, ◌^◌, ◌<◌, ◌≤◌, List, [], ◌∷◌, length, slice_index, Some}
use mathlib.Core.Option.{some}
use lib.ListN.{get_elem?}
use Rattle.atomic_table.specs.Table.{State}
use Rattle.rtr_types.specs.declared.pairs.Which.{Which}
use Rattle.rv_core.specs.declared.core_state.Core.{Core}
use Rattle.rv_core.specs.Steps.{need}
use Rattle.race_log.specs.declared.recording.Recording.{Recording}
use Rattle.race_log.specs.Validity.{Valid}
use Rattle.replay_core.specs.Plans.{Plan, plan_of}
use Rattle.replay_core.specs.Play.{core_at, loads_at, start, Plays, played, accesses_of}
use Rattle.replay_core.specs.Orders.{counts, nought, IsReplayOrder, low_order}
use Rattle.replay_audit.specs.Determinate.{Decides}
use Rattle.replay_table.specs.declared.view.Own.{Own}
use Rattle.replay_table.specs.declared.view.View.{View}
use Rattle.replay_table.specs.Accesses.{Changes, touches_by}
use Rattle.replay_table.specs.Aheads.{Due, Ahead}

-- the view number id owns this core, at place k of its list
abbrev pub Owns : List View → (id k : ℕ) → Own → Type 0
Owns views id k o = (v : View) × (get_elem? views id ≡ some v) × (get_elem? v.owned k ≡ some o)

abbrev pub seen_of : View → ℕ → ℕ
seen_of v i = slice_index v.seen i

-- ---- the recording

-- the plan is that of a valid recording and one of its logs
pub record IsRecorded (p : Plan) : Type 0 where
  pub which : Which
  pub recording : Recording
  pub valid : Valid recording
  pub plan_is : p ≡ plan_of which recording

-- and this recording is determinate by this log: the low order decides
abbrev pub LowDecides : Plan → Type 0
LowDecides p = Decides p (low_order p)

-- ---- an order stands

-- an owned core has its executed count of places in the order, and the play leaves what the view says
pub record Agrees (p : Plan) (order : List ℕ) (o : Own) : Type 0 where
  pub count : counts nought order o.core.id ≡ o.core.count
  pub core : core_at (played p order) o.core.id ≡ o.core
  pub loads : loads_at (played p order) o.core.id ≡ o.loads
  pub touched : touches_by o.core.id (accesses_of p order) ≡ o.touched

-- the order stands for the words and views
pub record OrderStands (p : Plan) (words : List ℕ) (views : List View) (order : List ℕ) : Type 0 where
  pub ordered : IsReplayOrder p order
  pub plays : Plays p (start p) order
  pub cores : (id k : ℕ) (o : Own) → Owns views id k o → Agrees p order o
  pub memory : (w : ℕ) → w < p.image.words → slice_index words w ≡ slice_index (played p order).words w

-- some replay order plays, leaves this core as it is here, and has of each core the instructions that were seen of it
pub record Reached (p : Plan) (f : ℕ → ℕ) (o : Own) : Type 0 where
  pub order : List ℕ
  pub ordered : IsReplayOrder p order
  pub plays : Plays p (start p) order
  pub agrees : Agrees p order o
  pub seen : (i : ℕ) → f i ≤ counts nought order i

-- ---- a word is held

-- the view owns one core, which is at its next access once it has retired the local instructions before; what it has
-- seen has the logged sources of them all
pub record Next (p : Plan) (v : View) (o : Own) (at : Core) : Type 0 where
  pub owned : v.owned ≡ o ∷ []
  pub locals : ℕ
  pub ahead : Ahead p (seen_of v) locals o.core at
  pub due : Due p (seen_of v) at

-- the view holds the word of its next access. Where the recording is determinate by the log, the memory still has it
pub record Holding (p : Plan) (words : List ℕ) (v : View) (value : ℕ) : Type 0 where
  pub own : Own
  pub at : Core
  pub word : ℕ
  pub next : Next p v own at
  pub access : Changes (need p.image at) word
  pub same : LowDecides p → slice_index words word ≡ value

-- ---- the rule

pub record TableRule (p : Plan) (s : State ℕ View) : Type 0 where
  pub recorded : IsRecorded p
  pub wide : length s.words ≡ p.image.words + length p.totals
  pub fits : (i : ℕ) → slice_index s.words i < 2 ^ 32
  -- each core is owned exactly once
  pub inside : (id k : ℕ) (o : Own) → Owns s.views id k o → o.core.id < length p.totals
  pub one : (c : ℕ) → c < length p.totals → (id : ℕ) × (k : ℕ) × (o : Own) × Owns s.views id k o × (o.core.id ≡ c)
  pub alone : (id k : ℕ) (o : Own) (id' k' : ℕ) (o' : Own) → Owns s.views id k o → Owns s.views id' k' o' →
      o.core.id ≡ o'.core.id → (id ≡ id') × (k ≡ k')
  -- an order stands
  pub order : (order : List ℕ) × OrderStands p s.words s.views order
  -- a done word is its owner's published count, which is at most the executed one
  pub done : (id k : ℕ) (o : Own) → Owns s.views id k o →
      (slice_index s.words (p.image.words + o.core.id) ≡ o.published) × (o.published ≤ o.core.count)
  -- what was seen of a core is at most its done word
  pub seen : (id : ℕ) (v : View) → get_elem? s.views id ≡ some v →
      (c : ℕ) → seen_of v c ≤ slice_index s.words (p.image.words + c)
  -- a held word is that of the next access
  pub held : (id : ℕ) (v : View) (value : ℕ) → get_elem? s.views id ≡ some v → v.held ≡ Some value →
      Holding p s.words v value
