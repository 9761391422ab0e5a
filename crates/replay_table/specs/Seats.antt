-- What contracts see of a seat.
use Rattle.std.specs.Prelude.{◌≡◌, ◌≢◌, ℕ, ◌+◌, ◌^◌, ◌<◌, ◌≤◌, Bool, List, [], ◌∷◌, ◌++◌, length, map, reverse}
use Rattle.std.specs.Prelude.{slice_index, slice_get, Option, Some, Result, Ok, Err, MatchResult}
use Rattle.std.specs.List.{Contains, range_with_len}
use mathlib.Core.Option.{some}
use lib.ListN.{get_elem?}
use Rattle.atomic_table.specs.Seated.{TableId}
use Rattle.rtr_types.specs.declared.TheConstants.{CORES_MAX}
use Rattle.rtr_types.specs.declared.params.TheConstants.{WORDS_MAX}
use Rattle.rtr_types.specs.declared.instr.Instr.{Instr}
use Rattle.rtr_types.specs.declared.pairs.Which.{Which}
use Rattle.rv_core.specs.declared.core_state.Core.{Core}
use Rattle.rv_core.specs.declared.outcome.LoadNote.{LoadNote}
use Rattle.rv_core.specs.declared.outcome.Outcome.{Outcome}
use Rattle.rv_core.specs.States.{starting}
use Rattle.rv_core.specs.Steps.{need, after, wrote, instruction_at}
use Rattle.image_mem.specs.Contents.{Contents}
use Rattle.clock_core.specs.Counts.{no_counts}
use Rattle.race_log.specs.declared.recording.Recording.{Recording}
use Rattle.race_log.specs.Sources.{HasEdge, log_edges}
use Rattle.race_log.specs.Validity.{Valid}
use Rattle.replay_core.specs.Plans.{Plan, recorded_image, plan_of}
use Rattle.replay_core.specs.Play.{Use, instr, loads_at, loads_after, played, accesses_of}
use Rattle.replay_audit.specs.declared.touch.Touch.{Touch}
use Rattle.replay_core.specs.Coming.{IsComing}
use Rattle.replay_core.specs.Sources.{AreSources, sources_in}
use Rattle.replay_audit.specs.Determinate.{IsDeterminate, low_outcome}
use Rattle.replay_audit.specs.Laws.{IsWholePlay}
use Rattle.replay_table.specs.declared.upcoming.Upcoming.{Upcoming}
use Rattle.replay_table.specs.declared.raced.Raced.{Raced}
use Rattle.replay_table.specs.declared.view.Own.{Own}
use Rattle.replay_table.specs.declared.view.View.{View}
use Rattle.replay_table.specs.Accesses.{Changes, word_by, word_of, touched_after, touches_by}
use Rattle.replay_table.specs.Aheads.{AreLocal, Due, Ahead}
use Rattle.replay_table.specs.Rule.{seen_of}
use Rattle.replay_table.specs.Kinds.{dealt_view}
use Rattle.replay_table.specs.Told.{ToldExchange}

-- what a core has done, and whether there is room for one access more
pub record Past : Type 0 where
  pub core : Core
  pub loads : List LoadNote
  pub touched : List Touch
  pub roomy : Bool

-- the core and the word of an access are such as a touch is noted of
pub record FitsNote (k : Core) (used : Use) : Type 0 where
  pub core : k.id < CORES_MAX
  pub word : word_by used < WORDS_MAX

-- the past with this core, which has retired an access
pub record Notes (x : Past) (next : Core) (used : Use) (value : ℕ) (y : Past) : Type 0 where
  pub core : y.core ≡ next
  pub loads : y.loads ≡ loads_after used x.loads next.count value
  pub touched : y.touched ≡ touched_after used x.touched next.id next.count

-- the table of a seat, its core, what the core's loads got and its accesses, whether there is room for one more, and
-- its view
pub record Sitting : Type 0 where
  pub table_id : TableId
  pub core : Core
  pub loads : List LoadNote
  pub touched : List Touch
  pub roomy : Bool
  pub view : View

-- the seat of a core with this past and view
abbrev pub sitting : TableId → Past → View → Sitting
sitting table past view = record {
  table_id = table;
  core = past.core;
  loads = past.loads;
  touched = past.touched;
  roomy = past.roomy;
  view = view;
}

-- the core is due for an access that goes by a held word
pub record AwaitsChange (p : Plan) (f : ℕ → ℕ) (k : Core) : Type 0 where
  pub due : Due p f k
  pub word : ℕ
  pub access : Changes (need p.image k) word

-- the core of a seat is ahead of its view's by local instructions, and at the access of the word that it holds
pub record Tied (p : Plan) (past : Past) (sees : List ℕ) (holds : Option ℕ) (v : View) : Type 0 where
  pub own : Own
  pub owned : v.owned ≡ own ∷ []
  pub locals : ℕ
  pub ahead : Ahead p (seen_of v) locals own.core past.core
  pub loads_is : past.loads ≡ own.loads
  pub touched_is : past.touched ≡ own.touched
  pub sees_is : v.seen ≡ sees
  pub holds_is : v.held ≡ holds
  pub all_polls : length v.polls ≡ length p.totals
  pub wide : length sees ≡ length p.totals
  pub inside : past.core.id < length p.totals
  pub within : past.core.count ≤ slice_index p.totals past.core.id
  pub holding : (value : ℕ) → holds ≡ Some value → AwaitsChange p (seen_of v) past.core

-- what a seat keeps of its core's next instruction: the instruction itself, what it needs, its logged sources, and the
-- next edges into the core
pub record IsUpcoming (which : Which) (r : Recording) (k : Core) (u : Upcoming) : Type 0 where
  pub op : u.op ≡ instruction_at (recorded_image r) k.pc
  pub need : u.need ≡ need (recorded_image r) k
  pub sources : AreSources (log_edges which r) (instr k.id (k.count + 1)) (sources_in u.sources)
  pub coming : IsComing (log_edges which r) k.id r.params.cores u.coming

-- what a first look-up asks of the recording, the image and the core
pub record CanBegin (r : Recording) (image : Contents) (k : Core) : Type 0 where
  pub valid : Valid r
  pub image_is : image ≡ recorded_image r
  pub inside : k.id < length r.totals
  pub within : k.count ≤ slice_index r.totals k.id

-- and what each later one asks of the edges that are known as well
pub record CanLook (which : Which) (r : Recording) (image : Contents) (k : Core) (u : Upcoming) : Type 0 where
  pub valid : Valid r
  pub image_is : image ≡ recorded_image r
  pub inside : k.id < length r.totals
  pub within : k.count ≤ slice_index r.totals k.id
  pub coming : IsComing (log_edges which r) k.id r.params.cores u.coming

-- the second core is the first after local instructions, to none of which an edge leads. There are none beyond the
-- count `until`
pub record RunsOn (which : Which) (r : Recording) (until : ℕ) (k a : Core) : Type 0 where
  pub locals : ℕ
  pub local : AreLocal (recorded_image r) locals k a
  pub most : 0 < locals → a.count ≤ until
  pub free : (n : ℕ) → k.count < n → n ≤ a.count → AreSources (log_edges which r) (instr k.id n) no_counts
  pub within : a.count ≤ slice_index r.totals k.id

-- a logged source of the core's next instruction that the view hasn't seen
pub record IsUnmet (which : Which) (r : Recording) (v : View) (k : Core) (of : Instr) : Type 0 where
  pub inside : of.core < length r.totals
  pub unseen : seen_of v of.core < of.count
  pub logged : HasEdge which r of (instr k.id (k.count + 1))

-- the parts of a seat belong together
pub record SeatHolds (which : Which) (r : Recording) (past : Past) (next : Upcoming) (sees : List ℕ)
    (holds : Option ℕ) (v : View) : Type 0 where
  pub valid : Valid r
  pub upcoming : IsUpcoming which r past.core next
  pub tied : Tied (plan_of which r) past sees holds v

-- the core of a seat has done nothing, and the seat has seen nothing and holds nothing
pub record IsFresh (p : Plan) (k : ℕ) (x : Sitting) : Type 0 where
  pub core : x.core ≡ starting k p.limit
  pub loads : x.loads ≡ []
  pub touched : x.touched ≡ []
  pub view : x.view ≡ dealt_view p k

-- one fresh seat for each core, in order. The rule then leaves the words of the table no choice: the memory is the
-- opening one, and each done word is 0 (`FreshLaw`)
pub record Dealt (p : Plan) (table : TableId) (seats : List Sitting) : Type 0 where
  pub all : length seats ≡ length p.totals
  pub words : table.words ≡ p.image.words + length p.totals
  pub tables : (k : ℕ) (x : Sitting) → slice_get seats k ≡ Some x → x.table_id ≡ table
  pub fresh : (k : ℕ) (x : Sitting) → slice_get seats k ≡ Some x → IsFresh p k x

-- the word that an exchange found
abbrev pub found_by : Result (Unit {0}) Raced → (held : ℕ) → ℕ
found_by (Ok x) held = held
found_by (Err e) held = e.found

-- what an exchange of the held word answers
pub record Exchanged (p : Plan) (x : Sitting) (held : ℕ) (result : Result (Unit {0}) Raced) (y : Sitting) : Type 0
  where
    pub told :
        ToldExchange p x.view (word_of (need p.image x.core)) held (wrote p.image x.core held) (found_by result held)
        y.view
    pub answer :
        MatchResult result (λ done. y.core ≡ after p.image x.core held)
        (λ e. (e.held ≡ held) × (e.found ≢ held) × (y.core ≡ x.core))

-- where the recording is determinate by the log, the core's next load, or atomic memory operation, finds this value in
-- the low order
abbrev pub IsLowValue : Which → Recording → Core → (value : ℕ) → Type 0
IsLowValue which r k value = IsDeterminate which r →
    Contains (loads_at (low_outcome which r) k.id)
    (record { count = k.count + 1; word = word_of (need (recorded_image r) k); value = value })

-- published at its count
pub record AtRest (x : Sitting) : Type 0 where
  pub own : Own
  pub owned : x.view.owned ≡ own ∷ []
  pub core : own.core ≡ x.core
  pub loads : own.loads ≡ x.loads
  pub touched : own.touched ≡ x.touched
  pub published : own.published ≡ x.core.count

-- the parts of a table belong to the recording and the log
pub record Belongs (w : Which) (r : Recording) (which : Which) (recording : Recording) (image : Contents)
    (table : TableId) : Type 0 where
  pub valid : Valid r
  pub which_is : which ≡ w
  pub recording_is : recording ≡ r
  pub image_is : image ≡ recorded_image r
  pub words : table.words ≡ r.params.words + length r.totals
  pub slots : table.slots ≡ 0

-- the words of the table before the first step: those of the memory, and a done word of 0 for each core
pub record Opening (memory : List ℕ) (cores : ℕ) (words : List ℕ) : Type 0 where
  pub wide : length words ≡ length memory + cores
  pub fits : (i : ℕ) → slice_index words i < 2 ^ 32
  pub memory_is : (w : ℕ) → w < length memory → slice_index words w ≡ slice_index memory w
  pub done : (i : ℕ) → slice_index words (length memory + i) ≡ 0

-- ---- the end

-- all seats of the table, each published at its total
pub record Finished (p : Plan) (table : TableId) (seats : List Sitting) : Type 0 where
  pub all : length seats ≡ length p.totals
  pub tables : (k : ℕ) (x : Sitting) → slice_get seats k ≡ Some x → x.table_id ≡ table
  pub ids : (k : ℕ) (x : Sitting) → slice_get seats k ≡ Some x → x.core.id ≡ k
  pub totals : (k : ℕ) (x : Sitting) → slice_get seats k ≡ Some x → x.core.count ≡ slice_index p.totals k
  pub rest : (k : ℕ) (x : Sitting) → slice_get seats k ≡ Some x → AtRest x

-- what a closed table answers
pub record Ended : Type 0 where
  pub outcome : Outcome
  pub touched : List (List Touch)

-- the play of a whole replay order
pub record IsEnd (p : Plan) (e : Ended) : Type 0 where
  pub order : List ℕ
  pub play : IsWholePlay p order
  pub outcome : e.outcome ≡ played p order
  pub touched :
      e.touched ≡ map (λ c. touches_by c (accesses_of p order)) (range_with_len 0 (length p.totals))

-- the parts of the seats that were taken apart, oldest first, and how many there is room for
pub record Taken : Type 0 where
  pub cores : List Core
  pub loads : List (List LoadNote)
  pub touched : List (List Touch)
  pub room : ℕ

-- the parts of these seats were put to the others, the last seat first
pub record Adds (seats : List Sitting) (old new : Taken) : Type 0 where
  pub cores : reverse new.cores ≡ map (λ x. x.core) seats ++ reverse old.cores
  pub loads : reverse new.loads ≡ map (λ x. x.loads) seats ++ reverse old.loads
  pub touched : reverse new.touched ≡ map (λ x. x.touched) seats ++ reverse old.touched

-- no parts, and room for so many
pub record HasRoom (taken : Taken) (count : ℕ) : Type 0 where
  pub cores : taken.cores ≡ []
  pub loads : taken.loads ≡ []
  pub touched : taken.touched ≡ []
  pub room : count ≤ taken.room

-- seats of this table
abbrev pub AllAt : TableId → List Sitting → Type 0
AllAt table seats = (k : ℕ) (x : Sitting) → slice_get seats k ≡ Some x → x.table_id ≡ table

-- each has a core at its total
abbrev pub AllEnded : Plan → List Sitting → Type 0
AllEnded p seats = (k : ℕ) (x : Sitting) → slice_get seats k ≡ Some x → x.core.count ≡ slice_index p.totals x.core.id

-- the view owns this
abbrev pub Has : View → Own → Type 0
Has v o = (i : ℕ) × (get_elem? v.owned i ≡ some o)

-- the view after it has taken in those of the seats
pub record Gathered (before : View) (seats : List Sitting) (joined : View) : Type 0 where
  pub kept : (o : Own) → Has before o → Has joined o
  pub each : (k : ℕ) (x : Sitting) (o : Own) → slice_get seats k ≡ Some x → Has x.view o → Has joined o
