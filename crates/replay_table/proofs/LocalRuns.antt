-- Local instructions that retire one after the other: the core is ahead by them.
use Rattle.std.proofs.Common.{◌≡◌, ◌∙◌, ℕ, zero, suc, ◌+◌, ◌<◌, ◌≤◌, List, refl, sym, ap, subst, arith, false}
use Rattle.std.specs.Prelude.{Option, None, slice_index}
use Rattle.rtr_types.specs.declared.instr.Instr.{Instr}
use Rattle.rtr_types.specs.declared.pairs.Which.{Which}
use Rattle.rtr_types.specs.declared.TheConstants.{CORES_MAX}
use Rattle.rtr_types.proofs.Ranges.{zero_at}
use Rattle.image_mem.specs.Contents.{Contents}
use Rattle.clock_core.specs.Counts.{no_counts}
use Rattle.clock_core.proofs.EdgeLists.{contains_among}
use Rattle.rv_core.specs.declared.core_state.Core.{Core}
use Rattle.rv_core.specs.declared.core_state.Need.{Need}
use Rattle.rv_core.specs.declared.core_state.Need.TheVariants.{Local, Load, Store, Amo, Done}
use Rattle.rv_core.specs.Steps.{need, after, is_done, access_of}
use Rattle.rv_core.proofs.LawLemmas.{count_law, local_law, number_law}
use Rattle.core_runs.specs.declared.running.Ran.{Ran}
use Rattle.core_runs.specs.declared.running.Ran.TheVariants as ran
use Rattle.core_runs.specs.Runs.{Goes, Refusing, RunsTo, Standing, Telling, Use}
use Rattle.race_log.specs.declared.recording.Recording.{Recording}
use Rattle.race_log.specs.Sources.{log_edges}
use Rattle.replay_core.specs.Plans.{Plan, plan_of, recorded_image}
use Rattle.replay_core.specs.Play.{instr}
use Rattle.replay_core.specs.Sources.{AreSources}
use Rattle.replay_core.proofs.Ready.{within_sourced}
use Rattle.atomic_table.specs.Seated.{TableId}
use Rattle.replay_table.specs.declared.view.View.{View}
use Rattle.replay_table.specs.Aheads.{Ahead, AreLocal, Due, GoesOn}
use Rattle.replay_table.specs.Rule.{seen_of}
use Rattle.replay_table.specs.Seats.{AwaitsChange, Past, RunsOn, Sitting, Tied, sitting}
use Rattle.replay_table.proofs.Aheads.{ahead_adds, ahead_one}
use Rattle.replay_table.proofs.Ties.{local_ties}

-- ---- a run that is refused each access

local_by : (n : Need) → is_done n ≡ false → access_of n ≡ None → n ≡ Local
local_by Local going none = refl
local_by (Load word) going none = absurd (cc)
local_by (Store word whole) going none = absurd (cc)
local_by (Amo word) going none = absurd (cc)
local_by (Done stop) going none = absurd (cc)

-- no instruction of such a run makes an access
abbrev NothingTold : {R W : Type 0} → Telling R W → Type 0
NothingTold {R} {W} told = (r : R) (w : W) (at : Instr) (used : Use) (old new : ℕ) (s : R) (v : W)
    → told r w at used old new s v → used ≡ None

are_local : {R W : Type 0} (told : Telling R W) (image : Contents) → NothingTold told → (n : ℕ) (s t : Standing R W)
    → Goes told image n s t → AreLocal image n s.core t.core
are_local {R} {W} told image none zero s t is = ap (λ (x : Standing R W). x.core) is
are_local told image none (suc n) s t goes =
    let mid = goes.0 in
    let one = goes.2 in
    let local = local_by (need image mid.core) one.going (none _ _ _ _ _ _ _ _ one.tells) in (
      mid.core,
      are_local told image none n s mid goes.1,
      local,
      one.core ∙ local_law image mid.core one.old 0 local,
    )

pub run_local : {R W : Type 0} (told : Telling R W) (refused : Refusing R W) (image : Contents) (until : ℕ)
    (s : Standing R W) (answer : Ran) (t : Standing R W) → RunsTo told refused image until s answer t
    → NothingTold told → (n : ℕ) × AreLocal image n s.core t.core
run_local told refused image until s ran.Whole t run none = (run.count, are_local told image none run.count s t run.goes)
run_local told refused image until s ran.Done t run none = (run.count, are_local told image none run.count s t run.goes)
run_local told refused image until s ran.Refused t run none = (
  run.count,
  subst (λ (x : Core). AreLocal image run.count s.core x) (sym run.core)
      (are_local told image none run.count s run.mid run.goes),
)

-- ---- the core that it leaves

local_count : (image : Contents) (n : ℕ) (k a : Core) → AreLocal image n k a → a.count ≡ k.count + n
local_count image zero k a is = let e = ap (λ (x : Core). x.count) is in omega arith
local_count image (suc n) k a is =
    let before = local_count image n k is.0 is.1 in
    let one = ap (λ (x : Core). x.count) is.3 ∙ count_law image is.0 0 in
    omega arith

pub local_id : (image : Contents) (n : ℕ) (k a : Core) → AreLocal image n k a → a.id ≡ k.id
local_id image zero k a is = ap (λ (x : Core). x.id) is
local_id image (suc n) k a is =
    ap (λ (x : Core). x.id) is.3 ∙ number_law image is.0 0 ∙ local_id image n k is.0 is.1

-- an instruction to which no edge leads is due
free_due : (which : Which) (r : Recording) (f : ℕ → ℕ) (k : Core) → k.count < slice_index r.totals k.id →
    AreSources (log_edges which r) (instr k.id (k.count + 1)) no_counts → Due (plan_of which r) f k
free_due which r f k below free = record {
  below = below;
  sourced = within_sourced (log_edges which r) f k.id (k.count + 1)
      (λ from has.
      let at = free.each from (contains_among (log_edges which r) from (instr k.id (k.count + 1)) has) in
      let none = zero_at CORES_MAX from.core in
      omega arith);
}

-- the same parts
same_ties : (p : Plan) (past new : Past) (sees : List ℕ) (holds : Option ℕ) (v : View) → Tied p past sees holds v
    → new.core ≡ past.core → new.loads ≡ past.loads → new.touched ≡ past.touched → Tied p new sees holds v
same_ties p past new sees holds v t core loads touched = record {
  own = t.own;
  owned = t.owned;
  locals = t.locals;
  ahead = subst (λ (x : Core). Ahead p (λ i. slice_index v.seen i) t.locals t.own.core x) (sym core) t.ahead;
  loads_is = loads ∙ t.loads_is;
  touched_is = touched ∙ t.touched_is;
  sees_is = t.sees_is;
  holds_is = t.holds_is;
  all_polls = t.all_polls;
  wide = t.wide;
  inside = let e = ap (λ (x : Core). x.id) core in let i = t.inside in omega arith;
  within = subst (λ (x : Core). x.count ≤ slice_index p.totals x.id) (sym core) t.within;
  holding = λ value e. subst (λ (x : Core). AwaitsChange p (λ i. slice_index v.seen i) x) (sym core)
      (t.holding value e);
}

-- the next instruction is due, and no edge leads to those after it up to a count
module _ (which : Which) (r : Recording) (f : ℕ → ℕ) (k : Core) (due : Due (plan_of which r) f k) (until : ℕ)
    (within : until ≤ slice_index r.totals k.id)
    (free : (n : ℕ) → k.count + 1 < n → n ≤ until → AreSources (log_edges which r) (instr k.id n) no_counts) where
  abbrev p : Plan
  p = plan_of which r

  pub due_at : (n : ℕ) (a : Core) → AreLocal (recorded_image r) n k a → a.count < until → Due p f a
  due_at zero a is below = subst (λ (x : Core). Due p f x) (sym is) due
  due_at (suc n) a is below =
      let count = local_count (recorded_image r) (suc n) k a is in
      let id = local_id (recorded_image r) (suc n) k a is in
      free_due which r f a (subst (λ (i : ℕ). a.count < slice_index r.totals i) (sym id) (omega (arith, within)))
      (subst (λ (i : ℕ). AreSources (log_edges which r) (instr i (a.count + 1)) no_counts) (sym id)
      (free (a.count + 1) (omega arith) (omega arith)))

  before : (n : ℕ) (a : Core) (is : AreLocal (recorded_image r) (suc n) k a) → a.count ≤ until → is.0.count < until
  before n a is le = let one = ap (λ (x : Core). x.count) is.3 ∙ count_law (recorded_image r) is.0 0 in omega arith

  pub ahead_by : (n : ℕ) (a : Core) → AreLocal (recorded_image r) n k a → a.count ≤ until → Ahead p f n k a
  ahead_by zero a is le = sym is
  ahead_by (suc n) a is le =
      let low = before n a is le in
      let last = ahead_one p f n k is.0 (ahead_by n is.0 is.1 (omega arith)) (due_at n is.0 is.1 low) is.2 in
      subst (λ (x : Core). Ahead p f (suc n) k x) (sym is.3) last

-- so of a seat's parts
pub locals_tie : (which : Which) (r : Recording) (past new : Past) (sees : List ℕ) (holds : Option ℕ) (v : View)
    (due : Due (plan_of which r) (λ i. slice_index v.seen i) past.core) (until : ℕ)
    (within : until ≤ slice_index r.totals past.core.id)
    (free : (n : ℕ) → past.core.count + 1 < n → n ≤ until →
    AreSources (log_edges which r) (instr past.core.id n) no_counts)
    (n : ℕ) → Tied (plan_of which r) past sees holds v → AreLocal (recorded_image r) n past.core new.core
    → new.core.count ≤ until → new.loads ≡ past.loads → new.touched ≡ past.touched
    → Tied (plan_of which r) new sees holds v
locals_tie which r past new sees holds v due until within free zero t is le loads touched =
    same_ties (plan_of which r) past new sees holds v t is loads touched
locals_tie which r past new sees holds v due until within free (suc n) t is le loads touched =
    let mid : Past = record { core = is.0; loads = past.loads; touched = past.touched; roomy = past.roomy } in
    let low = before which r (λ i. slice_index v.seen i) past.core due until within free n new.core is le in
    let tied = locals_tie which r past mid sees holds v due until within free n t is.1 (omega arith) refl refl in
    local_ties (plan_of which r) mid new sees holds v tied
    (due_at which r (λ i. slice_index v.seen i) past.core due until within free n is.0 is.1 low) is.2 is.3 loads
    touched

-- ---- local instructions to none of which an edge leads

pub runs_on : (which : Which) (r : Recording) (until end n : ℕ) (k a : Core) → AreLocal (recorded_image r) n k a
    → a.count ≤ end → end ≤ until → until ≤ slice_index r.totals k.id
    → ((m : ℕ) → k.count < m → m ≤ end → AreSources (log_edges which r) (instr k.id m) no_counts)
    → RunsOn which r until k a
runs_on which r until end n k a is le to within free = record {
  locals = n;
  local = is;
  most = λ some. omega arith;
  free = λ m from most. free m from (omega (arith, most));
  within = omega arith;
}

pub stays_there : (which : Which) (r : Recording) (until : ℕ) (k a : Core) → a ≡ k
    → k.count ≤ slice_index r.totals k.id → RunsOn which r until k a
stays_there which r until k a is within =
    let count = ap (λ (x : Core). x.count) is in
    record {
      locals = 0;
      local = is;
      most = λ some. absurd (omega (arith, some));
      free = λ m from most. absurd (omega (arith, from, most));
      within = omega arith;
    }

pub same_run : (w w' : Which) (r r' : Recording) (until : ℕ) (k a : Core) → w' ≡ w → r' ≡ r → RunsOn w' r' until k a
    → RunsOn w r until k a
same_run w w' r r' until k a e same h =
    subst (λ (x : Which). RunsOn x r until k a) e (subst (λ (x : Recording). RunsOn w' x until k a) same h)

-- they are due, whatever was seen
ahead_free : (which : Which) (r : Recording) (f : ℕ → ℕ) (n : ℕ) (k a : Core) → AreLocal (recorded_image r) n k a
    → a.count ≤ slice_index r.totals k.id
    → ((m : ℕ) → k.count < m → m ≤ a.count → AreSources (log_edges which r) (instr k.id m) no_counts)
    → Ahead (plan_of which r) f n k a
ahead_free which r f zero k a is within free = sym is
ahead_free which r f (suc n) k a is within free =
    let count = local_count (recorded_image r) (suc n) k a is in
    let due = free_due which r f k (omega arith) (free (k.count + 1) (omega arith) (omega arith)) in
    ahead_by which r f k due a.count within (λ m from to. free m (omega (arith, from)) to) (suc n) a is (omega arith)

tie_free : (which : Which) (r : Recording) (past new : Past) (sees : List ℕ) (holds : Option ℕ) (v : View) (n : ℕ)
    → AreLocal (recorded_image r) n past.core new.core → new.core.count ≤ slice_index r.totals past.core.id
    → ((m : ℕ) → past.core.count < m → m ≤ new.core.count →
    AreSources (log_edges which r) (instr past.core.id m) no_counts)
    → Tied (plan_of which r) past sees holds v → new.loads ≡ past.loads → new.touched ≡ past.touched
    → Tied (plan_of which r) new sees holds v
tie_free which r past new sees holds v zero is within free t loads touched =
    same_ties (plan_of which r) past new sees holds v t is loads touched
tie_free which r past new sees holds v (suc n) is within free t loads touched =
    let count = local_count (recorded_image r) (suc n) past.core new.core is in
    let due = free_due which r (λ i. slice_index v.seen i) past.core (omega arith)
    (free (past.core.count + 1) (omega arith) (omega arith)) in
    locals_tie which r past new sees holds v due new.core.count within (λ m from to. free m (omega (arith, from)) to)
    (suc n) t is (omega arith) loads touched

pub tied_on : (which : Which) (r : Recording) (until : ℕ) (past new : Past) (sees : List ℕ) (holds : Option ℕ) (v : View)
    → RunsOn which r until past.core new.core → Tied (plan_of which r) past sees holds v → new.loads ≡ past.loads
    → new.touched ≡ past.touched → Tied (plan_of which r) new sees holds v
tied_on which r until past new sees holds v run t loads touched =
    tie_free which r past new sees holds v run.locals run.local run.within run.free t loads touched

-- the core of a seat has retired an access, and such instructions after it
pub gone_ahead : (which : Which) (r : Recording) (table : TableId) (past : Past) (v : View) (x : Sitting) (mid a : Core)
    (old until : ℕ) → sitting table past v ≡ x → mid ≡ after (recorded_image r) past.core old
    → RunsOn which r until mid a
    → GoesOn (plan_of which r) (seen_of x.view) until (after (recorded_image r) x.core old) a
gone_ahead which r table past v x mid a old until same made run =
    let here : GoesOn (plan_of which r) (seen_of v) until mid a = record {
      locals = run.locals;
      ahead = ahead_free which r (seen_of v) run.locals mid a run.local run.within run.free;
      most = run.most;
    } in
    subst (λ (y : Sitting). GoesOn (plan_of which r) (seen_of y.view) until (after (recorded_image r) y.core old) a) same
    (subst (λ (k : Core). GoesOn (plan_of which r) (seen_of v) until k a) made here)

nowhere : (p : Plan) (f : ℕ → ℕ) (n : ℕ) (k a : Core) → Ahead p f n k a → (0 < n → a.count ≤ 0) → a ≡ k
nowhere p f zero k a h most = sym h
nowhere p f (suc n) k a h most =
    let le = most (omega arith) in
    let count = ahead_adds p f (suc n) k a h in
    absurd (omega arith)

-- there are none where the count is 0
pub gone_nowhere : (p : Plan) (f : ℕ → ℕ) (k a : Core) → GoesOn p f 0 k a → a ≡ k
gone_nowhere p f k a h = nowhere p f h.locals k a h.ahead h.most

-- the count is one of the core's, after the access as before it
pub until_within : (r r' : Recording) (table : TableId) (past : Past) (v : View) (x : Sitting) (k : Core)
    (old until : ℕ) → sitting table past v ≡ x → r' ≡ r → until ≤ slice_index r.totals x.core.id
    → k ≡ after (recorded_image r) past.core old → until ≤ slice_index r'.totals k.id
until_within r r' table past v x k old until same is le made =
    let id : k.id ≡ x.core.id = ap (λ (y : Core). y.id) made ∙ number_law (recorded_image r) past.core old
    ∙ ap (λ (y : Sitting). y.core.id) same in
    subst (λ (q : Recording). until ≤ slice_index q.totals k.id) (sym is)
    (subst (λ (i : ℕ). until ≤ slice_index r.totals i) (sym id) le)
