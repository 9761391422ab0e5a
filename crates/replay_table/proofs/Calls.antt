-- What the calls of the table know of the instruction that they retire.
use Rattle.std.proofs.Common.{◌≡◌, ℕ, ◌<◌, Bool, List, true, false, sym, ap, subst, ◌∙◌, arith}
use Rattle.std.specs.Prelude.{Option, Some, IsTrue}
use Rattle.atomic_table.specs.Seated.{TableId}
use Rattle.rtr_types.specs.declared.access.Kind.{Kind}
use Rattle.rtr_types.specs.declared.pairs.Which.{Which}
use Rattle.image_mem.specs.Contents.{Contents}
use Rattle.rv_decode.specs.declared.op.Op.{Op}
use Rattle.rv_core.specs.declared.core_state.Core.{Core}
use Rattle.rv_core.specs.declared.core_state.Need.{Need}
use Rattle.rv_core.specs.Needs.{is_writing}
use Rattle.rv_core.specs.Steps.{need, access_of, after, wrote, is_done, is_whole, instruction_at}
use Rattle.rv_core.specs.declared.outcome.LoadNote.{LoadNote}
use Rattle.rv_core.proofs.LawLemmas.{number_law}
use Rattle.race_log.specs.declared.recording.Recording.{Recording}
use Rattle.race_log.specs.Validity.{Valid}
use Rattle.replay_core.specs.Plans.{Plan, plan_of, recorded_image}
use Rattle.replay_core.specs.Play.{Use, use_of, loads_after}
use Rattle.replay_audit.specs.declared.touch.Touch.{Touch}
use Rattle.replay_table.specs.Accesses.{Accesses, Loads, Stores, Changes, is_load, is_change, touched_after, word_of}
use Rattle.replay_table.specs.Accesses.{word_by}
use Rattle.replay_table.specs.declared.view.View.{View}
use Rattle.replay_table.specs.Aheads.{Due}
use Rattle.replay_table.specs.Rule.{Next, seen_of}
use Rattle.replay_table.specs.Seats.{Belongs, FitsNote, Past, Notes, Sitting, Tied, sitting}
use Rattle.replay_table.proofs.Ties.{load_is, change_is, next_is, write_is}
use Rattle.replay_table.proofs.Uses.{word_within}

-- the access that the code found is the need's
pub record Found (image : Contents) (k : Core) (used : Use) (word : ℕ) : Type 0 where
  pub used_is : used ≡ use_of (need image k)
  pub word_is : word_of (need image k) ≡ word

pub found : (image : Contents) (k : Core) (n : Need) (used : Use) (kind : Kind) (word : ℕ) → n ≡ need image k
    → used ≡ access_of n
    → used ≡ Some (kind, word) → Found image k used word
found image k n used kind word is used_is some_ =
    let e : used ≡ use_of (need image k) = used_is ∙ ap access_of is in
    record { used_is = e; word_is = ap word_by (sym e ∙ some_) }

pub loads_found : (image : Contents) (k : Core) (used : Use) (word : ℕ) → Found image k used word
    → IsTrue (is_load (need image k)) → Loads (need image k) word
loads_found image k used word f t = subst (λ (w : ℕ). Loads (need image k) w) f.word_is (load_is (need image k) t)

pub changes_found : (image : Contents) (k : Core) (used : Use) (word : ℕ) → Found image k used word
    → IsTrue (is_change (need image k))
    → Changes (need image k) word
changes_found image k used word f t = subst (λ (w : ℕ). Changes (need image k) w) f.word_is (change_is (need image k) t)

pub stores_found : (image : Contents) (k : Core) (used : Use) (word : ℕ) → Found image k used word
    → IsTrue (is_writing (need image k))
    → IsTrue (is_whole (need image k)) → Stores (need image k) word
stores_found image k used word f t w = subst (λ (x : ℕ). Stores (need image k) x) f.word_is
    (write_is (need image k) true t w)

-- what is asked of a seat as the caller sees it holds of its parts
pub inside_due : (p : Plan) (table : TableId) (past : Past) (v : View) (x : Sitting) → sitting table past v ≡ x
    → Due p (seen_of x.view) x.core → Due p (seen_of v) past.core
inside_due p table past v x same h = subst (λ (y : Sitting). Due p (seen_of y.view) y.core) (sym same) h

pub inside_asked : (test : Need → Bool) (image : Contents) (table : TableId) (past : Past) (v : View) (x : Sitting)
    → sitting table past v ≡ x → IsTrue (test (need image x.core)) → IsTrue (test (need image past.core))
inside_asked test image table past v x same h =
    subst (λ (y : Sitting). IsTrue (test (need image y.core))) (sym same) h

pub inside_table : (table own : TableId) (past : Past) (v : View) (x : Sitting) (now : TableId)
    → sitting table past v ≡ x → x.table_id ≡ now → own ≡ now → table ≡ own
inside_table table own past v x now same is own_is = ap (λ (y : Sitting). y.table_id) same ∙ is ∙ sym own_is

-- what a step at the word of the due access is to show: the seat is one of this table, the table has the word, and what
-- a core owes that is next and makes this access
pub asked_at : {w which : Which} {r recording : Recording} {image : Contents} {table own now : TableId} {past : Past}
    {sees : List ℕ} {holds : Option ℕ} {v : View} {x : Sitting} {word : ℕ} {writes whole : Bool} {Owed : Type 0}
    → sitting table past v ≡ x → x.table_id ≡ now → own ≡ now → Belongs w r which recording image own
    → (t : Tied (plan_of w r) past sees holds v) → Due (plan_of w r) (seen_of x.view) x.core
    → Accesses (need (recorded_image r) past.core) word writes whole
    → (Next (plan_of w r) v t.own past.core → Accesses (need (recorded_image r) past.core) word writes whole → Owed)
    → (table ≡ own) × (word < own.words) × Owed
asked_at same is own_is of_job t due access owed =
    let words = of_job.words in
    let within = word_within _ _ _ _ _ access in (
      inside_table _ _ _ _ _ _ same is own_is,
      omega arith,
      owed (next_is _ _ _ _ _ t (inside_due _ _ _ _ _ same due)) access,
    )

-- the core and the value that the code made
pub after_is : (own image : Contents) (l k m : Core) (old : ℕ) → own ≡ image → l ≡ k → m ≡ after own l old
    → m ≡ after image k old
after_is own image l k m old same at is = is ∙ ap (λ (x : Contents). after x l old) same
    ∙ ap (λ (x : Core). after image x old) at

pub wrote_is : (own image : Contents) (l k : Core) (value old : ℕ) → own ≡ image → l ≡ k → value ≡ wrote own l old
    → value ≡ wrote image k old
wrote_is own image l k value old same at is = is ∙ ap (λ (x : Contents). wrote x l old) same
    ∙ ap (λ (x : Core). wrote image x old) at

-- an access noted of a core that has retired it, `mid`, is noted of the past before
pub notes_is : (image : Contents) (past mid new : Past) (k : Core) (used : Use) (old : ℕ)
    → mid.core ≡ after image k old → mid.loads ≡ past.loads → mid.touched ≡ past.touched
    → used ≡ use_of (need image k) → Notes mid mid.core used old new
    → Notes past (after image k old) (use_of (need image k)) old new
notes_is image past mid new k used old core loads touched used_is h = record {
  core = h.core ∙ core;
  loads = h.loads ∙ ap (λ (u : Use). loads_after u mid.loads mid.core.count old) used_is
      ∙ ap (λ (l : List LoadNote). loads_after (use_of (need image k)) l mid.core.count old) loads
      ∙ ap (λ (x : Core). loads_after (use_of (need image k)) past.loads x.count old) core;
  touched = h.touched ∙ ap (λ (u : Use). touched_after u mid.touched mid.core.id mid.core.count) used_is
      ∙ ap (λ (l : List Touch). touched_after (use_of (need image k)) l mid.core.id mid.core.count) touched
      ∙ ap (λ (x : Core). touched_after (use_of (need image k)) past.touched x.id x.count) core;
}

-- the past keeps its room while the core goes on
pub inside_room : (table : TableId) (past : Past) (v : View) (x : Sitting) (roomy : Bool) → sitting table past v ≡ x
    → IsTrue x.roomy → roomy ≡ past.roomy → IsTrue roomy
inside_room table past v x roomy same h is =
    subst (λ (b : Bool). IsTrue b) (sym (is ∙ ap (λ (y : Sitting). y.roomy) same)) h

-- the core that has retired the access, and the access, are such as a touch is noted of
pub fits_note : (w : Which) (r : Recording) (past : Past) (sees : List ℕ) (holds : Option ℕ) (v : View) (word : ℕ)
    (writes whole : Bool) (k : Core) (used : Use) (old : ℕ) → Valid r
    → Tied (plan_of w r) past sees holds v → k ≡ after (recorded_image r) past.core old
    → used ≡ use_of (need (recorded_image r) past.core)
    → Accesses (need (recorded_image r) past.core) word writes whole → FitsNote k used
fits_note w r past sees holds v word writes whole k used old valid t is used_is access =
    let id = ap (λ (x : Core). x.id) is ∙ number_law _ _ old in
    let inside = t.inside in
    let each = valid.each_core in
    let cores = valid.params.cores in
    let word_is : word_by used ≡ word = ap word_by (used_is ∙ access.used) in
    let within = word_within _ _ _ _ _ access in
    let words = valid.params.words in
    record { core = omega arith; word = omega arith }

-- the code may retire the instruction
pub can_finish : (own image : Contents) (l k : Core) (op : Option Op) → own ≡ image → l ≡ k → op ≡ instruction_at
    image k.pc → is_done (need image k) ≡ false
    → (is_done (need own l) ≡ false) × (op ≡ instruction_at own l.pc)
can_finish own image l k op same at is more =
    subst (λ (x : Core). (is_done (need own x) ≡ false) × (op ≡ instruction_at own x.pc)) (sym at)
    (subst (λ (x : Contents). (is_done (need x k) ≡ false) × (op ≡ instruction_at x k.pc)) (sym same) (more, is))
