-- Rule: a core goes on alone, and a watch is told of its accesses: GoesAlone, GoesTo
-- A core goes on alone: its instructions are places of the play, and a watch is told of each access.
use Rattle.std.proofs.Common.{◌∙◌, ap, refl, subst, sym}
use Rattle.std.specs.Prelude.{◌≡◌, ℕ, zero, suc, ◌+◌, ◌<◌, Bool, true, false, List, length, slice_set}
use Rattle.std.specs.Prelude.{Option, Some, None, if◌then◌else◌}
use Rattle.std.proofs.Common.{length-set}
use Rattle.rtr_types.specs.declared.access.Access.{Access}
use Rattle.rtr_types.specs.declared.instr.Instr.{Instr}
use Rattle.rtr_types.specs.Accesses.{is_write}
use Rattle.rv_core.specs.declared.outcome.LoadNote.{LoadNote}
use Rattle.rv_core.specs.declared.outcome.Outcome.{Outcome}
use Rattle.rv_core.specs.Steps.{is_done}
use Rattle.core_runs.specs.declared.running.Ran.{Ran}
use Rattle.core_runs.specs.declared.running.Ran.TheVariants as ran
use Rattle.replay_core.specs.declared.noted_memory.NotedMemory.{NotedMemory}
use Rattle.replay_core.specs.Plans.{Plan}
use Rattle.replay_core.specs.Play.{Use, old_for, words_after, need_at}
use Rattle.replay_core.specs.Orders.{counts_in}
use Rattle.replay_core.specs.Answers.{AreNoted, Retires}

-- what a watch is before an access and after it
abbrev pub Touching : (W : Type 0) → Type 1
Touching W = W → Access → W → Type 0

-- it is told of one access, or of none
abbrev pub IsToldOf : {W : Type 0} → Touching W → W → Option Access → W → Type 0
IsToldOf touched w None v = v ≡ w
IsToldOf touched w (Some access) v = touched w access v

-- so many instructions of core c retire, one after the other
abbrev pub GoesAlone : {W : Type 0} → Touching W → Plan → (c n : ℕ) → (s : Outcome) → (w : W) → (t : Outcome) → (v : W)
    → Type 0
GoesAlone touched p c zero s w t v = (t ≡ s) × (v ≡ w)
GoesAlone {W} touched p c (suc n) s w t v =
    (mid : Outcome) × (x : W) × (access : Option Access) × GoesAlone touched p c n s w mid x
    × Retires p mid c access t × IsToldOf touched x access v

-- core c has come to this count
pub record IsWholeRun {W : Type 0} (touched : Touching W) (p : Plan) (c until : ℕ) (s : Outcome) (w : W) (t : Outcome)
    (v : W) : Type 0 where
  pub number : ℕ
  pub goes : GoesAlone touched p c number s w t v
  pub counted : counts_in t c ≡ counts_in s c + number
  pub all : counts_in t c ≡ until

-- its program is done before that
pub record IsDoneRun {W : Type 0} (touched : Touching W) (p : Plan) (c until : ℕ) (s : Outcome) (w : W) (t : Outcome)
    (v : W) : Type 0 where
  pub number : ℕ
  pub goes : GoesAlone touched p c number s w t v
  pub counted : counts_in t c ≡ counts_in s c + number
  pub below : counts_in t c < until
  pub done : is_done (need_at p t c) ≡ true

-- there was no memory for the access of an instruction, which didn't retire
pub record IsStoppedRun {W : Type 0} (touched : Touching W) (p : Plan) (c until : ℕ) (s : Outcome) (w : W)
    (t : Outcome) : Type 0 where
  pub number : ℕ
  pub mid : W
  pub goes : GoesAlone touched p c number s w t mid
  pub below : counts_in t c < until

-- how core c's run ends
abbrev pub GoesTo : {W : Type 0} → Touching W → Plan → (c until : ℕ) → (s : Outcome) → (w : W) → Ran → (t : Outcome)
    → (v : W) → Type 0
GoesTo touched p c until s w ran.Whole t v = IsWholeRun touched p c until s w t v
GoesTo touched p c until s w ran.Done t v = IsDoneRun touched p c until s w t v
GoesTo touched p c until s w ran.Refused t v = IsStoppedRun touched p c until s w t

-- ---- what the memory of a play is told of an instruction

-- the access, if the instruction makes one
abbrev pub access_by : Use → Instr → (before after : ℕ) → Option Access
access_by None at before after = None
access_by (Some used) at before after =
    Some (record { at = at; word = used.1; kind = used.0; before = before; after = after })

-- it finds its word there and leaves it there, what it reads is noted, and the watch is told
pub record ToldNoted {W : Type 0} (touched : Touching W) (m : NotedMemory) (w : W) (at : Instr) (used : Use)
    (old new : ℕ) (n : NotedMemory) (v : W) : Type 0 where
  pub found : old ≡ old_for used m.memory
  pub words : n.memory ≡ words_after used m.memory new
  pub loads : AreNoted m.loads.lists at.core used at.count old n.loads.lists
  pub watch : IsToldOf touched w (access_by used at old new) v

-- words and notes are as they were
abbrev pub same_notes : NotedMemory → NotedMemory → Type 0
same_notes m n = (n.memory ≡ m.memory) × (n.loads.lists ≡ m.loads.lists)

-- ---- it keeps its words, and accepts what comes later

long_by : (test : Bool) (words : List ℕ) (word value : ℕ)
    → length (if test then slice_set words word value else words) ≡ length words
long_by true words word value = length-set words word value
long_by false words word value = refl

words_long : (used : Use) (words : List ℕ) (value : ℕ) → length (words_after used words value) ≡ length words
words_long None words value = refl
words_long (Some used) words value = long_by (is_write used.0) words used.1 value

pub noted_keeps_words : {W : Type 0} (touched : Touching W) (m : NotedMemory) (w : W) (at : Instr) (used : Use)
    (old new : ℕ) (n : NotedMemory) (v : W) → ToldNoted touched m w at used old new n v
    → length n.memory ≡ length m.memory
noted_keeps_words touched m w at used old new n v told =
    ap (λ (l : List ℕ). length l) told.words ∙ words_long used m.memory new

pub noted_keeps_lists : {W : Type 0} (touched : Touching W) (m : NotedMemory) (w : W) (at : Instr) (used : Use)
    (old new : ℕ) (n : NotedMemory) (v : W) → ToldNoted touched m w at used old new n v
    → length n.loads.lists ≡ length m.loads.lists
noted_keeps_lists touched m w at used old new n v told =
    ap (λ (l : List (List LoadNote)). length l) told.loads ∙ length-set m.loads.lists at.core _

pub noted_keeps_accepting : {W : Type 0} (touched : Touching W) (accepts : W → Instr → Type 0)
    (keeps : (w : W) (a : Access) (v : W) (later : Instr) → touched w a v → later.core ≡ a.at.core
    → a.at.count < later.count → accepts w later → accepts v later)
    (m : NotedMemory) (w : W) (at : Instr) (used : Use) (old new : ℕ) (n : NotedMemory) (v : W) (later : Instr)
    → ToldNoted touched m w at used old new n v → later.core ≡ at.core → at.count < later.count
    → (later.core < length m.loads.lists) × accepts w later → (later.core < length n.loads.lists) × accepts v later
noted_keeps_accepting touched accepts keeps m w at used old new n v later told same below accepted = (
  subst (λ (k : ℕ). later.core < k) (sym (noted_keeps_lists touched m w at used old new n v told)) accepted.0,
  by used told.watch,
)
  where
    by : (used : Use) → IsToldOf touched w (access_by used at old new) v → accepts v later
    by None is = subst (λ x. accepts x later) (sym is) accepted.1
    by (Some u) is = keeps w _ v later is same below accepted.1
