-- Rule: the last touches of words: AreMarked
-- What is marked of the touches so far: as many of each core as the places say.
use Rattle.std.specs.Prelude.{◌≡◌, ◌≢◌, ℕ, ◌+◌, ◌*◌, ◌<◌, ◌≤◌, ◌⊎◌, Bool, true, false, IsTrue, List, length}
use Rattle.std.specs.Prelude.{slice_index, slice_index_or, if◌then◌else◌}
use Rattle.rtr_types.specs.Accesses.{is_write}
use Rattle.rtr_types.specs.declared.TheConstants.{CORES_MAX}
use Rattle.clock_core.specs.Counts.{no_counts}
use Rattle.conflict_edge.specs.Conflicts.{Conflicts}
use Rattle.replay_audit.specs.declared.touch.Touch.{Touch}
use Rattle.replay_audit.specs.Touches.{AreRising, as_access, touches_of}

-- it stands at place k of the list
pub record IsTouchOf (list : List Touch) (k : ℕ) (t : Touch) : Type 0 where
  pub within : k < length list
  pub is : slice_index_or list k t ≡ t

-- the lists are of so many cores at most, each has its core's touches by rising count, and for each word of these there
-- are two marks
pub record AreWithin (touched : List (List Touch)) (marks : ℕ) : Type 0 where
  pub few : length touched ≤ CORES_MAX
  pub core : (c k : ℕ) (t : Touch) → IsTouchOf (touches_of touched c) k t → t.at.core ≡ c
  pub some : (c k : ℕ) (t : Touch) → IsTouchOf (touches_of touched c) k t → 1 ≤ t.at.count
  pub word : (c k : ℕ) (t : Touch) → IsTouchOf (touches_of touched c) k t → 2 * t.word + 1 < marks
  pub rising : (c : ℕ) → AreRising (touches_of touched c)

-- it is one of the first touches of core c, as many as its place says
pub record IsPast (touched : List (List Touch)) (places : List ℕ) (c : ℕ) (t : Touch) : Type 0 where
  pub place : ℕ
  pub before : place < slice_index places c
  pub touch : IsTouchOf (touches_of touched c) place t

-- ---- marks

-- where the marks of a word stand: of the touches that write it, or of the others
abbrev pub slot_of : (word : ℕ) (writes : Bool) → ℕ
slot_of word writes = 2 * word + (if writes then 1 else 0)

-- for each core the count of its last touch that writes the word, or of its last other one
abbrev pub last_of : List (List ℕ) → (word : ℕ) (writes : Bool) → List ℕ
last_of marks word writes = slice_index_or marks (slot_of word writes) no_counts

-- a touch of core c with this word, which writes it or doesn't, and with this count, is past
pub record IsMarkOf (touched : List (List Touch)) (places : List ℕ) (c word : ℕ) (writes : Bool) (count : ℕ)
    : Type 0 where
  pub touch : Touch
  pub past : IsPast touched places c touch
  pub word_is : touch.word ≡ word
  pub writes_is : is_write touch.kind ≡ writes
  pub count_is : touch.at.count ≡ count

-- each past touch is marked, or a later one in its stead, and only past ones are
pub record AreMarked (touched : List (List Touch)) (places : List ℕ) (marks : List (List ℕ)) : Type 0 where
  pub last : (c : ℕ) (t : Touch) → IsPast touched places c t →
      t.at.count ≤ slice_index (last_of marks t.word (is_write t.kind)) c
  pub real : (c word : ℕ) (writes : Bool) → 1 ≤ slice_index (last_of marks word writes) c →
      IsMarkOf touched places c word writes (slice_index (last_of marks word writes) c)

-- a touch is marked, and nothing else changes
pub record IsMarked (old : List (List ℕ)) (t : Touch) (new : List (List ℕ)) : Type 0 where
  pub all : length new ≡ length old
  pub here : slice_index (last_of new t.word (is_write t.kind)) t.at.core ≡ t.at.count
  pub others : (d word : ℕ) (writes : Bool) →
      (slot_of word writes ≡ slot_of t.word (is_write t.kind) → d ≡ t.at.core → ⊥) →
      slice_index (last_of new word writes) d ≡ slice_index (last_of old word writes) d

-- ---- what a clock covers

-- core d, which isn't `but`, has a greater count than the clock
pub record IsAbove (counts clock : List ℕ) (but d : ℕ) : Type 0 where
  pub other : d ≢ but
  pub above : slice_index clock d < slice_index counts d

-- none of so many cores but this one has
abbrev pub IsBelow : (counts clock : List ℕ) → (but cores : ℕ) → Type 0
IsBelow counts clock but cores = (d : ℕ) → d < cores → d ≢ but → slice_index counts d ≤ slice_index clock d

-- core d is marked with a touch in conflict with t that the clock doesn't cover
abbrev pub IsUncovered : List (List ℕ) → Touch → (clock : List ℕ) → ℕ → Type 0
IsUncovered marks t clock d = IsAbove (last_of marks t.word true) clock t.at.core d
    ⊎ (IsTrue (is_write t.kind) × IsAbove (last_of marks t.word false) clock t.at.core d)

-- none of so many cores is
pub record IsCovered (marks : List (List ℕ)) (t : Touch) (clock : List ℕ) (cores : ℕ) : Type 0 where
  pub writes : IsBelow (last_of marks t.word true) clock t.at.core cores
  pub others : IsTrue (is_write t.kind) → IsBelow (last_of marks t.word false) clock t.at.core cores

-- a touch of its core, word and kind is marked with this count or a later one
abbrev pub IsKnown : List (List ℕ) → Touch → (from : ℕ) → Type 0
IsKnown marks t from = from ≤ slice_index (last_of marks t.word (is_write t.kind)) t.at.core

-- the clock covers each touch past before that is in conflict with one of core c's that are past now
abbrev pub AreCovered : List (List Touch) → (old new : List ℕ) → (c : ℕ) → (clock : List ℕ) → Type 0
AreCovered touched old new c clock = (d k : ℕ) (t u : Touch) → slice_index old c ≤ k → k < slice_index new c →
    IsTouchOf (touches_of touched c) k t → IsPast touched old d u → Conflicts (as_access u) (as_access t) →
    u.at.count ≤ slice_index clock d

-- it doesn't cover one that is in conflict with one of core c's from its place on, with a count of at most `until`
pub record IsOpen (touched : List (List Touch)) (places : List ℕ) (c until : ℕ) (clock : List ℕ) : Type 0 where
  pub first : Touch
  pub second : Touch
  pub core : ℕ
  pub place : ℕ
  pub past : IsPast touched places core first
  pub from : slice_index places c ≤ place
  pub touch : IsTouchOf (touches_of touched c) place second
  pub within : second.at.count ≤ until
  pub conflict : Conflicts (as_access first) (as_access second)
  pub open_is : slice_index clock core < first.at.count
