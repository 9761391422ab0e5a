-- The last write of each word, and the reads since that matter.
use Rattle.std.specs.Prelude.{◌≡◌, ◌≢◌, ℕ, ◌-◌, ◌<◌, ◌≤◌, ◌⊎◌, false, IsTrue, List, length, slice_index}
use Rattle.std.specs.Prelude.{slice_index_or, Some}
use Rattle.rtr_types.specs.Accesses.{is_write}
use Rattle.rtr_types.specs.declared.TheConstants.{CORES_MAX}
use Rattle.rtr_types.specs.declared.access.Access.{Access}
use Rattle.rtr_types.specs.declared.instr.Edge.{Edge}
use Rattle.rtr_types.specs.declared.instr.Instr.{Instr}
use Rattle.clock_core.specs.Counts.{no_counts}
use Rattle.clock_core.specs.Order.{IsOrLeads, Among}
use Rattle.conflict_edge.specs.Clocks.{last_write, last_read}
use Rattle.replay_audit.specs.declared.marks.Mark.{Mark}
use Rattle.replay_audit.specs.declared.marks.Reads.{Reads}
use Rattle.replay_audit.specs.declared.marks.Reads.TheVariants.{Unread, One, Crowd}

-- what contracts see of the marks: one of each word, and the crowds
pub record Marked : Type 0 where
  pub marks : List Mark
  pub crowds : List (List ℕ)

-- no access yet
abbrev pub first_mark : Mark
first_mark = record { write = record { core = 0; count = 0 }; reads = Unread; crowd = 0 }

-- the mark of a word
abbrev pub mark_at : Marked → ℕ → Mark
mark_at m w = slice_index_or m.marks w first_mark

-- the counts of a mark's crowd
abbrev pub crowd_of : List (List ℕ) → Mark → List ℕ
crowd_of crowds m = slice_index_or crowds (m.crowd - 1) no_counts

-- x is one of the reads: the one, or within the counts of the crowd
abbrev pub IsOneOfReads : Reads → (crowd : List ℕ) → Instr → Type 0
IsOneOfReads Unread crowd x = ⊥
IsOneOfReads (One at) crowd x = x ≡ at
IsOneOfReads Crowd crowd x = x.count ≤ slice_index crowd x.core

abbrev pub HasRead : List (List ℕ) → Mark → Instr → Type 0
HasRead crowds m x = IsOneOfReads m.reads (crowd_of crowds m) x

-- x is marked as a read of the word
abbrev pub IsReader : Marked → (word : ℕ) → Instr → Type 0
IsReader m w x = HasRead m.crowds (mark_at m w) x

-- ---- what always holds

-- the one read is of some core, and where there is a crowd the word has one
abbrev pub IsOfCore : Reads → (crowd : ℕ) → Type 0
IsOfCore Unread crowd = Unit {0}
IsOfCore (One at) crowd = at.core < CORES_MAX
IsOfCore Crowd crowd = 1 ≤ crowd

pub record IsMark (crowds : List (List ℕ)) (m : Mark) : Type 0 where
  pub core : m.write.core < CORES_MAX
  pub reads : IsOfCore m.reads m.crowd
  pub crowd : m.crowd ≤ length crowds

-- no two words have one crowd
pub record AreSound (m : Marked) : Type 0 where
  pub each : (w : ℕ) → IsMark m.crowds (mark_at m w)
  pub apart : (v w : ℕ) → 1 ≤ (mark_at m v).crowd → (mark_at m v).crowd ≡ (mark_at m w).crowd → v ≡ w

-- ---- one access more

-- nothing changes at the other words
pub record IsElsewhere (old : Marked) (word : ℕ) (new : Marked) : Type 0 where
  pub all : length new.marks ≡ length old.marks
  pub write : (w : ℕ) → w ≢ word → (mark_at new w).write ≡ (mark_at old w).write
  pub reads : (w : ℕ) (x : Instr) → w ≢ word → IsReader old w x → IsReader new w x

-- a read is marked, and each that was marked still is, unless the read's clock covers it
pub record IsReadNext (old : Marked) (word : ℕ) (at : Instr) (clock : List ℕ) (new : Marked) : Type 0 where
  pub write : (mark_at new word).write ≡ (mark_at old word).write
  pub now : IsReader new word at
  pub before : (x : Instr) → IsReader old word x → IsReader new word x ⊎ (x.count ≤ slice_index clock x.core)

-- an access is marked: a write, or a read by its clock
pub record IsMarked (old : Marked) (a : Access) (clock : List ℕ) (new : Marked) : Type 0 where
  pub elsewhere : IsElsewhere old a.word new
  pub written : a.word < length old.marks → IsTrue (is_write a.kind) → (mark_at new a.word).write ≡ a.at
  pub read : a.word < length old.marks → is_write a.kind ≡ false → IsReadNext old a.word a.at clock new

-- the clock covers the last write of the access's word and, where the access writes, the reads that are marked
pub record AreMarksCovered (marks : Marked) (a : Access) (clock : List ℕ) : Type 0 where
  pub inside : a.word < length marks.marks
  pub write : (mark_at marks a.word).write.count ≤ slice_index clock (mark_at marks a.word).write.core
  pub reads : IsTrue (is_write a.kind) → (x : Instr) → x.core < CORES_MAX → IsReader marks a.word x →
      x.count ≤ slice_index clock x.core

-- ---- what marks stand for. Lists have the newest access first

-- z is some core's last read of the word since its last write
abbrev pub IsLastRead : List Access → ℕ → Instr → Type 0
IsLastRead earlier w z = (core : ℕ) × (b : Access) × (last_read earlier w core ≡ Some b) × (b.at ≡ z)

-- x is marked as a read of the word, and z is x or before it by the log
pub record IsStoodFor (edges : List Edge) (marks : Marked) (w : ℕ) (z : Instr) : Type 0 where
  pub by : Instr
  pub core : by.core < CORES_MAX
  pub some : 1 ≤ by.count
  pub reader : IsReader marks w by
  pub leads : IsOrLeads (Among edges) z by

-- the mark has the last write of the word, and stands for each last read since
pub record IsMarkOf (edges : List Edge) (earlier : List Access) (marks : Marked) (w : ℕ) : Type 0 where
  pub write : (b : Access) → last_write earlier w ≡ Some b → (mark_at marks w).write ≡ b.at
  pub reads : (z : Instr) → IsLastRead earlier w z → IsStoodFor edges marks w z

-- each word has its mark
pub record AreMarked (edges : List Edge) (earlier : List Access) (marks : Marked) : Type 0 where
  pub each : (w : ℕ) → w < length marks.marks → IsMarkOf edges earlier marks w
