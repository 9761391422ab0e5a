-- What is kept of the accesses so far.
use Rattle.std.proofs.Common.{inl, inr, subst, sym}
use Rattle.std.specs.Prelude.{◌≡◌, ℕ, ◌⊎◌, ◌<◌, length, Bool, IsTrue, List, [], ◌∷◌, ◌++◌, reverse, slice_index}
use Rattle.std.specs.Prelude.{Option, Some, None}
use Rattle.rtr_types.specs.declared.instr.Instr.{Instr}
use Rattle.rtr_types.specs.declared.instr.Edge.{Edge}
use Rattle.rtr_types.specs.declared.access.Access.{Access}
use Rattle.clock_core.specs.Order.{Among}
use Rattle.conflict_edge.specs.Least.{Suffices}
use Rattle.clock_entries.specs.Laws.{IsAcyclic}
use Rattle.replay_audit.specs.declared.unordered.Unordered.{Unordered}
use Rattle.conflict_edge.specs.Conflicts.{StandsIn}
use Rattle.conflict_edge.proofs.AccessPlaces.{stands_which}
use Rattle.rtr_types.specs.declared.TheConstants.{CORES_MAX}
use Rattle.replay_audit.specs.Clocks.{Kept, clock_at, clocks_of, number_of, IsNoted, Clocked}
use Rattle.replay_audit.specs.Marks.{Marked, IsMarked, AreMarksCovered, AreMarked}
use Rattle.replay_audit.specs.Unordered.{AreCovered, IsLatestAt, IsUnordered}

-- what contracts see of a trail: the clocks and the marks that are kept, the accesses where they are listed, and the
-- first two that are unordered, which are named where the accesses are listed
pub record Trailed : Type 0 where
  pub listed : Bool
  pub kept : Kept
  pub marks : Marked
  pub accesses : List Access
  pub found : Option Unordered

-- the access that the marks leave open, by those that are listed
abbrev pub IsFirstOpen : (listed : Bool) → List Access → Access → (clock : List ℕ) → Option Unordered → Type 0
IsFirstOpen listed list a clock None = IsTrue listed × AreCovered list a clock
IsFirstOpen listed list a clock (Some o) = IsTrue listed → IsLatestAt list a clock o.first × (o.second ≡ a.at)

-- the first two that were found stay. Without any, the marks are covered, or all accesses that are listed are, or the
-- latest open one is found
abbrev pub FoundNext : (listed : Bool) → Option Unordered → Marked → List Access → Access → (clock : List ℕ)
    → Option Unordered → Type 0
FoundNext listed (Some o) marks list a clock result = result ≡ Some o
FoundNext listed None marks list a clock None = AreMarksCovered marks a clock ⊎ IsFirstOpen listed list a clock None
FoundNext listed None marks list a clock (Some o) = IsFirstOpen listed list a clock (Some o)

-- an access is looked at by its clock, marked, and listed if such are
pub record Watches (s : Trailed) (a : Access) (t : Trailed) : Type 0 where
  pub listed : t.listed ≡ s.listed
  pub kept : t.kept ≡ s.kept
  pub accesses : IsTrue s.listed → t.accesses ≡ s.accesses ++ a ∷ []
  pub clock : List ℕ
  pub clock_is : (i : ℕ) → slice_index clock i ≡ clock_at s.kept a.at i
  pub marks : IsMarked s.marks a clock t.marks
  pub found : FoundNext s.listed s.found s.marks s.accesses a clock t.found

abbrev pub with_kept : Trailed → Kept → Trailed
with_kept s kept = record {
  listed = s.listed;
  kept = kept;
  marks = s.marks;
  accesses = s.accesses;
  found = s.found;
}

-- an instruction with its sources is noted
pub record NotesNext (s : Trailed) (y : Instr) (sources : List ℕ) (cores : ℕ) (t : Trailed) : Type 0 where
  pub noted : IsNoted s.kept y sources cores t.kept
  pub same : t ≡ with_kept s t.kept

-- an access of the instruction can be looked at: no clock is kept of a later one of its core
pub record CanWatch (s : Trailed) (at : Instr) : Type 0 where
  pub core : at.core < CORES_MAX
  pub last : number_of s.kept at.core at.count ≡ length (clocks_of s.kept at.core)
  pub each : IsTrue s.listed → (b : Access) → StandsIn s.accesses b → b.at.core < CORES_MAX

-- ---- what a trail stands for

-- none are found where the log orders each two that conflict, and two of those that are listed are the first that it
-- doesn't
abbrev pub IsFinding : (listed : Bool) → List Edge → List Access → Option Unordered → Type 0
IsFinding listed edges list None = Suffices list (Among edges)
IsFinding listed edges list (Some o) = IsTrue listed → IsUnordered edges list o.first o.second

-- it is the trail of these accesses, along an order that has come as far as the counts say
pub record IsTrailOf (edges : List Edge) (cores : ℕ) (f : ℕ → ℕ) (list : List Access) (t : Trailed) : Type 0 where
  pub clocked : Clocked edges cores f t.kept
  pub accesses_is : IsTrue t.listed → t.accesses ≡ list
  pub marked : IsAcyclic edges → AreMarked edges (reverse list) t.marks
  pub finding : IsAcyclic edges → IsFinding t.listed edges list t.found

-- ---- of later instructions, accesses can still be looked at

pub watch_keeps_accepting : (s : Trailed) (a : Access) (t : Trailed) (later : Instr) → Watches s a t →
    later.core ≡ a.at.core → a.at.count < later.count → CanWatch s later → CanWatch t later
watch_keeps_accepting s a t later w same below can = record {
  core = can.core;
  last = subst (λ (k : Kept). number_of k later.core later.count ≡ length (clocks_of k later.core)) (sym w.kept)
      can.last;
  each = λ listed b q. let was : IsTrue s.listed = subst IsTrue w.listed listed in
      by was b (stands_which s.accesses (a ∷ []) b (subst (λ (l : List Access). StandsIn l b) (w.accesses was) q));
}
  where
    by : IsTrue s.listed → (b : Access) → StandsIn s.accesses b ⊎ StandsIn (a ∷ []) b → b.at.core < CORES_MAX
    by was b (inl q) = can.each was b q
    by was b (inr (inl e)) = subst (λ (x : Access). x.at.core < CORES_MAX) e
        (subst (λ (c : ℕ). c < CORES_MAX) same can.core)
    by was b (inr (inr q)) = absurd q
