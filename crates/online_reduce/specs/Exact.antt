-- What the online reduction keeps while the times handed in are exact.
use Rattle.std.specs.Prelude.{◌≡◌, ℕ, ◌+◌, ◌%◌, ◌<◌, ◌≤◌, ◌↔◌, List, [], ◌∷◌, ◌++◌, ⊤, reverse, length, Some}
use Rattle.std.specs.Prelude.{false, IsTrue, slice_index_or}
use Rattle.std.specs.List.{Contains}
use Rattle.rtr_types.specs.Accesses.{is_write}
use Rattle.rtr_types.specs.Pairs.{IsPair, pair_count, pair_place, source_at, target_at}
use Rattle.rtr_types.specs.declared.instr.Instr.{Instr}
use Rattle.rtr_types.specs.declared.instr.Edge.{Edge}
use Rattle.rtr_types.specs.declared.access.Access.{Access}
use Rattle.clock_core.specs.Order.{Among}
use Rattle.clock_core.specs.declared.clock.Clock.{Clock}
use Rattle.conflict_edge.specs.Conflicts.{CountsRise, StandsIn}
use Rattle.conflict_edge.specs.Clocks.{last_write, last_read}
use Rattle.conflict_edge.specs.Least.{Covering, IsLeast}
use Rattle.conflict_edge.specs.Scan.{AreCovering}
use Rattle.conflict_edge.specs.Times.{IsExactClock, IsNoteOf, AreExactTimes}
use Rattle.rtr_types.specs.declared.TheConstants.{BLOCK_WORDS, CORES_MAX}
use Rattle.access_times.specs.declared.times.Times.{Times}
use Rattle.access_times.specs.Times.{read_note, write_at, read_at}
use Rattle.rtr_types.specs.PairEdges.{by_pair, AreEdges}
use Rattle.online_reduce.specs.Reduced.{Reduced, IsNext, unreduced, clock_of, count_of, counted, retired, edges_of}

-- the times are exact for the access, which comes after the list: they hold the word's last write, and where the access
-- writes also each core's last read since, each with its exact clock
pub record AreExactFor (list : List Access) (a : Access) (t : Times) : Type 0 where
  pub write_is : IsNoteOf list (last_write (reverse list) a.word) (write_at t (a.word % BLOCK_WORDS))
  pub read_is : IsTrue (is_write a.kind) → (core : ℕ) → core < CORES_MAX →
      IsNoteOf list (last_read (reverse list) a.word core) (read_note core (read_at t (a.word % BLOCK_WORDS) core))

-- the core's last retired instruction
abbrev pub last_of : Reduced → ℕ → Instr
last_of r core = record { core = core; count = count_of r core }

-- each core's clock is exact for its last retired instruction, and no access of the list is of a later one
pub record IsExact (list : List Access) (r : Reduced) : Type 0 where
  pub few : r.cores ≤ CORES_MAX
  pub places : length r.clocks ≡ CORES_MAX
  pub wide : (core : ℕ) → core < r.cores → CORES_MAX ≤ length (clock_of r core)
  pub rise : CountsRise list
  pub within : (a : Access) → StandsIn list a → (a.at.core < r.cores) × (a.at.count ≤ count_of r a.at.core)
  pub clocks : (core : ℕ) → core < r.cores → IsExactClock list (last_of r core) (clock_of r core)

-- the times hold the access in its word's slot, with the clock: one that writes as the last write, any other as its
-- core's last read since
pub record IsHeld (a : Access) (t : Times) (clock : Clock) : Type 0 where
  pub write_is : IsTrue (is_write a.kind) → write_at t (a.word % BLOCK_WORDS) ≡ Some (a.at, clock)
  pub read_is : is_write a.kind ≡ false → read_at t (a.word % BLOCK_WORDS) a.at.core ≡ Some (a.at.count, clock)

-- the source cores rise, from low on
abbrev pub SourcesRise : ℕ → List Edge → Type 0
SourcesRise low [] = ⊤
SourcesRise low (e ∷ edges) = (low ≤ e.from.core) × SourcesRise (e.from.core + 1) edges

-- the edges are the covering pairs of the list into this instruction, by rising source core, each once
pub record AreCoveringInto (list : List Access) (at : Instr) (edges : List Edge) : Type 0 where
  pub covering : (x y : Instr) → Among edges x y ↔ ((y ≡ at) × Covering list x at)
  pub order : SourcesRise 0 edges

-- each pair's edges rise in both counts, up to what its cores have retired
abbrev pub AreRising : Reduced → List (List (ℕ × ℕ)) → Type 0
AreRising r lists = (place : ℕ) → place < pair_count r.cores →
    AreEdges (count_of r (source_at r.cores place), count_of r (target_at r.cores place))
    (slice_index_or lists place [])

-- the edges so far are the covering pairs of the list, and they stand by pair, rising in both counts
pub record IsReduction (list : List Access) (r : Reduced) (edges : List Edge) : Type 0 where
  pub exact : IsExact list r
  pub covering : AreCovering list edges
  pub by_pairs : r.lists ≡ by_pair r.cores edges
  pub rising : AreRising r r.lists

-- a retirement with an access leads from r to a new reduction by new edges: where the times are exact for the access,
-- its clock is exact, the edges are the covering pairs into it, and what r is of a list, the new reduction is of the
-- list with the access
pub record AddsAccess (r : Reduced) (a : Access) (t : Times) (edges : List Edge) (new : Reduced) : Type 0 where
  pub clock : (list : List Access) → IsExact list r → AreExactFor list a t →
      IsExactClock (list ++ a ∷ []) a.at (clock_of new a.at.core)
  pub covering : (list : List Access) → IsExact list r → AreExactFor list a t →
      AreCoveringInto (list ++ a ∷ []) a.at edges
  pub exact : (list : List Access) → IsExact list r → AreExactFor list a t → IsExact (list ++ a ∷ []) new
  pub reduction : (list : List Access) (before : List Edge) → IsReduction list r before → AreExactFor list a t →
      IsReduction (list ++ a ∷ []) new (before ++ edges)

-- Times that are exact for a word are exact for each access to it.
abbrev pub ExactForLaw : Type 0
ExactForLaw = (list : List Access) (a : Access) (t : Times) →
    AreExactTimes list a.word (write_at t (a.word % BLOCK_WORDS))
    (λ core. read_note core (read_at t (a.word % BLOCK_WORDS) core)) →
    AreExactFor list a t

-- Before the first retirement there are no edges.
abbrev pub BeginLaw : Type 0
BeginLaw = (cores : ℕ) → cores ≤ CORES_MAX → IsReduction [] (unreduced cores) []

-- A retirement without an access adds nothing.
abbrev pub CountLaw : Type 0
CountLaw = (list : List Access) (r : Reduced) (edges : List Edge) (at : Instr) → IsNext r at →
    IsReduction list r edges → IsReduction list (counted r at) edges

-- A retirement with an access adds the covering pairs into it, where the times are exact for it.
abbrev pub RetireLaw : Type 0
RetireLaw = (list : List Access) (r : Reduced) (edges : List Edge) (a : Access) (t : Times) → IsNext r a.at →
    AreExactFor list a t → IsReduction list r edges →
    IsReduction (list ++ (a ∷ [])) (retired r a t) (edges ++ edges_of r a t)

-- The edges are the least set of the list.
abbrev pub LeastLaw : Type 0
LeastLaw = (list : List Access) (r : Reduced) (edges : List Edge) → IsReduction list r edges → IsLeast list edges

-- They are exactly the counts in their pairs' lists.
abbrev pub ListedLaw : Type 0
ListedLaw = (list : List Access) (r : Reduced) (edges : List Edge) → IsReduction list r edges → (x y : Instr) →
    Among edges x y
    ↔ (IsPair r.cores x.core y.core
    × Contains (slice_index_or r.lists (pair_place r.cores x.core y.core) []) (x.count, y.count))
