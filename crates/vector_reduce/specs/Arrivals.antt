-- Where the edges of vectors arrive, core by core, and how a cut is closed by going along them.
use Rattle.std.specs.Prelude.{◌≡◌, ◌≢◌, ℕ, suc, ◌-◌, ◌<◌, ◌≤◌, ◌^◌, All, List, [], length, map, max, slice_index}
use Rattle.std.specs.Prelude.{slice_index_or}
use Rattle.std.specs.Prelude.{Bool, true, false, ◌⊎◌, Option, Some, None}
use Rattle.std.specs.List.{Contains, range_with_len}
use Rattle.std.specs.List.Sorted.{IsNonDecreasingBy}
use Rattle.rtr_types.specs.declared.TheConstants.{CORES_MAX}
use Rattle.rtr_types.specs.declared.instr.Instr.{Instr}
use Rattle.rtr_types.specs.declared.instr.Edge.{Edge}
use Rattle.rtr_types.specs.Pairs.{IsPair}
use Rattle.clock_core.specs.Order.{IsOrLeads, Among}
use Rattle.stride_vector.specs.Vectors.{IsVector}
use Rattle.vector_reduce.specs.declared.arrivals.Arrival.{Arrival}
use Rattle.vector_reduce.specs.declared.closing.Closing.{Closing}
use Rattle.vector_reduce.specs.declared.pair_vector.PairVector.{PairVector}
use Rattle.vector_reduce.specs.declared.thinned.Shown.{Shown}
use Rattle.vector_reduce.specs.Cuts.{Holds, IsClosed}
use Rattle.vector_reduce.specs.Kept.{beside, is_beside}
use Rattle.vector_reduce.specs.Showing.{IsLeastShown}
use Rattle.vector_reduce.specs.Thinning.{IsImplied}
use Rattle.vector_reduce.specs.Vectors.{edge_at, edges_in, edges_of_all, vector_at}

-- ---- the vectors

-- a vector between two of so many cores, from an instruction on
pub record IsBetween (cores : ℕ) (v : PairVector) : Type 0 where
  pub vector : IsVector v.vector
  pub pair : IsPair cores v.from v.to
  pub some_source : 1 ≤ v.vector.a0
  pub some_target : 1 ≤ v.vector.b0

abbrev pub AreBetween : ℕ → List PairVector → Type 0
AreBetween cores vectors = (k : ℕ) → k < length vectors → IsBetween cores (vector_at vectors k)

-- the edges of the others of the vector that is tried next
abbrev pub edges_beside : List PairVector → List Bool → List Edge
edges_beside vectors stays = edges_of_all (beside vectors stays)

-- ---- where they arrive

-- what contracts see of the vectors with their edges by target
pub record Arranged : Type 0 where
  pub vectors : List PairVector
  pub lists : List (List Arrival)

abbrev pub arrival : Instr → (count vector : ℕ) → Arrival
arrival from count vector = record { count = count; from = from; vector = vector }

-- the edges of a vector with this number
abbrev pub arrival_of : (number : ℕ) → PairVector → ℕ → Arrival
arrival_of number v k = arrival (edge_at v k).from (edge_at v k).to.count number

abbrev pub arrivals_in : (number : ℕ) → PairVector → List Arrival
arrivals_in number v = map (arrival_of number v) (range_with_len 0 v.vector.n)

-- what stands past the end
abbrev pub no_arrival : Arrival
no_arrival = arrival (record { core = 0; count = 0 }) 0 0

abbrev pub list_at : List (List Arrival) → ℕ → List Arrival
list_at lists core = slice_index_or lists core []

abbrev pub arrival_at : List Arrival → ℕ → Arrival
arrival_at list i = slice_index_or list i no_arrival

-- it is an edge into the core, of the vector with this number
pub record Arrives (vectors : List PairVector) (core : ℕ) (a : Arrival) : Type 0 where
  pub vector : a.vector < length vectors
  pub edge : Among (edges_in (vector_at vectors a.vector)) a.from (record { core = core; count = a.count })

-- all edges into a core and no others, by rising count of the target
pub record AreInto (vectors : List PairVector) (core : ℕ) (list : List Arrival) : Type 0 where
  pub each : All (Arrives vectors core) list
  pub all : (j : ℕ) (x y : Instr) → j < length vectors → Among (edges_in (vector_at vectors j)) x y → y.core ≡ core →
      Contains list (arrival x y.count j)
  pub rise : IsNonDecreasingBy (λ a. a.count) list

-- the lists of all cores
pub record Arranges (vectors : List PairVector) (lists : List (List Arrival)) : Type 0 where
  pub few : length lists ≤ CORES_MAX
  pub between : AreBetween (length lists) vectors
  pub each : (core : ℕ) → core < length lists → AreInto vectors core (list_at lists core)

-- as many as there are cores
pub record IsArranged (cores : ℕ) (vectors : List PairVector) (lists : List (List Arrival)) : Type 0 where
  pub all : length lists ≡ cores
  pub arranges : Arranges vectors lists

-- ---- closing a cut

abbrev pub counts_of : Closing → ℕ → ℕ
counts_of s core = slice_index s.counts core

-- how many arrivals of a core were gone past
abbrev pub passed_of : Closing → ℕ → ℕ
passed_of s core = slice_index s.passed core

-- the cut has the instruction besides
pub record Raises (s : Closing) (at : Instr) (t : Closing) : Type 0 where
  pub at_core : counts_of t at.core ≡ max (counts_of s at.core) at.count
  pub elsewhere : (core : ℕ) → core ≢ at.core → counts_of t core ≡ counts_of s core
  pub passed : t.passed ≡ s.passed

-- where the edge counts
abbrev pub Takes : Closing → (counts : Bool) → Instr → Closing → Type 0
Takes s true from t = Raises s from t
Takes s false from t = t ≡ s

-- one arrival more was gone past
pub record Passes (s : Closing) (core : ℕ) (t : Closing) : Type 0 where
  pub at_core : passed_of t core ≡ suc (passed_of s core)
  pub elsewhere : (other : ℕ) → other ≢ core → passed_of t other ≡ passed_of s other
  pub counts : t.counts ≡ s.counts

-- the core's next arrival is this one, and its target lies in the cut
pub record IsDue (list : List Arrival) (s : Closing) (core : ℕ) (a : Arrival) : Type 0 where
  pub within : passed_of s core < length list
  pub fits : passed_of s core < 2 ^ 64 - 1
  pub is : arrival_at list (passed_of s core) ≡ a
  pub due : a.count ≤ counts_of s core

-- that arrival, or none where no target of those to come lies in the cut
abbrev pub NextDue : List Arrival → Closing → (core : ℕ) → Option Arrival → Type 0
NextDue list s core None =
    (i : ℕ) → passed_of s core ≤ i → i < length list → counts_of s core < (arrival_at list i).count
NextDue list s core (Some a) = IsDue list s core a

-- some core's, or none where no core has one
abbrev pub AnyDue : List (List Arrival) → Closing → Option (ℕ × Arrival) → Type 0
AnyDue lists s None = (core : ℕ) → core < length lists → NextDue (list_at lists core) s core None
AnyDue lists s (Some d) = (d.0 < length lists) × IsDue (list_at lists d.0) s d.0 d.1

-- the sources of those vectors' arrivals that were gone past lie in the cut
pub record HasPassed (a : Arranged) (stays : List Bool) (s : Closing) : Type 0 where
  pub sources : (core i : ℕ) → core < length a.lists → i < passed_of s core → i < length (list_at a.lists core) →
      is_beside stays (arrival_at (list_at a.lists core) i).vector ≡ true →
      Holds (counts_of s) (arrival_at (list_at a.lists core) i).from

-- what lies in the cut is y or leads to y by the edges
abbrev pub Leads : List Edge → Instr → (ℕ → ℕ) → Type 0
Leads edges y cut = (x : Instr) → 1 ≤ x.count → Holds cut x → IsOrLeads (Among edges) x y

-- a cut under way, of what leads to y
pub record IsClosing (a : Arranged) (stays : List Bool) (y : Instr) (s : Closing) : Type 0 where
  pub passed : HasPassed a stays s
  pub leads : Leads (edges_beside a.vectors stays) y (counts_of s)

-- it is closed and has y
pub record IsClosedAt (a : Arranged) (stays : List Bool) (y : Instr) (s : Closing) : Type 0 where
  pub closing : IsClosing a stays y s
  pub closed : IsClosed (edges_beside a.vectors stays) (counts_of s)
  pub holds : Holds (counts_of s) y

-- what a trial of a vector against others comes to: the first edge that they don't imply, or one past its last edge
abbrev pub Tries : List PairVector → PairVector → Shown → Type 0
Tries others v s = IsLeastShown others v s ⊎ ((s.edge ≡ v.vector.n) × IsImplied others v)
