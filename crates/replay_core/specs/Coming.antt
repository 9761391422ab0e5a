-- Which edges of a log come next.
use Rattle.std.specs.Prelude.{◌≡◌, ◌≢◌, ℕ, ◌+◌, ◌-◌, ◌<◌, ◌≤◌, List, [], length, slice_index, slice_index_or, Option, Some}
use Rattle.std.specs.Prelude.{None, IfSome}
use Rattle.std.specs.List.{Contains}
use Rattle.rtr_types.specs.declared.instr.Instr.{Instr}
use Rattle.rtr_types.specs.declared.instr.Edge.{Edge}
use Rattle.rtr_types.specs.declared.pairs.Which.{Which}
use Rattle.stride_vector.specs.declared.StrideVector.{StrideVector}
use Rattle.stride_vector.specs.Vectors.{position_of}
use Rattle.race_log.specs.declared.recording.Recording.{Recording}
use Rattle.race_log.specs.Sources.{log_edges}
use Rattle.race_log.specs.Validity.{Valid}
use Rattle.replay_core.specs.Play.{instr}
use Rattle.replay_core.specs.declared.coming.Coming.{Coming}

-- ---- edges as counts, the source's first

-- the first edge whose target's count isn't below n
pub record IsFirstEdge (edges : List (ℕ × ℕ)) (n : ℕ) (e : ℕ × ℕ) : Type 0 where
  pub there : Contains edges e
  pub least : n ≤ e.1
  pub first : (a b : ℕ) → Contains edges (a, b) → n ≤ b → e.1 ≤ b

-- the place of the first edge whose target's count isn't below n, where counts rise
pub record IsFirstPlace (edges : List (ℕ × ℕ)) (n k : ℕ) : Type 0 where
  pub within : k < length edges
  pub least : n ≤ (slice_index_or edges k (0, 0)).1
  pub before : 1 ≤ k → (slice_index_or edges (k - 1) (0, 0)).1 < n

-- that edge, or none where each edge's target is below n
abbrev pub IsNextEdge : List (ℕ × ℕ) → (n : ℕ) → Option (ℕ × ℕ) → Type 0
IsNextEdge edges n None = (a b : ℕ) → Contains edges (a, b) → b < n
IsNextEdge edges n (Some e) = IsFirstEdge edges n e

-- the same of one vector's positions
pub record IsFirstPosition (v : StrideVector) (n : ℕ) (e : ℕ × ℕ) : Type 0 where
  pub place : ℕ
  pub within : place < v.n
  pub is : position_of v place ≡ e
  pub least : n ≤ e.1
  pub first : (k : ℕ) → k < v.n → n ≤ (position_of v k).1 → e.1 ≤ (position_of v k).1

abbrev pub IsNextPosition : StrideVector → (n : ℕ) → Option (ℕ × ℕ) → Type 0
IsNextPosition v n None = (k : ℕ) → k < v.n → (position_of v k).1 < n
IsNextPosition v n (Some e) = IsFirstPosition v n e

-- the first position of the vector at a place, if there is one
abbrev pub IsBeginning : List StrideVector → (place : ℕ) → Option (ℕ × ℕ) → Type 0
IsBeginning vectors place None = length vectors ≤ place
IsBeginning vectors place (Some e) =
    (place < length vectors)
    × ((d : StrideVector) → e ≡ ((slice_index_or vectors place d).a0, (slice_index_or vectors place d).b0))

-- ---- edges of a log

-- the log has an edge between the instructions with these counts
abbrev pub Leads : List Edge → (of a core b : ℕ) → Type 0
Leads edges of a core b = Contains edges (record { from = instr of a; to = instr core b })

-- the first edge from core `of` to y or a later instruction of its core
pub record IsFirstInto (edges : List Edge) (of : ℕ) (y : Instr) (e : ℕ × ℕ) : Type 0 where
  pub there : Leads edges of e.0 y.core e.1
  pub least : y.count ≤ e.1
  pub first : (a b : ℕ) → Leads edges of a y.core b → y.count ≤ b → e.1 ≤ b

-- that edge, or none
abbrev pub IsNextInto : List Edge → (of : ℕ) → (y : Instr) → Option (ℕ × ℕ) → Type 0
IsNextInto edges of y None = (a b : ℕ) → Leads edges of a y.core b → b < y.count
IsNextInto edges of y (Some e) = IsFirstInto edges of y e

-- the one source of y on core `of`, if it has one
pub record IsSource (edges : List Edge) (of : ℕ) (y : Instr) (source : Option ℕ) : Type 0 where
  pub found : (a : ℕ) → source ≡ Some a → Leads edges of a y.core y.count
  pub only : (a : ℕ) → Leads edges of a y.core y.count → source ≡ Some a

-- ---- what is known of the edges into a core

abbrev pub edge_of : Coming → (of : ℕ) → Option (ℕ × ℕ)
edge_of k of = slice_index_or k.edges of None

-- the next edge from each of n other cores, of which none leads to a count below the one that is due
pub record IsComing (edges : List Edge) (core n : ℕ) (k : Coming) : Type 0 where
  pub each : (i : ℕ) → i < n → i ≢ core → IsNextInto edges i (instr core k.from) (edge_of k i)
  pub due : (i a b : ℕ) → i < n → Leads edges i a core b → k.from ≤ b → k.due ≤ b

-- what is known of the edge from a core is still the next one to this count or a later one
pub record IsStillNext (k : Coming) (of count : ℕ) (edge : Option (ℕ × ℕ)) : Type 0 where
  pub known : k.from ≤ count
  pub edge_is : edge ≡ edge_of k of
  pub still : IfSome edge (λ e. count ≤ e.1)

-- the source of the edge, where it leads to this count
pub record IsSourceIn (edge : Option (ℕ × ℕ)) (count : ℕ) (source : Option ℕ) : Type 0 where
  pub found : (a : ℕ) → source ≡ Some a → edge ≡ Some (a, count)
  pub none : source ≡ None → IfSome edge (λ e. e.1 ≢ count)

abbrev pub no_coming : Coming
no_coming = record { from = 0; due = 0; edges = []; places = [] }

abbrev pub coming_at : List Coming → ℕ → Coming
coming_at list c = slice_index_or list c no_coming

-- so of each core of a recording
pub record AreComing (which : Which) (r : Recording) (list : List Coming) : Type 0 where
  pub valid : Valid r
  pub all : length list ≡ r.params.cores
  pub each : (c : ℕ) → c < r.params.cores → IsComing (log_edges which r) c r.params.cores (coming_at list c)

-- ---- what is found of an instruction on one core

-- core n's source is put in, if it has one
abbrev pub IsTaken : Option ℕ → ℕ → (s t : List ℕ) → Type 0
IsTaken None n s t = t ≡ s
IsTaken (Some a) n s t = (slice_index t n ≡ a) × ((i : ℕ) → i ≢ n → slice_index t i ≡ slice_index s i)

-- the edge from core n is put in
pub record IsPut (k : Coming) (n : ℕ) (e : Option (ℕ × ℕ)) (m : Coming) : Type 0 where
  pub from : m.from ≡ k.from
  pub at : edge_of m n ≡ e
  pub others : (i : ℕ) → i ≢ n → edge_of m i ≡ edge_of k i
  pub before : m.due ≤ k.due
  pub due : IfSome e (λ x. m.due ≤ x.1)

-- core n's source of y is put in, and its next edge to a later instruction
pub record PassesCore (edges : List Edge) (y : Instr) (n : ℕ) (s : List ℕ) (k : Coming) (t : List ℕ) (m : Coming)
    : Type 0 where
  pub source : Option ℕ
  pub next : Option (ℕ × ℕ)
  pub source_is : IsSource edges n y source
  pub next_is : IsNextInto edges n (instr y.core (y.count + 1)) next
  pub taken : IsTaken source n s t
  pub put : IsPut k n next m
