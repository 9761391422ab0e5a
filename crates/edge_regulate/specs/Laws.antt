-- What the regulation keeps.
use Rattle.std.specs.Prelude.{◌≡◌, ℕ, ◌+◌, ◌<◌, ◌≤◌, ◌↔◌, List, [], Bool, replicate, slice_index_or}
use Rattle.std.specs.List.{AllByRecursion}
use Rattle.rtr_types.specs.Pairs.{IsPair, pair_count, pair_place, target_at}
use Rattle.rtr_types.specs.declared.instr.Edge.{Edge}
use Rattle.rtr_types.specs.declared.instr.Instr.{Instr}
use Rattle.stride_vector.specs.declared.StrideVector.{StrideVector}
use Rattle.know_history.specs.declared.known.Known.{Known}
use Rattle.know_history.specs.Notes.{IsNoted, Notes, known_at, noted_count}
use Rattle.edge_regulate.specs.Greedy.{Knows, IsGreedy, greedy}
use Rattle.edge_regulate.specs.Regulated.{Knowledge, regulated, Regulation, Extends, IsRegulation, IsNextEdge}

-- The greedy vectors are those that the function gives, and no others.
abbrev pub GreedyLaw : Type 0
GreedyLaw = (knows : Knows) (edges : List (ℕ × ℕ)) (vectors : List StrideVector) → IsGreedy knows edges vectors
    ↔ (vectors ≡ greedy knows edges)

-- ---- what is noted later changes nothing

-- the later notes begin with the earlier ones
pub record Grows (notes later : Notes) : Type 0 where
  pub counts : (core : ℕ) → noted_count notes core ≤ noted_count later core
  pub same : Extends notes (known_at later)

abbrev pub BeginLaw : Type 0
BeginLaw = (notes : Notes) (cores : ℕ) (ready : List Bool) →
    IsRegulation notes (replicate (pair_count cores) [])
    (record { cores = cores; vectors = replicate (pair_count cores) []; ready = ready })

abbrev pub LaterLaw : Type 0
LaterLaw = (notes later : Notes) (edges : List (List (ℕ × ℕ))) (s : Regulation) → Grows notes later →
    IsRegulation notes edges s → IsRegulation later edges s

-- Noting the next retirement is such a step.
abbrev pub NotedLaw : Type 0
NotedLaw = (old new : Notes) (at : Instr) (known : Known) → at.count ≡ noted_count old at.core + 1 →
    IsNoted old at known new → Grows old new

-- An edge whose target is above those of its pair's edges can be told next.
abbrev pub NextLaw : Type 0
NextLaw = (notes : Notes) (edges : List (List (ℕ × ℕ))) (s : Regulation) (e : Edge) → IsRegulation notes edges s →
    IsPair s.cores e.from.core e.to.core → 1 ≤ e.from.count → 1 ≤ e.to.count →
    AllByRecursion (λ d. d.1 < e.to.count) (slice_index_or edges (pair_place s.cores e.from.core e.to.core) []) →
    e.to.count ≤ noted_count notes e.to.core → IsNextEdge notes s e

-- At the end the vectors are the regulated ones of all edges told.
abbrev pub EndLaw : Type 0
EndLaw = (notes : Notes) (edges : List (List (ℕ × ℕ))) (s : Regulation) → IsRegulation notes edges s →
    s.vectors ≡ regulated s.cores (known_at notes) edges

-- The vectors depend on what is known of each pair's source, up to the edges' targets, alone.
abbrev pub UpToLaw : Type 0
UpToLaw = (cores : ℕ) (known others : Knowledge) (edges : List (List (ℕ × ℕ))) (most : ℕ → ℕ) →
    ((core count of : ℕ) → IsPair cores of core → count ≤ most core → known core count of ≡ others core count of) →
    ((place : ℕ) → place < pair_count cores →
    AllByRecursion (λ e. e.1 ≤ most (target_at cores place)) (slice_index_or edges place [])) →
    regulated cores known edges ≡ regulated cores others edges
