-- Clocks by a log, which are kept only of instructions to which an edge leads.
use Rattle.std.specs.Prelude.{◌≡◌, ℕ, zero, suc, ◌-◌, ◌<◌, ◌≤◌, ◌⊎◌, List, [], ◌∷◌, ◌++◌, length, nat_le, slice_index}
use Rattle.std.specs.Prelude.{slice_index_or, slice_set, if◌then◌else◌, Option, Some, None}
use Rattle.rtr_types.specs.declared.TheConstants.{CORES_MAX}
use Rattle.rtr_types.specs.declared.instr.Instr.{Instr}
use Rattle.rtr_types.specs.declared.instr.Edge.{Edge}
use Rattle.clock_core.specs.Counts.{no_counts}
use Rattle.clock_core.specs.Order.{Among, previous}
use Rattle.clock_core.specs.Reach.{IsClock, merged_over, with_own}
use Rattle.replay_core.specs.Play.{instr}
use Rattle.replay_core.specs.Sources.{listed}
use Rattle.clock_entries.specs.Laws.{IsAcyclic}

-- for each core its clocks that are kept
pub record Kept : Type 0 where
  pub clocks : List (List (List ℕ))

abbrev pub clocks_of : Kept → ℕ → List (List ℕ)
clocks_of k c = slice_index_or k.clocks c []

-- how many clocks of core c, from the first on, are of an instruction with at most the count n
abbrev pub number_to : List (List ℕ) → (c n : ℕ) → ℕ
number_to [] c n = 0
number_to (clock ∷ clocks) c n = if nat_le (slice_index clock c) n then suc (number_to clocks c n) else 0

-- how many clocks of core c are kept up to its n-th instruction
abbrev pub number_of : Kept → (c n : ℕ) → ℕ
number_of k c n = number_to (clocks_of k c) c n

-- the clock of core c with this number, counted from 1; number 0 is the clock that knows of nothing
abbrev pub numbered : Kept → (c number : ℕ) → List ℕ
numbered k c zero = no_counts
numbered k c (suc n) = slice_index_or (clocks_of k c) n no_counts

-- the clock of y: the last one that is kept of its core up to it, with its own count
abbrev pub clock_at : Kept → Instr → ℕ → ℕ
clock_at k y = with_own y (λ i. slice_index (numbered k y.core (number_of k y.core y.count)) i)

-- the last clock of core c that is kept, or the one that knows of nothing
abbrev pub last_of : Kept → (c : ℕ) → List ℕ
last_of k c = slice_index_or (clocks_of k c) (length (clocks_of k c) - 1) no_counts

-- so many clocks of y's core are kept up to it, or all of them
abbrev pub IsNumber : Kept → Instr → Option ℕ → Type 0
IsNumber k y None = number_of k y.core y.count ≡ length (clocks_of k y.core)
IsNumber k y (Some n) = n ≡ number_of k y.core y.count

-- the clock of y by that of the instruction before it on its core and those of its sources
abbrev pub next_at : Kept → Instr → (sources : List ℕ) → (cores : ℕ) → ℕ → ℕ
next_at k y sources cores = with_own y (merged_over (clock_at k (previous y)) (clock_at k) (listed sources cores))

-- y's clock is kept where it has sources: these are the clocks afterwards
abbrev pub IsKept : Kept → Instr → (sources : List ℕ) → (cores : ℕ) → List (List (List ℕ)) → Type 0
IsKept k y sources cores clocks =
    ((listed sources cores ≡ []) × (clocks ≡ k.clocks))
    ⊎ ((clock : List ℕ)
    × ((i : ℕ) → slice_index clock i ≡ next_at k y sources cores i)
    × (clocks ≡ slice_set k.clocks y.core (clocks_of k y.core ++ clock ∷ [])))

-- y can be noted: it has a count, there is a list for its core, and what is kept of its core is of instructions before
pub record CanNote (k : Kept) (y : Instr) : Type 0 where
  pub core : y.core < CORES_MAX
  pub clocks : y.core < length k.clocks
  pub some : 1 ≤ y.count
  pub last : number_of k y.core (y.count - 1) ≡ length (clocks_of k y.core)

-- y is noted: its clock is kept where it has sources
pub record IsNoted (k : Kept) (y : Instr) (sources : List ℕ) (cores : ℕ) (new : Kept) : Type 0 where
  pub kept : IsKept k y sources cores new.clocks

-- the first instructions of each core are noted, as many as the counts say, and where the log doesn't go round their
-- clocks are exact
pub record Clocked (edges : List Edge) (cores : ℕ) (f : ℕ → ℕ) (k : Kept) : Type 0 where
  pub all_clocks : length k.clocks ≡ cores
  pub none : (c : ℕ) → number_of k c 0 ≡ 0
  pub last : (c : ℕ) → c < cores → number_of k c (f c) ≡ length (clocks_of k c)
  pub exact : IsAcyclic edges → (c n : ℕ) → c < cores → 1 ≤ n → n ≤ f c →
      IsClock (Among edges) (instr c n) (clock_at k (instr c n))

-- ---- what is looked for among the clocks of a core

-- the clocks of core c stand by rising counts of their instructions
abbrev pub AreRising : (c : ℕ) → List (List ℕ) → Type 0
AreRising c clocks = (i j : ℕ) → i < j → j < length clocks →
    slice_index (slice_index_or clocks i no_counts) c < slice_index (slice_index_or clocks j no_counts) c

-- the first m of them are of instructions with at most the count n
pub record AreWithin (clocks : List (List ℕ)) (c n m : ℕ) : Type 0 where
  pub within : m ≤ length clocks
  pub each : (i : ℕ) → i < m → slice_index (slice_index_or clocks i no_counts) c ≤ n

-- each core's clocks rise, and each has its guesses
pub record AreKept (nothing : List ℕ) (clocks : List (List (List ℕ))) (guesses : List (List ℕ)) : Type 0 where
  pub nothing_is : nothing ≡ no_counts
  pub rising : (c : ℕ) → AreRising c (slice_index_or clocks c [])
  pub guessed : length guesses ≡ length clocks
