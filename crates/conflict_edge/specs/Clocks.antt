-- The clock of an instruction over a list of accesses, and the rule by which one pass over the list finds its least
-- set.
--
-- Lists named `earlier` have the newest access first, as `reverse list` of a list in order.
use Rattle.std.specs.Prelude.{◌≡◌, ◌≢◌, ℕ, ◌<◌, ◌≤◌, ◌⊎◌, ◌↔◌, List, [], ◌∷◌, ◌++◌, reverse, Bool, nat_eq, nat_le, ◌&&◌}
use Rattle.std.specs.Prelude.{if◌then◌else◌, max, Option, Some, None, IsTrue}
use Rattle.rtr_types.specs.Accesses.{is_write}
use Rattle.rtr_types.specs.declared.instr.Instr.{Instr}
use Rattle.rtr_types.specs.declared.instr.Edge.{Edge}
use Rattle.rtr_types.specs.declared.access.Access.{Access}
use Rattle.clock_core.specs.Order.{Before, Among, previous}
use Rattle.clock_core.specs.Reach.{IsClock}
use Rattle.conflict_edge.specs.Conflicts.{do_conflict, ConflictPair, CountsRise}
use Rattle.conflict_edge.specs.Least.{Covering, Suffices}

-- whether y is the access's instruction, or a later one of its core
abbrev pub reaches : Access → Instr → Bool
reaches a y = nat_eq a.at.core y.core && nat_le a.at.count y.count

-- the greatest value of f at an access that conflicts with a
unfoldable pub greatest : (Access → ℕ) → Access → List Access → ℕ
greatest f a [] = 0
greatest f a (b ∷ earlier) = if do_conflict b a then max (f b) (greatest f a earlier) else greatest f a earlier

-- the clock of y at place i: y's own count at its core's place, merged with the clocks of all accesses that conflict
-- with a later one at or before y
unfoldable pub clock : List Access → Instr → ℕ → ℕ
clock [] y i = if nat_eq y.core i then y.count else 0
clock (a ∷ earlier) y i =
    if reaches a y then max (clock earlier y i) (greatest (λ b. clock earlier b.at i) a earlier) else clock earlier y i

-- the newest write of the word
unfoldable pub last_write : List Access → ℕ → Option Access
last_write [] word = None
last_write (b ∷ earlier) word = if nat_eq b.word word && is_write b.kind then Some b else last_write earlier word

-- the core's newest access to the word since that write, which only reads
unfoldable pub last_read : List Access → ℕ → ℕ → Option Access
last_read [] word core = None
last_read (b ∷ earlier) word core =
    if nat_eq b.word word
    then (if is_write b.kind then None else (if nat_eq b.at.core core then Some b else last_read earlier word core))
    else last_read earlier word core

-- an edge from z into a may be needed: z is the last write of a's word or, where a writes, a core's last read of it
-- since, and of another core than a
abbrev pub Candidate : List Access → Access → Instr → Type 0
Candidate earlier a z = (b : Access)
    × ((last_write earlier a.word ≡ Some b)
    ⊎ (IsTrue (is_write a.kind) × (last_read earlier a.word b.at.core ≡ Some b)))
    × (b.at.core ≢ a.at.core) × (b.at ≡ z)

-- the candidate becomes an edge: neither the clock of the instruction before a nor that of another candidate has it
pub record IsKept (earlier : List Access) (a : Access) (x : Instr) : Type 0 where
  pub candidate : Candidate earlier a x
  pub own : clock earlier (previous a.at) x.core < x.count
  pub others : (z : Instr) → Candidate earlier a z → z ≢ x → clock earlier z x.core < x.count

-- The clock is reachability.
abbrev pub ClockLaw : Type 0
ClockLaw = (list : List Access) (y : Instr) → CountsRise list → IsClock (ConflictPair list) y (clock (reverse list) y)

-- An access leaves the clocks of the instructions before it as they were.
abbrev pub KeptClockLaw : Type 0
KeptClockLaw = (list : List Access) (a : Access) (y : Instr) (i : ℕ) → CountsRise (list ++ (a ∷ [])) →
    (y.core ≡ a.at.core → y.count < a.at.count) → clock (reverse (list ++ (a ∷ []))) y i ≡ clock (reverse list) y i

-- The rule keeps exactly the covering pairs into the access that comes next.
abbrev pub OnlineLaw : Type 0
OnlineLaw = (list : List Access) (a : Access) (x : Instr) → CountsRise (list ++ (a ∷ [])) →
    IsKept (reverse list) a x ↔ Covering (list ++ (a ∷ [])) x a.at

-- n is no more than the count at place i of the clock before a on its core, or of the clock of some candidate
abbrev pub IsBelowMerged : List Access → Access → ℕ → ℕ → Type 0
IsBelowMerged earlier a i n =
    (n ≤ clock earlier (previous a.at) i) ⊎ ((z : Instr) × Candidate earlier a z × (n ≤ clock earlier z i))

-- the clock of an access that comes next has its own count at its own place, and at each other place the greatest
-- count of the clock before it on its core and the clocks of its candidates
pub record IsMergedClock (list : List Access) (a : Access) : Type 0 where
  pub own : clock (reverse (list ++ (a ∷ []))) a.at a.at.core ≡ a.at.count
  pub others : (i n : ℕ) → i ≢ a.at.core → 1 ≤ n →
      (n ≤ clock (reverse (list ++ (a ∷ []))) a.at i) ↔ IsBelowMerged (reverse list) a i n

-- Merging the candidates' clocks makes the exact clock of the access that comes next.
abbrev pub OnlineClockLaw : Type 0
OnlineClockLaw = (list : List Access) (a : Access) → CountsRise (list ++ (a ∷ [])) → IsMergedClock list a

-- Edges that suffice for a list, and by which each candidate is before the access that comes next, suffice for the
-- longer list.
abbrev pub CandidatesLaw : Type 0
CandidatesLaw = (list : List Access) (a : Access) (edges : List Edge) → CountsRise (list ++ (a ∷ [])) →
    Suffices list (Among edges) → ((z : Instr) → Candidate (reverse list) a z → Before (Among edges) z a.at) →
    Suffices (list ++ (a ∷ [])) (Among edges)
