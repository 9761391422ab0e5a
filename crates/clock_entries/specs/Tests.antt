-- Good, exact and needed as tests, of entries that have nothing beyond so many places.
use Rattle.std.specs.Prelude.{◌≡◌, ℕ, zero, suc, ◌<◌, ◌≤◌, ◌↔◌, List, [], ◌∷◌, Bool, true, ◌&&◌, ◌||◌, not, max}
use Rattle.std.specs.Prelude.{nat_eq, nat_le, nat_lt, IsTrue, if◌then◌else◌}
use Rattle.std.specs.List.{list_all}
use Rattle.rtr_types.specs.declared.instr.Instr.{Instr}
use Rattle.rtr_types.specs.declared.instr.Edge.{Edge}
use Rattle.clock_core.specs.Order.{Among, previous}
use Rattle.clock_core.specs.Reach.{IsClock}
use Rattle.clock_entries.specs.Ends.{IsEnd, is_same}
use Rattle.clock_entries.specs.Entries.{Entry, IsLastEntry, AreGood, AreExact, IsNeeded}
use Rattle.clock_entries.specs.Laws.{IsAcyclic, IsLog}

-- the test holds of each edge's source and target
abbrev pub each_end : (Instr → Bool) → List Edge → Bool
each_end test edges = list_all (λ e. test e.from && test e.to) edges

-- the test holds of each place below n
abbrev pub each_place : (ℕ → Bool) → ℕ → Bool
each_place test zero = true
each_place test (suc n) = test n && each_place test n

-- no place has more there than here
abbrev pub is_below : ℕ → (ℕ → ℕ) → (ℕ → ℕ) → Bool
is_below cores there here = each_place (λ i. nat_le (there i) (here i)) cores

-- but for one place
abbrev pub is_below_but : ℕ → ℕ → (ℕ → ℕ) → (ℕ → ℕ) → Bool
is_below_but cores core there here = each_place (λ i. nat_eq i core || nat_le (there i) (here i)) cores

-- the entry of no logged source of x has more than that of x
abbrev pub are_sources_below : ℕ → List Edge → Entry → Instr → Bool
are_sources_below cores edges entry x =
    list_all (λ e. not (is_same e.to x) || is_below cores (entry e.from) (entry x)) edges

abbrev pub is_good_at : ℕ → List Edge → Entry → Instr → Bool
is_good_at cores edges entry x =
    nat_eq (entry x x.core) x.count
    && (is_below_but cores x.core (entry (previous x)) (entry x) && are_sources_below cores edges entry x)

abbrev pub are_good : ℕ → List Edge → Entry → Bool
are_good cores edges entry = each_end (is_good_at cores edges entry) edges

-- the greatest count at place i of the entries of x's logged sources
abbrev pub most_of_sources : List Edge → Entry → Instr → ℕ → ℕ
most_of_sources [] entry x i = 0
most_of_sources (e ∷ edges) entry x i =
    max (if is_same e.to x then entry e.from i else 0) (most_of_sources edges entry x i)

-- the greatest of these and of the entry before x on its core
abbrev pub most_before : List Edge → Entry → Instr → ℕ → ℕ
most_before edges entry x i = max (entry (previous x) i) (most_of_sources edges entry x i)

-- the entry has its own count at its own place, and at each other place no more than it must have
abbrev pub is_exact_at : ℕ → List Edge → Entry → Instr → Bool
is_exact_at cores edges entry x =
    nat_eq (entry x x.core) x.count
    && each_place (λ i. nat_eq i x.core || nat_eq (entry x i) (most_before edges entry x i)) cores

abbrev pub are_exact : ℕ → List Edge → Entry → Bool
are_exact cores edges entry = each_end (is_exact_at cores edges entry) edges

-- the entry of no other logged source of y than x knows x
abbrev pub is_unknown_by_others : List Edge → Entry → Instr → Instr → Bool
is_unknown_by_others edges entry x y =
    list_all (λ e. not (is_same e.to y) || (is_same e.from x || nat_lt (entry e.from x.core) x.count)) edges

abbrev pub is_needed : List Edge → Entry → Instr → Instr → Bool
is_needed edges entry x y = nat_lt (entry (previous y) x.core) x.count && is_unknown_by_others edges entry x y

-- ---- what they test

-- nothing stands beyond so many places
abbrev pub HasPlaces : ℕ → Entry → Type 0
HasPlaces cores entry = (x : Instr) (i : ℕ) → cores ≤ i → entry x i ≡ 0

abbrev pub GoodTest : Type 0
GoodTest = (cores : ℕ) (edges : List Edge) (entry : Entry) → HasPlaces cores entry →
    IsTrue (are_good cores edges entry) ↔ AreGood edges entry

abbrev pub NeededTest : Type 0
NeededTest = (edges : List Edge) (entry : Entry) (x y : Instr) →
    IsTrue (is_needed edges entry x y) ↔ IsNeeded edges entry x y

-- exact entries of a log that doesn't go round pass
abbrev pub ExactPassesLaw : Type 0
ExactPassesLaw = (cores : ℕ) (edges : List Edge) (entry : Entry) → IsLog edges → IsAcyclic edges →
    IsLastEntry edges entry → HasPlaces cores entry → AreExact edges entry → IsTrue (are_exact cores edges entry)

-- an entry that passes is exact, where those before it on its core and those of its logged sources are
abbrev pub NextExactLaw : Type 0
NextExactLaw = (cores : ℕ) (edges : List Edge) (entry : Entry) (y : Instr) → IsLog edges → IsAcyclic edges →
    IsLastEntry edges entry → HasPlaces cores entry → 1 ≤ y.count → IsTrue (is_exact_at cores edges entry y) →
    ((x : Instr) → IsEnd edges x → x.core ≡ y.core → x.count < y.count → IsClock (Among edges) x (entry x)) →
    ((z : Instr) → Among edges z y → IsClock (Among edges) z (entry z)) → IsClock (Among edges) y (entry y)
