-- Rule: the way between two cuts: way_of
-- The way between two cuts along a timeline: what the higher one has beyond the lower, in the timeline's order. Cuts
-- are functions here, a count for each core.
use Rattle.std.specs.Prelude.{◌≡◌, ℕ, ◌≤◌, Bool, true, false, ◌&&◌, nat_lt, nat_le, List, [], ◌∷◌, max, min}
use Rattle.std.specs.Prelude.{slice_index, take}
use Rattle.std.specs.List.{Contains}
use Rattle.rtr_types.specs.declared.instr.Edge.{Edge}
use Rattle.replay_core.specs.Plans.{Plan}
use Rattle.replay_core.specs.Orders.{bump, counts, nought, Ordered, IsReplayOrder}

-- the core in front, or not
abbrev pub with_place : Bool → ℕ → List ℕ → List ℕ
with_place true c rest = c ∷ rest
with_place false c rest = rest

-- the places of the timeline, which has come to `at`, whose instructions are in the higher cut and not in the lower
abbrev pub way_from : (low high at : ℕ → ℕ) → List ℕ → List ℕ
way_from low high at [] = []
way_from low high at (c ∷ cs) =
    with_place (nat_le (low c) (at c) && nat_lt (at c) (high c)) c (way_from low high (bump at c) cs)

abbrev pub way_of : (low high : ℕ → ℕ) → (timeline : List ℕ) → List ℕ
way_of low high timeline = way_from low high nought timeline

-- a count of the timeline, but no lower than the one cut's and no higher than the other's
abbrev pub between : (low high at : ℕ) → ℕ
between low high at = min high (max low at)

-- the place with this number, counted from 0, is on the way
abbrev pub is_on_way : (low high : ℕ → ℕ) → (timeline : List ℕ) → (number : ℕ) → Bool
is_on_way low high timeline number =
    nat_le (low (slice_index timeline number)) (counts nought (take number timeline) (slice_index timeline number))
    && nat_lt (counts nought (take number timeline) (slice_index timeline number)) (high (slice_index timeline number))

-- the way as far as that place
abbrev pub way_before : (low high : ℕ → ℕ) → (timeline : List ℕ) → (number : ℕ) → List ℕ
way_before low high timeline number = way_of low high (take number timeline)

-- each logged source of an instruction within the counts is within them
abbrev pub ClosedUnder : List Edge → (ℕ → ℕ) → Type 0
ClosedUnder edges f = (e : Edge) → Contains edges e → e.to.count ≤ f e.to.core → e.from.count ≤ f e.from.core

-- the one cut is within the other
abbrev pub Within : (ℕ → ℕ) → (ℕ → ℕ) → Type 0
Within low high = (i : ℕ) → low i ≤ high i

-- the list leads from the one cut to the other
abbrev pub LeadsTo : (low high : ℕ → ℕ) → List ℕ → Type 0
LeadsTo low high list = (i : ℕ) → counts low list i ≡ high i

-- ---- laws

-- along the way each place's core is ready, from the lower cut on
abbrev pub WayOrderedLaw : Type 0
WayOrderedLaw = (p : Plan) (low high : ℕ → ℕ) (timeline : List ℕ) → IsReplayOrder p timeline →
    ClosedUnder p.edges high →
    Within low high → Ordered p low (way_of low high timeline)

-- and where the timeline comes at least to the higher cut, the way comes to it
abbrev pub WayCountsLaw : Type 0
WayCountsLaw = (low high : ℕ → ℕ) (timeline : List ℕ) → Within low high → Within high (counts nought timeline) →
    LeadsTo low high (way_of low high timeline)
