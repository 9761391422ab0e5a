-- Both counts of a pair's edges rise.
use Rattle.std.proofs.Common.{◌≡◌, ℕ, ◌<◌, ◌≤◌, ◌⊎◌, List, [], ◌∷◌, ◌++◌, reverse, refl, sym, subst}
use Rattle.std.proofs.Common.{inl, inr, arith}
use Rattle.std.proofs.lemmas.Bool.{cases_order}
use Rattle.std.specs.List.{AllByRecursion}
use Rattle.rtr_types.specs.declared.instr.Instr.{Instr}
use Rattle.rtr_types.specs.declared.instr.Edge.{Edge}
use Rattle.rtr_types.specs.declared.access.Access.{Access}
use Rattle.clock_core.specs.Order.{Before, Among}
use Rattle.clock_core.proofs.Paths.{joined, one}
use Rattle.conflict_edge.specs.Conflicts.{ConflictPair, CountsRise, StandsIn}
use Rattle.conflict_edge.specs.Least.{Covering}
use Rattle.conflict_edge.proofs.History.{ends}
use Rattle.conflict_edge.proofs.NewestFirst.{pair_forth, stands_back}
use Rattle.rtr_types.specs.PairEdges.{EdgeStands, AreEdgesAfter}
use Rattle.rtr_types.proofs.Instrs.{instr_eq}
use Rattle.conflict_edge.proofs.AccessPlaces.{positive, stands_left}

-- ---- lists of counts

stands_wider : (most wider last e : ℕ × ℕ) → most.0 ≤ wider.0 → most.1 ≤ wider.1 → EdgeStands most last e
    → EdgeStands wider last e
stands_wider most wider last e p q stands = let source = stands.source_most in let target = stands.target_most in
    record { rises = stands.rises; source_most = omega arith; target_most = omega arith }

pub rise_wider : (most wider last : ℕ × ℕ) (edges : List (ℕ × ℕ)) → most.0 ≤ wider.0 → most.1 ≤ wider.1
    → AreEdgesAfter most last edges →
    AreEdgesAfter wider last edges
rise_wider most wider last [] p q rise = tt
rise_wider most wider last (e ∷ edges) p q rise =
    (stands_wider most wider last e p q rise.0, rise_wider most wider e edges p q rise.1)

-- an edge whose source count is above all others, and whose target count is above what was the most
pub rise_push : (most wider last new : ℕ × ℕ) (edges : List (ℕ × ℕ)) → most.0 ≤ wider.0 → most.1 ≤ wider.1
    → AreEdgesAfter most last edges →
    last.0 < new.0 → last.1 < new.1 → AllByRecursion (λ (e : ℕ × ℕ). e.0 < new.0) edges → most.1 < new.1
    → new.0 ≤ wider.0 → new.1 ≤ wider.1 →
    AreEdgesAfter wider last (edges ++ new ∷ [])
rise_push most wider last new [] p q rise above_source above_target below past source_le target_le = (
  record {
    rises = record { source = above_source; target = above_target };
    source_most = source_le;
    target_most
        = target_le;
  },
  tt,
)
rise_push most wider last new (e ∷ edges) p q rise above_source above_target below past source_le target_le = (
  stands_wider most wider last e p q rise.0,
  rise_push most wider e new edges p q rise.1 below.0 (let le = rise.0.target_most in omega arith) below.1 past
      source_le target_le,
)

-- ---- edges among lists

pub all_among : (P : Instr → Instr → Type 0) (edges : List Edge) → ((x y : Instr) → Among edges x y → P x y) →
    AllByRecursion (λ (e : Edge). P e.from e.to) edges
all_among P [] f = tt
all_among P (e ∷ edges) f = (f e.from e.to (inl (refl, refl)), all_among P edges (λ x y s. f x y (inr s)))

-- ---- the ends of conflict pairs

pub conflict_left : (list more : List Access) (x y : Instr) → ConflictPair list x y → ConflictPair (list ++ more) x y
conflict_left [] more x y p = absurd p
conflict_left (a ∷ list) more x y (inl p) = inl (p.0, p.1, stands_left list more p.1 p.2, p.3, p.4)
conflict_left (a ∷ list) more x y (inr p) = inr (conflict_left list more x y p)

-- an access of the list
pub record AtAccess (list : List Access) (x : Instr) : Type 0 where
  pub access : Access
  pub stands : StandsIn list access
  pub at_is : access.at ≡ x

pub pair_source : (list : List Access) (x y : Instr) → ConflictPair list x y → AtAccess list x
pair_source list x y p = let e = ends (reverse list) x y (pair_forth list x y p) in
    record { access = e.first; stands = stands_back list e.first e.first_stands; at_is = e.first_at }

pub pair_target : (list : List Access) (x y : Instr) → ConflictPair list x y → AtAccess list y
pair_target list x y p = let e = ends (reverse list) x y (pair_forth list x y p) in
    record { access = e.second; stands = stands_back list e.second e.second_stands; at_is = e.second_at }

pub at_pos : (list : List Access) (x : Instr) → CountsRise list → AtAccess list x → 1 ≤ x.count
at_pos list x rise a = subst (λ (v : Instr). 1 ≤ v.count) a.at_is (positive list a.access rise a.stands)

-- ---- covering pairs between the same two cores don't cross

-- a covering pair into a comes from above the source of each earlier pair between the two cores
pub source_above : (list : List Access) (a : Access) (x u v : Instr) → ConflictPair list u v → v.core ≡ a.at.core
    → v.count < a.at.count → u.core ≡ x.core →
    Covering (list ++ (a ∷ [])) x a.at → u.count < x.count
source_above list a x u v pair core later same cover = by (cases_order x.count u.count)
  where
    step : Before (ConflictPair (list ++ (a ∷ []))) u v
    step = one (ConflictPair (list ++ (a ∷ []))) u v (inr (conflict_left list (a ∷ []) u v pair))

    last : Before (ConflictPair (list ++ (a ∷ []))) v a.at
    last = one (ConflictPair (list ++ (a ∷ []))) v a.at (inl (core, later))

    by : (x.count ≡ u.count) ⊎ ((x.count < u.count) ⊎ (u.count < x.count)) → u.count < x.count
    by (inl e) = absurd
        (cover.1 v (subst (λ (w : Instr). Before (ConflictPair (list ++ (a ∷ []))) w v) (instr_eq u x same (sym e))
        step) last)
    by (inr (inl lt)) = absurd
        (cover.1 v
        (joined (ConflictPair (list ++ (a ∷ []))) x u v
        (one (ConflictPair (list ++ (a ∷ []))) x u (inl (sym same, lt))) step) last)
    by (inr (inr lt)) = lt
