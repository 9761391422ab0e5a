-- The test of covering pairs is right.
use Rattle.std.proofs.Common.{◌≡◌, ◌≢◌, ◌∙◌, refl, sym, ap, subst, ◌≤◌, ◌&&◌, ◌||◌, ◌⊎◌, inl, inr, Bool, true, false}
use Rattle.std.proofs.Common.{not, List, [], ◌∷◌}
use Rattle.std.proofs.Common.{reverse, arith}
use Rattle.std.proofs.lemmas.Bool.{and_parts, and_from, leb-true, le-leb}
use Rattle.std.specs.List.{list_any}
use Rattle.std.proofs.lemmas.Bool.Decides.{nat_tests}
use Rattle.rtr_types.specs.declared.access.Access.{Access}
use Rattle.rtr_types.specs.declared.instr.Instr.{Instr}
use Rattle.clock_core.proofs.Paths.{joined, last_at, more, one, same_instr}
use Rattle.clock_core.specs.Order.{Before, IsOrLeads, Step}
use Rattle.conflict_edge.proofs.History.{Pair, do_conflict-true, do_conflict-yes, ends}
use Rattle.conflict_edge.proofs.Reach.{clock_law}
use Rattle.conflict_edge.proofs.NewestFirst.{pair_back, pair_forth, rising_back, stands_back}
use Rattle.conflict_edge.proofs.Scan.{arrives}
use Rattle.conflict_edge.proofs.TwoForms.{acyclic}
use Rattle.conflict_edge.specs.Clocks.{clock}
use Rattle.conflict_edge.specs.Conflicts.{ConflictPair, Conflicts, CountsRise, StandsIn, do_conflict}
use Rattle.conflict_edge.specs.Least.{Covering}
use Rattle.conflict_edge.proofs.AccessPlaces.{one_first, one_access, positive}
use Rattle.online_reduce.proofs.PairCounts.{AtAccess, pair_source}
use Rattle.rtr_types.specs.Accesses.{is_same}
use Rattle.least_lists.specs.LeastLists.{is_covering, is_or_leads, stands_between}

-- ---- accesses of a list

-- ---- the tests

is_same_itself : (x y : Instr) → x ≡ y → not (is_same x y) ≡ true → ⊥
is_same_itself x y e t = let core : x.core ≡ y.core = ap (λ (i : Instr). i.core) e in let count : x.count ≡ y.count =
    ap (λ (i : Instr). i.count) e in
    grind (arith, nat_tests)

other_differs : (x y : Instr) → x ≢ y → not (is_same x y) ≡ true
other_differs x y d = by (is_same x y) (same_instr x y)
  where
    by : (b : Bool) → (b ≡ true → x ≡ y) → not b ≡ true
    by true f = absurd (d (f refl))
    by false f = refl

test_leads : (list : List Access) (x y : Instr) → CountsRise list → 1 ≤ x.count → is_or_leads list x y ≡ true →
    IsOrLeads (ConflictPair list) x y
test_leads list x y rise pos e = (clock_law list y rise x pos).0 (leb-true x.count (clock (reverse list) y x.core) e)

leads_test : (list : List Access) (x y : Instr) → CountsRise list → 1 ≤ x.count → IsOrLeads (ConflictPair list) x y →
    is_or_leads list x y ≡ true
leads_test list x y rise pos leads = le-leb x.count (clock (reverse list) y x.core) ((clock_law list y rise x pos).1
    leads)

-- ---- what stands between

-- an access that stands strictly between two instructions
record Between (list : List Access) (x y : Instr) : Type 0 where
  access : Access
  stands : StandsIn list access
  after : Before (ConflictPair list) x access.at
  before : Before (ConflictPair list) access.at y

-- where an instruction stands between two cores' instructions, so does an access
between : (list : List Access) (x z y : Instr) → CountsRise list → x.core ≢ y.core → Before (ConflictPair list) x z →
    Before (ConflictPair list) z y →
    Between list x y
between list x z y rise differ p q = let l = last_at E q.0 z y q.1 in by l.0 (up l.0 l.1) l.2
  where
    E : Instr → Instr → Type 0
    E = ConflictPair list

    up : (w : Instr) → (z ≡ w) ⊎ Before (ConflictPair list) z w → Before (ConflictPair list) x w
    up w (inl e) = subst (λ (v : Instr). Before (ConflictPair list) x v) e p
    up w (inr r) = joined (ConflictPair list) x z w p r

    by : (w : Instr) → Before (ConflictPair list) x w → Step (ConflictPair list) w y → Between list x y
    by w r (inl s) =
        let a = arrives (reverse list) (rising_back list rise) x w (more (ConflictPair list) (Pair (reverse list))
        (pair_forth list) x w r)
        (λ (same : x.core ≡ w.core). differ (same ∙ s.0)) in
        let le = a.count_le in
        let lt = s.1 in
        record {
          access = a.there;
          stands = stands_back list a.there a.stands;
          after = more (Pair (reverse list)) (ConflictPair list) (pair_back list) x a.there.at a.before;
          before = one (ConflictPair list) a.there.at y (inl (a.core_is ∙ s.0, omega arith));
        }
    by w r (inr s) =
        let a : AtAccess list w = pair_source list w y s in
        record {
          access = a.access;
          stands = a.stands;
          after = subst (λ (v : Instr). Before (ConflictPair list) x v) (sym a.at_is) r;
          before = one (ConflictPair list) a.access.at y (inr (subst (λ (v : Instr). ConflictPair list v y)
              (sym a.at_is) s));
        }

-- one of a list passes a test
passes : (p : Access → Bool) (list : List Access) (a : Access) → StandsIn list a → p a ≡ true → list_any p list ≡ true
passes p [] a s e = absurd s
passes p (b ∷ later) a (inl f) e = rw (ap p f ∙ e) refl
passes p (b ∷ later) a (inr s) e = by (p b) (passes p later a s e)
  where
    by : (t : Bool) → list_any p later ≡ true → (t || list_any p later) ≡ true
    by true r = refl
    by false r = r

passed : (p : Access → Bool) (list : List Access) → ((a : Access) → StandsIn list a → p a ≡ true → ⊥) →
    list_any p list ≡ false
passed p [] none = refl
passed p (b ∷ later) none = by (p b) (none b (inl refl)) (passed p later (λ a s. none a (inr s)))
  where
    by : (t : Bool) → (t ≡ true → ⊥) → list_any p later ≡ false → (t || list_any p later) ≡ false
    by true fails r = absurd (fails refl)
    by false fails r = r

-- ---- the test of a pair

pub covering_is : (list : List Access) (x y : Access) → CountsRise list → StandsIn list x → StandsIn list y →
    is_covering list x y ≡ true →
    Covering list x.at y.at
covering_is list x y rise sx sy e = (pair, free)
  where
    E : Instr → Instr → Type 0
    E = ConflictPair list

    parts : ((do_conflict x y && is_or_leads list x.at y.at) ≡ true) × (not (list_any (stands_between list x y)
        list) ≡ true)
    parts = and_parts (do_conflict x y && is_or_leads list x.at y.at) (not (list_any (stands_between list x y) list)) e

    tests : (do_conflict x y ≡ true) × (is_or_leads list x.at y.at ≡ true)
    tests = and_parts (do_conflict x y) (is_or_leads list x.at y.at) parts.0

    conflict : Conflicts x y
    conflict = do_conflict-true x y tests.0

    order : IsOrLeads (ConflictPair list) x.at y.at → Before (ConflictPair list) x.at y.at
    order (inl same) = absurd (conflict.0 (ap (λ (i : Instr). i.core) same))
    order (inr p) = p

    leads : Before (ConflictPair list) x.at y.at
    leads = order (test_leads list x.at y.at rise (positive list x rise sx) tests.1)

    pair : ConflictPair list x.at y.at
    pair = by (one_first list x y sx sy conflict)
      where
        by : ConflictPair list x.at y.at ⊎ ConflictPair list y.at x.at → ConflictPair list x.at y.at
        by (inl p) = p
        by (inr p) = absurd (acyclic list rise x.at (joined (ConflictPair list) x.at y.at x.at leads
            (one (ConflictPair list) y.at x.at (inr p))))

    none : list_any (stands_between list x y) list ≡ true → ⊥
    none t = let wrong : true ≡ false = sym parts.1 ∙ ap not t in absurd cc

    apart : (u v : Instr) → Before (ConflictPair list) u v → not (is_same u v) ≡ true
    apart u v p = other_differs u v (λ (same : u ≡ v). acyclic list rise v
        (subst (λ (w : Instr). Before (ConflictPair list) w v) same p))

    apart_back : (u v : Instr) → Before (ConflictPair list) u v → not (is_same v u) ≡ true
    apart_back u v p = other_differs v u (λ (same : v ≡ u). acyclic list rise v
        (subst (λ (w : Instr). Before (ConflictPair list) w v) (sym same) p))

    free : (z : Instr) → Before (ConflictPair list) x.at z → Before (ConflictPair list) z y.at → ⊥
    free z p q =
        let b = between list x.at z y.at rise conflict.0 p q in
        let w : Access = b.access in
        none (passes (stands_between list x y) list w b.stands
        (and_from (not (is_same w.at x.at) && not (is_same w.at y.at)) (is_or_leads list x.at w.at && is_or_leads list
        w.at y.at)
        (and_from (not (is_same w.at x.at)) (not (is_same w.at y.at)) (apart_back x.at w.at b.after)
        (apart w.at y.at b.before))
        (and_from (is_or_leads list x.at w.at) (is_or_leads list w.at y.at)
        (leads_test list x.at w.at rise (positive list x rise sx) (inr b.after))
        (leads_test list w.at y.at rise (positive list w rise b.stands) (inr b.before)))))

pub covering_passes : (list : List Access) (x y : Access) → CountsRise list → StandsIn list x → StandsIn list y →
    Covering list x.at y.at →
    is_covering list x y ≡ true
covering_passes list x y rise sx sy cover =
    and_from (do_conflict x y && is_or_leads list x.at y.at) (not (list_any (stands_between list x y) list))
    (and_from (do_conflict x y) (is_or_leads list x.at y.at) (do_conflict-yes x y conflict)
    (leads_test list x.at y.at rise (positive list x rise sx) (inr (one (ConflictPair list) x.at y.at (inr cover.0)))))
    (ap not (passed (stands_between list x y) list none))
  where
    conflict : Conflicts x y
    conflict =
        let f = ends (reverse list) x.at y.at (pair_forth list x.at y.at cover.0) in
        subst (λ (a : Access). Conflicts a y) (one_access list f.first x rise (stands_back list f.first f.first_stands)
        sx f.first_at)
        (subst (λ (b : Access). Conflicts f.first b) (one_access list f.second y rise
        (stands_back list f.second f.second_stands) sy f.second_at) f.conflict)

    strictly : (u v : Instr) → not (is_same u v) ≡ true → IsOrLeads (ConflictPair list) u v →
        Before (ConflictPair list) u v
    strictly u v t (inl same) = absurd (is_same_itself u v same t)
    strictly u v t (inr p) = p

    strictly_back : (u v : Instr) → not (is_same v u) ≡ true → IsOrLeads (ConflictPair list) u v →
        Before (ConflictPair list) u v
    strictly_back u v t (inl same) = absurd (is_same_itself v u (sym same) t)
    strictly_back u v t (inr p) = p

    none : (z : Access) → StandsIn list z → stands_between list x y z ≡ true → ⊥
    none z sz t =
        let p = and_parts (not (is_same z.at x.at) && not (is_same z.at y.at))
        (is_or_leads list x.at z.at && is_or_leads list z.at y.at) t in
        let d = and_parts (not (is_same z.at x.at)) (not (is_same z.at y.at)) p.0 in
        let r = and_parts (is_or_leads list x.at z.at) (is_or_leads list z.at y.at) p.1 in
        cover.1 z.at
        (strictly_back x.at z.at d.0 (test_leads list x.at z.at rise (positive list x rise sx) r.0))
        (strictly z.at y.at d.1 (test_leads list z.at y.at rise (positive list z rise sz) r.1))
