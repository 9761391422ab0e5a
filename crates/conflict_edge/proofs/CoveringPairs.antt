-- The pairs that the clocks keep are the covering pairs, and they suffice.
use Rattle.std.proofs.Common.{◌≡◌, ◌≢◌, ℕ, zero, suc, ◌+◌, ◌<◌, ◌≤◌, ◌⊎◌, List, [], ◌∷◌, refl, sym, ◌∙◌, ap, subst, inl}
use Rattle.std.proofs.Common.{inr, arith, true, false}
use Rattle.std.proofs.lemmas.Bool.{cases_Bool, cases_lt}
use Rattle.clock_core.proofs.Paths.{joined, one, last_at}
use Rattle.clock_core.specs.Order.{Relation, Within, ProgramOrder, Step, Path, Before, previous}
use Rattle.conflict_edge.proofs.Clocks.{clock-before, clock-up_to, clock-program, UpTo}
use Rattle.conflict_edge.proofs.History.{Source, Pair, Rising, Ends, ends, pair_cores, do_conflict-true}
use Rattle.conflict_edge.proofs.History.{do_conflict-yes}
use Rattle.conflict_edge.proofs.Independent.{cases_instr}
use Rattle.conflict_edge.proofs.Ranks.{rank, goes, no_cycle, rank-before, rank-pair}
use Rattle.conflict_edge.specs.Clocks.{clock}
use Rattle.conflict_edge.specs.Conflicts.{Conflicts, do_conflict, StandsIn}
use Rattle.rtr_types.specs.declared.access.Access.{Access}
use Rattle.rtr_types.specs.declared.instr.Instr.{Instr}

abbrev pub Cover : List Access → Relation
Cover h x y = Pair h x y × ((z : Instr) → Before (Pair h) x z → Before (Pair h) z y → ⊥)

-- the rule on clocks, among all sources of y
pub record Kept (h : List Access) (x y : Instr) : Type 0 where
  pub pair : Pair h x y
  pub own : clock h (previous y) x.core < x.count
  pub others : (z : Instr) → Pair h z y → z ≢ x → clock h z x.core < x.count

-- why a pair isn't kept
abbrev pub Blocked : List Access → Relation
Blocked h x y = (x.count ≤ clock h (previous y) x.core) ⊎ ((z : Instr) × Pair h z y × (z ≢ x) × (x.count ≤ clock h z
    x.core))

-- ---- a decision over the sources of y

decide_source : (P : Instr → Type 0) → ((z : Instr) → P z ⊎ (P z → ⊥)) → (h : List Access) (a : Access) →
    ((z : Instr) × Source h a z × P z)
    ⊎ ((z : Instr) → Source h a z → P z → ⊥)
decide_source P test [] a = inr (λ z s _. s.1)
decide_source P test (b ∷ h) a = pick (cases_Bool (do_conflict b a)) (test b.at) (decide_source P test h a)
  where
    pick : (do_conflict b a ≡ true) ⊎ (do_conflict b a ≡ false) → P b.at ⊎ (P b.at → ⊥) →
        ((z : Instr) × Source h a z × P z)
        ⊎ ((z : Instr) → Source h a z → P z → ⊥) → ((z : Instr) × Source (b ∷ h) a z × P z) ⊎ ((z : Instr) →
        Source (b ∷ h) a z → P z → ⊥)
    pick _ _ (inl r) = inl (r.0, (r.1.0, inr r.1.1, r.1.2, r.1.3), r.2)
    pick (inl e) (inl p) (inr f) = inl (b.at, (b, inl refl, refl, do_conflict-true b a e), p)
    pick (inl e) (inr p) (inr f) = inr (λ z s. by z s.0 s.1 s.2 s.3)
      where
        by : (z : Instr) (d : Access) → (b ≡ d) ⊎ StandsIn h d → d.at ≡ z → Conflicts d a → P z → ⊥
        by z d (inl g) at c q = p (subst P (sym (ap (λ (w : Access). w.at) g ∙ at)) q)
        by z d (inr g) at c q = f z (d, g, at, c) q
    pick (inr e) _ (inr f) = inr (λ z s. by z s.0 s.1 s.2 s.3)
      where
        by : (z : Instr) (d : Access) → (b ≡ d) ⊎ StandsIn h d → d.at ≡ z → Conflicts d a → P z → ⊥
        by z d (inl g) at c q = let t : true ≡ false =
            sym (do_conflict-yes b a (subst (λ (w : Access). Conflicts w a) (sym g) c)) ∙ e in absurd cc
        by z d (inr g) at c q = f z (d, g, at, c) q

decide_pair : (P : Instr → Type 0) → ((z : Instr) → P z ⊎ (P z → ⊥)) → (h : List Access) (y : Instr) →
    ((z : Instr) × Pair h z y × P z)
    ⊎ ((z : Instr) → Pair h z y → P z → ⊥)
decide_pair P test [] y = inr (λ z s _. s)
decide_pair P test (a ∷ h) y = pick (cases_instr a.at y) (decide_source P test h a) (decide_pair P test h y)
  where
    pick : (a.at ≡ y) ⊎ (a.at ≢ y) → ((z : Instr) × Source h a z × P z) ⊎ ((z : Instr) → Source h a z → P z → ⊥) →
        ((z : Instr) × Pair h z y × P z)
        ⊎ ((z : Instr) → Pair h z y → P z → ⊥) → ((z : Instr) × Pair (a ∷ h) z y × P z) ⊎ ((z : Instr) →
        Pair (a ∷ h) z y → P z → ⊥)
    pick _ _ (inl r) = inl (r.0, inr r.1, r.2)
    pick (inl e) (inl s) (inr f) = inl (s.0, inl (e, s.1), s.2)
    pick (inl e) (inr g) (inr f) = inr by
      where
        by : (z : Instr) → Pair (a ∷ h) z y → P z → ⊥
        by z (inl s) q = g z s.1 q
        by z (inr s) q = f z s q
    pick (inr d) _ (inr f) = inr by
      where
        by : (z : Instr) → Pair (a ∷ h) z y → P z → ⊥
        by z (inl s) q = d s.0
        by z (inr s) q = f z s q

-- z stands in the way of an edge from x
pub record Blocks (h : List Access) (x z : Instr) : Type 0 where
  pub other : z ≢ x
  pub reached : x.count ≤ clock h z x.core

test_blocks : (h : List Access) (x z : Instr) → Blocks h x z ⊎ (Blocks h x z → ⊥)
test_blocks h x z = by (cases_instr z x) (cases_lt (clock h z x.core) x.count)
  where
    by : (z ≡ x) ⊎ (z ≢ x) → (clock h z x.core < x.count) ⊎ (x.count ≤ clock h z x.core) →
        Blocks h x z ⊎ (Blocks h x z → ⊥)
    by (inl e) _ = inr (λ q. q.other e)
    by (inr d) (inr le) = inl (record { other = d; reached = le })
    by (inr d) (inl lt) = inr (λ q. let le = q.reached in omega arith)

pub kept_or_blocked : (h : List Access) (x y : Instr) → Pair h x y → Kept h x y ⊎ Blocked h x y
kept_or_blocked h x y p = pick (cases_lt (clock h (previous y) x.core) x.count) (decide_pair (Blocks h x)
    (test_blocks h x) h y)
  where
    lt_of : (z : Instr) → (clock h z x.core < x.count) ⊎ (x.count ≤ clock h z x.core) →
        (x.count ≤ clock h z x.core → ⊥) → clock h z x.core < x.count
    lt_of z (inr le) f = absurd (f le)
    lt_of z (inl lt) f = lt

    pick : (clock h (previous y) x.core < x.count) ⊎ (x.count ≤ clock h (previous y) x.core) →
        ((z : Instr) × Pair h z y × Blocks h x z)
        ⊎ ((z : Instr) → Pair h z y → Blocks h x z → ⊥) → Kept h x y ⊎ Blocked h x y
    pick (inr le) _ = inr (inl le)
    pick (inl lt) (inl r) = inr (inr (r.0, r.1, r.2.other, r.2.reached))
    pick (inl lt) (inr f) =
        inl (record {
          pair = p;
          own = lt;
          others = λ z s d. lt_of z (cases_lt (clock h z x.core) x.count)
              (λ le. f z s (record { other = d; reached = le }));
        })

-- ---- kept is covering

pub kept_covers : (h : List Access) (x y : Instr) → Rising h → Kept h x y → Cover h x y
kept_covers h x y rising k = (
  k.pair,
  λ z p q. let l = last_at (Pair h) q.0 z y q.1 in
      no_step l.0 (upto z l.0 p l.1) l.2,
)
  where
    upto : (z w : Instr) → Before (Pair h) x z → (z ≡ w) ⊎ Before (Pair h) z w → Before (Pair h) x w
    upto z w p (inl e) = subst (λ (v : Instr). Before (Pair h) x v) e p
    upto z w p (inr q) = joined (Pair h) x z w p q

    no_step : (w : Instr) → Before (Pair h) x w → Step (Pair h) w y → ⊥
    no_step w p (inl s) =
        let le = clock-before h x w rising p in
        let up = clock-program h w (previous y) x.core s.0 (let lt = s.1 in omega arith) in
        let lt = k.own in
        omega arith
    no_step w p (inr s) =
        let le = clock-before h x w rising p in
        let lt = k.others w s (λ e. no_cycle h rising x (subst (λ (v : Instr). Before (Pair h) x v) e p)) in
        omega arith

-- ---- covering pairs suffice

-- a path whose rank goes up by at most n
short_at : (h : List Access) → Rising h → (n : ℕ) → ((x y : Instr) → Pair h x y → rank h y ≤ rank h x + n →
    Before (Cover h) x y) → (m : ℕ) (u v : Instr) →
    Path (Pair h) m u v → rank h v ≤ rank h u + n → Before (Cover h) u v
short_at h rising n each zero u v (inl s) le = one (Cover h) u v (inl s)
short_at h rising n each zero u v (inr s) le = each u v s le
short_at h rising n each (suc m) u v p le =
    let first = goes h rising u p.0 (zero, p.1) in
    let rest = goes h rising p.0 v (m, p.2) in
    joined (Cover h) u p.0 v (begin p.1 (let a = rest.rank_le in omega arith)) (short_at h rising n each m p.0 v p.2
    (let a = first.rank_le in omega arith))
  where
    begin : Step (Pair h) u p.0 → rank h p.0 ≤ rank h u + n → Before (Cover h) u p.0
    begin (inl s) _ = one (Cover h) u p.0 (inl s)
    begin (inr s) le' = each u p.0 s le'

pub stands_pos : (h : List Access) (a : Access) → Rising h → StandsIn h a → 1 ≤ a.at.count
stands_pos [] a rising stands = absurd stands
stands_pos (b ∷ h) a rising (inl e) = subst (λ (c : Access). 1 ≤ c.at.count) e rising.0
stands_pos (b ∷ h) a rising (inr s) = stands_pos h a rising.2 s

at_pos : (h : List Access) (a : Access) (x : Instr) → Rising h → StandsIn h a → a.at ≡ x → 1 ≤ x.count
at_pos h a x rising stands e = subst (λ (z : Instr). 1 ≤ z.count) e (stands_pos h a rising stands)

suffices_more : (history : List Access) → Rising history → (n : ℕ) →
    ((x y : Instr) → Pair history x y → rank history y ≤ rank history x + n →
    Before (Cover history) x y) → (x y : Instr) →
    Pair history x y → rank history y ≤ rank history x + suc n → Before (Cover history) x y
suffices_more history rising n each x y pair le = by (kept_or_blocked history x y pair)
  where
    cores : x.core ≢ y.core
    cores = pair_cores history x y pair

    target : Ends history x y
    target = ends history x y pair

    pos_x : 1 ≤ x.count
    pos_x = at_pos history target.first x rising target.first_stands target.first_at

    pos_y : 1 ≤ y.count
    pos_y = at_pos history target.second y rising target.second_stands target.second_at

    before_y : (z : Instr) → Before (Pair history) z y → rank history z < rank history y
    before_y z q = rank-before history rising target.second z y target.second_stands target.second_at q

    shorter : (u v : Instr) → Before (Pair history) u v → rank history v ≤ rank history u + n →
        Before (Cover history) u v
    shorter u v q le' = short_at history rising n each q.0 u v q.1 le'

    own_step : ProgramOrder (previous y) y
    own_step = (refl, let e = pos_y in omega arith)

    own : UpTo history x (previous y) → Before (Cover history) x y
    own (inl e) = absurd (cores (ap (λ (z : Instr). z.core) e))
    own (inr q) =
        let lt = before_y (previous y) (one (Pair history) (previous y) y (inl own_step)) in
        joined (Cover history) x (previous y) y (shorter x (previous y) q (omega arith))
        (one (Cover history) (previous y) y
        (inl own_step))

    other : (z : Instr) → Pair history z y → z ≢ x → UpTo history x z → Before (Cover history) x y
    other z s d (inl e) = absurd (d (sym e))
    other z s d (inr q) =
        let lt = rank-pair history z y rising s in
        let source = ends history z y s in
        let up = rank-before history rising source.first x z source.first_stands source.first_at q in
        joined (Cover history) x z y (shorter x z q (omega arith)) (each z y s (omega arith))

    by : Kept history x y ⊎ Blocked history x y → Before (Cover history) x y
    by (inl k) = one (Cover history) x y (inr (kept_covers history x y rising k))
    by (inr (inl le')) = own (clock-up_to history x (previous y) pos_x le')
    by (inr (inr b)) = other b.0 b.1 b.2 (clock-up_to history x b.0 pos_x b.3)

covering_suffices_at : (h : List Access) → Rising h → (n : ℕ) (x y : Instr) → Pair h x y → rank h y ≤ rank h x + n →
    Before (Cover h) x y
covering_suffices_at h rising zero x y p le = let lt = rank-pair h x y rising p in absurd (omega arith)
covering_suffices_at h rising (suc n) x y p le = suffices_more h rising n (covering_suffices_at h rising n) x y p le

-- each conflict pair is before by the covering pairs
pub covering_suffices : (h : List Access) → Rising h → Within (Pair h) (Before (Cover h))
covering_suffices h rising x y p = covering_suffices_at h rising (rank h y) x y p (omega arith)

-- a covering pair is kept
pub covers_kept : (h : List Access) (x y : Instr) → Rising h → Cover h x y → Kept h x y
covers_kept h x y rising c = by (kept_or_blocked h x y c.0)
  where
    target : Ends h x y
    target = ends h x y c.0

    pos_x : 1 ≤ x.count
    pos_x = at_pos h target.first x rising target.first_stands target.first_at

    pos_y : 1 ≤ y.count
    pos_y = at_pos h target.second y rising target.second_stands target.second_at

    own : UpTo h x (previous y) → Kept h x y
    own (inl e) = absurd (pair_cores h x y c.0 (ap (λ (z : Instr). z.core) e))
    own (inr q) = absurd (c.1 (previous y) q (one (Pair h) (previous y) y (inl (refl, let e = pos_y in omega arith))))

    other : (z : Instr) → Pair h z y → z ≢ x → UpTo h x z → Kept h x y
    other z s d (inl e) = absurd (d (sym e))
    other z s d (inr q) = absurd (c.1 z q (one (Pair h) z y (inr s)))

    by : Kept h x y ⊎ Blocked h x y → Kept h x y
    by (inl k) = k
    by (inr (inl le)) = own (clock-up_to h x (previous y) pos_x le)
    by (inr (inr b)) = other b.0 b.1 b.2 (clock-up_to h x b.0 pos_x b.3)
