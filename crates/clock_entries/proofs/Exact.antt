-- Exact entries are good, and decide which edges the others imply.
use Rattle.std.proofs.Common.{inl, inr, ◌≡◌, ◌≢◌, ◌⊎◌, ℕ, zero, suc, ◌-◌, ◌<◌, ◌≤◌, List, refl, sym, ap, ◌∙◌, subst}
use Rattle.std.proofs.Common.{arith}
use Rattle.std.proofs.lemmas.Bool.{cases_eq, cases_lt}
use Rattle.std.proofs.Math.Nat.{eq-or-lt_of_le, eq-zero-or-pos, lt_of_not-le}
use Rattle.rtr_types.specs.declared.instr.Instr.{Instr}
use Rattle.rtr_types.specs.declared.instr.Edge.{Edge}
use Rattle.rtr_types.proofs.Instrs.{instr_eq}
use Rattle.clock_core.specs.Order.{Relation, ProgramOrder, Step, Path, Before, IsOrLeads, Among, previous}
use Rattle.clock_core.specs.Reach.{IsClock, with_own}
use Rattle.clock_core.proofs.Paths.{joined, one, more, last_at}
use Rattle.clock_core.proofs.Reach.{own_same, own_other}
use Rattle.conflict_edge.specs.Least.{Others}
use Rattle.clock_entries.specs.Ends.{instr}
use Rattle.clock_entries.specs.Entries.{Entry, IsLastEntry, AreGood, AreExact, IsNeeded, IsKnownOtherwise, IsImplied}
use Rattle.clock_entries.specs.Laws.{IsLog, EveryClockLaw, NextClockLaw, IsBelowSources, ExactIsGoodLaw, NeededLaw}
use Rattle.clock_entries.specs.Laws.{ImpliedLaw, NeededOrKnownLaw}
use Rattle.clock_entries.proofs.LastEntries.{end_source, end_target, end_counts, Floor, NoFloor, floor, floor_of}
use Rattle.clock_entries.proofs.Good.{rises, own_stands, known}

-- ---- paths

-- what is or leads to an instruction of its own core isn't after it
not_after : (edges : List Edge) (x y : Instr) → ((z : Instr) → Before (Among edges) z z → ⊥) → x.core ≡ y.core →
    IsOrLeads (Among edges) x y → (y.count < x.count) ⊎ (x.count ≤ y.count) → x.count ≤ y.count
not_after edges x y acyclic e u (inr le) = le
not_after edges x y acyclic e (inl f) (inl lt) =
    let g : x.count ≡ y.count = ap (λ (z : Instr). z.count) f in omega arith
not_after edges x y acyclic e (inr p) (inl lt) =
    absurd (acyclic y (joined (Among edges) y x y (one (Among edges) y x (inl (sym e, lt))) p))

-- on along a core
onward : (E : Relation) (x w y : Instr) → IsOrLeads E x w → w.core ≡ y.core → w.count ≤ y.count → IsOrLeads E x y
onward E x w y u c le = by u (eq-or-lt_of_le le)
  where
    by : IsOrLeads E x w → (w.count ≡ y.count) ⊎ (w.count < y.count) → IsOrLeads E x y
    by u (inl e) = subst (λ (z : Instr). IsOrLeads E x z) (instr_eq w y c e) u
    by (inl e) (inr lt) = inr (subst (λ (z : Instr). Before E z y) (sym e) (one E w y (inl (c, lt))))
    by (inr p) (inr lt) = inr (joined E x w y p (one E w y (inl (c, lt))))

-- and by one step
stepped : (E : Relation) (x w y : Instr) → IsOrLeads E x w → Step E w y → Before E x y
stepped E x w y (inl e) s = subst (λ (z : Instr). Before E z y) (sym e) (one E w y s)
stepped E x w y (inr p) s = joined E x w y p (one E w y s)

-- ---- exact entries

-- what the last entry has leads to its edge end, or is it
reached : (edges : List Edge) (entry : Entry) → AreExact edges entry → (y : Instr) (f : Floor edges entry y) (n i : ℕ) →
    1 ≤ n → n ≤ entry y i →
    IsOrLeads (Among edges) (instr i n) f.at
reached edges entry exact y f n i pos le = (exact f.at f.is_one (instr i n) pos).0 (let e = f.same i in omega arith)

pub exact_is_good : ExactIsGoodLaw
exact_is_good edges entry log acyclic last exact x end =
    record {
      own = own;
      rises = λ i ne. rises i (eq-zero-or-pos (entry (previous x) i));
      sources =
          λ z a i. sources z a i (eq-zero-or-pos (entry z i));
    }
  where
    E : Relation
    E = Among edges

    pos : 1 ≤ x.count
    pos = end_counts edges x log end

    up : x.count ≤ entry x x.core
    up = (exact x end x pos).1 (inl refl)

    not_later : (k : ℕ) → x.count < k → k ≤ entry x x.core → ⊥
    not_later k lt le = by ((exact x end (instr x.core k) (omega arith)).0 le)
      where
        by : IsOrLeads (Among edges) (instr x.core k) x → ⊥
        by (inl e) = let f : k ≡ x.count = ap (λ (z : Instr). z.count) e in omega arith
        by (inr p) =
            acyclic x
            (joined (Among edges) x (instr x.core k) x (one (Among edges) x (instr x.core k) (inl (refl, lt))) p)

    own_by : (x.count < entry x x.core) ⊎ (entry x x.core ≤ x.count) → entry x x.core ≡ x.count
    own_by (inr le) = let u = up in omega arith
    own_by (inl lt) = absurd (not_later (entry x x.core) lt (omega arith))

    own : entry x x.core ≡ x.count
    own = own_by (cases_lt x.count (entry x x.core))

    rises : (i : ℕ) → (entry (previous x) i ≡ 0) ⊎ (1 ≤ entry (previous x) i) → entry (previous x) i ≤ entry x i
    rises i (inl e) = omega arith
    rises i (inr some) =
        let f = floor_of edges entry log last (previous x) (entry (previous x) i) i some (omega arith) in
        let c : f.at.count < x.count = let le = f.count in let p = pos in omega arith in
        let u = reached edges entry exact (previous x) f (entry (previous x) i) i some (omega arith) in
        (exact x end (instr i (entry (previous x) i)) some).1
        (inr (stepped (Among edges) (instr i (entry (previous x) i)) f.at x u (inl (f.core, c))))

    sources : (z : Instr) → Among edges z x → (i : ℕ) → (entry z i ≡ 0) ⊎ (1 ≤ entry z i) → entry z i ≤ entry x i
    sources z a i (inl e) = omega arith
    sources z a i (inr some) =
        let u = (exact z (end_source edges z x a) (instr i (entry z i)) some).0 (omega arith) in
        (exact x end (instr i (entry z i)) some).1 (inr (stepped (Among edges) (instr i (entry z i)) z x u (inr a)))

-- a path from another core enters y's core at an edge end
record Enters (E : Relation) (x y : Instr) : Type 0 where
  from : Instr
  at : Instr
  leads : IsOrLeads E x from
  edge : E from at
  core : at.core ≡ y.core
  count : at.count ≤ y.count

enters : (E : Relation) → ((u : Instr) → Before E u u → ⊥) → (n : ℕ) (x y : Instr) → Path E n x y → x.core ≢ y.core →
    Enters E x y
enters E acyclic zero x y (inl s) ne = absurd (ne s.0)
enters E acyclic zero x y (inr s) ne = record {
  from = x;
  at = y;
  leads = inl refl;
  edge = s;
  core = refl;
  count = omega arith;
}
enters E acyclic (suc n) x y p ne = by (cases_eq p.0.core y.core) p.1 (λ d. enters E acyclic n p.0 y p.2 d)
  where
    by : (p.0.core ≡ y.core) ⊎ (p.0.core ≢ y.core) → Step E x p.0 → (p.0.core ≢ y.core → Enters E p.0 y) → Enters E x y
    by (inr d) s go =
        let r = go d in
        record {
          from = r.from;
          at = r.at;
          leads = inr (before s r.leads);
          edge = r.edge;
          core = r.core;
          count = r.count;
        }
      where
        before : {w : Instr} → Step E x p.0 → IsOrLeads E p.0 w → Before E x w
        before {w} s (inl e) = subst (λ (z : Instr). Before E x z) e (one E x p.0 s)
        before {w} s (inr q) = joined E x p.0 w (one E x p.0 s) q
    by (inl e) (inl s) _ = absurd (ne (s.0 ∙ e))
    by (inl e) (inr s) _ = record {
      from = x;
      at = p.0;
      leads = inl refl;
      edge = s;
      core = e;
      count = not_later (cases_lt y.count p.0.count);
    }
      where
        not_later : (y.count < p.0.count) ⊎ (p.0.count ≤ y.count) → p.0.count ≤ y.count
        not_later (inr le) = le
        not_later (inl lt) = absurd (acyclic y (joined E y p.0 y (one E y p.0 (inl (sym e, lt))) (n, p.2)))

pub every_clock : EveryClockLaw
every_clock edges entry y log acyclic last exact x x_pos = (to (cases_eq x.core y.core), back)
  where
    to : (x.core ≡ y.core) ⊎ (x.core ≢ y.core) → x.count ≤ with_own y (entry y) x.core → IsOrLeads (Among edges) x y
    to (inl e) le = let f = own_same y (entry y) x.core e in onward (Among edges) x x y (inl refl) e (omega arith)
    to (inr ne) le =
        let e = own_other y (entry y) x.core ne in
        let some : x.count ≤ entry y x.core = omega arith in
        by (floor_of edges entry log last y x.count x.core x_pos some) some
      where
        by : Floor edges entry y → x.count ≤ entry y x.core → IsOrLeads (Among edges) x y
        by f some =
            let e = f.same x.core in
            onward (Among edges) x f.at y ((exact f.at f.is_one f.core f.count x x_pos).0 (omega arith)) f.core f.count

    -- the edge end where a path enters y's core is not after the last one
    through : Enters (Among edges) x y → Floor edges entry y ⊎ NoFloor edges entry y → x.count ≤ entry y x.core
    through t (inr none) = absurd (none.none t.at (end_target edges t.from t.at t.edge) t.core t.count)
    through t (inl f) =
        let u : IsOrLeads (Among edges) x t.at = inr (stepped (Among edges) x t.from t.at t.leads (inr t.edge)) in
        let v =
        onward (Among edges) x t.at f.at u (t.core ∙ sym f.core)
        (f.latest t.at (end_target edges t.from t.at t.edge) t.core t.count) in
        let le = (exact f.at f.is_one f.core f.count x x_pos).1 v in
        let e = f.same x.core in
        omega arith

    from_other : x.core ≢ y.core → IsOrLeads (Among edges) x y → x.count ≤ entry y x.core
    from_other ne (inl e) = absurd (ne (ap (λ (z : Instr). z.core) e))
    from_other ne (inr p) =
        through (enters (Among edges) acyclic p.0 x y p.1 ne) (floor edges entry log last y.core y.count)

    back : IsOrLeads (Among edges) x y → x.count ≤ with_own y (entry y) x.core
    back u = by (cases_eq x.core y.core)
      where
        by : (x.core ≡ y.core) ⊎ (x.core ≢ y.core) → x.count ≤ with_own y (entry y) x.core
        by (inl e) =
            let f = own_same y (entry y) x.core e in
            let le = not_after edges x y acyclic e u (cases_lt y.count x.count) in
            omega arith
        by (inr ne) = let f = own_other y (entry y) x.core ne in let le = from_other ne u in omega arith

pub next_clock : NextClockLaw
next_clock edges entry y merged log acyclic last pos own sources merge x x_pos =
    (to (cases_eq x.core y.core), back (cases_eq x.core y.core))
  where
    before : IsClock (Among edges) (previous y) (with_own (previous y) (entry (previous y)))
    before = every_clock edges entry (previous y) log acyclic last (λ w end e le. own w end e (omega arith))

    step : ProgramOrder (previous y) y
    step = (refl, omega arith)

    other : IsBelowSources edges entry y x.core x.count → x.core ≢ y.core → IsOrLeads (Among edges) x y
    other (inl le) ne = let e = own_other (previous y) (entry (previous y)) x.core ne in
        inr (stepped (Among edges) x (previous y) y ((before x x_pos).0 (omega arith)) (inl step))
    other (inr q) ne = inr (stepped (Among edges) x q.0 y ((sources q.0 q.1 x x_pos).0 q.2) (inr q.1))

    to : (x.core ≡ y.core) ⊎ (x.core ≢ y.core) → x.count ≤ with_own y merged x.core → IsOrLeads (Among edges) x y
    to (inl e) le = let f = own_same y merged x.core e in onward (Among edges) x x y (inl refl) e (omega arith)
    to (inr ne) le = let e = own_other y merged x.core ne in other ((merge x.core x.count ne x_pos).0 (omega arith)) ne

    through : (w : Instr) → x.core ≢ y.core → IsOrLeads (Among edges) x w → Step (Among edges) w y →
        IsBelowSources edges entry y x.core x.count
    through w ne u (inl s) =
        let le = (before x x_pos).1 (onward (Among edges) x w (previous y) u s.0 (let lt = s.1 in omega arith)) in
        let e = own_other (previous y) (entry (previous y)) x.core ne in
        inl (omega arith)
    through w ne u (inr a) = inr (w, a, (sources w a x x_pos).1 u)

    from_other : x.core ≢ y.core → IsOrLeads (Among edges) x y → IsBelowSources edges entry y x.core x.count
    from_other ne (inl e) = absurd (ne (ap (λ (z : Instr). z.core) e))
    from_other ne (inr p) = let l = last_at (Among edges) p.0 x y p.1 in through l.0 ne l.1 l.2

    back : (x.core ≡ y.core) ⊎ (x.core ≢ y.core) → IsOrLeads (Among edges) x y → x.count ≤ with_own y merged x.core
    back (inl e) u =
        let f = own_same y merged x.core e in
        let le = not_after edges x y acyclic e u (cases_lt y.count x.count) in
        omega arith
    back (inr ne) u =
        let f = own_other y merged x.core ne in
        let le = (merge x.core x.count ne x_pos).1 (from_other ne u) in
        omega arith

-- ---- edges that the others imply

to_all : (edges : List Edge) (x y u v : Instr) → IsOrLeads (Others (Among edges) x y) u v → IsOrLeads (Among edges) u v
to_all edges x y u v (inl e) = inl e
to_all edges x y u v (inr p) = inr (more (Others (Among edges) x y) (Among edges) (λ a b s. s.0) u v p)

-- a path that ends before y has no edge into y
no_edge_into : (E : Relation) → ((u : Instr) → Before E u u → ⊥) → (x y : Instr) (n : ℕ) (u v : Instr) → Path E n u v →
    Before E v y → Path (Others E x y) n u v
no_edge_into E acyclic x y zero u v (inl s) after = inl s
no_edge_into E acyclic x y zero u v (inr s) after =
    inr (s, λ _ e. acyclic y (subst (λ (w : Instr). Before E w y) e after))
no_edge_into E acyclic x y (suc n) u v p after =
    (p.0, no_step p.1 (joined E p.0 v y (n, p.2) after), no_edge_into E acyclic x y n p.0 v p.2 after)
  where
    no_step : Step E u p.0 → Before E p.0 y → Step (Others E x y) u p.0
    no_step (inl s) on = inl s
    no_step (inr s) on = inr (s, λ _ e. acyclic y (subst (λ (w : Instr). Before E w y) e on))

-- by good entries: the last step of a path of other edges is along the target's core, or from another logged source
pub known_otherwise : (edges : List Edge) (entry : Entry) (x y : Instr) → IsLog edges → IsLastEntry edges entry →
    AreGood edges entry → Among edges x y → IsImplied edges x y →
    IsKnownOtherwise edges entry x y
known_otherwise edges entry x y log last good a p =
    let l = last_at (Others (Among edges) x y) p.0 x y p.1 in by l.0 (to_all edges x y x l.0 l.1) l.2
  where
    apart : x.core ≢ y.core
    apart = log.apart x y a

    by : (w : Instr) → IsOrLeads (Among edges) x w → Step (Others (Among edges) x y) w y →
        IsKnownOtherwise edges entry x y
    by w u (inl s) =
        let ne : x.core ≢ w.core = λ e. apart (e ∙ s.0) in
        let k = known edges entry last good x w u in
        let o = own_other w (entry w) x.core ne in
        let r = rises edges entry last good y.core w.count (y.count - 1) x.core (let lt = s.1 in omega arith) apart in
        let e : entry w x.core ≡ entry (instr y.core w.count) x.core =
        ap (λ (c : ℕ). entry (instr c w.count) x.core) s.0 in
        inl (omega arith)
    by w u (inr s) =
        let k = known edges entry last good x w u in
        let o = own_stands edges entry w x.core good (end_source edges w y s.0) in
        inr (w, s.0, (λ e. s.1 e refl), omega arith)

pub needed_or_known : NeededOrKnownLaw
needed_or_known edges entry x y = (to, back)
  where
    to : IsNeeded edges entry x y → IsKnownOtherwise edges entry x y → ⊥
    to n (inl le) = let lt = n.before in omega arith
    to n (inr q) = let lt = n.others q.0 q.1 q.2 in let le = q.3 in omega arith

    back : (IsKnownOtherwise edges entry x y → ⊥) → IsNeeded edges entry x y
    back f = record {
      before = lt_of_not-le (λ le. f (inl le));
      others = λ z a ne. lt_of_not-le (λ le. f (inr (z, a, ne, le)));
    }

pub needed : NeededLaw
needed edges entry x y log last good a n p =
    (needed_or_known edges entry x y).0 n (known_otherwise edges entry x y log last good a p)

pub implied_law : ImpliedLaw
implied_law edges entry x y log acyclic last exact a =
    (known_otherwise edges entry x y log last (exact_is_good edges entry log acyclic last exact) a, back)
  where
    pos : 1 ≤ x.count
    pos = log.sources x y a

    -- a path that ends before y doesn't take an edge into y
    past : (w : Instr) → x ≢ w → IsOrLeads (Among edges) x w → Before (Among edges) w y →
        Before (Others (Among edges) x y) x w
    past w ne (inl e) q = absurd (ne e)
    past w ne (inr p) q = (p.0, no_edge_into (Among edges) acyclic x y p.0 x w p.1 q)

    back : IsKnownOtherwise edges entry x y → IsImplied edges x y
    back (inl le) =
        let f = floor_of edges entry log last (previous y) x.count x.core pos le in
        let s : ProgramOrder f.at y = (f.core, let c = f.count in let t = log.targets x y a in omega arith) in
        let ne : x ≢ f.at = λ e. log.apart x y a (ap (λ (z : Instr). z.core) e ∙ f.core) in
        let p =
        past f.at ne (reached edges entry exact (previous y) f x.count x.core pos le)
        (one (Among edges) f.at y (inl s)) in
        joined (Others (Among edges) x y) x f.at y p (one (Others (Among edges) x y) f.at y (inl s))
    back (inr q) =
        let u = (exact q.0 (end_source edges q.0 y q.1) x pos).0 q.3 in
        let p = past q.0 (λ e. q.2 (sym e)) u (one (Among edges) q.0 y (inr q.1)) in
        joined (Others (Among edges) x y) x q.0 y p (one (Others (Among edges) x y) q.0 y (inr (q.1, λ e _. q.2 e)))
