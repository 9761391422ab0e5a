-- Logs that have a whole replay order don't go round.
use Rattle.std.proofs.Common.{inl, inr, ◌≡◌, ◌≢◌, ◌⊎◌, ℕ, zero, suc, ◌+◌, ◌<◌, ◌≤◌, List, [], ◌∷◌, length, refl, sym}
use Rattle.std.proofs.Common.{ap, ◌∙◌, subst, arith}
use Rattle.std.proofs.lemmas.Bool.{cases_eq}
use Rattle.rtr_types.specs.declared.instr.Instr.{Instr}
use Rattle.rtr_types.specs.declared.instr.Edge.{Edge}
use Rattle.rtr_types.specs.declared.pairs.Which.{Which}
use Rattle.clock_core.specs.Order.{Relation, Step, Path, Before, IsOrLeads, Among}
use Rattle.clock_core.proofs.Paths.{joined, one, last_at}
use Rattle.race_log.specs.declared.recording.Recording.{Recording}
use Rattle.race_log.specs.Sources.{log_edges}
use Rattle.race_log.specs.Validity.{Valid}
use Rattle.replay_core.specs.Plans.{Plan, plan_of}
use Rattle.replay_core.specs.Orders.{bump, counts, nought, Sourced, Ready, Ordered}
use Rattle.replay_core.proofs.Sources.{edge_within}
use Rattle.replay_core.proofs.Counts.{bump_same, bump_else, bump_more}
use Rattle.clock_entries.specs.Laws.{IsLog}
use Rattle.replay_audit.specs.Laws.{RecordedLogLaw, AcyclicLaw}

-- ---- edges

pub recorded_log : RecordedLogLaw
recorded_log which r valid = record {
  sources = λ x y a. (edge_within which r x y valid a).some_source;
  targets = λ x y a. (edge_within which r x y valid a).some_target;
  apart = λ x y a. (edge_within which r x y valid a).pair.differ;
}

-- ---- what leads to an instruction within the counts is within them

-- each edge into an instruction within the counts comes from one within them
abbrev pub Closed : List Edge → (ℕ → ℕ) → Type 0
Closed edges f = (x y : Instr) → Among edges x y → y.count ≤ f y.core → x.count ≤ f x.core

pub sourced_among : (edges : List Edge) (f : ℕ → ℕ) (c n : ℕ) (x y : Instr) → Sourced edges f c n → Among edges x y →
    y.core ≡ c → y.count ≡ n →
    x.count ≤ f x.core
sourced_among [] f c n x y s a p q = absurd a
sourced_among (e ∷ edges) f c n x y s (inl a) p q =
    let le = s.0 (ap (λ (z : Instr). z.core) a.1 ∙ p) (ap (λ (z : Instr). z.count) a.1 ∙ q) in
    subst (λ (z : Instr). z.count ≤ f z.core) a.0 le
sourced_among (e ∷ edges) f c n x y s (inr a) p q = sourced_among edges f c n x y s.1 a p q

pub next_or_before : (m n : ℕ) → m ≤ n + 1 → (m ≡ n + 1) ⊎ (m ≤ n)
next_or_before m n le = grind arith

pub closed_bump : (p : Plan) (f : ℕ → ℕ) (c : ℕ) → Ready p f c → Closed p.edges f → Closed p.edges (bump f c)
closed_bump p f c ready closed x y a le = by (cases_eq y.core c)
  where
    up : x.count ≤ f x.core → x.count ≤ bump f c x.core
    up le = let m = bump_more f c x.core in omega arith

    own : y.core ≡ c → (y.count ≡ f c + 1) ⊎ (y.count ≤ f c) → x.count ≤ f x.core
    own e (inl n) = sourced_among p.edges f c (f c + 1) x y ready.sourced a e n
    own e (inr le) = closed x y a (let g : f y.core ≡ f c = ap f e in omega arith)

    by : (y.core ≡ c) ⊎ (y.core ≢ c) → x.count ≤ bump f c x.core
    by (inl e) = let b = bump_same f c y.core e in let g : f y.core ≡ f c = ap f e in
        up (own e (next_or_before y.count (f c) (omega arith)))
    by (inr ne) = let b = bump_else f c y.core ne in up (closed x y a (omega arith))

step_back : (edges : List Edge) (f : ℕ → ℕ) (x y : Instr) → Closed edges f → Step (Among edges) x y →
    y.count ≤ f y.core → x.count ≤ f x.core
step_back edges f x y closed (inl s) le = let e : f x.core ≡ f y.core = ap f s.0 in let lt = s.1 in omega arith
step_back edges f x y closed (inr a) le = closed x y a le

path_back : (edges : List Edge) (f : ℕ → ℕ) (n : ℕ) (x y : Instr) → Closed edges f → Path (Among edges) n x y →
    y.count ≤ f y.core → x.count ≤ f x.core
path_back edges f zero x y closed s le = step_back edges f x y closed s le
path_back edges f (suc n) x y closed p le = step_back edges f x p.0 closed p.1 (path_back edges f n p.0 y closed p.2 le)

pub leads_back : (edges : List Edge) (f : ℕ → ℕ) (x y : Instr) → Closed edges f → IsOrLeads (Among edges) x y →
    y.count ≤ f y.core → x.count ≤ f x.core
leads_back edges f x y closed (inl e) le = subst (λ (z : Instr). z.count ≤ f z.core) (sym e) le
leads_back edges f x y closed (inr p) le = path_back edges f p.0 x y closed p.1 le

-- what leads to the next instruction of a ready core is within the counts
pub ready_before : (p : Plan) (f : ℕ → ℕ) (c : ℕ) (x y : Instr) → Closed p.edges f → Ready p f c → y.core ≡ c →
    y.count ≡ f c + 1 →
    Before (Among p.edges) x y → x.count ≤ f x.core
ready_before p f c x y closed ready e n b = let l = last_at (Among p.edges) b.0 x y b.1 in
    leads_back p.edges f x l.0 closed l.1 (by l.0 l.2)
  where
    by : (w : Instr) → Step (Among p.edges) w y → w.count ≤ f w.core
    by w (inl s) = let g : f w.core ≡ f c = ap f (s.0 ∙ e) in let lt = s.1 in omega arith
    by w (inr a) = sourced_among p.edges f c (f c + 1) w y ready.sourced a e n

-- ---- no instruction that an order reaches leads to itself

no_cycle : (p : Plan) (f : ℕ → ℕ) (order : List ℕ) (y : Instr) → Closed p.edges f → Ordered p f order →
    f y.core < y.count → y.count ≤ counts f order y.core →
    Before (Among p.edges) y y → ⊥
no_cycle p f [] y closed ordered lt le b = omega arith
no_cycle p f (c ∷ cs) y closed ordered lt le b = by (cases_eq y.core c)
    (λ above. no_cycle p (bump f c) cs y (closed_bump p f c ordered.0 closed) ordered.1 above le b)
  where
    later : (y.count ≡ f c + 1) ⊎ (y.count ≢ f c + 1) → y.core ≡ c → (bump f c y.core < y.count → ⊥) → ⊥
    later (inl n) e go = let in_ = ready_before p f c y y closed ordered.0 e n b in omega arith
    later (inr ne) e go = go (let s = bump_same f c y.core e in let g : f y.core ≡ f c = ap f e in omega arith)

    by : (y.core ≡ c) ⊎ (y.core ≢ c) → (bump f c y.core < y.count → ⊥) → ⊥
    by (inl e) go = later (cases_eq y.count (f c + 1)) e go
    by (inr ne) go = go (let s = bump_else f c y.core ne in omega arith)

-- a path has an edge, or goes along one core
record HasEdgeOf (E : Relation) (x y : Instr) : Type 0 where
  from : Instr
  to : Instr
  edge : E from to
  before : IsOrLeads E x from
  after : IsOrLeads E to y

some_edge : (E : Relation) (n : ℕ) (x y : Instr) → Path E n x y →
    HasEdgeOf E x y ⊎ ((x.core ≡ y.core) × (x.count < y.count))
some_edge E zero x y (inl s) = inr s
some_edge E zero x y (inr a) = inl (record { from = x; to = y; edge = a; before = inl refl; after = inl refl })
some_edge E (suc n) x y p = by p.1 (some_edge E n p.0 y p.2)
  where
    on : {w : Instr} → Step E x p.0 → IsOrLeads E p.0 w → IsOrLeads E x w
    on {w} s (inl e) = inr (subst (λ (z : Instr). Before E x z) e (one E x p.0 s))
    on {w} s (inr q) = inr (joined E x p.0 w (one E x p.0 s) q)

    by : Step E x p.0 → HasEdgeOf E p.0 y ⊎ ((p.0.core ≡ y.core) × (p.0.count < y.count)) →
        HasEdgeOf E x y ⊎ ((x.core ≡ y.core) × (x.count < y.count))
    by s (inl h) = inl (record { from = h.from; to = h.to; edge = h.edge; before = on s h.before; after = h.after })
    by (inl s) (inr t) = inr (s.0 ∙ t.0, let a = s.1 in let b = t.1 in omega arith)
    by (inr a) (inr t) = inl (record { from = x; to = p.0; edge = a; before = inl refl; after = inr (n, p.2) })

-- two paths, and an edge between
around : (E : Relation) (x y : Instr) (h : HasEdgeOf E x x) → Before E h.from h.from
around E x y h = by h.after h.before
  where
    first : Before E h.from h.to
    first = one E h.from h.to (inr h.edge)

    by : IsOrLeads E h.to x → IsOrLeads E x h.from → Before E h.from h.from
    by (inl e) (inl g) = subst (λ (z : Instr). Before E h.from z) (e ∙ g) first
    by (inl e) (inr q) = joined E h.from x h.from (subst (λ (z : Instr). Before E h.from z) e first) q
    by (inr q) (inl g) = joined E h.from h.to h.from first (subst (λ (z : Instr). Before E h.to z) g q)
    by (inr q) (inr s) = joined E h.from h.to h.from first (joined E h.to x h.from q s)

pub closed_none : (which : Which) (r : Recording) → Valid r → Closed (log_edges which r) nought
closed_none which r valid x y a le = let t = (edge_within which r x y valid a).some_target in omega arith

pub closed_log : (edges : List Edge) → IsLog edges → Closed edges nought
closed_log edges log x y a le = let t = log.targets x y a in omega arith

pub acyclic_law : AcyclicLaw
acyclic_law which r order valid ordered whole y b = by (some_edge (Among (log_edges which r)) b.0 y y b.1)
  where
    by : HasEdgeOf (Among (log_edges which r)) y y ⊎ ((y.core ≡ y.core) × (y.count < y.count)) → ⊥
    by (inr s) = let lt = s.1 in omega arith
    by (inl h) =
        let w = edge_within which r h.from h.to valid h.edge in
        let pos = w.some_source in
        let most = w.source_most in
        let inside : h.from.core < length r.totals = let lt = w.pair.source in let e = valid.each_core in omega arith in
        let end = whole.each h.from.core inside in
        no_cycle (plan_of which r) nought order h.from (closed_none which r valid) ordered (omega arith) (omega arith)
        (around (Among (log_edges which r)) y y h)
