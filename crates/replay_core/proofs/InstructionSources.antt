-- The sources of an instruction, core by core.
use Rattle.std.proofs.Common.{inl, inr, ◌≡◌, ◌≢◌, ◌⊎◌, ℕ, zero, suc, ◌+◌, ◌<◌, ◌≤◌, List, ◌∷◌, sym, ap, ◌∙◌, subst}
use Rattle.std.proofs.Common.{arith, true, false, nat_eq}
use Rattle.std.specs.Prelude.{slice_index, cond, Some, None, Option}
use Rattle.std.proofs.lemmas.Bool.Decides.{nat_tests}
use native.Mathlib.Decide.{ℕ_discrete}
use Rattle.rtr_types.specs.declared.instr.Instr.{Instr}
use Rattle.rtr_types.specs.declared.instr.Edge.{Edge}
use Rattle.rtr_types.specs.declared.pairs.Which.{Which}
use Rattle.rtr_types.proofs.Instrs.{instr_eq}
use Rattle.clock_core.specs.Order.{Among}
use Rattle.clock_core.specs.Reach.{IsOneOf}
use Rattle.clock_core.proofs.EdgeLists.{among_contains, contains_among}
use Rattle.race_log.specs.declared.recording.Recording.{Recording}
use Rattle.race_log.specs.Sources.{log_edges, HasEdge}
use Rattle.race_log.specs.Validity.{Valid}
use Rattle.replay_core.specs.Play.{instr}
use Rattle.replay_core.specs.Sources.{AreSources, listed}
use Rattle.replay_core.proofs.Sources.{edge_within}

-- as far as core n
pub record SourcedTo (edges : List Edge) (y : Instr) (n : ℕ) (sources : List ℕ) : Type 0 where
  pub each : (z : Instr) → Among edges z y → z.core < n → slice_index sources z.core ≡ z.count
  pub only : (c : ℕ) → 1 ≤ slice_index sources c → Among edges (instr c (slice_index sources c)) y
  pub rest : (c : ℕ) → n ≤ c → slice_index sources c ≡ 0

pub earlier_or : (m n : ℕ) → m < n + 1 → (m < n) ⊎ (m ≡ n)
earlier_or m n lt = grind arith

module _ (which : Which) (r : Recording) (y : Instr) (n : ℕ) (s : List ℕ) (so_far : SourcedTo (log_edges which r) y n s)
  where
    -- core n has one
    pub sourced_some : (a : ℕ) (t : List ℕ) → HasEdge which r (instr n a) y →
        ((b : ℕ) → HasEdge which r (instr n b) y → Some a ≡ Some b) → slice_index t n ≡ a →
        ((i : ℕ) → i ≢ n → slice_index t i ≡ slice_index s i) → SourcedTo (log_edges which r) y (n + 1) t
    sourced_some a t has one here others = record {
      each = λ z m lt. each z m (earlier_or z.core n lt);
      only = λ c pos. only c pos (ℕ_discrete c n);
      rest = λ c le. others c (λ e. omega arith) ∙ so_far.rest c (omega arith);
    }
      where
        each : (z : Instr) → Among (log_edges which r) z y → (z.core < n) ⊎ (z.core ≡ n) →
            slice_index t z.core ≡ z.count
        each z m (inl lt) = others z.core (λ e. omega arith) ∙ so_far.each z m lt
        each z m (inr e) =
            let has_z : HasEdge which r (instr n z.count) y = subst (λ (c : ℕ). HasEdge which r (instr c z.count) y) e
            (among_contains (log_edges which r) z y m) in
            let same : a ≡ z.count = cc (one z.count has_z) in
            ap (λ (c : ℕ). slice_index t c) e ∙ here ∙ same

        only : (c : ℕ) → 1 ≤ slice_index t c → Dec (c ≡ n) → Among (log_edges which r) (instr c (slice_index t c)) y
        only c pos (yes e) =
            let v : slice_index t c ≡ a = ap (λ (i : ℕ). slice_index t i) e ∙ here in
            subst (λ (i : ℕ). Among (log_edges which r) (instr c i) y) (sym v)
            (subst (λ (i : ℕ). Among (log_edges which r) (instr i a) y) (sym e)
            (contains_among (log_edges which r) (instr n a) y has))
        only c pos (no ne) =
            let v = others c ne in
            subst (λ (i : ℕ). Among (log_edges which r) (instr c i) y) (sym v) (so_far.only c (omega arith))

    without : ((z : Instr) → Among (log_edges which r) z y → z.core ≡ n → ⊥) → SourcedTo (log_edges which r) y (n + 1) s
    without none = record {
      each = λ z m lt. each z m (earlier_or z.core n lt);
      only = so_far.only;
      rest = λ c le. so_far.rest c (omega arith);
    }
      where
        each : (z : Instr) → Among (log_edges which r) z y → (z.core < n) ⊎ (z.core ≡ n) →
            slice_index s z.core ≡ z.count
        each z m (inl lt) = so_far.each z m lt
        each z m (inr e) = absurd (none z m e)

    -- it has none
    pub sourced_none : ((b : ℕ) → HasEdge which r (instr n b) y → ◌≡◌ {A = Option ℕ} None (Some b)) →
        SourcedTo (log_edges which r) y (n + 1) s
    sourced_none one = without (λ z m e. cc (one z.count
        (subst (λ (c : ℕ). HasEdge which r (instr c z.count) y) e (among_contains (log_edges which r) z y m))))

    -- it is the instruction's own
    pub sourced_own : Valid r → n ≡ y.core → SourcedTo (log_edges which r) y (n + 1) s
    sourced_own valid own = without (λ z m e. (edge_within which r z y valid m).pair.differ (e ∙ own))

pub sourced_all : (which : Which) (r : Recording) (y : Instr) (n : ℕ) (s : List ℕ) → Valid r → r.params.cores ≤ n →
    SourcedTo (log_edges which r) y n s →
    AreSources (log_edges which r) y s
sourced_all which r y n s valid all h = record {
  each = λ z m. h.each z m (let lt = (edge_within which r z y valid m).pair.source in omega arith);
  only = h.only;
}

-- ---- one by one

pub listed_none : (s : List ℕ) (n : ℕ) → slice_index s n ≡ 0 → listed s (n + 1) ≡ listed s n
listed_none s n e =
    let t : nat_eq (slice_index s n) 0 ≡ true = grind (arith, nat_tests) in
    let k : n + 1 ≡ suc n = omega arith in
    ap (listed s) k ∙ ap (λ b. cond b (listed s n) (instr n (slice_index s n) ∷ listed s n)) t

pub listed_some : (s : List ℕ) (n : ℕ) → slice_index s n ≢ 0 → listed s (n + 1) ≡ instr n (slice_index s n) ∷ listed s n
listed_some s n ne =
    let t : nat_eq (slice_index s n) 0 ≡ false = grind (arith, nat_tests) in
    let k : n + 1 ≡ suc n = omega arith in
    ap (listed s) k ∙ ap (λ b. cond b (listed s n) (instr n (slice_index s n) ∷ listed s n)) t

-- the list has exactly the sources
one_of : (edges : List Edge) (y : Instr) (s : List ℕ) (n : ℕ) (z : Instr) → AreSources edges y s →
    IsOneOf (listed s n) z → Among edges z y
one_of edges y s zero z h o = absurd o
one_of edges y s (suc n) z h o = by (ℕ_discrete (slice_index s n) 0) o (one_of edges y s n z h)
  where
    by : Dec (slice_index s n ≡ 0) → IsOneOf (listed s (suc n)) z → (IsOneOf (listed s n) z → Among edges z y) →
        Among edges z y
    by (yes e) o go = go (let t : nat_eq (slice_index s n) 0 ≡ true = grind (arith, nat_tests) in
        subst (λ b. IsOneOf (cond b (listed s n) (instr n (slice_index s n) ∷ listed s n)) z) t o)
    by (no ne) o go = on (let t : nat_eq (slice_index s n) 0 ≡ false = grind (arith, nat_tests) in
        subst (λ b. IsOneOf (cond b (listed s n) (instr n (slice_index s n) ∷ listed s n)) z) t o)
      where
        on : IsOneOf (instr n (slice_index s n) ∷ listed s n) z → Among edges z y
        on (inl e) = subst (λ (x : Instr). Among edges x y) e (h.only n (omega arith))
        on (inr q) = go q

is_one : (edges : List Edge) (y : Instr) (s : List ℕ) (n : ℕ) (z : Instr) → AreSources edges y s → 1 ≤ z.count →
    z.core < n → Among edges z y →
    IsOneOf (listed s n) z
is_one edges y s zero z h pos lt m = absurd (omega arith)
is_one edges y s (suc n) z h pos lt m =
    by (ℕ_discrete (slice_index s n) 0) (ℕ_discrete z.core n) (is_one edges y s n z h pos)
  where
    value : z.core ≡ n → slice_index s n ≡ z.count
    value e = ap (λ (c : ℕ). slice_index s c) (sym e) ∙ h.each z m

    by : Dec (slice_index s n ≡ 0) → Dec (z.core ≡ n) → (z.core < n → Among edges z y → IsOneOf (listed s n) z) →
        IsOneOf (listed s (suc n)) z
    by (yes e) (yes own) go = let v = value own in absurd (omega arith)
    by (yes e) (no other) go =
        let t : nat_eq (slice_index s n) 0 ≡ true = grind (arith, nat_tests) in
        subst (λ b. IsOneOf (cond b (listed s n) (instr n (slice_index s n) ∷ listed s n)) z) (sym t)
        (go (omega arith) m)
    by (no ne) (yes own) go =
        let t : nat_eq (slice_index s n) 0 ≡ false = grind (arith, nat_tests) in
        subst (λ b. IsOneOf (cond b (listed s n) (instr n (slice_index s n) ∷ listed s n)) z) (sym t)
        (inl (instr_eq (instr n (slice_index s n)) z (sym own) (value own)))
    by (no ne) (no other) go =
        let t : nat_eq (slice_index s n) 0 ≡ false = grind (arith, nat_tests) in
        subst (λ b. IsOneOf (cond b (listed s n) (instr n (slice_index s n) ∷ listed s n)) z) (sym t)
        (inr (go (omega arith) m))

pub listed_are : (which : Which) (r : Recording) (y : Instr) (s : List ℕ) → Valid r →
    AreSources (log_edges which r) y s → (z : Instr) →
    (Among (log_edges which r) z y → IsOneOf (listed s r.params.cores) z) ×
    (IsOneOf (listed s r.params.cores) z → Among (log_edges which r) z y)
listed_are which r y s valid h z = (
  λ m. let w = edge_within which r z y valid m in
      is_one (log_edges which r) y s r.params.cores z h w.some_source w.pair.source m,
  λ o. one_of (log_edges which r) y s r.params.cores z h o,
)
