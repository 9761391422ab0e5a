-- What the look-ups of sources tell of a core that may be ready.
use Rattle.std.proofs.Common.{inl, inr, ◌≡◌, ◌≢◌, ◌⊎◌, ℕ, suc, ◌+◌, ◌<◌, ◌≤◌, Bool, true, false, leb, List, [], ◌∷◌}
use Rattle.std.proofs.Common.{◌++◌, length, refl, sym, ap, subst, ◌∙◌}
use Rattle.std.proofs.Common.{arith}
use Rattle.std.specs.Prelude.{slice_index, nat_lt, Option, Some, None, IsTrue}
use Rattle.std.specs.List.{Contains}
use Rattle.std.proofs.lemmas.Bool.{cases_Bool, leb-true}
use Rattle.std.proofs.lemmas.Bool.Decides.{nat_tests}
use Rattle.rtr_types.specs.declared.instr.Edge.{Edge}
use Rattle.rtr_types.specs.declared.instr.Instr.{Instr}
use Rattle.rtr_types.specs.declared.pairs.Which.{Which}
use Rattle.rv_core.specs.declared.outcome.Outcome.{Outcome}
use Rattle.race_log.specs.declared.recording.Recording.{Recording}
use Rattle.race_log.specs.Validity.{Valid}
use Rattle.race_log.specs.Sources.{log_edges, EdgeWithin, HasEdge}
use Rattle.race_log.proofs.SourceLaws.{edges-within}
use Rattle.clock_core.specs.Order.{Among}
use Rattle.clock_core.proofs.EdgeLists.{among_contains}
use Rattle.replay_core.specs.Plans.{Plan, plan_of}
use Rattle.replay_core.specs.Play.{Given, instr, valued_played}
use Rattle.replay_core.specs.Orders.{counts, nought, counts_in, Ready, IsReplayOrder, is_sourced, is_ready, lowest}
use Rattle.replay_core.specs.Answers.{IsMet}
use Rattle.replay_core.proofs.Lists.{one_more}
use Rattle.replay_core.proofs.Ready.{sourced_true, sourced_is, ready_true, ready_is, source_within, within_sourced}
use Rattle.replay_core.proofs.Places.{valued_play_law}

pub edge_within : (which : Which) (r : Recording) (x y : Instr) → Valid r → Among (log_edges which r) x y →
    EdgeWithin r x y
edge_within which r x y valid a = edges-within which r x y valid (among_contains (log_edges which r) x y a)

-- an edge's source is another core of the recording
pub apart : (which : Which) (r : Recording) (p : Plan) → Valid r → plan_of which r ≡ p → (from to : Instr) →
    Contains p.edges (record { from = from; to = to }) → (from.core < length p.totals) × (from.core ≢ to.core)
apart which r p valid is from to =
    subst (λ (q : Plan). Contains q.edges (record { from = from; to = to }) → (from.core < length q.totals) ×
    (from.core ≢ to.core)) is here
  where
    here : HasEdge which r from to → (from.core < length r.totals) × (from.core ≢ to.core)
    here has =
        let pair = (edges-within which r from to valid has).pair in
        let source = pair.source in
        let each = valid.each_core in
        (omega arith, pair.differ)

-- ---- one core's edge

pub met_some : (edges : List Edge) (f : ℕ → ℕ) (of n count : ℕ) (at : Instr) → count ≡ f of →
    Contains edges (record { from = instr of n; to = at }) →
    ((a : ℕ) → Contains edges (record { from = instr of a; to = at }) → Some n ≡ Some a) →
    (IsTrue (leb n count) → IsMet edges f of at) × (IsMet edges f of at → IsTrue (leb n count))
met_some edges f of n count at is has only = (forth, back)
  where
    forth : IsTrue (leb n count) → IsMet edges f of at
    forth t a other =
        let le = leb-true n count t in
        let same : n ≡ a = cc (only a other) in
        omega arith

    back : IsMet edges f of at → IsTrue (leb n count)
    back met = let le = met n has in grind (arith, nat_tests)

pub met_none : (edges : List Edge) (f : ℕ → ℕ) (of : ℕ) (at : Instr) →
    ((a : ℕ) → Contains edges (record { from = instr of a; to = at }) → ◌≡◌ {A = Option ℕ} None (Some a)) →
    (IsTrue true → IsMet edges f of at) × (IsMet edges f of at → IsTrue true)
met_none edges f of at only = (λ t a other. absurd (cc (only a other)), λ met. refl)

-- ---- all of them

pub unmet : (edges : List Edge) (f : ℕ → ℕ) (of c n : ℕ) → (IsMet edges f of (instr c n) → ⊥) →
    false ≡ is_sourced edges f c n
unmet edges f of c n not_met = by (cases_Bool (is_sourced edges f c n))
  where
    by : (is_sourced edges f c n ≡ true) ⊎ (is_sourced edges f c n ≡ false) → false ≡ is_sourced edges f c n
    by (inl t) = absurd (not_met (λ a has. source_within edges f c n (sourced_true edges f c n t) (instr of a) has))
    by (inr t) = sym t

pub all_met : (edges : List Edge) (f : ℕ → ℕ) (c n cores : ℕ) →
    ((from : Instr) → Contains edges (record { from = from; to = instr c n }) → (from.core < cores) × (from.core ≢ c)) →
    ((i : ℕ) → i < cores → i ≢ c → IsMet edges f i (instr c n)) → true ≡ is_sourced edges f c n
all_met edges f c n cores within met =
    sym (sourced_is edges f c n
    (within_sourced edges f c n (λ from has. let w = within from has in met from.core w.0 w.1 from.count has)))

pub met_more : (edges : List Edge) (f : ℕ → ℕ) (c of : ℕ) (at : Instr) →
    ((i : ℕ) → i < of → i ≢ c → IsMet edges f i at) → (of ≢ c → IsMet edges f of at) →
    (i : ℕ) → i < of + 1 → i ≢ c → IsMet edges f i at
met_more edges f c of at before here i below differ = by (below_or i of below)
  where
    below_or : (i of : ℕ) → i < of + 1 → (i < of) ⊎ (i ≡ of)
    below_or i of below = grind arith

    by : (i < of) ⊎ (i ≡ of) → IsMet edges f i at
    by (inl lt) = before i lt differ
    by (inr e) = subst (λ (k : ℕ). IsMet edges f k at) (sym e) (here (λ same. differ (e ∙ same)))

-- ---- readiness

pub ready_by : (p : Plan) (f : ℕ → ℕ) (c count total : ℕ) (b : Bool) → c < length p.totals → count ≡ f c →
    total ≡ slice_index p.totals c → count < total →
    b ≡ is_sourced p.edges f c (count + 1) → b ≡ is_ready p f c
ready_by p f c count total b inside count_is total_is below is =
    let one : nat_lt c (length p.totals) ≡ true = grind (arith, nat_tests) in
    let two : nat_lt (f c) (slice_index p.totals c) ≡ true = grind (arith, nat_tests) in
    rw (one, two) (is ∙ ap (λ (n : ℕ). is_sourced p.edges f c (n + 1)) count_is)

pub ready_not : (p : Plan) (f : ℕ → ℕ) (c count total : ℕ) → c < length p.totals → count ≡ f c →
    total ≡ slice_index p.totals c → total ≤ count →
    nat_lt count total ≡ is_ready p f c
ready_not p f c count total inside count_is total_is above =
    let zero_is : nat_lt count total ≡ false = grind (arith, nat_tests) in
    let one : nat_lt c (length p.totals) ≡ true = grind (arith, nat_tests) in
    let two : nat_lt (f c) (slice_index p.totals c) ≡ false = grind (arith, nat_tests) in
    rw (zero_is, one, two) refl

-- a core is ready exactly where its place can be added
pub ready_order : (p : Plan) (s : Outcome) (c : ℕ) (b : Bool) → b ≡ is_ready p (counts_in s) c →
    (given : Given) (order : List ℕ) → IsReplayOrder p order →
    s ≡ valued_played given p order →
    (IsTrue b → IsReplayOrder p (order ++ c ∷ [])) × (IsReplayOrder p (order ++ c ∷ []) → IsTrue b)
ready_order p s c b is given order ordered state =
    let same : counts_in s ≡ counts nought order =
    ap (λ (t : Outcome). counts_in t) state ∙ (valued_play_law given p order ordered).counts in (
      λ t. (one_more p order c ordered).1
          (subst (λ (f : ℕ → ℕ). Ready p f c) same (ready_true p (counts_in s) c (sym is ∙ t))),
      λ more. is ∙ ready_is p (counts_in s) c
          (subst (λ (f : ℕ → ℕ). Ready p f c) (sym same) ((one_more p order c ordered).0 more)),
    )

pub lowest_on : (p : Plan) (f : ℕ → ℕ) (c n m d : ℕ) → n ≡ suc m → d ≡ c + 1 → is_ready p f c ≡ false →
    lowest p f d m ≡ lowest p f c n
lowest_on p f c n m d e g t = rw (e, g, t) refl
