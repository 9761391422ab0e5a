-- What is known of the edges into a core, as its instructions go on.
use Rattle.std.proofs.Common.{inl, inr, ◌≡◌, ◌≢◌, ◌⊎◌, ℕ, zero, suc, ◌+◌, ◌-◌, ◌^◌, ◌<◌, ◌≤◌, List, [], ◌∷◌, ◌++◌}
use Rattle.std.proofs.Common.{length, get_or}
use Rattle.std.proofs.Common.{replicate, Option, Some, None}
use Rattle.std.proofs.Common.{refl, sym, ap, subst, ◌∙◌, arith, length-set, get_or-set_same, get_or-set_other}
use Rattle.std.specs.Prelude.{slice_index, slice_set, IfSome}
use Rattle.std.proofs.lemmas.Bool.{cases_lt}
use Rattle.std.proofs.lemmas.List.{length-append, get_or_append_left, get_or_push}
use native.Mathlib.Decide.{ℕ_discrete}
use Rattle.rtr_types.specs.declared.TheConstants.{CORES_MAX}
use Rattle.rtr_types.specs.declared.instr.Instr.{Instr}
use Rattle.rtr_types.specs.declared.instr.Edge.{Edge}
use Rattle.rtr_types.specs.declared.pairs.Which.{Which}
use Rattle.rtr_types.proofs.Ranges.{zero_at}
use Rattle.clock_core.specs.Counts.{no_counts}
use Rattle.clock_core.proofs.EdgeLists.{among_contains}
use Rattle.race_log.specs.declared.recording.Recording.{Recording}
use Rattle.race_log.specs.Sources.{log_edges}
use Rattle.race_log.specs.Validity.{Valid}
use Rattle.race_log.proofs.SourceLaws.{edges-within, one-source}
use Rattle.replay_core.specs.Plans.{Plan, plan_of}
use Rattle.replay_core.specs.Play.{instr}
use Rattle.replay_core.specs.declared.coming.Coming.{Coming}
use Rattle.replay_core.specs.Sources.{AreSources, listed}
use Rattle.replay_core.specs.Coming.{IsFirstInto, IsNextInto, IsPut, IsSource, IsSourceIn, IsStillNext, IsTaken}
use Rattle.replay_core.specs.Coming.{IsComing, Leads, PassesCore}
use Rattle.replay_core.specs.Coming.{AreComing, edge_of}
use Rattle.replay_core.specs.Coming.{coming_at, no_coming}
use Rattle.replay_core.proofs.InstructionSources.{SourcedTo, sourced_some, sourced_none, sourced_own}
use Rattle.replay_core.proofs.InstructionSources.{sourced_all, listed_none}

abbrev no_known : Option (ℕ × ℕ)
no_known = None

-- an array of none has none
pub none_there : (n i : ℕ) → get_or (replicate n no_known) i None ≡ None
none_there zero i = refl
none_there (suc n) zero = refl
none_there (suc n) (suc i) = none_there n i

-- no counts list no sources
pub listed_nothing : (n : ℕ) → listed no_counts n ≡ []
listed_nothing zero = refl
listed_nothing (suc n) =
    let one : suc n ≡ n + 1 = omega arith in
    ap (listed no_counts) one ∙ listed_none no_counts n (zero_at CORES_MAX n) ∙ listed_nothing n

module _ (which : Which) (r : Recording) (valid : Valid r) where
  -- each edge's counts lie below every count that isn't in the ranges
  pub target_below : (of a core b : ℕ) → Leads (log_edges which r) of a core b → b < 2 ^ 32 - 1
  target_below of a core b has =
      let w = edges-within which r (instr of a) (instr core b) valid has in
      let inside : core < length r.totals = let e = valid.each_core in let lt = w.pair.target in omega arith in
      let small = valid.totals core 0 inside in
      let most = valid.params.limit in
      let le = w.target_most in
      omega arith

  pub source_core : (of a core b : ℕ) → Leads (log_edges which r) of a core b → of < r.params.cores
  source_core of a core b has = (edges-within which r (instr of a) (instr core b) valid has).pair.source

  pub other_core : (of a core b : ℕ) → Leads (log_edges which r) of a core b → of ≢ core
  other_core of a core b has = (edges-within which r (instr of a) (instr core b) valid has).pair.differ

  -- before anything is known
  pub coming_unknown : (core n : ℕ) (k : Coming) → k.from ≡ 2 ^ 32 - 1 → ((i : ℕ) → edge_of k i ≡ None) →
      IsComing (log_edges which r) core n k
  coming_unknown core n k from none = record {
    each = λ i lt ne. subst (IsNextInto (log_edges which r) i (instr core k.from)) (sym (none i))
        (λ a b has. let low = target_below i a core b has in omega arith);
    due = λ i a b lt has le. absurd (let low = target_below i a core b has in omega arith);
  }

  -- none is due yet
  pub no_sources : (k : Coming) (at : Instr) → IsComing (log_edges which r) at.core r.params.cores k →
      k.from ≤ at.count → at.count < k.due →
      AreSources (log_edges which r) at no_counts
  no_sources k at h from due = record {
    each = λ z m. absurd (let has : Leads (log_edges which r) z.core z.count at.core at.count =
        among_contains (log_edges which r) z at m in
        let le = h.due z.core z.count at.count (source_core z.core z.count at.core at.count has) has from in
        omega arith);
    only = λ c some. absurd (let none = zero_at CORES_MAX c in omega arith);
  }

  -- ---- one core

  -- what is known is still to come
  pub known_none : (k : Coming) (of : ℕ) (at : Instr) →
      IsNextInto (log_edges which r) of (instr at.core k.from) (edge_of k of) →
      k.from ≤ at.count → edge_of k of ≡ None → IsNextInto (log_edges which r) of at None
  known_none k of at h from is =
      let known = subst (IsNextInto (log_edges which r) of (instr at.core k.from)) is h in
      λ a b has. let low = known a b has in omega arith

  pub known_some : (k : Coming) (of : ℕ) (at : Instr) (e : ℕ × ℕ) →
      IsNextInto (log_edges which r) of (instr at.core k.from) (edge_of k of) →
      k.from ≤ at.count → edge_of k of ≡ Some e → at.count ≤ e.1 → IsNextInto (log_edges which r) of at (Some e)
  known_some k of at e h from is le =
      let known : IsFirstInto (log_edges which r) of (instr at.core k.from) e =
      subst (IsNextInto (log_edges which r) of (instr at.core k.from)) is h in
      record { there = known.there; least = le; first = λ a b has up. known.first a b has (omega arith) }

  pub known_next : (k : Coming) (of : ℕ) (at : Instr) (o : Option (ℕ × ℕ)) →
      IsNextInto (log_edges which r) of (instr at.core k.from) (edge_of k of) →
      IsStillNext k of at.count o → IsNextInto (log_edges which r) of at o
  known_next k of at None h s = known_none k of at h s.known (sym s.edge_is)
  known_next k of at (Some e) h s = known_some k of at e h s.known (sym s.edge_is) s.still

  -- the next edge leads to the instruction itself
  pub source_here : (of : ℕ) (at : Instr) (e : ℕ × ℕ) → IsFirstInto (log_edges which r) of at e → e.1 ≡ at.count →
      IsSource (log_edges which r) of at (Some e.0)
  source_here of at e f same =
      let there : Leads (log_edges which r) of e.0 at.core at.count =
      subst (λ (b : ℕ). Leads (log_edges which r) of e.0 at.core b) same f.there in record {
        found = λ a is. let eq : e.0 ≡ a = cc in
            subst (λ (x : ℕ). Leads (log_edges which r) of x at.core at.count) eq there;
        only = λ a has. ap (λ (x : Instr). Some x.count)
            (one-source which r (instr of e.0) (instr of a) (instr at.core at.count) valid there has refl);
      }

  -- or to a later one, or there is none
  pub no_source : (of : ℕ) (at : Instr) (o : Option (ℕ × ℕ)) → IsNextInto (log_edges which r) of at o →
      IfSome o (λ e. e.1 ≢ at.count) →
      IsSource (log_edges which r) of at None
  no_source of at None next other = record {
    found = λ a is. absurd (cc);
    only = λ a has. absurd (let low = next a at.count has in omega arith);
  }
  no_source of at (Some e) next other = record {
    found = λ a is. absurd (cc);
    only = λ a has. absurd (let low = next.first a at.count has (omega arith) in let least = next.least in
        other (omega arith));
  }

  pub still_next : (of : ℕ) (at : Instr) (o : Option (ℕ × ℕ)) → IsNextInto (log_edges which r) of at o →
      IfSome o (λ e. e.1 ≢ at.count) →
      IsNextInto (log_edges which r) of (instr at.core (at.count + 1)) o
  still_next of at None next other = λ a b has. let low = next a b has in omega arith
  still_next of at (Some e) next other = record {
    there = next.there;
    least = let least = next.least in elim (ℕ_discrete e.1 at.count) [
      | yes same ↦ absurd (other same)
      | no ne ↦ omega arith
    ];
    first = λ a b has le. next.first a b has (omega arith);
  }

  -- the source that is in the next edge
  pub source_by : (of : ℕ) (at : Instr) (o : Option (ℕ × ℕ)) (source : Option ℕ) →
      IsNextInto (log_edges which r) of at o → IsSourceIn o at.count source →
      IsSource (log_edges which r) of at source
  source_by of at o None next s = no_source of at o next (s.none refl)
  source_by of at o (Some a) next s =
      source_here of at (a, at.count) (subst (IsNextInto (log_edges which r) of at) (s.found a refl) next) refl

  -- what is known leads to a later instruction
  pub stays_passes : (k m : Coming) (of : ℕ) (at : Instr) (s : List ℕ) →
      IsNextInto (log_edges which r) of (instr at.core k.from) (edge_of k of) → k.from ≤ at.count →
      IfSome (edge_of k of) (λ e. at.count < e.1) → IsPut k of (edge_of k of) m →
      PassesCore (log_edges which r) at of s k s m
  stays_passes k m of at s known from later put = record {
    source = None;
    next = edge_of k of;
    source_is = no_source of at (edge_of k of) here (apart_by (edge_of k of) later);
    next_is = still_next of at (edge_of k of) here (apart_by (edge_of k of) later);
    taken = refl;
    put = put;
  }
    where
      still_by : (o : Option (ℕ × ℕ)) → IfSome o (λ e. at.count < e.1) → IfSome o (λ e. at.count ≤ e.1)
      still_by None h = tt
      still_by (Some e) h = omega arith

      apart_by : (o : Option (ℕ × ℕ)) → IfSome o (λ e. at.count < e.1) → IfSome o (λ e. e.1 ≢ at.count)
      apart_by None h = tt
      apart_by (Some e) h = λ same. omega arith

      here : IsNextInto (log_edges which r) of at (edge_of k of)
      here = known_next k of at (edge_of k of) known
          (record { known = from; edge_is = refl; still = still_by (edge_of k of) later })

  -- ---- each core in turn

  module _ (core n : ℕ) (k : Coming) (h : IsComing (log_edges which r) core n k) where
    pub coming_own : n ≡ core → IsComing (log_edges which r) core (n + 1) k
    coming_own own = record {
      each = λ i lt ne. h.each i (below i lt (λ e. ne (e ∙ own))) ne;
      due = λ i a b lt has le. h.due i a b (below i lt (λ e. other_core i a core b has (e ∙ own))) has le;
    }
      where
        below : (i : ℕ) → i < n + 1 → i ≢ n → i < n
        below i lt ne = grind arith

    pub coming_more : (e : Option (ℕ × ℕ)) (m : Coming) → IsNextInto (log_edges which r) n (instr core k.from) e →
        m.from ≡ k.from → edge_of m n ≡ e →
        ((i : ℕ) → i ≢ n → edge_of m i ≡ edge_of k i) → m.due ≤ k.due → IfSome e (λ x. m.due ≤ x.1) →
        IsComing (log_edges which r) core (n + 1) m
    coming_more e m next from here others before due = record {
      each = λ i lt ne. each i lt ne (ℕ_discrete i n);
      due = λ i a b lt has le. is_due i a b lt has le (ℕ_discrete i n);
    }
      where
        each : (i : ℕ) → i < n + 1 → i ≢ core → Dec (i ≡ n) →
            IsNextInto (log_edges which r) i (instr core m.from) (edge_of m i)
        each i lt ne (yes same) =
            subst (λ (j : ℕ). IsNextInto (log_edges which r) j (instr core m.from) (edge_of m j)) (sym same)
            (subst (λ (c : ℕ). IsNextInto (log_edges which r) n (instr core c) (edge_of m n)) (sym from)
            (subst (IsNextInto (log_edges which r) n (instr core k.from)) (sym here) next))
        each i lt ne (no other) =
            subst (λ (c : ℕ). IsNextInto (log_edges which r) i (instr core c) (edge_of m i)) (sym from)
            (subst (IsNextInto (log_edges which r) i (instr core k.from)) (sym (others i other))
            (h.each i (let e = other in grind arith) ne))

        next_due : (o : Option (ℕ × ℕ)) → IsNextInto (log_edges which r) n (instr core k.from) o →
            IfSome o (λ x. m.due ≤ x.1) → (a b : ℕ) →
            Leads (log_edges which r) n a core b → k.from ≤ b → m.due ≤ b
        next_due None none low a b has le = absurd (let lt = none a b has in omega arith)
        next_due (Some x) some low a b has le = let up = some.first a b has le in omega arith

        is_due : (i a b : ℕ) → i < n + 1 → Leads (log_edges which r) i a core b → m.from ≤ b → Dec (i ≡ n) → m.due ≤ b
        is_due i a b lt has le (yes same) =
            next_due e next due a b (subst (λ (j : ℕ). Leads (log_edges which r) j a core b) same has) (omega arith)
        is_due i a b lt has le (no other) = let low = h.due i a b (let e = other in grind arith) has (omega arith) in
            omega arith

-- the first cores, of which nothing is known yet
pub record AreUnknown (n : ℕ) (list : List Coming) : Type 0 where
  pub all : length list ≡ n
  pub from : (c : ℕ) → c < n → (coming_at list c).from ≡ 2 ^ 32 - 1
  pub none : (c i : ℕ) → c < n → edge_of (coming_at list c) i ≡ None

pub unknown_none : AreUnknown 0 []
unknown_none = record { all = refl; from = λ c lt. absurd (omega arith); none = λ c i lt. absurd (omega arith) }

pub unknown_more : (n : ℕ) (list : List Coming) (k : Coming) → AreUnknown n list → k.from ≡ 2 ^ 32 - 1 →
    ((i : ℕ) → edge_of k i ≡ None) →
    AreUnknown (n + 1) (list ++ k ∷ [])
unknown_more n list k h from none = record {
  all = length-append list (k ∷ []) ∙ ap (λ (m : ℕ). m + 1) h.all;
  from = λ c lt. by c (cases_lt c n) lt;
  none = λ c i lt. nothing c i (cases_lt c n) lt;
}
  where
    before : (c : ℕ) → c < n → coming_at (list ++ k ∷ []) c ≡ coming_at list c
    before c lt = get_or_append_left list (k ∷ []) no_coming c (let a = h.all in omega arith)

    here : (c : ℕ) → c ≡ n → coming_at (list ++ k ∷ []) c ≡ k
    here c e = get_or_push list k no_coming c (h.all ∙ sym e)

    by : (c : ℕ) → (c < n) ⊎ (n ≤ c) → c < n + 1 → (coming_at (list ++ k ∷ []) c).from ≡ 2 ^ 32 - 1
    by c (inl lt) most = ap (λ (x : Coming). x.from) (before c lt) ∙ h.from c lt
    by c (inr le) most = ap (λ (x : Coming). x.from) (here c (omega arith)) ∙ from

    nothing : (c i : ℕ) → (c < n) ⊎ (n ≤ c) → c < n + 1 → edge_of (coming_at (list ++ k ∷ []) c) i ≡ None
    nothing c i (inl lt) most = ap (λ (x : Coming). edge_of x i) (before c lt) ∙ h.none c i lt
    nothing c i (inr le) most = ap (λ (x : Coming). edge_of x i) (here c (omega arith)) ∙ none i

pub unknown_coming : (which : Which) (r : Recording) (n : ℕ) (list : List Coming) → Valid r → AreUnknown n list →
    n ≡ r.params.cores →
    AreComing which r list
unknown_coming which r n list valid h is = record {
  valid = valid;
  all = h.all ∙ is;
  each = λ c lt. coming_unknown which r valid c r.params.cores (coming_at list c) (h.from c (omega arith))
      (λ i. h.none c i (omega arith));
}

-- one core's edges are known anew
pub coming_step : (which : Which) (r : Recording) (p : Plan) (list : List Coming) (core : ℕ) (k : Coming) →
    AreComing which r list → plan_of which r ≡ p →
    core < length p.totals → IsComing p.edges core (length p.totals) k → AreComing which r (slice_set list core k)
coming_step which r p list core k h is lt new = record {
  valid = h.valid;
  all = length-set list core k ∙ h.all;
  each = λ c below. each c below (ℕ_discrete c core);
}
  where
    cores_are : length p.totals ≡ r.params.cores
    cores_are = sym (ap (λ (q : Plan). length q.totals) is) ∙ h.valid.each_core

    known : IsComing (log_edges which r) core r.params.cores k
    known = subst (λ (n : ℕ). IsComing (log_edges which r) core n k) cores_are
        (subst (λ (q : Plan). IsComing q.edges core (length p.totals) k) (sym is) new)

    each : (c : ℕ) → c < r.params.cores → Dec (c ≡ core) →
        IsComing (log_edges which r) c r.params.cores (coming_at (slice_set list core k) c)
    each c below (yes same) =
        let inside : core < length list = let a = h.all in let e = cores_are in omega arith in
        subst (λ (i : ℕ). IsComing (log_edges which r) i r.params.cores (coming_at (slice_set list core k) i))
        (sym same)
        (subst (IsComing (log_edges which r) core r.params.cores) (sym (get_or-set_same list core k no_coming inside))
        known)
    each c below (no other) =
        subst (IsComing (log_edges which r) c r.params.cores) (sym (get_or-set_other list core c k no_coming other))
        (h.each c below)

-- ---- what is found of an instruction, core by core

-- as far as core n: the sources of y, and the next edges to later instructions
pub record LookedTo (edges : List Edge) (y : Instr) (n : ℕ) (s : List ℕ) (k : Coming) : Type 0 where
  pub from : k.from ≡ y.count + 1
  pub sourced : SourcedTo edges y n s
  pub next : IsComing edges y.core n k

-- k with another count to begin from
abbrev pub with_from : ℕ → Coming → Coming
with_from n k = record { from = n; due = k.due; edges = k.edges; places = k.places }

-- the same of edges that are changed in place, which begin from the old count until all are
pub record PassedTo (edges : List Edge) (y : Instr) (n : ℕ) (s : List ℕ) (old k : Coming) : Type 0 where
  pub from : k.from ≡ old.from
  pub rest : (i : ℕ) → n ≤ i → edge_of k i ≡ edge_of old i
  pub looked : LookedTo edges y n s (with_from (y.count + 1) k)

abbrev LooksOwn : List Edge → Type 0
LooksOwn edges = (y : Instr) (n : ℕ) (s : List ℕ) (k : Coming) → LookedTo edges y n s k → n ≡ y.core →
    LookedTo edges y (n + 1) s k

abbrev LooksMore : List Edge → Type 0
LooksMore edges = (y : Instr) (n : ℕ) (s t : List ℕ) (k m : Coming) (source : Option ℕ) (e : Option (ℕ × ℕ)) →
    LookedTo edges y n s k →
    IsSource edges n y source → IsNextInto edges n (instr y.core (y.count + 1)) e → IsTaken source n s t →
    IsPut k n e m → LookedTo edges y (n + 1) t m

module _ (which : Which) (r : Recording) (valid : Valid r) where
  own_looked : LooksOwn (log_edges which r)
  own_looked y n s k h own = record {
    from = h.from;
    sourced = sourced_own which r y n s h.sourced valid own;
    next = coming_own which r valid y.core n k h.next own;
  }

  taken : (y : Instr) (n : ℕ) (s t : List ℕ) (source : Option ℕ) → SourcedTo (log_edges which r) y n s →
      IsSource (log_edges which r) n y source →
      IsTaken source n s t → SourcedTo (log_edges which r) y (n + 1) t
  taken y n s t None h is same =
      subst (SourcedTo (log_edges which r) y (n + 1)) (sym same) (sourced_none which r y n s h (λ b has. is.only b has))
  taken y n s t (Some a) h is (here, others) =
      sourced_some which r y n s h a t (is.found a refl) (λ b has. is.only b has) here others

  more_looked : LooksMore (log_edges which r)
  more_looked y n s t k m source e h is next took put = record {
    from = put.from ∙ h.from;
    sourced = taken y n s t source h.sourced is took;
    next = coming_more which r valid y.core n k h.next e m
        (subst (λ (x : ℕ). IsNextInto (log_edges which r) n (instr y.core x) e) (sym h.from) next) put.from put.at
        put.others put.before put.due;
  }

  -- in place: of the cores from n on nothing has changed yet
  module _ (y : Instr) (n : ℕ) (s : List ℕ) (old k : Coming) (h : PassedTo (log_edges which r) y n s old k) where
    pub pass_own : n ≡ y.core → PassedTo (log_edges which r) y (n + 1) s old k
    pass_own own =
        record {
          from = h.from;
          rest = λ i le. h.rest i (omega arith);
          looked =
              own_looked y n s (with_from (y.count + 1) k) h.looked own;
        }

    pub pass_more : (t : List ℕ) (m : Coming) (source : Option ℕ) (e : Option (ℕ × ℕ)) →
        IsSource (log_edges which r) n y source →
        IsNextInto (log_edges which r) n (instr y.core (y.count + 1)) e → IsTaken source n s t → IsPut k n e m →
        PassedTo (log_edges which r) y (n + 1) t old m
    pass_more t m source e is next took put = record {
      from = put.from ∙ h.from;
      rest = λ i le. put.others i (λ e. omega arith) ∙ h.rest i (omega arith);
      looked = more_looked y n s t (with_from (y.count + 1) k) (with_from (y.count + 1) m) source e h.looked is next
          took
          (record { from = refl; at = put.at; others = put.others; before = put.before; due = put.due });
    }

    -- the next edge from core n is as it was known before
    pub pass_known : IsComing (log_edges which r) y.core r.params.cores old → n < r.params.cores → n ≢ y.core →
        IsNextInto (log_edges which r) n (instr y.core k.from) (edge_of k n)
    pass_known was lt ne =
        subst (λ (c : ℕ). IsNextInto (log_edges which r) n (instr y.core c) (edge_of k n)) (sym h.from)
        (subst (IsNextInto (log_edges which r) n (instr y.core old.from)) (sym (h.rest n (omega arith)))
        (was.each n lt ne))

    pub passed_sources : r.params.cores ≤ n → AreSources (log_edges which r) y s
    passed_sources all = sourced_all which r y n s valid all h.looked.sourced

    pub passed_coming : r.params.cores ≡ n →
        IsComing (log_edges which r) y.core r.params.cores (with_from (y.count + 1) k)
    passed_coming all = subst (λ (c : ℕ). IsComing (log_edges which r) y.core c (with_from (y.count + 1) k)) (sym all)
        h.looked.next

pub look_start : (edges : List Edge) (y : Instr) (s : List ℕ) (k : Coming) → s ≡ no_counts → k.from ≡ y.count + 1 →
    LookedTo edges y 0 s k
look_start edges y s k none from = record {
  from = from;
  sourced = record {
    each = λ z m lt. absurd (omega arith);
    only = λ c some. absurd (let zero = nothing c in omega arith);
    rest = λ c le. nothing c;
  };
  next = record { each = λ i lt ne. absurd (omega arith); due = λ i a b lt has le. absurd (omega arith) };
}
  where
    nothing : (c : ℕ) → slice_index s c ≡ 0
    nothing c = ap (λ (l : List ℕ). slice_index l c) none ∙ zero_at CORES_MAX c

pub pass_start : (edges : List Edge) (y : Instr) (s : List ℕ) (old k : Coming) → s ≡ no_counts → k.from ≡ old.from →
    k.edges ≡ old.edges →
    PassedTo edges y 0 s old k
pass_start edges y s old k none from same =
    record {
      from = from;
      rest = λ i le. ap (λ (l : List (Option (ℕ × ℕ))). get_or l i None) same;
      looked = look_start edges y s (with_from (y.count + 1) k) none refl;
    }

pub taken_some : (source : Option ℕ) (a n : ℕ) (s t : List ℕ) → source ≡ Some a → slice_index t n ≡ a →
    ((i : ℕ) → i ≢ n → slice_index t i ≡ slice_index s i) →
    IsTaken source n s t
taken_some source a n s t is here others = subst (λ (o : Option ℕ). IsTaken o n s t) (sym is) (here, others)

pub taken_none : (source : Option ℕ) (n : ℕ) (s : List ℕ) → source ≡ None → IsTaken source n s s
taken_none source n s is = subst (λ (o : Option ℕ). IsTaken o n s s) (sym is) refl
