-- Closing a cut by going along the arrivals.
use Rattle.std.proofs.Common.{◌≡◌, ◌≢◌, ℕ, zero, suc, ◌+◌, ◌-◌, ◌*◌, ◌<◌, ◌≤◌, ◌^◌, ◌⊎◌, inl, inr, List, [], length}
use Rattle.std.proofs.Common.{get_or, max, refl, sym, ap, subst, ◌∙◌}
use Rattle.std.proofs.Common.{true, false, arith}
use Rattle.std.specs.Prelude.{Bool, Option, Some, None}
use Rattle.std.proofs.Math.Nat.{mul-le-mul_left, eq-zero-or-pos}
use Rattle.std.proofs.lemmas.List.{get_or_default}
use Rattle.std.proofs.lemmas.Bool.{cases_lt, cases_eq}
use Rattle.rtr_types.specs.declared.TheConstants.{CORES_MAX}
use Rattle.rtr_types.specs.declared.instr.Instr.{Instr}
use Rattle.rtr_types.specs.declared.instr.Edge.{Edge}
use Rattle.rtr_types.proofs.Instrs.{instr_eq}
use Rattle.clock_core.specs.Order.{Among, Before, IsOrLeads}
use Rattle.clock_core.proofs.Paths.{joined, one}
use Rattle.vector_reduce.specs.declared.arrivals.Arrival.{Arrival}
use Rattle.vector_reduce.specs.declared.closing.Closing.{Closing}
use Rattle.vector_reduce.specs.declared.pair_vector.PairVector.{PairVector}
use Rattle.vector_reduce.specs.declared.thinned.Shown.{Shown}
use Rattle.vector_reduce.specs.Arrivals.{AnyDue, Arranged, Arranges, Arrives, HasPassed, IsBetween, IsClosedAt}
use Rattle.vector_reduce.specs.Arrivals.{IsClosing, IsDue, Leads, Passes}
use Rattle.vector_reduce.specs.Arrivals.{Raises}
use Rattle.vector_reduce.specs.Arrivals.{Takes, Tries, arrival, arrival_at, counts_of, edges_beside, list_at}
use Rattle.vector_reduce.specs.Arrivals.{no_arrival, passed_of}
use Rattle.vector_reduce.specs.Cuts.{Holds, IsClosed, IsLeastCut}
use Rattle.vector_reduce.specs.Kept.{beside, is_beside}
use Rattle.vector_reduce.specs.Showing.{IsLeastShown}
use Rattle.vector_reduce.specs.Thinning.{IsImplied}
use Rattle.vector_reduce.specs.Vectors.{edge_at, edges_in, vector_at}
use Rattle.vector_reduce.proofs.ClosedCuts.{closed_holds}
use Rattle.vector_reduce.proofs.Edges.{among_beside, beside_among, edge_among}

abbrev at : ℕ → ℕ → Instr
at core count = record { core = core; count = count }

-- ---- what lies in the cut

-- an instruction up to one that leads to y does
up_to : (edges : List Edge) (x z y : Instr) → x.core ≡ z.core → x.count ≤ z.count → IsOrLeads (Among edges) z y →
    IsOrLeads (Among edges) x y
up_to edges x z y core le leads = by (cases x.count z.count le)
  where
    cases : (m n : ℕ) → m ≤ n → (m ≡ n) ⊎ (m < n)
    cases m n h = grind arith

    after : x.count < z.count → IsOrLeads (Among edges) z y → IsOrLeads (Among edges) x y
    after lt (inl e) = inr (one (Among edges) x y
        (inl (core ∙ ap (λ (i : Instr). i.core) e, let s = ap (λ (i : Instr). i.count) e in omega (arith, lt, s))))
    after lt (inr b) = inr (joined (Among edges) x z y (one (Among edges) x z (inl (core, lt))) b)

    by : (x.count ≡ z.count) ⊎ (x.count < z.count) → IsOrLeads (Among edges) x y
    by (inl e) = subst (λ (i : Instr). IsOrLeads (Among edges) i y) (sym (instr_eq x z core e)) leads
    by (inr lt) = after lt leads

pub nothing_closing : (a : Arranged) (stays : List Bool) (y : Instr) (s : Closing) →
    ((core : ℕ) → counts_of s core ≡ 0) →
    ((core : ℕ) → passed_of s core ≡ 0) → IsClosing a stays y s
nothing_closing a stays y s none fresh = record {
  passed = record { sources = λ core i inside lt there is. absurd (let n = fresh core in omega (arith, lt, n)) };
  leads = λ x some held. absurd (let n = none x.core in omega (arith, some, held, n));
}

-- what leads to an earlier instruction of a core leads to a later one
pub later_closing : (a : Arranged) (stays : List Bool) (x y : Instr) (s : Closing) → x.core ≡ y.core →
    x.count ≤ y.count → IsClosing a stays x s →
    IsClosing a stays y s
later_closing a stays x y s core le c = record { passed = c.passed; leads = λ z some held. on (c.leads z some held) }
  where
    es : List Edge
    es = edges_beside a.vectors stays

    xy : IsOrLeads (Among es) x y
    xy = up_to es x y y core le (inl refl)

    further : {z : Instr} → Before (Among es) z x → IsOrLeads (Among es) x y → IsOrLeads (Among es) z y
    further {z} b (inl e) = inr (subst (λ (i : Instr). Before (Among es) z i) e b)
    further {z} b (inr p) = inr (joined (Among es) z x y b p)

    on : {z : Instr} → IsOrLeads (Among es) z x → IsOrLeads (Among es) z y
    on {z} (inl e) = subst (λ (i : Instr). IsOrLeads (Among es) i y) (sym e) xy
    on {z} (inr b) = further b xy

-- ---- one instruction more

pub raised_holds : (s t : Closing) (z : Instr) → Raises s z t → Holds (counts_of t) z
raised_holds s t z r = let e = r.at_core in omega (arith, e)

pub raised_keeps : (s t : Closing) (z x : Instr) → Raises s z t → Holds (counts_of s) x → Holds (counts_of t) x
raised_keeps s t z x r h = by (cases_eq x.core z.core)
  where
    by : (x.core ≡ z.core) ⊎ (x.core ≢ z.core) → Holds (counts_of t) x
    by (inl e) =
        let new : counts_of t x.core ≡ counts_of t z.core = ap (counts_of t) e in
        let old : counts_of s x.core ≡ counts_of s z.core = ap (counts_of s) e in
        let up = r.at_core in
        omega (arith, h, new, old, up)
    by (inr ne) = let same = r.elsewhere x.core ne in omega (arith, h, same)

raised_leads : (edges : List Edge) (y : Instr) (s t : Closing) (z : Instr) → Raises s z t →
    IsOrLeads (Among edges) z y → Leads edges y (counts_of s) →
    Leads edges y (counts_of t)
raised_leads edges y s t z r zy leads x some held = by (cases_eq x.core z.core)
  where
    split : (c m n k : ℕ) → c ≤ k → k ≡ max m n → (c ≤ m) ⊎ (c ≤ n)
    split c m n k le e = grind arith

    own : x.core ≡ z.core → (x.count ≤ counts_of s z.core) ⊎ (x.count ≤ z.count) → IsOrLeads (Among edges) x y
    own e (inl old) = let same : counts_of s x.core ≡ counts_of s z.core = ap (counts_of s) e in
        leads x some (omega (arith, old, same))
    own e (inr new) = up_to edges x z y e new zy

    by : (x.core ≡ z.core) ⊎ (x.core ≢ z.core) → IsOrLeads (Among edges) x y
    by (inl e) =
        let new : counts_of t x.core ≡ counts_of t z.core = ap (counts_of t) e in
        own e (split x.count (counts_of s z.core) z.count (counts_of t z.core) (omega (arith, held, new)) r.at_core)
    by (inr ne) = let same = r.elsewhere x.core ne in leads x some (omega (arith, held, same))

raised_passed : (a : Arranged) (stays : List Bool) (s t : Closing) (z : Instr) → Raises s z t → HasPassed a stays s →
    HasPassed a stays t
raised_passed a stays s t z r h = record {
  sources = λ core i inside lt there is.
      let same : passed_of t core ≡ passed_of s core = ap (λ (l : List ℕ). get_or l core 0) r.passed in
      raised_keeps s t z (arrival_at (list_at a.lists core) i).from r
      (h.sources core i inside (omega (arith, lt, same)) there is);
}

-- the loop's invariant: the target lies in the cut
pub record Going (a : Arranged) (stays : List Bool) (y : Instr) (s : Closing) : Type 0 where
  pub closing : IsClosing a stays y s
  pub holds : Holds (counts_of s) y

pub goes : (a : Arranged) (stays : List Bool) (y : Instr) (s t : Closing) → IsClosing a stays y s → Raises s y t →
    Going a stays y t
goes a stays y s t c r = record {
  closing = record {
    passed = raised_passed a stays s t y r c.passed;
    leads = raised_leads (edges_beside a.vectors stays) y s t y r (inl refl) c.leads;
  };
  holds = raised_holds s t y r;
}

-- ---- one arrival more

-- an edge's target counts from 1
target_some : (cores : ℕ) (v : PairVector) (x y : Instr) → IsBetween cores v → Among (edges_in v) x y → 1 ≤ y.count
target_some cores v x y b a =
    let e = edge_among v x y a in
    let count : (edge_at v e.0).to.count ≡ y.count = ap (λ (i : Instr). i.count) e.3 in
    let some = b.some_target in
    omega (arith, count, some)

-- the due arrival is an edge of the others, where its vector is one
due_edge : (a : Arranged) (stays : List Bool) (s : Closing) (core : ℕ) (d : Arrival) → Arranges a.vectors a.lists →
    core < length a.lists →
    IsDue (list_at a.lists core) s core d → Arrives a.vectors core d
due_edge a stays s core d r inside due =
    subst (λ (b : Arrival). Arrives a.vectors core b) due.is
    ((r.each core inside).each (passed_of s core) no_arrival due.within)

took_passed : (s t : Closing) (b : Bool) (z : Instr) → Takes s b z t → t.passed ≡ s.passed
took_passed s t true z h = h.passed
took_passed s t false z h = ap (λ (c : Closing). c.passed) h

took_keeps : (s t : Closing) (b : Bool) (z x : Instr) → Takes s b z t → Holds (counts_of s) x → Holds (counts_of t) x
took_keeps s t true z x h held = raised_keeps s t z x h held
took_keeps s t false z x h held = subst (λ (c : Closing). Holds (counts_of c) x) (sym h) held

took_leads : (edges : List Edge) (y : Instr) (s t : Closing) (b : Bool) (z : Instr) → Takes s b z t →
    (b ≡ true → IsOrLeads (Among edges) z y) →
    Leads edges y (counts_of s) → Leads edges y (counts_of t)
took_leads edges y s t true z h zy leads = raised_leads edges y s t z h (zy refl) leads
took_leads edges y s t false z h zy leads = subst (λ (c : Closing). Leads edges y (counts_of c)) (sym h) leads

took_holds : (s t : Closing) (b : Bool) (z : Instr) → Takes s b z t → b ≡ true → Holds (counts_of t) z
took_holds s t true z h is = raised_holds s t z h
took_holds s t false z h is = absurd cc

pub goes_on : (a : Arranged) (stays : List Bool) (y : Instr) (s t u : Closing) (core : ℕ) (d : Arrival) →
    Arranges a.vectors a.lists →
    core < length a.lists → IsDue (list_at a.lists core) s core d → Takes s (is_beside stays d.vector) d.from t →
    Passes t core u →
    Going a stays y s → Going a stays y u
goes_on a stays y s t u core d r inside due took passes g = record {
  closing = record {
    passed = record { sources = sources };
    leads = subst (λ (l : List ℕ). Leads es y (λ i. get_or l i 0)) (sym passes.counts)
        (took_leads es y s t (is_beside stays d.vector) d.from took source_leads
        g.closing.leads);
  };
  holds = held y g.holds;
}
  where
    es : List Edge
    es = edges_beside a.vectors stays

    arrives : Arrives a.vectors core d
    arrives = due_edge a stays s core d r inside due

    held : (x : Instr) → Holds (counts_of s) x → Holds (counts_of u) x
    held x h = subst (λ (l : List ℕ). x.count ≤ get_or l x.core 0) (sym passes.counts)
        (took_keeps s t (is_beside stays d.vector) d.from x took h)

    target_leads : IsOrLeads (Among es) (at core d.count) y
    target_leads = g.closing.leads (at core d.count)
        (target_some (length a.lists) (vector_at a.vectors d.vector) d.from (at core d.count)
        (r.between d.vector arrives.vector) arrives.edge) due.due

    onward : Among es d.from (at core d.count) → IsOrLeads (Among es) (at core d.count) y →
        IsOrLeads (Among es) d.from y
    onward e (inl same) = inr (one (Among es) d.from y (inr (subst (λ (i : Instr). Among es d.from i) same e)))
    onward e (inr b) = inr (joined (Among es) d.from (at core d.count) y
        (one (Among es) d.from (at core d.count) (inr e)) b)

    source_leads : is_beside stays d.vector ≡ true → IsOrLeads (Among es) d.from y
    source_leads is = onward (among_beside a.vectors stays d.vector d.from (at core d.count) arrives.vector is
        arrives.edge) target_leads

    source_held : is_beside stays d.vector ≡ true → Holds (counts_of u) d.from
    source_held is = subst (λ (l : List ℕ). d.from.count ≤ get_or l d.from.core 0) (sym passes.counts)
        (took_holds s t (is_beside stays d.vector) d.from took is)

    passed_is : (other : ℕ) → passed_of t other ≡ passed_of s other
    passed_is other = ap (λ (l : List ℕ). get_or l other 0) (took_passed s t (is_beside stays d.vector) d.from took)

    sources : (other i : ℕ) → other < length a.lists → i < passed_of u other → i < length (list_at a.lists other) →
        is_beside stays (arrival_at (list_at a.lists other) i).vector ≡ true →
        Holds (counts_of u) (arrival_at (list_at a.lists other) i).from
    sources other i among lt there is = by (cases_eq other core)
      where
        old : i < passed_of s other → Holds (counts_of u) (arrival_at (list_at a.lists other) i).from
        old less = held (arrival_at (list_at a.lists other) i).from
            (g.closing.passed.sources other i among less there is)

        new : other ≡ core → i ≡ passed_of s core → Holds (counts_of u) (arrival_at (list_at a.lists other) i).from
        new e k =
            let same : arrival_at (list_at a.lists other) i ≡ d =
            ap (λ (c : ℕ). arrival_at (list_at a.lists c) i) e ∙ ap (arrival_at (list_at a.lists core)) k ∙ due.is in
            subst (λ (b : Arrival). Holds (counts_of u) b.from) (sym same)
            (source_held (subst (λ (b : Arrival). is_beside stays b.vector ≡ true) same is))

        own : other ≡ core → (i < passed_of s core) ⊎ (passed_of s core ≤ i) →
            Holds (counts_of u) (arrival_at (list_at a.lists other) i).from
        own e (inl less) = old (subst (λ (c : ℕ). i < passed_of s c) (sym e) less)
        own e (inr ge) =
            let up : passed_of u other ≡ passed_of u core = ap (passed_of u) e in
            let one_more = passes.at_core in
            let was = passed_is core in
            new e (omega (arith, lt, up, one_more, was, ge))

        by : (other ≡ core) ⊎ (other ≢ core) → Holds (counts_of u) (arrival_at (list_at a.lists other) i).from
        by (inl e) = own e (cases_lt i (passed_of s core))
        by (inr ne) = let same = passes.elsewhere other ne in let was = passed_is other in
            old (omega (arith, lt, same, was))

-- ---- how many arrivals are to come

abbrev pub to_go : List (List Arrival) → Closing → ℕ → ℕ
to_go lists s zero = 0
to_go lists s (suc n) = to_go lists s n + (length (list_at lists n) - passed_of s n)

to_go_same : (lists : List (List Arrival)) (s u : Closing) (n : ℕ) →
    ((core : ℕ) → core < n → passed_of u core ≡ passed_of s core) →
    to_go lists u n ≡ to_go lists s n
to_go_same lists s u zero same = refl
to_go_same lists s u (suc n) same =
    let before = to_go_same lists s u n (λ core lt. same core (omega (arith, lt))) in
    let own = same n (omega arith) in
    omega (arith, before, own)

to_go_less : (lists : List (List Arrival)) (s u : Closing) (core n : ℕ) → core < n →
    passed_of s core < length (list_at lists core) →
    passed_of u core ≡ suc (passed_of s core) → ((other : ℕ) → other ≢ core → passed_of u other ≡ passed_of s other) →
    to_go lists u n < to_go lists s n
to_go_less lists s u core zero lt within up same = absurd (omega (arith, lt))
to_go_less lists s u core (suc n) lt within up same =
    by (λ below. to_go_less lists s u core n below within up same) (cases_eq core n)
  where
    by : (core < n → to_go lists u n < to_go lists s n) → (core ≡ n) ⊎ (core ≢ n) →
        to_go lists u (suc n) < to_go lists s (suc n)
    by shorter (inl e) =
        let before = to_go_same lists s u n (λ other less. same other (λ f. absurd (omega (arith, less, e, f)))) in
        let u_is : passed_of u n ≡ passed_of u core = ap (passed_of u) (sym e) in
        let s_is : passed_of s n ≡ passed_of s core = ap (passed_of s) (sym e) in
        let long : length (list_at lists n) ≡ length (list_at lists core) =
        ap (λ (c : ℕ). length (list_at lists c)) (sym e) in
        omega (arith, before, u_is, s_is, long, within, up)
    by shorter (inr ne) =
        let before = shorter (omega (arith, lt, ne)) in
        let own = same n (λ f. ne (sym f)) in
        omega (arith, before, own)

pub less_to_go : (a : Arranged) (stays : List Bool) (s t u : Closing) (core : ℕ) (d : Arrival) → core < length a.lists →
    IsDue (list_at a.lists core) s core d → Takes s (is_beside stays d.vector) d.from t → Passes t core u →
    to_go a.lists u (length a.lists) < to_go a.lists s (length a.lists)
less_to_go a stays s t u core d inside due took passes =
    let was : (other : ℕ) → passed_of t other ≡ passed_of s other =
    λ other. ap (λ (l : List ℕ). get_or l other 0) (took_passed s t (is_beside stays d.vector) d.from took) in
    to_go_less a.lists s u core (length a.lists) inside due.within (passes.at_core ∙ ap suc (was core))
    (λ other ne. passes.elsewhere other ne ∙ was other)

-- ---- none to come

pub closed_at_end : (a : Arranged) (stays : List Bool) (y : Instr) (s : Closing) → Arranges a.vectors a.lists →
    AnyDue a.lists s None →
    Going a stays y s → IsClosedAt a stays y s
closed_at_end a stays y s r none g = record { closing = g.closing; closed = closed; holds = g.holds }
  where
    closed : IsClosed (edges_beside a.vectors stays) (counts_of s)
    closed x z among held =
        let m = beside_among a.vectors stays x z among in
        let e = edge_among (vector_at a.vectors m.0) x z m.3 in
        let between = r.between m.0 m.1 in
        let core : (vector_at a.vectors m.0).to ≡ z.core = ap (λ (i : Instr). i.core) e.3 in
        let inside : z.core < length a.lists = let p = between.pair.target in omega (arith, p, core) in
        let has = (r.each z.core inside).all m.0 x z m.1 m.3 refl in
        let list = list_at a.lists z.core in
        let is : arrival_at list has.0 ≡ arrival x z.count m.0 =
        get_or_default list has.0 no_arrival (arrival x z.count m.0) has.1 ∙ has.2 in
        by has.0 has.1 is m.2 inside (cases_lt has.0 (passed_of s z.core))
      where
        by : (i : ℕ) → i < length (list_at a.lists z.core) → {j : ℕ} →
            arrival_at (list_at a.lists z.core) i ≡ arrival x z.count j → is_beside stays j ≡ true →
            z.core < length a.lists → (i < passed_of s z.core) ⊎ (passed_of s z.core ≤ i) → Holds (counts_of s) x
        by i there {j} is side inside (inl less) =
            subst (λ (b : Arrival). Holds (counts_of s) b.from) is
            (g.closing.passed.sources z.core i inside less there
            (subst (λ (b : Arrival). is_beside stays b.vector ≡ true) (sym is) side))
        by i there {j} is side inside (inr ge) =
            let more = none z.core inside i ge there in
            let count : (arrival_at (list_at a.lists z.core) i).count ≡ z.count = ap (λ (b : Arrival). b.count) is in
            absurd (omega (arith, more, count, held))

-- ---- a trial

-- the loop's invariant before the position k of the vector v
pub record Trying (a : Arranged) (stays : List Bool) (v : PairVector) (k : ℕ) (s : Closing) : Type 0 where
  pub closing : (y : Instr) → y.core ≡ v.to → (edge_at v k).to.count ≤ y.count → IsClosing a stays y s
  pub implied : (j : ℕ) → j < k → Before (Among (edges_beside a.vectors stays)) (edge_at v j).from (edge_at v j).to

pub tries_first : (a : Arranged) (stays : List Bool) (v : PairVector) (s : Closing) →
    ((core : ℕ) → counts_of s core ≡ 0) →
    ((core : ℕ) → passed_of s core ≡ 0) → Trying a stays v 0 s
tries_first a stays v s none fresh = record {
  closing = λ y core le. nothing_closing a stays y s none fresh;
  implied = λ j lt. absurd (omega (arith, lt));
}

next_rises : (k n : ℕ) → k * n ≤ (k + 1) * n
next_rises k n = let h = mul-le-mul_left {m = k} {n = k + 1} n (omega arith) in omega (arith, h)

-- the source of an implied edge lies in the cut, and so it leads to the target
held_is_before : (a : Arranged) (stays : List Bool) (v : PairVector) (k : ℕ) (s : Closing) →
    IsBetween (length a.lists) v →
    IsClosedAt a stays (edge_at v k).to s → Holds (counts_of s) (edge_at v k).from →
    Before (Among (edges_beside a.vectors stays)) (edge_at v k).from (edge_at v k).to
held_is_before a stays v k s b c held = by (c.closing.leads (edge_at v k).from some held)
  where
    some : 1 ≤ (edge_at v k).from.count
    some = let h = b.some_source in omega (arith, h)

    by : IsOrLeads (Among (edges_beside a.vectors stays)) (edge_at v k).from (edge_at v k).to →
        Before (Among (edges_beside a.vectors stays)) (edge_at v k).from (edge_at v k).to
    by (inl e) = absurd (b.pair.differ (ap (λ (i : Instr). i.core) e))
    by (inr p) = p

pub tries_next : (a : Arranged) (stays : List Bool) (v : PairVector) (k : ℕ) (s t : Closing) →
    IsBetween (length a.lists) v → Trying a stays v k s →
    IsClosedAt a stays (edge_at v k).to t → Holds (counts_of t) (edge_at v k).from → Trying a stays v (k + 1) t
tries_next a stays v k s t b y c held = record {
  closing = λ z core le. later_closing a stays (edge_at v k).to z t (sym core)
      (let up = next_rises k v.vector.sb in omega (arith, le, up)) c.closing;
  implied = λ j lt. by j (split j k lt);
}
  where
    split : (j k : ℕ) → j < k + 1 → (j < k) ⊎ (j ≡ k)
    split j k lt = grind arith

    by : (j : ℕ) → (j < k) ⊎ (j ≡ k) → Before (Among (edges_beside a.vectors stays)) (edge_at v j).from (edge_at v j).to
    by j (inl less) = y.implied j less
    by j (inr e) = subst (λ (i : ℕ). Before (Among (edges_beside a.vectors stays)) (edge_at v i).from (edge_at v i).to)
        (sym e)
        (held_is_before a stays v k t b c held)

-- the cut is the least
pub least_cut : (a : Arranged) (stays : List Bool) (y : Instr) (s : Closing) → IsClosedAt a stays y s →
    IsLeastCut (edges_beside a.vectors stays) y (counts_of s)
least_cut a stays y s c = record { holds = c.holds; closed = c.closed; least = least }
  where
    es : List Edge
    es = edges_beside a.vectors stays

    least : (other : ℕ → ℕ) → Holds other y → IsClosed es other → (core : ℕ) → counts_of s core ≤ other core
    least other has closed core = by (eq-zero-or-pos (counts_of s core))
      where
        x : Instr
        x = at core (counts_of s core)

        on : IsOrLeads (Among es) x y → Holds other x
        on (inl e) = subst (λ (i : Instr). Holds other i) (sym e) has
        on (inr p) = closed_holds es other x y closed has p

        by : (counts_of s core ≡ 0) ⊎ (1 ≤ counts_of s core) → counts_of s core ≤ other core
        by (inl none) = omega (arith, none)
        by (inr some) = on (c.closing.leads x some (omega arith))

pub tries_shown : (a : Arranged) (stays : List Bool) (v : PairVector) (k : ℕ) (s t : Closing) (shown : Shown) →
    k < v.vector.n → Trying a stays v k s →
    IsClosedAt a stays (edge_at v k).to t → (Holds (counts_of t) (edge_at v k).from → ⊥) → shown.edge ≡ k →
    shown.cut.counts ≡ t.counts →
    Tries (beside a.vectors stays) v shown
tries_shown a stays v k s t shown lt y c out edge cut = inl (made shown.edge (sym edge) shown.cut.counts (sym cut))
  where
    es : List Edge
    es = edges_beside a.vectors stays

    made : (e : ℕ) → k ≡ e → (l : List ℕ) → t.counts ≡ l →
        IsLeastShown (beside a.vectors stays) v
        (record { edge = e; cut = record { cores = shown.cut.cores; counts = l } })
    made e ke l tl = subst (λ (i : ℕ). IsLeastShown (beside a.vectors stays) v
        (record { edge = i; cut = record { cores = shown.cut.cores; counts = l } })) ke
        (subst (λ (m : List ℕ). IsLeastShown (beside a.vectors stays) v
        (record { edge = k; cut = record { cores = shown.cut.cores; counts = m } })) tl
        (record {
          shown = record { within = lt; closed = c.closed; target = c.holds; source = out };
          first = y.implied;
          least = least_cut a stays (edge_at v k).to t c;
        }))

pub tries_implied : (a : Arranged) (stays : List Bool) (v : PairVector) (k : ℕ) (s : Closing) (shown : Shown) →
    v.vector.n ≤ k → Trying a stays v k s →
    shown.edge ≡ v.vector.n → Tries (beside a.vectors stays) v shown
tries_implied a stays v k s shown ge y is = inr (is, implied)
  where
    implied : IsImplied (beside a.vectors stays) v
    implied x z among =
        let e = edge_among v x z among in
        let lt = e.1 in
        subst (λ (i : Instr). Before (Among (edges_beside a.vectors stays)) i z) e.2
        (subst (λ (i : Instr). Before (Among (edges_beside a.vectors stays)) (edge_at v e.0).from i) e.3
        (y.implied e.0 (omega (arith, ge, lt))))

-- ---- what the calls need

-- the due arrival
pub due_is : (a : Arranged) (s : Closing) (o : Option (ℕ × Arrival)) (core : ℕ) (d : Arrival) → AnyDue a.lists s o →
    o ≡ Some (core, d) →
    (core < length a.lists) × IsDue (list_at a.lists core) s core d
due_is a s o core d h is = subst (λ (p : Option (ℕ × Arrival)). AnyDue a.lists s p) is h

pub source_inside : (a : Arranged) (s : Closing) (core : ℕ) (d : Arrival) → Arranges a.vectors a.lists →
    core < length a.lists →
    IsDue (list_at a.lists core) s core d → d.from.core < CORES_MAX
source_inside a s core d r inside due =
    let arrives = due_edge a [] s core d r inside due in
    let e = edge_among (vector_at a.vectors d.vector) d.from (at core d.count) arrives.edge in
    let same : (vector_at a.vectors d.vector).from ≡ d.from.core = ap (λ (i : Instr). i.core) e.2 in
    let from = (r.between d.vector arrives.vector).pair.source in
    let few = r.few in
    omega (arith, same, from, few)

pub still_fits : (list : List Arrival) (s t : Closing) (core : ℕ) (d : Arrival) (b : Bool) → IsDue list s core d →
    Takes s b d.from t →
    passed_of t core < 2 ^ 64 - 1
still_fits list s t core d b due took =
    let same : passed_of t core ≡ passed_of s core =
    ap (λ (l : List ℕ). get_or l core 0) (took_passed s t b d.from took) in
    let fits = due.fits in
    omega (arith, same, fits)
