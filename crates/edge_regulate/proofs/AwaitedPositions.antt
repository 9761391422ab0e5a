-- What is awaited of one pair: how many positions after the vector's last one are known. So the strides' next position
-- is known where it isn't after the last position that was found known.
use Rattle.std.proofs.Common.{◌≡◌, ◌≢◌, ℕ, zero, suc, ◌+◌, ◌-◌, ◌*◌, ◌<◌, ◌≤◌, ◌⊎◌, inl, inr, Bool, true, false}
use Rattle.std.proofs.Common.{◌&&◌, ◌||◌, cond, refl, sym, ap, subst, ◌∙◌, arith}
use Rattle.std.specs.Prelude.{nat_eq, nat_le}
use Rattle.std.proofs.lemmas.Bool.{cases_Bool, cases_eq, cond-true, cond-false}
use Rattle.std.proofs.lemmas.Bool.Decides.{nat_tests}
use Rattle.stride_vector.specs.declared.StrideVector.{StrideVector}
use Rattle.stride_vector.specs.Vectors.{last_of}
use Rattle.edge_regulate.specs.declared.seat.Awaited.{Awaited}
use Rattle.edge_regulate.specs.Awaiting.{GoesOn, IsAwaited, Reaches, Stops, awaited_with, begun, looked, never}
use Rattle.edge_regulate.specs.Awaiting.{none_awaited, up_to, watched}
use Rattle.edge_regulate.specs.Greedy.{Knows, is_covered, is_strided, longer, next_of, opened, second, takes, taking}
use Rattle.edge_regulate.specs.Regulated.{IsGrowing}
use Rattle.edge_regulate.proofs.Cases.{Covered, Second, Strided, taken}

-- ---- what was found known

-- where no position after the last one is known
reached_none : (knows : Knows) (noted : ℕ) (w : Awaited) (a b : ℕ) → 1 ≤ w.sa → Reaches knows noted w 0 a b →
    w.reached < a
reached_none knows noted w a b rises r = let here = r.0 in omega arith

-- where the next one is
reached_some : (knows : Knows) (noted : ℕ) (w : Awaited) (count a b : ℕ) → Reaches knows noted w (suc count) a b →
    a ≤ w.reached
reached_some knows noted w zero a b r = let here = r.2.0 in omega arith
reached_some knows noted w (suc count) a b r =
    let rest = reached_some knows noted w count (a + w.sa) (b + w.sb) r.2 in omega arith

-- a vector that has strides rises by them
abbrev pub Rises : StrideVector → Type 0
Rises v = v.n ≢ 1 → (1 < v.n) × (1 ≤ v.sa) × (1 ≤ v.sb)

pub growing_rises : (v : StrideVector) → IsGrowing v → Rises v
growing_rises v growing many =
    let some = growing.vector.some in
    let more : 1 < v.n = grind arith in
    (more, growing.vector.source_rises more, growing.vector.target_rises more)

-- so an edge is taken by what was found known where it is by what is known
next_same : (knows : Knows) (noted : ℕ) (v : StrideVector) (w : Awaited) (e : ℕ × ℕ) (count : ℕ) → 1 ≤ w.sa →
    noted ≡ e.1 → Reaches knows noted w count (next_of v).0 (next_of v).1 →
    (nat_le (next_of v).1 e.1 && up_to w.reached (next_of v).0 (next_of v).1)
    ≡ (nat_le (next_of v).1 e.1 && knows (next_of v).0 (next_of v).1)
next_same knows noted v w e zero some here r = by r.1
  where
    a : ℕ
    a = (next_of v).0

    b : ℕ
    b = (next_of v).1

    above : nat_le a w.reached ≡ false
    above = let lt = reached_none knows noted w a b some r in grind (arith, nat_tests)

    by : Stops knows noted w.target (next_of v).0 (next_of v).1 →
        (nat_le (next_of v).1 e.1 && up_to w.reached (next_of v).0 (next_of v).1)
        ≡ (nat_le (next_of v).1 e.1 && knows (next_of v).0 (next_of v).1)
    by (inl still) =
        let late : nat_le b e.1 ≡ false = (let lt = still.1 in grind (arith, nat_tests)) in
        ap (λ (t : Bool). t && nat_le a w.reached) late ∙ sym (ap (λ (t : Bool). t && knows a b) late)
    by (inr closed) = ap (λ (t : Bool). nat_le b e.1 && t) (above ∙ sym closed.2)
next_same knows noted v w e (suc count) some here r =
    let le = reached_some knows noted w count (next_of v).0 (next_of v).1 r in
    let found : nat_le (next_of v).0 w.reached ≡ true = grind (arith, nat_tests) in
    ap (λ (t : Bool). nat_le (next_of v).1 e.1 && t) (found ∙ sym r.1)

pub takes_same : (knows : Knows) (noted : ℕ) (v : StrideVector) (w : Awaited) (e : ℕ × ℕ) → Rises v →
    noted ≡ e.1 → IsAwaited knows noted v w → takes (up_to w.reached) v e ≡ takes knows v e
takes_same knows noted v w e growing here h = by (cases_eq v.n 1)
  where
    one : v.n ≡ 1 → nat_eq v.n 1 ≡ true
    one is = grind (arith, nat_tests)

    by : (v.n ≡ 1) ⊎ (v.n ≢ 1) → takes (up_to w.reached) v e ≡ takes knows v e
    by (inl is) =
        ap (λ (t : Bool). is_covered v e || (t || is_strided (up_to w.reached) v e)) (one is)
        ∙ sym (ap (λ (t : Bool). is_covered v e || (t || is_strided knows v e)) (one is))
    by (inr many) =
        let g = h.goes_on many in
        let up = growing many in
        let some : 1 ≤ w.sa = (let same = g.source in let r = up.1 in omega arith) in
        ap (λ (t : Bool). is_covered v e || (nat_eq v.n 1 || (nat_le e.0 (next_of v).0 && t)))
        (next_same knows noted v w e g.count some here g.reaches)

-- ---- an edge

-- nothing is awaited of a vector that an edge opened
pub awaited_opened : (knows : Knows) (noted : ℕ) (e : ℕ × ℕ) → IsAwaited knows noted (opened e) none_awaited
awaited_opened knows noted e = record { idle = λ one. refl; goes_on = λ many. absurd (many refl) }

-- the only position is the first
pub only_is_first : (v : StrideVector) → v.n ≡ 1 → ((last_of v).0 ≡ v.a0) × ((last_of v).1 ≡ v.b0)
only_is_first v one =
    let none : v.n - 1 ≡ 0 = omega arith in
    let a : (v.n - 1) * v.sa ≡ 0 = ap (λ (k : ℕ). k * v.sa) none ∙ (let z : 0 * v.sa ≡ 0 = omega arith in z) in
    let b : (v.n - 1) * v.sb ≡ 0 = ap (λ (k : ℕ). k * v.sb) none ∙ (let z : 0 * v.sb ≡ 0 = omega arith in z) in
    (omega arith, omega arith)

-- the second position gives the strides
awaited_second : (knows : Knows) (noted : ℕ) (v : StrideVector) (e : ℕ × ℕ) → v.n ≡ 1 → (last_of v).0 < e.0 →
    (last_of v).1 < e.1 → noted ≡ e.1 → IsAwaited knows noted (second v e) (begun (second v e) e)
awaited_second knows noted v e one source target here =
    let first = only_is_first v one in
    let a = first.0 in
    let b = first.1 in
    record {
      idle = λ two. absurd (omega arith);
      goes_on = λ many. record {
        source = refl;
        target = refl;
        count = 0;
        reaches = (omega arith, inl (omega arith, omega arith));
      };
    }

-- the strides' next position stands for the edge
known_on : (knows : Knows) (noted : ℕ) (v : StrideVector) (w : Awaited) (e : ℕ × ℕ) → noted ≡ e.1 → Strided knows v e →
    GoesOn knows noted v w → GoesOn knows noted (longer v) w
known_on knows noted v w e here s g = by g.count g.reaches
  where
    a : ℕ
    a = (next_of v).0

    b : ℕ
    b = (next_of v).1

    by : (count : ℕ) → Reaches knows noted w count (next_of v).0 (next_of v).1 → GoesOn knows noted (longer v) w
    by zero r = absurd (stopped r.1)
      where
        stopped : Stops knows noted w.target (next_of v).0 (next_of v).1 → ⊥
        stopped (inl still) = let lt = still.1 in let le = s.target in omega arith
        stopped (inr closed) = let yes = s.known in let no = closed.2 in cc
    by (suc count) r =
        let source = g.source in
        let target = g.target in
        let first : a + w.sa ≡ (next_of (longer v)).0 = omega arith in
        let then : b + w.sb ≡ (next_of (longer v)).1 = omega arith in
        record {
          source = g.source;
          target = g.target;
          count = count;
          reaches = subst (λ (x : ℕ). Reaches knows noted w count x (next_of (longer v)).1) first
              (subst (λ (y : ℕ). Reaches knows noted w count (a + w.sa) y) then r.2);
        }

pub awaited_taken : (knows : Knows) (noted : ℕ) (v : StrideVector) (w : Awaited) (e : ℕ × ℕ) → Rises v →
    (last_of v).1 < e.1 → noted ≡ e.1 → takes knows v e ≡ true → IsAwaited knows noted v w →
    IsAwaited knows noted (taking v e) (awaited_with w v e)
awaited_taken knows noted v w e growing later here t h = by (taken knows v e t)
  where
    -- what is awaited, by the two tests
    with : Bool → Bool → Awaited
    with covered one = cond covered w (cond one (begun (second v e) e) w)

    is : (u : StrideVector) (x : Awaited) → taking v e ≡ u → awaited_with w v e ≡ x → IsAwaited knows noted u x →
        IsAwaited knows noted (taking v e) (awaited_with w v e)
    is u x vector awaited k =
        subst (λ (y : Awaited). IsAwaited knows noted (taking v e) y) (sym awaited)
        (subst (λ (z : StrideVector). IsAwaited knows noted z x) (sym vector) k)

    by : Covered v e ⊎ (Second v e ⊎ Strided knows v e) → IsAwaited knows noted (taking v e) (awaited_with w v e)
    by (inl c) =
        let yes : is_covered v e ≡ true = (let le = c.source in grind (arith, nat_tests)) in
        is v w c.is (ap (λ (b : Bool). cond b w (cond (nat_eq v.n 1) (begun (second v e) e) w)) yes) h
    by (inr (inl c)) =
        let no : is_covered v e ≡ false = (let lt = c.above in grind (arith, nat_tests)) in
        let one : nat_eq v.n 1 ≡ true = (let same = c.one in grind (arith, nat_tests)) in
        is (second v e) (begun (second v e) e) c.is
        (ap (λ (b : Bool). cond b w (cond (nat_eq v.n 1) (begun (second v e) e) w)) no
        ∙ ap (λ (b : Bool). cond b (begun (second v e) e) w) one)
        (awaited_second knows noted v e c.one c.above later here)
    by (inr (inr c)) =
        let no : is_covered v e ≡ false = (let lt = c.above in grind (arith, nat_tests)) in
        let many : nat_eq v.n 1 ≡ false = (let apart = c.many in grind (arith, nat_tests)) in
        let some = (growing c.many).0 in
        is (longer v) w c.is
        (ap (λ (b : Bool). cond b w (cond (nat_eq v.n 1) (begun (second v e) e) w)) no
        ∙ ap (λ (b : Bool). cond b (begun (second v e) e) w) many)
        (record {
          idle = λ one. absurd (let apart = c.many in omega arith);
          goes_on = λ apart. known_on knows noted v w e here c (h.goes_on c.many);
        })

-- ---- a retirement of the target

-- what was known is known, and how much is known at the retirement
pub record KnowsMore (knows others : Knows) (noted known : ℕ) : Type 0 where
  pub same : (a b : ℕ) → b ≤ noted → others a b ≡ knows a b
  pub here : (a : ℕ) → others a (noted + 1) ≡ nat_le a known

-- it isn't awaited
reaches_quiet : (knows others : Knows) (noted known : ℕ) (w : Awaited) (count a b : ℕ) →
    KnowsMore knows others noted known → w.target ≢ noted + 1 → Reaches knows noted w count a b →
    Reaches others (noted + 1) w count a b
reaches_quiet knows others noted known w zero a b more apart r = (r.0, by r.1)
  where
    by : Stops knows noted w.target a b → Stops others (noted + 1) w.target a b
    by (inl still) = let is = still.0 in let lt = still.1 in inl (still.0, grind arith)
    by (inr closed) = let le = closed.1 in inr (closed.0, omega arith, more.same a b closed.1 ∙ closed.2)
reaches_quiet knows others noted known w (suc count) a b more apart r =
    let le = r.0 in (
      omega arith,
      more.same a b r.0 ∙ r.1,
      reaches_quiet knows others noted known w count (a + w.sa) (b + w.sb) more apart r.2,
    )

-- it is
record Goes (knows : Knows) (noted : ℕ) (w : Awaited) (a b : ℕ) : Type 0 where
  count : ℕ
  reaches : Reaches knows noted w count a b

reaches_looked : (knows others : Knows) (noted known : ℕ) (w : Awaited) (count a b : ℕ) →
    KnowsMore knows others noted known → w.target ≡ noted + 1 → noted + 1 < never → 1 ≤ w.sb →
    Reaches knows noted w count a b → Goes others (noted + 1) (looked known w) a b
reaches_looked knows others noted known w zero a b more is small rise r =
    by r.1 (cases_Bool (nat_le (w.reached + w.sa) known))
  where
    on : Awaited
    on = record { target = w.target + w.sb; reached = w.reached + w.sa; sa = w.sa; sb = w.sb }

    off : Awaited
    off = record { target = never; reached = w.reached; sa = w.sa; sb = w.sb }

    knew : b ≡ noted + 1 → others a b ≡ nat_le (w.reached + w.sa) known
    knew at = ap (λ (y : ℕ). others a y) at ∙ more.here a ∙ ap (λ (x : ℕ). nat_le x known) (sym r.0)

    by : Stops knows noted w.target a b →
        (nat_le (w.reached + w.sa) known ≡ true) ⊎ (nat_le (w.reached + w.sa) known ≡ false) →
        Goes others (noted + 1) (looked known w) a b
    by (inr closed) test = absurd (let no = closed.0 in omega arith)
    by (inl still) (inl t) =
        let at : b ≡ noted + 1 = sym still.0 ∙ is in
        let source = r.0 in
        subst (λ (x : Awaited). Goes others (noted + 1) x a b)
        (sym (cond-true (nat_le (w.reached + w.sa) known) on off t))
        (record {
          count = 1;
          reaches = (omega arith, knew at ∙ t, (omega arith, inl (omega arith, omega arith)));
        })
    by (inl still) (inr f) =
        let at : b ≡ noted + 1 = sym still.0 ∙ is in
        subst (λ (x : Awaited). Goes others (noted + 1) x a b)
        (sym (cond-false (nat_le (w.reached + w.sa) known) on off f))
        (record { count = 0; reaches = (r.0, inr (refl, omega arith, knew at ∙ f)) })
reaches_looked knows others noted known w (suc count) a b more is small rise r =
    further (reaches_looked knows others noted known w count (a + w.sa) (b + w.sb) more is small rise r.2)
    (strides w (cases_Bool (nat_le (w.reached + w.sa) known)))
  where
    -- the strides stay
    strides : (x : Awaited) → (nat_le (x.reached + x.sa) known ≡ true) ⊎ (nat_le (x.reached + x.sa) known ≡ false) →
        ((looked known x).sa ≡ x.sa) × ((looked known x).sb ≡ x.sb)
    strides x (inl t) = (rw t refl, rw t refl)
    strides x (inr f) = (rw f refl, rw f refl)

    further : Goes others (noted + 1) (looked known w) (a + w.sa) (b + w.sb) →
        ((looked known w).sa ≡ w.sa) × ((looked known w).sb ≡ w.sb) → Goes others (noted + 1) (looked known w) a b
    further g same =
        let le = r.0 in
        record {
          count = suc g.count;
          reaches = (
            omega arith,
            more.same a b r.0 ∙ r.1,
            subst (λ (x : ℕ). Reaches others (noted + 1) (looked known w) g.count (a + x) (b + (looked known w).sb))
                (sym same.0)
                (subst (λ (y : ℕ). Reaches others (noted + 1) (looked known w) g.count (a + w.sa) (b + y)) (sym same.1)
                g.reaches),
          );
        }

-- other instructions than the target's are noted
reaches_same : (knows others : Knows) (noted : ℕ) (w : Awaited) (count a b : ℕ) →
    ((x y : ℕ) → y ≤ noted → others x y ≡ knows x y) → Reaches knows noted w count a b →
    Reaches others noted w count a b
reaches_same knows others noted w zero a b same r = (r.0, by r.1)
  where
    by : Stops knows noted w.target a b → Stops others noted w.target a b
    by (inl still) = inl still
    by (inr closed) = inr (closed.0, closed.1, same a b closed.1 ∙ closed.2)
reaches_same knows others noted w (suc count) a b same r =
    (r.0, same a b r.0 ∙ r.1, reaches_same knows others noted w count (a + w.sa) (b + w.sb) same r.2)

-- the same is awaited where the same positions are reached
awaited_by : (knows others : Knows) (noted later : ℕ) (v : StrideVector) (w : Awaited) →
    ((count : ℕ) → Reaches knows noted w count (next_of v).0 (next_of v).1 →
    Reaches others later w count (next_of v).0 (next_of v).1) → IsAwaited knows noted v w → IsAwaited others later v w
awaited_by knows others noted later v w reach h = record {
  idle = h.idle;
  goes_on = λ many.
      let g = h.goes_on many in
      record { source = g.source; target = g.target; count = g.count; reaches = reach g.count g.reaches };
}

pub awaited_same : (knows others : Knows) (noted : ℕ) (v : StrideVector) (w : Awaited) →
    ((a b : ℕ) → b ≤ noted → others a b ≡ knows a b) → IsAwaited knows noted v w → IsAwaited others noted v w
awaited_same knows others noted v w same h = awaited_by knows others noted noted v w
    (λ count r. reaches_same knows others noted w count (next_of v).0 (next_of v).1 same r) h

-- nothing changes where the retirement isn't awaited
pub awaited_quiet : (knows others : Knows) (noted known : ℕ) (v : StrideVector) (w : Awaited) →
    KnowsMore knows others noted known → w.target ≢ noted + 1 → IsAwaited knows noted v w →
    IsAwaited others (noted + 1) v w
awaited_quiet knows others noted known v w more apart h = awaited_by knows others noted (noted + 1) v w
    (λ count r. reaches_quiet knows others noted known w count (next_of v).0 (next_of v).1 more apart r) h

awaited_looked : (knows others : Knows) (noted known : ℕ) (v : StrideVector) (w : Awaited) → Rises v →
    KnowsMore knows others noted known → w.target ≡ noted + 1 → noted + 1 < never → IsAwaited knows noted v w →
    IsAwaited others (noted + 1) v (looked known w)
awaited_looked knows others noted known v w growing more is small h = record {
  idle = λ one. absurd (let no = h.idle one in omega arith);
  goes_on = λ many. by many (h.goes_on many) (cases_Bool (nat_le (w.reached + w.sa) known));
}
  where
    by : v.n ≢ 1 → GoesOn knows noted v w →
        (nat_le (w.reached + w.sa) known ≡ true) ⊎ (nat_le (w.reached + w.sa) known ≡ false) →
        GoesOn others (noted + 1) v (looked known w)
    by many g test =
        let up = growing many in
        let rise : 1 ≤ w.sb = (let same = g.target in let r = up.2 in omega arith) in
        let goes = reaches_looked knows others noted known w g.count (next_of v).0 (next_of v).1 more is small rise
        g.reaches in
        record {
          source = sa test ∙ g.source;
          target = sb test ∙ g.target;
          count = goes.count;
          reaches = goes.reaches;
        }
      where
        sa : (nat_le (w.reached + w.sa) known ≡ true) ⊎ (nat_le (w.reached + w.sa) known ≡ false) →
            (looked known w).sa ≡ w.sa
        sa (inl t) = rw t refl
        sa (inr f) = rw f refl

        sb : (nat_le (w.reached + w.sa) known ≡ true) ⊎ (nat_le (w.reached + w.sa) known ≡ false) →
            (looked known w).sb ≡ w.sb
        sb (inl t) = rw t refl
        sb (inr f) = rw f refl

-- what is awaited after the retirement
pub awaited_watched : (knows others : Knows) (noted known : ℕ) (v : StrideVector) (w : Awaited) → Rises v →
    KnowsMore knows others noted known → noted + 1 < never → IsAwaited knows noted v w →
    IsAwaited others (noted + 1) v (watched (noted + 1) known w)
awaited_watched knows others noted known v w growing more small h = by (cases_eq w.target (noted + 1))
  where
    by : (w.target ≡ noted + 1) ⊎ (w.target ≢ noted + 1) → IsAwaited others (noted + 1) v (watched (noted + 1) known w)
    by (inl is) =
        let yes : nat_eq w.target (noted + 1) ≡ true = grind (arith, nat_tests) in
        subst (λ (x : Awaited). IsAwaited others (noted + 1) v x)
        (sym (cond-true (nat_eq w.target (noted + 1)) (looked known w) w yes))
        (awaited_looked knows others noted known v w growing more is small h)
    by (inr apart) =
        let no : nat_eq w.target (noted + 1) ≡ false = grind (arith, nat_tests) in
        subst (λ (x : Awaited). IsAwaited others (noted + 1) v x)
        (sym (cond-false (nat_eq w.target (noted + 1)) (looked known w) w no))
        (awaited_quiet knows others noted known v w more apart h)

-- what is awaited comes after all that is noted
reaches_late : (knows : Knows) (noted : ℕ) (w : Awaited) (count a b : ℕ) → noted < never →
    Reaches knows noted w count a b →
    noted < w.target
reaches_late knows noted w zero a b small r = by r.1
  where
    by : Stops knows noted w.target a b → noted < w.target
    by (inl still) = let is = still.0 in let lt = still.1 in omega arith
    by (inr closed) = let is = closed.0 in omega arith
reaches_late knows noted w (suc count) a b small r =
    reaches_late knows noted w count (a + w.sa) (b + w.sb) small r.2

pub awaited_late : (knows : Knows) (noted : ℕ) (v : StrideVector) (w : Awaited) → noted < never →
    IsAwaited knows noted v w → noted < w.target
awaited_late knows noted v w small h = by (cases_eq v.n 1)
  where
    by : (v.n ≡ 1) ⊎ (v.n ≢ 1) → noted < w.target
    by (inl one) = let is = h.idle one in omega arith
    by (inr many) =
        let g = h.goes_on many in
        reaches_late knows noted w g.count (next_of v).0 (next_of v).1 small g.reaches
