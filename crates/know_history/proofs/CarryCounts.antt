-- Carries that count what retired in a set of events.
use Rattle.std.proofs.Common.{◌≡◌, ◌≢◌, ◌∙◌, ap, refl, sym, ℕ, zero, suc, ◌+◌, ◌<◌, ◌≤◌, ◌==◌, ◌⊎◌, inl, inr, Bool}
use Rattle.std.proofs.Common.{true, false, Option, Some, None, get_or}
use Rattle.std.proofs.Common.{max, arith}
use Rattle.std.specs.Prelude.{if◌then◌else◌, replicate}
use Rattle.std.proofs.lemmas.Bool.{cases_eq, cases_order}
use Rattle.std.proofs.lemmas.Bool.Decides.{nat_tests}
use Rattle.std.proofs.lemmas.List.{length-replicate}
use Rattle.std.proofs.Math.Nat.{le-suc_iff}
use Rattle.rtr_types.specs.declared.TheConstants.{CORES_MAX}
use Rattle.rtr_types.specs.declared.instr.Instr.{Instr}
use Rattle.rtr_types.proofs.Instrs.{instr_eq}
use Rattle.clock_core.proofs.MergedClocks.{get_or-merged, length-merged}
use Rattle.clock_core.proofs.Reach.{reached_by}
use Rattle.know_history.specs.declared.known.Known.{Known}
use Rattle.know_history.specs.Knowledge.{count_in, known_carrying, known_joined}
use Rattle.know_history.specs.Happenings.{Happening}
use Rattle.know_history.specs.Knowing.{Counts, IsNext, IsOrderly, RetiresIn, is_of, retired_in}

-- the same events, told otherwise
pub counts_same : (event : ℕ → Happening) (P Q : ℕ → Type 0) (k : Known) → ((t : ℕ) → P t → Q t) →
    ((t : ℕ) → Q t → P t) → Counts event P k → Counts event Q k
counts_same event P Q k to back h =
    record {
      places = h.places;
      at = λ x core pos. (
        λ le. (let r = (h.at x core pos).0 le in (r.0, r.1, to r.0 r.2)),
        λ r. (h.at x core pos).1 (r.0, r.1, back r.0 r.2),
      );
    }

pub zero_at : (n i : ℕ) → get_or (replicate n 0) i 0 ≤ 0
zero_at zero i = omega arith
zero_at (suc n) zero = omega arith
zero_at (suc n) (suc i) = zero_at n i

-- nothing is counted at first
pub counts_none : (event : ℕ → Happening) (P : ℕ → Type 0) → ((t : ℕ) → P t → ⊥) → Counts event P known_carrying.none
counts_none event P none =
    record {
      places = length-replicate {A = ℕ} CORES_MAX 0;
      at = λ x core pos. (λ le. absurd (let e = zero_at CORES_MAX x.core in omega arith), λ r. absurd (none r.0 r.2));
    }

at_most : (n m x y : ℕ) → m ≡ max x y → (n ≤ x) ⊎ (n ≤ y) → n ≤ m
at_most n m x y e (inl h) = grind arith
at_most n m x y e (inr h) = grind arith

-- two carries joined count what reached_by counts
pub counts_joined : (event : ℕ → Happening) (P Q : ℕ → Type 0) (p q : Known) → Counts event P p → Counts event Q q →
    Counts event (λ t. P t ⊎ Q t) (known_joined p q)
counts_joined event P Q p q hp hq =
    record {
      places = length-merged p.counts q.counts (hp.places ∙ sym hq.places) ∙ hp.places;
      at = λ x core pos. (to x core pos, back x core pos);
    }
  where
    greater : (i : ℕ) → count_in (known_joined p q) i ≡ max (count_in p i) (count_in q i)
    greater i = get_or-merged p.counts q.counts i

    to : (x : Instr) → x.core < CORES_MAX → 1 ≤ x.count → x.count ≤ count_in (known_joined p q) x.core →
        RetiresIn event (λ t. P t ⊎ Q t) x
    to x core pos le = by (reached_by x.count (count_in p x.core) (count_in q x.core) (let e = greater x.core in
        omega arith))
      where
        by : (x.count ≤ count_in p x.core) ⊎ (x.count ≤ count_in q x.core) → RetiresIn event (λ t. P t ⊎ Q t) x
        by (inl h) = let r = (hp.at x core pos).0 h in (r.0, r.1, inl r.2)
        by (inr h) = let r = (hq.at x core pos).0 h in (r.0, r.1, inr r.2)

    back : (x : Instr) → x.core < CORES_MAX → 1 ≤ x.count → RetiresIn event (λ t. P t ⊎ Q t) x →
        x.count ≤ count_in (known_joined p q) x.core
    back x core pos r = at_most x.count (count_in (known_joined p q) x.core) (count_in p x.core) (count_in q x.core)
        (greater x.core) (by r.2)
      where
        by : P r.0 ⊎ Q r.0 → (x.count ≤ count_in p x.core) ⊎ (x.count ≤ count_in q x.core)
        by (inl h) = inl ((hp.at x core pos).1 (r.0, r.1, h))
        by (inr h) = inr ((hq.at x core pos).1 (r.0, r.1, h))

-- how many retired only rises
one_more : (event : ℕ → Happening) (t core : ℕ) → retired_in event t core ≤ retired_in event (suc t) core
one_more event t core = by (is_of core (event t).retires)
  where
    by : (b : Bool) → retired_in event t core ≤ (if b then retired_in event t core + 1 else retired_in event t core)
    by true = omega arith
    by false = omega arith

pub retired_rises : (event : ℕ → Happening) (m n core : ℕ) → m ≤ n → retired_in event m core ≤ retired_in event n core
retired_rises event m zero core le = let e : m ≡ 0 = omega arith in rw e (omega arith)
retired_rises event m (suc n) core le = by ((le-suc_iff {m = m} {n = n}).0 le) (λ h. retired_rises event m n core h)
  where
    by : (m ≤ n) ⊎ (m ≡ suc n) → (m ≤ n → retired_in event m core ≤ retired_in event n core) →
        retired_in event m core ≤ retired_in event (suc n) core
    by (inr e) f = rw e (omega arith)
    by (inl h) f = let first = f h in let second = one_more event n core in omega arith

-- an instruction is the one of its count
pub is_counted : (event : ℕ → Happening) (t : ℕ) (x : Instr) → (event t).retires ≡ Some x → IsNext event t x →
    retired_in event (suc t) x.core ≡ x.count
is_counted event t x is next = let here : is_of x.core (event t).retires ≡ true = ap (is_of x.core) is ∙ same x.core in
    rw here (sym next.count)
  where
    same : (c : ℕ) → (c == c) ≡ true
    same c = grind (arith, nat_tests)

pub retired_below : (event : ℕ → Happening) (u n : ℕ) (x : Instr) → (event u).retires ≡ Some x → IsNext event u x →
    u < n → x.count ≤ retired_in event n x.core
retired_below event u n x is next lt = let e = is_counted event u x is next in let rises =
    retired_rises event (suc u) n x.core (omega arith) in omega arith

-- an instruction retires once
pub retires_once : (event : ℕ → Happening) (u t : ℕ) (x : Instr) → (event u).retires ≡ Some x →
    (event t).retires ≡ Some x → IsNext event u x →
    IsNext event t x → u ≡ t
retires_once event u t x one other next_one next_other = by (cases_order u t)
  where
    by : (u ≡ t) ⊎ ((u < t) ⊎ (t < u)) → u ≡ t
    by (inl e) = e
    by (inr (inl lt)) = absurd (let below = retired_below event u t x one next_one lt in let e = next_other.count in
        omega arith)
    by (inr (inr lt)) = absurd (let below = retired_below event t u x other next_other lt in let e = next_one.count in
        omega arith)

-- each of the first instructions of a core has retired
pub retired_there : (event : ℕ → Happening) (n : ℕ) → ((u : ℕ) → u < n → IsOrderly event u) → (x : Instr) →
    1 ≤ x.count → x.count ≤ retired_in event n x.core →
    (t : ℕ) × (t < n) × ((event t).retires ≡ Some x)
retired_there event zero orderly x pos le = absurd (omega arith)
retired_there event (suc n) orderly x pos le =
    by (event n).retires refl (λ h. retired_there event n (λ u lt. orderly u (omega arith)) x pos h)
  where
    later : (t : ℕ) × (t < n) × ((event t).retires ≡ Some x) → (t : ℕ) × (t < suc n) × ((event t).retires ≡ Some x)
    later r = (r.0, let lt = r.1 in omega arith, r.2)

    newest : (y : Instr) → (event n).retires ≡ Some y → (b : Bool) → (y.core == x.core) ≡ b →
        x.count ≤ (if b then retired_in event n x.core + 1 else retired_in event n x.core) →
        (x.count ≤ retired_in event n x.core → (t : ℕ) × (t < n) × ((event t).retires ≡ Some x)) →
        (t : ℕ) × (t < suc n) × ((event t).retires ≡ Some x)
    newest y is false test h before = later (before h)
    newest y is true test h before = here (cases_eq x.count (retired_in event n x.core + 1))
      where
        core : y.core ≡ x.core
        core = grind (arith, nat_tests)

        counted : y.count ≡ retired_in event n x.core + 1
        counted = (orderly n (omega arith) y is).count ∙ ap (λ (c : ℕ). retired_in event n c + 1) core

        here : (x.count ≡ retired_in event n x.core + 1) ⊎ (x.count ≢ retired_in event n x.core + 1) →
            (t : ℕ) × (t < suc n) × ((event t).retires ≡ Some x)
        here (inl e) = (n, omega arith, is ∙ ap (λ (z : Instr). Some z) (instr_eq y x core (counted ∙ sym e)))
        here (inr other) = later (before (grind arith))

    by : (o : Option Instr) → (event n).retires ≡ o → (x.count ≤ retired_in event n x.core →
        (t : ℕ) × (t < n) × ((event t).retires ≡ Some x)) →
        (t : ℕ) × (t < suc n) × ((event t).retires ≡ Some x)
    by None is before = later (before (let same : is_of x.core (event n).retires ≡ false = ap (is_of x.core) is in
        rw same at le))
    by (Some y) is before =
        newest y is (y.core == x.core) refl (let same : is_of x.core (event n).retires ≡ (y.core == x.core) =
        ap (is_of x.core) is in rw same at le) before
