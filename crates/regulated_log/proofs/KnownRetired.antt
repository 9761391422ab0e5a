-- What a history holds as known has retired before.
use Rattle.std.proofs.Common.{◌≡◌, ◌≢◌, ℕ, zero, suc, ◌+◌, ◌<◌, ◌≤◌, ◌⊎◌, ◌==◌, true, false, List, [], ◌∷◌, ◌++◌}
use Rattle.std.proofs.Common.{Option, Some, None, refl, sym, ap}
use Rattle.std.proofs.Common.{subst, ◌∙◌, inl, inr, arith}
use Rattle.std.specs.Prelude.{if◌then◌else◌}
use Rattle.std.proofs.lemmas.List.{append-nil, append_assoc, same_from_push}
use Rattle.std.proofs.lemmas.Bool.Decides.{nat_tests}
use Rattle.std.proofs.lemmas.Bool.{cases_eq, cases_lt}
use Rattle.rtr_types.specs.Pairs.{IsPair}
use Rattle.rtr_types.specs.declared.instr.Instr.{Instr}
use Rattle.know_history.specs.Happenings.{Happening, IsKnownAt}
use Rattle.know_history.specs.Knowing.{is_of, retired_in}
use Rattle.know_history.specs.Laws.{AreOrderly}
use Rattle.know_history.specs.Notes.{known_at, noted_count}
use Rattle.know_history.proofs.KnownAt.{known_earlier_law}
use Rattle.know_history.proofs.CarryCounts.{retired_rises}
use Rattle.replay_core.specs.Orders.{bump, counts, nought}
use Rattle.replay_core.proofs.Counts.{bump_same, bump_else, counts_on}
use Rattle.regulated_log.specs.Happened.{core_of, retirements, HistoryPastLaw}

-- ---- counts

retired_same : (event : ℕ → Happening) (t : ℕ) (x : Instr) → (event t).retires ≡ Some x →
    retired_in event (suc t) x.core ≡ retired_in event t x.core + 1
retired_same event t x is = by (event t).retires is
  where
    by : (o : Option Instr) → o ≡ Some x → (if is_of x.core o then retired_in event t x.core + 1 else retired_in event t
        x.core) ≡ retired_in event t x.core + 1
    by None e = absurd cc
    by (Some y) e =
        let same : y ≡ x = cc in
        let core = ap (λ (z : Instr). z.core) same in
        let test : (y.core == x.core) ≡ true = grind (arith, nat_tests) in
        rw test refl

-- the order has as many places of a core as its instructions retired
pub counts_are : (event : ℕ → Happening) (t core : ℕ) → counts nought (retirements event t) core ≡ retired_in event t
    core
counts_are event zero core = refl
counts_are event (suc t) core = ap (λ (f : ℕ → ℕ). f core) (counts_on nought (retirements event t)
    (core_of (event t).retires))
    ∙ by (event t).retires (counts_are event t core)
  where
    more : (y : Instr) → (core ≡ y.core) ⊎ (core ≢ y.core) → counts nought (retirements event t) core ≡ retired_in event
        t core →
        bump (counts nought (retirements event t)) y.core core ≡ (if y.core == core then retired_in event t core + 1
        else retired_in event t core)
    more y (inl same) was =
        let test : (y.core == core) ≡ true = grind (arith, nat_tests) in
        rw test (bump_same (counts nought (retirements event t)) y.core core same ∙ ap (λ (n : ℕ). n + 1) was)
    more y (inr other) was =
        let test : (y.core == core) ≡ false = grind (arith, nat_tests) in
        rw test (bump_else (counts nought (retirements event t)) y.core core other ∙ was)

    by : (o : Option Instr) → counts nought (retirements event t) core ≡ retired_in event t core →
        counts (counts nought (retirements event t)) (core_of o) core ≡ (if is_of core o then retired_in event t core +
        1 else retired_in event t core)
    by None was = was
    by (Some y) was = more y (cases_eq core y.core) was

-- ---- places

-- a place of the order is that of an event
pub record EventOf (event : ℕ → Happening) (t : ℕ) (front : List ℕ) (core : ℕ) : Type 0 where
  pub u : ℕ
  pub y : Instr
  pub within : u < t
  pub retires : (event u).retires ≡ Some y
  pub core_is : y.core ≡ core
  pub before : front ≡ retirements event u

-- a list that isn't empty has a last item
record Last (xs : List ℕ) : Type 0 where
  init : List ℕ
  last : ℕ
  is : xs ≡ init ++ last ∷ []

last_of : (x : ℕ) (xs : List ℕ) → Last (x ∷ xs)
last_of x [] = record { init = []; last = x; is = refl }
last_of x (y ∷ xs) = let l = last_of y xs in record {
  init = x ∷ l.init;
  last = l.last;
  is =
      ap (λ (l : List ℕ). x ∷ l) l.is;
}

pub event_of : (event : ℕ → Happening) (t : ℕ) (front : List ℕ) (core : ℕ) (rest : List ℕ) →
    retirements event t ≡ front ++ core ∷ rest →
    EventOf event t front core
event_of event zero [] core rest split = absurd cc
event_of event zero (c ∷ front) core rest split = absurd cc
event_of event (suc t) front core rest split =
    by (event t).retires refl rest split (λ more is. later (event_of event t front core more is))
  where
    later : EventOf event t front core → EventOf event (suc t) front core
    later e = let within = e.within in record {
      u = e.u;
      y = e.y;
      within = omega arith;
      retires = e.retires;
      core_is =
          e.core_is;
      before = e.before;
    }

    by : (o : Option Instr) → (event t).retires ≡ o → (rest : List ℕ) →
        retirements event t ++ core_of o ≡ front ++ core ∷ rest →
        ((more : List ℕ) → retirements event t ≡ front ++ core ∷ more → EventOf event (suc t) front core) →
        EventOf event (suc t) front core
    by None is rest split on = on rest (sym (append-nil (retirements event t)) ∙ split)
    by (Some y) is [] split on =
        let both = same_from_push (retirements event t) front y.core core split in
        record { u = t; y = y; within = omega arith; retires = is; core_is = both.1; before = sym both.0 }
    by (Some y) is (r ∷ rest) split on =
        let l = last_of r rest in
        let regrouped : front ++ core ∷ (r ∷ rest) ≡ (front ++ core ∷ l.init) ++ l.last ∷ [] =
        ap (λ (xs : List ℕ). front ++ core ∷ xs) l.is ∙ sym (append_assoc front (core ∷ l.init) (l.last ∷ [])) in
        on l.init (same_from_push (retirements event t) (front ++ core ∷ l.init) y.core l.last (split ∙ regrouped)).0

-- what is known at the instruction that retires in event u retired before
known_before : (event : ℕ → Happening) (u : ℕ) (x y : Instr) → AreOrderly event → (event u).retires ≡ Some y →
    IsKnownAt event x y →
    x.count ≤ retired_in event u x.core
known_before event u x y orderly retires k =
    let earlier = known_earlier_law event x y k in
    let there = (orderly k.there x k.retired).count in
    let here = (orderly k.here y k.retires).count in
    let now = (orderly u y retires).count in
    let one = retired_same event k.there x k.retired in
    let up = retired_rises event (suc k.there) k.here x.core (omega arith) in
    by (cases_lt u k.here) here now (retired_same event u y retires) (omega arith)
  where
    by : (u < k.here) ⊎ (k.here ≤ u) → y.count ≡ retired_in event k.here y.core + 1 →
        y.count ≡ retired_in event u y.core + 1 → retired_in event (suc u) y.core
        ≡ retired_in event u y.core + 1 → x.count ≤ retired_in event k.here x.core →
        x.count ≤ retired_in event u x.core
    by (inl lt) here now one most = let up = retired_rises event (suc u) k.here y.core (omega arith) in
        absurd (omega arith)
    by (inr le) here now one most = let up = retired_rises event k.here u x.core le in omega arith

pub history_past_law : HistoryPastLaw
history_past_law event t cores h few orderly noted knows =
    record {
      each = λ front core rest of split pair.
          at front core of pair (event_of event t front core rest split)
          (cases_eq (known_at h core (counts nought front core + 1) of) 0);
    }
  where
    at : (front : List ℕ) (core of : ℕ) → IsPair cores of core → EventOf event t front core →
        (known_at h core (counts nought front core + 1) of ≡ 0)
        ⊎ (known_at h core (counts nought front core + 1) of ≢ 0) →
        known_at h core (counts nought front core + 1) of ≤ counts nought front of
    at front core of pair e (inl none) = omega arith
    at front core of pair e (inr some) =
        let a = known_at h core (counts nought front core + 1) of in
        let source = pair.source in
        let target = pair.target in
        let count = (orderly e.u e.y e.retires).count in
        let within = e.within in
        let there : counts nought front core ≡ retired_in event e.u core =
        ap (λ (l : List ℕ). counts nought l core) e.before ∙ counts_are event e.u core in
        let of_is : counts nought front of ≡ retired_in event e.u of = ap (λ (l : List ℕ). counts nought l of) e.before
        ∙ counts_are event e.u of in
        let own = ap (λ (c : ℕ). retired_in event e.u c) e.core_is in
        let count_is : e.y.count ≡ counts nought front core + 1 = omega arith in
        let one = retired_same event e.u e.y e.retires in
        let own_next = ap (λ (c : ℕ). retired_in event (suc e.u) c) e.core_is in
        let up = retired_rises event (suc e.u) t core (omega arith) in
        let all = noted core target in
        let most : e.y.count ≤ noted_count h core = omega arith in
        let most_there : e.y.count ≤ noted_count h e.y.core =
        subst (λ (c : ℕ). e.y.count ≤ noted_count h c) (sym e.core_is) most in
        let same : known_at h e.y.core e.y.count of ≡ a = ap (λ (c : ℕ). known_at h c e.y.count of) e.core_is
        ∙ ap (λ (n : ℕ). known_at h core n of) count_is in
        let x : Instr = record { core = of; count = a } in
        let known = (knows x e.y (omega arith) most_there (omega arith) (λ (f : of ≡ e.y.core). pair.differ (f
        ∙ e.core_is)) (omega arith)).0 (omega arith) in
        let before = known_before event e.u x e.y orderly e.retires known in
        omega arith
