-- What is known at an instruction.
use Rattle.std.proofs.Common.{◌≡◌, ◌≢◌, ◌∙◌, ap, refl, sym, subst, ℕ, ◌+◌, ◌<◌, ◌≤◌, ◌⊎◌, inl, inr, Some, arith}
use Rattle.std.proofs.lemmas.Option.{same_Some}
use Rattle.std.proofs.lemmas.Bool.{cases_order}
use Rattle.rtr_types.specs.declared.instr.Instr.{Instr}
use Rattle.rtr_types.proofs.Instrs.{instr_eq}
use Rattle.know_history.specs.declared.known.Known.{Known}
use Rattle.know_history.specs.Knowledge.{count_in, known_carrying}
use Rattle.know_history.specs.Happenings.{AtCore, Happening, IsKnownAt, Leads}
use Rattle.know_history.specs.Knowing.{CountsTo, IsNext, IsOrLeads, RetiresIn, carry_left, retired_in}
use Rattle.know_history.specs.Laws.{AreOrderly, CarriesKnowLaw, IsKnownCount, KnownCountLaw, KnownEarlierLaw}
use Rattle.know_history.specs.Laws.{KnownStaysLaw}
use Rattle.know_history.proofs.LastSteps.{leads_before, leads_joined}
use Rattle.know_history.proofs.CarryCounts.{retired_below, retires_once}
use Rattle.know_history.proofs.KnownCarries.{all_know_more, counts_left}

pub carries_know_law : CarriesKnowLaw
carries_know_law event t actor c d orderly own follows h = all_know_more event t actor c d own (λ u lt. orderly u)
    follows h

-- a carry that counts what is event t or leads to it counts what is known at the instruction that retires there
known_count : (event : ℕ → Happening) (t : ℕ) (k : Known) (y : Instr) → AreOrderly event → (event t).retires ≡ Some y →
    CountsTo event t k →
    IsKnownCount event k y
known_count event t k y orderly is h =
    record {
      others = λ x core apart pos. (
        λ le. (let r = (h.at x core pos).0 le in known x apart r.0 r.1 r.2),
        λ f. (h.at x core pos).1 (counted x f),
      );
      own = same y.count (count_in k y.core) (λ n pos. (λ le. below n pos le, λ le. above n pos le)) next_pos;
    }
  where
    next : IsNext event t y
    next = orderly t y is

    next_pos : 1 ≤ y.count
    next_pos = let e = next.count in omega arith

    known : (x : Instr) → x.core ≢ y.core → (u : ℕ) → (event u).retires ≡ Some x → IsOrLeads event u t →
        IsKnownAt event x y
    known x apart u at (inl e) = absurd (apart (ap (λ (z : Instr). z.core) (same_Some x y (sym at
        ∙ (ap (λ (v : ℕ). (event v).retires) e ∙ is)))))
    known x apart u at (inr p) = record { there = u; here = t; retired = at; retires = is; leads = p }

    counted : (x : Instr) → IsKnownAt event x y → RetiresIn event (λ u. IsOrLeads event u t) x
    counted x f = (
      f.there,
      f.retired,
      inr (subst (λ (u : ℕ). Leads event f.there u) (retires_once event f.here t y f.retires is
          (orderly f.here y f.retires) next) f.leads),
    )

    of_core : ℕ → Instr
    of_core n = record { core = y.core; count = n }

    below : (n : ℕ) → 1 ≤ n → n ≤ count_in k y.core → n ≤ y.count
    below n pos le = let r = (h.at (of_core n) next.core pos).0 le in by r.0 r.1 r.2
      where
        by : (u : ℕ) → (event u).retires ≡ Some (of_core n) → IsOrLeads event u t → n ≤ y.count
        by u at (inl e) = let same_one : of_core n ≡ y = same_Some (of_core n) y (sym at
            ∙ (ap (λ (v : ℕ). (event v).retires) e ∙ is)) in
            let f : n ≡ y.count = ap (λ (z : Instr). z.count) same_one in omega arith
        by u at (inr p) =
            let lt = leads_before event u t p in
            let le2 : n ≤ retired_in event t y.core = retired_below event u t (of_core n) at (orderly u (of_core n) at)
            lt in
            let f = next.count in
            omega arith

    above : (n : ℕ) → 1 ≤ n → n ≡ y.count → n ≤ count_in k y.core
    above n pos e = (h.at (of_core n) next.core pos).1 (
      t,
      is
          ∙ ap (λ (z : Instr). Some z) (instr_eq y (of_core n) refl (sym e)),
      inl refl,
    )

    same : (m n : ℕ) → ((k : ℕ) → 1 ≤ k → (k ≤ n → k ≤ m) × (k ≡ m → k ≤ n)) → 1 ≤ m → n ≡ m
    same m n f pos = let up : m ≤ n = (f m pos).1 refl in let down : n ≤ m = (f n (omega arith)).0 (omega arith) in
        omega arith

pub known_count_law : KnownCountLaw
known_count_law event t actor c y orderly own is h =
    known_count event t (carry_left known_carrying (event t) c actor) y orderly is (counts_left event t actor c own
    (λ u lt. orderly u) h)

pub known_earlier_law : KnownEarlierLaw
known_earlier_law event x y k = leads_before event k.there k.here k.leads

pub known_stays_law : KnownStaysLaw
known_stays_law event x y z t orderly k core later is =
    record {
      there = k.there;
      here = t;
      retired = k.retired;
      retires = is;
      leads = leads_joined event k.there k.here t k.leads (
        0,
        inl (record {
          actor = AtCore y.core;
          of_it = first.own;
          and_of_it = second.own ∙ ap (λ (c : ℕ). Some (AtCore c)) core;
          before = before (cases_order k.here t);
        }),
      );
    }
  where
    first : IsNext event k.here y
    first = orderly k.here y k.retires

    second : IsNext event t z
    second = orderly t z is

    before : (k.here ≡ t) ⊎ ((k.here < t) ⊎ (t < k.here)) → k.here < t
    before (inr (inl lt)) = lt
    before (inl e) =
        absurd (let same_one : y ≡ z = same_Some y z (sym k.retires ∙ (ap (λ (u : ℕ). (event u).retires) e ∙ is)) in
        let f : y.count ≡ z.count = ap (λ (i : Instr). i.count) same_one in omega arith)
    before (inr (inr lt)) =
        absurd (let below = retired_below event t k.here z is second lt in
        let f : y.count ≡ retired_in event k.here z.core + 1 = first.count
        ∙ ap (λ (c : ℕ). retired_in event k.here c + 1) (sym core) in omega arith)
