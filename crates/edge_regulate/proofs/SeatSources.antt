-- A core's seat looks at each source in turn, when a retirement was awaited.
use Rattle.std.proofs.Common.{◌≡◌, ◌≢◌, ℕ, ◌+◌, ◌<◌, ◌≤◌, ◌⊎◌, inl, inr, refl, sym, ap, subst, ◌∙◌, arith}
use Rattle.std.proofs.lemmas.Bool.{cases_eq}
use Rattle.know_history.specs.declared.known.Known.{Known}
use Rattle.know_history.specs.Knowledge.{count_in}
use Rattle.edge_regulate.specs.declared.seat.Awaited.{Awaited}
use Rattle.edge_regulate.specs.declared.seat.Seat.{Seat}
use Rattle.edge_regulate.specs.Awaiting.{never, watched}
use Rattle.edge_regulate.specs.Seats.{IsLeast, awaited_at}

-- so many sources were looked at, and this is the least count of them
pub record Looking (old s : Seat) (count : ℕ) (known : Known) (next i : ℕ) : Type 0 where
  pub lower : (k : ℕ) → k < i → next ≤ (awaited_at s k).target
  pub most : next ≤ never
  pub greatest : (bound : ℕ) → bound ≤ never → ((k : ℕ) → k < i → bound ≤ (awaited_at s k).target) → bound ≤ next
  pub done : (k : ℕ) → k < i → awaited_at s k ≡ watched count (count_in known k) (awaited_at old k)
  pub left : (k : ℕ) → i ≤ k → awaited_at s k ≡ awaited_at old k

pub looking_start : (s : Seat) (count : ℕ) (known : Known) → Looking s s count known never 0
looking_start s count known = record {
  lower = λ k lt. absurd (omega arith);
  most = omega arith;
  greatest = λ bound le each. le;
  done = λ k lt. absurd (omega arith);
  left = λ k le. refl;
}

pub looking_next : (old s t : Seat) (count : ℕ) (known : Known) (next later i : ℕ) → Looking old s count known next i →
    awaited_at t i ≡ watched count (count_in known i) (awaited_at s i) →
    ((k : ℕ) → k ≢ i → awaited_at t k ≡ awaited_at s k) → later ≤ next → later ≤ (awaited_at t i).target →
    ((bound : ℕ) → bound ≤ next → bound ≤ (awaited_at t i).target → bound ≤ later) →
    Looking old t count known later (i + 1)
looking_next old s t count known next later i h at others before here greatest = record {
  lower = λ k lt. lower k lt (cases_eq k i);
  most = (let most = h.most in omega arith);
  greatest = λ bound le each. greatest bound (h.greatest bound le (λ k lt. earlier k lt bound (each k (omega arith))))
      (each i (omega arith));
  done = λ k lt. done k lt (cases_eq k i);
  left = λ k le. others k (λ is. absurd (omega arith)) ∙ h.left k (omega arith);
}
  where
    earlier : (k : ℕ) → k < i → (bound : ℕ) → bound ≤ (awaited_at t k).target → bound ≤ (awaited_at s k).target
    earlier k lt bound le =
        let same = ap (λ (w : Awaited). w.target) (others k (λ is. absurd (omega arith))) in omega arith

    lower : (k : ℕ) → k < i + 1 → (k ≡ i) ⊎ (k ≢ i) → later ≤ (awaited_at t k).target
    lower k lt (inl is) = let same = ap (λ (n : ℕ). (awaited_at t n).target) is in omega arith
    lower k lt (inr apart) =
        let same = ap (λ (w : Awaited). w.target) (others k apart) in
        let less : k < i = grind arith in
        let low = h.lower k less in
        omega arith

    done : (k : ℕ) → k < i + 1 → (k ≡ i) ⊎ (k ≢ i) → awaited_at t k ≡ watched count (count_in known k)
        (awaited_at old k)
    done k lt (inl is) =
        ap (λ (n : ℕ). awaited_at t n) is ∙ at
        ∙ ap (λ (w : Awaited). watched count (count_in known i) w) (h.left i (omega arith))
        ∙ ap (λ (n : ℕ). watched count (count_in known n) (awaited_at old n)) (sym is)
    done k lt (inr apart) = others k apart ∙ h.done k (grind arith)

pub looked_least : (old s new : Seat) (count cores : ℕ) (known : Known) (next : ℕ) →
    Looking old s count known next cores →
    new ≡ record { next = next; sources = s.sources } → IsLeast cores new
looked_least old s new count cores known next h is =
    subst (λ (x : Seat). IsLeast cores x) (sym is) (record { lower = h.lower; greatest = h.greatest })

pub looked_each : (old s new : Seat) (count cores : ℕ) (known : Known) (next : ℕ) →
    Looking old s count known next cores →
    new ≡ record { next = next; sources = s.sources } → (k : ℕ) → k < cores →
    awaited_at new k ≡ watched count (count_in known k) (awaited_at old k)
looked_each old s new count cores known next h is k lt = ap (λ (x : Seat). awaited_at x k) is ∙ h.done k lt
