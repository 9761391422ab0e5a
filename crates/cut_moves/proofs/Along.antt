-- Along the way between two closed cuts each place's core is ready: the way has come as far as the timeline, but not
-- below the lower cut and not above the higher one, and each source of what it takes lies in the higher cut.
use Rattle.std.proofs.Common.{inl, inr, ◌≡◌, ◌⊎◌, ℕ, suc, ◌+◌, ◌<◌, ◌≤◌, List, [], ◌∷◌, refl, sym, ◌∙◌, subst, arith}
use Rattle.std.proofs.Common.{true, false, Bool, ◌&&◌}
use Rattle.std.specs.Prelude.{nat_lt, nat_le}
use Rattle.std.specs.List.{Contains}
use Rattle.std.proofs.lemmas.Bool.{cases_lt}
use Rattle.std.proofs.lemmas.Bool.Decides.{nat_tests}
use Rattle.std.proofs.Math.Bool.{and-false}
use native.Mathlib.Decide.{ℕ_discrete}
use Rattle.rtr_types.specs.declared.instr.Edge.{Edge}
use Rattle.replay_core.specs.Plans.{Plan}
use Rattle.replay_core.specs.Orders.{bump, counts, nought, Sourced, Ready, Ordered}
use Rattle.replay_core.proofs.Counts.{bump_same, bump_else}
use Rattle.cut_moves.specs.Ways.{way_from, with_place, ClosedUnder, Within, WayCountsLaw, WayOrderedLaw}

-- how far the way has come, where the timeline has come to `at`: there, but not below the lower cut and not above the
-- higher
pub record IsBetween (low high at now : ℕ) : Type 0 where
  pub below : at ≤ low → now ≡ low
  pub inside : low ≤ at → at ≤ high → now ≡ at
  pub above : high ≤ at → now ≡ high

abbrev AreBetween : (low high at now : ℕ → ℕ) → Type 0
AreBetween low high at now = (i : ℕ) → IsBetween (low i) (high i) (at i) (now i)

-- a source that lies within what the timeline has and within the higher cut lies within what the way has
source_between : (low high at now n : ℕ) → IsBetween low high at now → low ≤ high → n ≤ at → n ≤ high → n ≤ now
source_between low high at now n b le m k = by (cases_lt at low) (cases_lt high at)
  where
    by : (at < low) ⊎ (low ≤ at) → (high < at) ⊎ (at ≤ high) → n ≤ now
    by (inl lt) x = let e = b.below (omega arith) in omega arith
    by (inr ge) (inl gt) = let e = b.above (omega arith) in omega arith
    by (inr ge) (inr in_) = let e = b.inside ge in_ in omega arith

sourced_between : (edges : List Edge) (low high at now : ℕ → ℕ) (c n : ℕ) → AreBetween low high at now →
    Within low high →
    ((e : Edge) → Contains edges e → e.to.core ≡ c → e.to.count ≡ n → e.from.count ≤ high e.from.core) →
    Sourced edges at c n → Sourced edges now c n
sourced_between [] low high at now c n b w closed s = tt
sourced_between (e ∷ edges) low high at now c n b w closed s = (
  λ core count. source_between (low e.from.core) (high e.from.core) (at e.from.core) (now e.from.core) e.from.count
      (b e.from.core)
      (w e.from.core) (s.0 core count) (closed e (0, omega arith, refl) core count),
  sourced_between edges low high at now c n b w (λ d has. closed d (later d has)) s.1,
)
  where
    later : (d : Edge) → Contains edges d → Contains (e ∷ edges) d
    later d (k, below, is) = (suc k, omega arith, is)

-- the timeline goes on, and the way with it
on_both : (low high at now : ℕ → ℕ) (c : ℕ) → AreBetween low high at now → Within low high → low c ≤ at c →
    at c < high c →
    AreBetween low high (bump at c) (bump now c)
on_both low high at now c b w le lt i = elim (ℕ_discrete i c) [
  | yes e ↦
      let x = bump_same at c i e in
      let y = bump_same now c i e in
      let l : low i ≤ at i = subst (λ (k : ℕ). low k ≤ at k) (sym e) le in
      let h : at i < high i = subst (λ (k : ℕ). at k < high k) (sym e) lt in
      let is = (b i).inside l (omega arith) in
      record { below = λ k. absurd (omega arith); inside = λ k m. omega arith; above = λ k. omega arith }
  | no ne ↦
      let x = bump_else at c i ne in
      let y = bump_else now c i ne in
      let o = b i in
      record {
        below = λ k. y ∙ o.below (omega arith);
        inside = λ k m. y ∙ o.inside (omega arith) (omega arith) ∙ sym x;
        above = λ k. y ∙ o.above (omega arith);
      }
]

-- the timeline goes on below the lower cut or above the higher, and the way stays
on_one : (low high at now : ℕ → ℕ) (c : ℕ) → AreBetween low high at now → Within low high →
    (at c < low c) ⊎ (high c ≤ at c) →
    AreBetween low high (bump at c) now
on_one low high at now c b w out i = elim (ℕ_discrete i c) [
  | yes e ↦ by (subst (λ (k : ℕ). (at k < low k) ⊎ (high k ≤ at k)) (sym e) out) (bump_same at c i e)
  | no ne ↦
      let x = bump_else at c i ne in
      let o = b i in
      record {
        below = λ k. o.below (omega arith);
        inside = λ k m. o.inside (omega arith) (omega arith) ∙ sym x;
        above = λ k. o.above (omega arith);
      }
]
  where
    by : (at i < low i) ⊎ (high i ≤ at i) → bump at c i ≡ at i + 1 → IsBetween (low i) (high i) (bump at c i) (now i)
    by (inl lt) x =
        let is = (b i).below (omega arith) in
        let le = w i in
        record { below = λ k. is; inside = λ k m. omega arith; above = λ k. omega arith }
    by (inr ge) x =
        let is = (b i).above ge in
        let le = w i in
        record { below = λ k. omega arith; inside = λ k m. omega arith; above = λ k. is }

-- whether the place is on the way
abbrev IsOn : (low high at : ℕ) → Bool
IsOn low high at = nat_le low at && nat_lt at high

pub on_is : (low high at : ℕ) → low ≤ at → at < high → IsOn low high at ≡ true
on_is low high at le lt =
    let a : nat_le low at ≡ true = grind (arith, nat_tests) in
    let b : nat_lt at high ≡ true = grind (arith, nat_tests) in
    rw (a, b) refl

pub off_low : (low high at : ℕ) → at < low → IsOn low high at ≡ false
off_low low high at lt = let a : nat_le low at ≡ false = grind (arith, nat_tests) in rw a refl

pub off_high : (low high at : ℕ) → high ≤ at → IsOn low high at ≡ false
off_high low high at le = let a : nat_lt at high ≡ false = grind (arith, nat_tests) in rw a (and-false (nat_le low at))

abbrev OrderedOn : Plan → (low high at : ℕ → ℕ) → ℕ → List ℕ → Type 0
OrderedOn p low high at c cs =
    (g : ℕ → ℕ) → AreBetween low high (bump at c) g → Ordered p g (way_from low high (bump at c) cs)

ordered_from : (p : Plan) (low high at now : ℕ → ℕ) (cs : List ℕ) → ClosedUnder p.edges high → Within low high →
    AreBetween low high at now → Ordered p at cs → Ordered p now (way_from low high at cs)
ordered_from p low high at now [] closed w b o = tt
ordered_from p low high at now (c ∷ cs) closed w b o =
    by (λ g k. ordered_from p low high (bump at c) g cs closed w k o.1) (cases_lt (at c) (low c))
    (cases_lt (at c) (high c))
  where
    stays : OrderedOn p low high at c cs → (at c < low c) ⊎ (high c ≤ at c) → IsOn (low c) (high c) (at c) ≡ false →
        Ordered p now (with_place (IsOn (low c) (high c) (at c)) c (way_from low high (bump at c) cs))
    stays rest out t = rw t (rest now (on_one low high at now c b w out))

    ready : low c ≤ at c → at c < high c → Ready p now c
    ready le lt =
        let is = (b c).inside le (omega arith) in
        let r = o.0 in
        record {
          inside = r.inside;
          below = let x = r.below in omega arith;
          sourced = subst (λ (n : ℕ). Sourced p.edges now c (n + 1)) (sym is)
              (sourced_between p.edges low high at now c (at c + 1) b w
              (λ e has core count. closed e has
              (let k : at c < high e.to.core = subst (λ (j : ℕ). at c < high j) (sym core) lt in omega arith))
              r.sourced);
        }

    by : OrderedOn p low high at c cs → (at c < low c) ⊎ (low c ≤ at c) → (at c < high c) ⊎ (high c ≤ at c) →
        Ordered p now (with_place (IsOn (low c) (high c) (at c)) c (way_from low high (bump at c) cs))
    by rest (inl lt) x = stays rest (inl lt) (off_low (low c) (high c) (at c) lt)
    by rest (inr le) (inr ge) = stays rest (inr ge) (off_high (low c) (high c) (at c) ge)
    by rest (inr le) (inl lt) = rw (on_is (low c) (high c) (at c) le lt)
        (ready le lt, rest (bump now c) (on_both low high at now c b w le lt))

abbrev CountsGo : (low high at now : ℕ → ℕ) → ℕ → List ℕ → Bool → Type 0
CountsGo low high at now c cs t =
    AreBetween low high (counts (bump at c) cs) (counts now (with_place t c (way_from low high (bump at c) cs)))

abbrev CountsOn : (low high at : ℕ → ℕ) → ℕ → List ℕ → Type 0
CountsOn low high at c cs =
    (g : ℕ → ℕ) → AreBetween low high (bump at c) g →
    AreBetween low high (counts (bump at c) cs) (counts g (way_from low high (bump at c) cs))

pub counts_from : (low high at now : ℕ → ℕ) (cs : List ℕ) → Within low high → AreBetween low high at now →
    AreBetween low high (counts at cs) (counts now (way_from low high at cs))
counts_from low high at now [] w b = b
counts_from low high at now (c ∷ cs) w b =
    by (λ g k. counts_from low high (bump at c) g cs w k) (cases_lt (at c) (low c)) (cases_lt (at c) (high c))
  where
    stays : CountsOn low high at c cs → (at c < low c) ⊎ (high c ≤ at c) → IsOn (low c) (high c) (at c) ≡ false →
        CountsGo low high at now c cs (IsOn (low c) (high c) (at c))
    stays rest out t = rw t (rest now (on_one low high at now c b w out))

    by : CountsOn low high at c cs → (at c < low c) ⊎ (low c ≤ at c) → (at c < high c) ⊎ (high c ≤ at c) →
        CountsGo low high at now c cs (IsOn (low c) (high c) (at c))
    by rest (inl lt) x = stays rest (inl lt) (off_low (low c) (high c) (at c) lt)
    by rest (inr le) (inr ge) = stays rest (inr ge) (off_high (low c) (high c) (at c) ge)
    by rest (inr le) (inl lt) =
        rw (on_is (low c) (high c) (at c) le lt) (rest (bump now c) (on_both low high at now c b w le lt))

-- before the timeline's first place the way is at the lower cut
pub begins : (low high : ℕ → ℕ) → Within low high → AreBetween low high nought low
begins low high w i =
    let le = w i in
    record { below = λ k. refl; inside = λ k m. omega arith; above = λ k. omega arith }

pub way_ordered : WayOrderedLaw
way_ordered p low high timeline o closed w = ordered_from p low high nought low timeline closed w (begins low high w) o

pub way_counts : WayCountsLaw
way_counts low high timeline w most i =
    (counts_from low high nought low timeline w (begins low high w) i).above (most i)
