-- Seats: how many of a core's instructions stand among the first places grows by one at each of its places, so the
-- places of a core between two of its counts are those from the one seat up to the other.
use Rattle.std.proofs.Common.{inl, inr, ◌≡◌, ◌⊎◌, ℕ, zero, suc, ◌+◌, ◌-◌, ◌<◌, ◌≤◌, Bool, true, false, List}
use Rattle.std.proofs.Common.{[], ◌∷◌, ◌++◌}
use Rattle.std.proofs.Common.{length, take, replicate, refl, sym, ap, ◌∙◌, subst, arith, ◌&&◌}
use Rattle.std.proofs.Common.{length-set, get_or-set_same, get_or-set_other}
use Rattle.std.proofs.lemmas.Bool.{cases_lt}
use Rattle.std.proofs.lemmas.List.{get_or_append_left, get_or_push, take_more, take-take, take-append-drop, take_all}
use Rattle.std.proofs.lemmas.List.{length-append, length-replicate}
use Rattle.std.specs.Prelude.{nat_le, nat_lt, slice_index, slice_index_or, slice_set, drop}
use native.Mathlib.Decide.{ℕ_discrete}
use Rattle.rtr_types.specs.declared.TheConstants.{CORES_MAX}
use Rattle.replay_core.specs.Orders.{bump, counts, nought}
use Rattle.replay_core.proofs.Counts.{bump_same, bump_else, counts_on, counts_more}
use Rattle.cut_moves.specs.Seats.{AreSeats, HaveSeats, IsSeat, IsWindow, SeatsUpTo, is_within}
use Rattle.cut_moves.specs.declared.seats.Window.{Window}
use Rattle.cut_moves.proofs.Along.{off_high, off_low, on_is}

-- how many of a core's instructions stand among the first places
abbrev pub among : List ℕ → (past core : ℕ) → ℕ
among timeline past core = counts nought (take past timeline) core

-- one place more
pub among_next : (timeline : List ℕ) (n : ℕ) → n < length timeline →
    counts nought (take (n + 1) timeline) ≡ bump (counts nought (take n timeline)) (slice_index timeline n)
among_next timeline n lt =
    ap (λ (l : List ℕ). counts nought l) (take_more timeline n 0 lt)
    ∙ counts_on nought (take n timeline) (slice_index timeline n ∷ [])

pub among_here : (timeline : List ℕ) (n core : ℕ) → n < length timeline → slice_index timeline n ≡ core →
    among timeline (n + 1) core ≡ among timeline n core + 1
among_here timeline n core lt is =
    ap (λ (f : ℕ → ℕ). f core) (among_next timeline n lt)
    ∙ bump_same (counts nought (take n timeline)) (slice_index timeline n) core (sym is)

pub among_else : (timeline : List ℕ) (n core : ℕ) → n < length timeline → (core ≡ slice_index timeline n → ⊥) →
    among timeline (n + 1) core ≡ among timeline n core
among_else timeline n core lt other =
    ap (λ (f : ℕ → ℕ). f core) (among_next timeline n lt)
    ∙ bump_else (counts nought (take n timeline)) (slice_index timeline n) core other

-- more places have no fewer
pub among_grows : (timeline : List ℕ) (m n core : ℕ) → m ≤ n → among timeline m core ≤ among timeline n core
among_grows timeline m n core le =
    let front = take-take m n timeline le in
    let whole = take-append-drop m (take n timeline) in
    let rest = drop m (take n timeline) in
    let split : counts nought (take n timeline) core ≡ counts (counts nought (take m timeline)) rest core =
    ap (λ (l : List ℕ). counts nought l core) (sym whole)
    ∙ ap (λ (l : List ℕ). counts nought (l ++ rest) core) front
    ∙ ap (λ (f : ℕ → ℕ). f core) (counts_on nought (take m timeline) rest) in
    let more = counts_more (counts nought (take m timeline)) rest core in
    omega arith

-- ---- windows

-- at a place of the core its window has the place's number where the core's count there lies between the two
pub on_window : (timeline seats : List ℕ) (core low high number : ℕ) (window : Window) →
    AreSeats timeline (length timeline) core seats → high ≤ length seats → IsWindow seats low high window →
    number < length timeline → slice_index timeline number ≡ core →
    is_within window number
    ≡ (nat_le low (among timeline number core) && nat_lt (among timeline number core) high)
on_window timeline seats core low high number window h most w inside is = by (cases_lt low high)
  where
    at : ℕ
    at = among timeline number core

    out : high ≤ low → (at < low) ⊎ (low ≤ at) → (nat_le low at && nat_lt at high) ≡ false
    out none (inl lt) = off_low low high at lt
    out none (inr le) = off_high low high at (omega arith)

    split : (some : low < high) → (number < window.from) ⊎ (window.from ≤ number) →
        (number < window.past) ⊎ (window.past ≤ number) →
        is_within window number ≡ (nat_le low at && nat_lt at high)
    split some (inl lt) x =
        let here = among_here timeline number core inside is in
        let first = h.each low (omega arith) in
        let f = (w.some some).from in
        let grows = among_grows timeline (number + 1) (slice_index seats low) core (omega arith) in
        let b = first.behind in
        off_low window.from window.past number lt ∙ sym (off_low low high at (omega arith))
    split some (inr le) (inl lt) =
        let first = h.each low (omega arith) in
        let last = h.each (high - 1) (omega arith) in
        let f = (w.some some).from in
        let p = (w.some some).past in
        let from = among_grows timeline (slice_index seats low) number core (omega arith) in
        let up = among_grows timeline number (slice_index seats (high - 1)) core (omega arith) in
        let a = first.behind in
        let b = last.behind in
        on_is window.from window.past number le lt ∙ sym (on_is low high at (omega arith) (omega arith))
    split some (inr le) (inr past) =
        let last = h.each (high - 1) (omega arith) in
        let p = (w.some some).past in
        let here = among_here timeline (slice_index seats (high - 1)) core last.inside last.core_is in
        let up = among_grows timeline (slice_index seats (high - 1) + 1) number core (omega arith) in
        let b = last.behind in
        off_high window.from window.past number past ∙ sym (off_high low high at (omega arith))

    by : (low < high) ⊎ (high ≤ low) → is_within window number ≡ (nat_le low at && nat_lt at high)
    by (inr none) = w.none none number ∙ sym (out none (cases_lt at low))
    by (inl some) = split some (cases_lt number window.from) (cases_lt number window.past)

-- ---- seats are noted one after the other

pub seats_start : (timeline : List ℕ) (seats : List (List ℕ)) → seats ≡ replicate CORES_MAX [] →
    SeatsUpTo timeline 0 seats
seats_start timeline seats is = record {
  wide = ap (λ (l : List (List ℕ)). length l) is ∙ length-replicate {A = List ℕ} CORES_MAX [];
  each = λ core lt.
      subst (λ (l : List ℕ). AreSeats timeline 0 core l)
      (sym (ap (λ (l : List (List ℕ)). slice_index_or l core []) is ∙ none CORES_MAX core))
      (record { all = refl; each = λ count below. absurd (omega arith) });
}
  where
    none : (n core : ℕ) → slice_index_or (replicate {A = List ℕ} n []) core [] ≡ []
    none zero core = refl
    none (suc n) zero = refl
    none (suc n) (suc core) = none n core

module _ (timeline : List ℕ) (n : ℕ) (seats new : List (List ℕ)) (h : SeatsUpTo timeline n seats)
    (inside : n < length timeline) (few : slice_index timeline n < CORES_MAX)
    (is : new ≡ slice_set seats (slice_index timeline n)
    (slice_index_or seats (slice_index timeline n) [] ++ n ∷ [])) where
  abbrev here : ℕ
  here = slice_index timeline n

  abbrev old : List ℕ
  old = slice_index_or seats (slice_index timeline n) []

  same_core : AreSeats timeline (n + 1) here (old ++ n ∷ [])
  same_core =
      let before = h.each here few in
      let long = length-append old (n ∷ []) in
      record {
        all = let a = before.all in let up = among_here timeline n here inside refl in omega arith;
        each = λ count below. elim (ℕ_discrete count (length old)) [
          | yes e ↦
              subst (λ (x : ℕ). IsSeat timeline here count x) (sym (get_or_push old n 0 count (sym e)))
              (record { inside = inside; core_is = refl; behind = sym before.all ∙ sym e })
          | no ne ↦
              subst (λ (x : ℕ). IsSeat timeline here count x)
              (sym (get_or_append_left old (n ∷ []) 0 count (omega arith))) (before.each count (omega arith))
        ];
      }

  other_core : (core : ℕ) → core < CORES_MAX → (core ≡ here → ⊥) →
      AreSeats timeline (n + 1) core (slice_index_or seats core [])
  other_core core lt other =
      let before = h.each core lt in
      record {
        all = before.all ∙ sym (among_else timeline n core inside other);
        each = before.each;
      }

  pub seats_more : SeatsUpTo timeline (n + 1) new
  seats_more = record {
    wide = ap (λ (l : List (List ℕ)). length l) is ∙ length-set seats here (old ++ n ∷ []) ∙ h.wide;
    each = λ core lt. elim (ℕ_discrete core here) [
      | yes e ↦
          subst (λ (l : List (List ℕ)). AreSeats timeline (n + 1) core (slice_index_or l core [])) (sym is)
          (subst (λ (c : ℕ). AreSeats timeline (n + 1) c
          (slice_index_or (slice_set seats here (old ++ n ∷ [])) c [])) (sym e)
          (subst (λ (l : List ℕ). AreSeats timeline (n + 1) here l)
          (sym (get_or-set_same seats here (old ++ n ∷ []) [] (let w = h.wide in omega arith))) same_core))
      | no ne ↦
          subst (λ (l : List (List ℕ)). AreSeats timeline (n + 1) core (slice_index_or l core [])) (sym is)
          (subst (λ (l : List ℕ). AreSeats timeline (n + 1) core l)
          (sym (get_or-set_other seats here core (old ++ n ∷ []) [] ne)) (other_core core lt ne))
    ];
  }
