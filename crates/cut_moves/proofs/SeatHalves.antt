-- A core's seats rise, so those before a place are found by halving, and they are as many as the timeline has there of
-- the core's instructions.
use Rattle.std.proofs.Common.{inl, inr, ◌≡◌, ◌⊎◌, ℕ, ◌+◌, ◌-◌, ◌<◌, ◌≤◌, List, length, take, subst}
use Rattle.std.proofs.Common.{arith}
use Rattle.std.proofs.lemmas.Bool.{cases_lt}
use Rattle.std.specs.Prelude.{slice_index}
use Rattle.replay_core.specs.Orders.{counts, nought}
use Rattle.cut_moves.specs.Seats.{AreSeats, IsHowMany, Rise}
use Rattle.cut_moves.specs.Ways.{between}
use Rattle.cut_moves.proofs.SeatCounts.{among_grows, among_here}

-- ---- halving

-- those from the lower on that are known to be below the number, and those before the higher that are known not to be
pub record IsHalved (seats : List ℕ) (low high number some past : ℕ) : Type 0 where
  pub least : low ≤ some
  pub order : some ≤ past
  pub most : past ≤ high
  pub below : (count : ℕ) → low ≤ count → count < some → slice_index seats count < number
  pub above : (count : ℕ) → past ≤ count → count < high → number ≤ slice_index seats count

module _ (seats : List ℕ) (low high number some past middle : ℕ) (rise : Rise seats) (most : high ≤ length seats)
    (h : IsHalved seats low high number some past) (from : some ≤ middle) (to : middle < past) where
  pub halved_up : slice_index seats middle < number → IsHalved seats low high number (middle + 1) past
  halved_up lt = record {
    least = let l = h.least in omega arith;
    order = omega arith;
    most = h.most;
    below = λ count up down. elim (cases_lt count middle) [
      | inl before ↦ let m = h.most in let r = rise count middle before (omega arith) in omega arith
      | inr not_before ↦
          let same : middle ≡ count = omega arith in
          subst (λ (k : ℕ). slice_index seats k < number) same lt
    ];
    above = h.above;
  }

  pub halved_down : number ≤ slice_index seats middle → IsHalved seats low high number some middle
  halved_down le = record {
    least = h.least;
    order = from;
    most = let m = h.most in omega arith;
    below = h.below;
    above = λ count up down. elim (cases_lt middle count) [
      | inl before ↦ let r = rise middle count before (omega arith) in omega arith
      | inr not_before ↦
          let same : middle ≡ count = omega arith in
          subst (λ (k : ℕ). number ≤ slice_index seats k) same le
    ];
  }

pub halved_start : (seats : List ℕ) (low high number : ℕ) → low ≤ high → IsHalved seats low high number low high
halved_start seats low high number le = record {
  least = omega arith;
  order = le;
  most = omega arith;
  below = λ count up down. absurd (omega arith);
  above = λ count up down. absurd (omega arith);
}

pub halved_end : (seats : List ℕ) (low high number some past : ℕ) → IsHalved seats low high number some past →
    past ≤ some → IsHowMany seats low high number some
halved_end seats low high number some past h end = record {
  least = h.least;
  most = let o = h.order in let m = h.most in omega arith;
  below = h.below;
  above = λ count up down. h.above count (omega arith) down;
}

-- ---- seats

module _ (timeline seats : List ℕ) (core : ℕ) (h : AreSeats timeline (length timeline) core seats) where
  pub seats_rise : Rise seats
  seats_rise i j lt inside = by (cases_lt (slice_index seats i) (slice_index seats j))
    where
      by : (slice_index seats i < slice_index seats j) ⊎ (slice_index seats j ≤ slice_index seats i) →
          slice_index seats i < slice_index seats j
      by (inl below) = below
      by (inr le) =
          let first = (h.each i (omega arith)).behind in
          let second = (h.each j inside).behind in
          let grows = among_grows timeline (slice_index seats j) (slice_index seats i) core le in
          absurd (omega arith)

  pub between_seats : (low high number some : ℕ) → high ≤ length seats → IsHowMany seats low high number some →
      some ≡ between low high (counts nought (take number timeline) core)
  between_seats low high number some most is = by (cases_lt low some) (cases_lt some high)
    where
      at : ℕ
      at = counts nought (take number timeline) core

      up : low < some → some ≤ counts nought (take number timeline) core
      up lt =
          let fewer = is.most in
          let last = h.each (some - 1) (omega arith) in
          let before = is.below (some - 1) (omega arith) (omega arith) in
          let here = among_here timeline (slice_index seats (some - 1)) core last.inside last.core_is in
          let behind = last.behind in
          let grows = among_grows timeline (slice_index seats (some - 1) + 1) number core (omega arith) in
          omega arith

      down : some < high → counts nought (take number timeline) core ≤ some
      down lt =
          let next = (h.each some (omega arith)).behind in
          let grows = among_grows timeline number (slice_index seats some) core (is.above some (omega arith) lt) in
          omega arith

      by : (low < some) ⊎ (some ≤ low) → (some < high) ⊎ (high ≤ some) →
          some ≡ between low high (counts nought (take number timeline) core)
      by (inl more) (inl less) = let u = up more in let d = down less in omega arith
      by (inl more) (inr all) = let u = up more in let m = is.most in omega arith
      by (inr none) (inl less) = let d = down less in let l = is.least in omega arith
      by (inr none) (inr all) = let l = is.least in let m = is.most in omega arith
