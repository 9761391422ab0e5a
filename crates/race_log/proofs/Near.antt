-- Where in a list of edges that rise the first edge to a count or a later one is.
use Rattle.std.proofs.Common.{◌≡◌, ◌∙◌, ℕ, ◌+◌, ◌-◌, ◌<◌, ◌≤◌, ◌⊎◌, inl, inr, List, length, get_or, ap, sym, arith, ltb}
use Rattle.std.proofs.Common.{true, false}
use Rattle.std.specs.List.{Contains}
use Rattle.std.specs.List.Sorted.{IsPartitionPoint}
use Rattle.std.proofs.lemmas.Bool.{ltb-true, ltb-false, cases_lt}
use Rattle.std.proofs.lemmas.List.{get_or_default}
use Rattle.rtr_types.specs.Turns.{StandInTurn, follow}
use Rattle.rtr_types.specs.PairEdges.{EdgeRises}
use Rattle.race_log.specs.Sources.{IsFrom}
use Rattle.race_log.proofs.RisingSearch.{Rising}
use Rattle.race_log.proofs.PairRises.{no_edge, targets-rise}

module _ (edges : List (ℕ × ℕ)) (rises : StandInTurn EdgeRises follow (0, 0) edges) where
  -- two neighbours tell of all
  pub from_neighbours : (target place : ℕ) → place ≤ length edges →
      ((k : ℕ) → k + 1 ≡ place → (get_or edges k (0, 0)).1 < target) →
      (place < length edges → target ≤ (get_or edges place (0, 0)).1) → IsFrom edges target place
  from_neighbours target place most past up =
      record {
        most = most;
        lower = λ k lt.
            let last = past (place - 1) (omega arith) in
            let up_to = targets-rise (0, 0) edges rises k (place - 1) in
            elim (cases_lt k (place - 1)) [
              | inl below ↦ let less = up_to below (omega arith) in omega arith
              | inr not_below ↦ let same : place - 1 ≡ k = omega arith in
                  let here = ap (λ (n : ℕ). (get_or edges n (0, 0)).1) same in omega arith
            ];
        others = λ k le lt.
            let first = up (omega arith) in
            let on = targets-rise (0, 0) edges rises place k in
            elim (cases_lt place k) [
              | inl before ↦ let less = on before lt in omega arith
              | inr not_before ↦ let same : place ≡ k = omega arith in
                  let here = ap (λ (n : ℕ). (get_or edges n (0, 0)).1) same in omega arith
            ];
      }

  -- the edge to the count is the one at the place
  pub at_place : (target place : ℕ) (a : ℕ) → IsFrom edges target place → Contains edges (a, target) →
      (place < length edges) × (get_or edges place (0, 0) ≡ (a, target))
  at_place target place a from has =
      let is : get_or edges has.0 (0, 0) ≡ (a, target) = get_or_default edges has.0 (0, 0) (a, target) has.1 ∙ has.2 in
      let count = ap (λ (e : ℕ × ℕ). e.1) is in
      let reached : place ≤ has.0 = elim (cases_lt has.0 place) [
        | inl below ↦ let less = from.lower has.0 below in omega arith
        | inr from_on ↦ from_on
      ] in
      let within = has.1 in
      let here : place ≡ has.0 = elim (cases_lt place has.0) [
        | inl before ↦
            let less = targets-rise (0, 0) edges rises place has.0 before within in
            let more = from.others place (omega arith) (omega arith) in omega arith
        | inr not_before ↦ omega arith
      ] in
      (omega arith, ap (λ (n : ℕ). get_or edges n (0, 0)) here ∙ is)

  pub from_partition : (target place : ℕ) → place ≤ length edges →
      IsPartitionPoint (λ e. ltb e.1 target ≡ true) (λ e. ltb e.1 target ≡ false) edges place →
      IsFrom edges target place
  from_partition target place most parted =
      record {
        most = most;
        lower = λ k lt. ltb-true (get_or edges k (0, 0)).1 target (parted.0 k (0, 0) (omega arith) lt);
        others = λ k le lt.
            let not_below = ltb-false (get_or edges k (0, 0)).1 target (parted.1 k (0, 0) le lt) in omega arith;
      }
