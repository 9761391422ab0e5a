-- A timeline by rounds has few cores and few places.
use Rattle.std.proofs.Common.{◌≡◌, ℕ, zero, suc, ◌+◌, ◌*◌, ◌<◌, ◌≤◌, ◌^◌, List, [], ◌∷◌, length, refl, sym, ap, arith}
use Rattle.std.specs.Prelude.{slice_index, sum}
use Rattle.std.proofs.lemmas.List.Sums.{sum_by-le}
use Rattle.std.proofs.lemmas.Nat.{mul-le}
use Rattle.rtr_types.specs.declared.TheConstants.{CORES_MAX}
use Rattle.rtr_types.specs.declared.params.TheConstants.{LIMIT_MAX}
use Rattle.rtr_types.specs.declared.pairs.Which.{Which}
use Rattle.race_log.specs.declared.recording.Recording.{Recording}
use Rattle.race_log.specs.Validity.{Valid}
use Rattle.replay_core.specs.Orders.{bump, nought, Ordered}
use Rattle.replay_core.specs.Plans.{Plan, plan_of}
use Rattle.replay_core.proofs.Low.{left_nought}
use Rattle.cut_moves.specs.Rounds.{rounds_of}
use Rattle.cut_moves.proofs.Rounds.{left_after, rounds_ordered}

-- each place of an order is one of the plan's cores
ordered_few : (p : Plan) (f : ℕ → ℕ) (order : List ℕ) (number : ℕ) → Ordered p f order → number < length order →
    slice_index order number < length p.totals
ordered_few p f [] number o lt = absurd (omega arith)
ordered_few p f (c ∷ cs) zero o lt = o.0.inside
ordered_few p f (c ∷ cs) (suc number) o lt = ordered_few p (bump f c) cs number o.1 (omega arith)

module _ (which : Which) (r : Recording) (valid : Valid r) where
  pub rounds_few : (number : ℕ) → number < length (rounds_of which r) →
      slice_index (rounds_of which r) number < CORES_MAX
  rounds_few number lt =
      let few = ordered_few (plan_of which r) nought (rounds_of which r) number (rounds_ordered (plan_of which r)) lt in
      let each = valid.each_core in
      let most = valid.params.cores in
      omega arith

  pub rounds_short : length (rounds_of which r) < 2 ^ 32
  rounds_short =
      let after = left_after (plan_of which r) nought (rounds_of which r) (rounds_ordered (plan_of which r)) in
      let all = left_nought r.totals 0 in
      let limit = sum_by-le (λ (x : ℕ). x) r.params.limit r.totals valid.totals in
      let few = valid.params.limit in
      let each = valid.each_core in
      let most = valid.params.cores in
      small (length r.totals) r.params.limit (length (rounds_of which r)) (omega arith) (omega arith) (omega arith)
    where
      small : (cores limit places : ℕ) → cores ≤ 16 → limit ≤ 1000000 → places ≤ cores * limit → places < 2 ^ 32
      small cores limit places few low le = let m = mul-le cores limit 16 1000000 few low in omega arith
