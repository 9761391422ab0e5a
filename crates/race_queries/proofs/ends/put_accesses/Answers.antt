use Rattle.std.proofs.Common.{ℕ, ◌+◌, ◌-◌, ◌≡◌, drop, subst, arith}
use Rattle.race_queries.specs.Ends.{HasAccesses}
use Rattle.race_queries.proofs.EndLemmas.{accesses_more, no_accesses}
use Rattle.race_queries.proofs.ends.put_accesses.Goals as goal

pub loop-k-init : goal.loop-k-init
loop-k-init c = record { most = omega arith; kept = no_accesses c.args.kept.now c.args.accesses.now _ (omega arith) }

pub loop-k-preserved : goal.loop-k-preserved
loop-k-preserved c =
    let most = c.loop-k.invariant.most in
    let some = c.loop-k-test.true in
    let next : c.loop-k.k ≡ c.loop-k.k - 1 + 1 = omega arith in
    record {
      most = omega arith;
      kept = accesses_more c.args.kept.now c.loop-k.kept _ c.args.accesses.now (c.loop-k.k - 1) _ (omega arith)
          (subst (λ (n : ℕ). HasAccesses c.args.kept.now c.loop-k.kept (drop n c.args.accesses.now)) next
          c.loop-k.invariant.kept)
          c.in_ok-put_access.ensures;
    }

pub returns : goal.returns
returns c =
    let none : c.loop-k.k ≡ 0 = omega (arith, c.loop-k-test.false) in
    subst (λ (n : ℕ). HasAccesses c.args.kept.now c.loop-k.kept (drop n c.args.accesses.now)) none
    c.loop-k.invariant.kept
