use Rattle.std.proofs.Common.{◌≡◌, ℕ, ◌+◌, ◌-◌, sym, ap, subst, ◌∙◌, drop, arith}
use Rattle.std.specs.Prelude.{Bool, Option, Some, if◌then◌else◌}
use Rattle.race_queries.specs.declared.ends.Ends.{Ends}
use Rattle.wait_chains.specs.Chains.{last_wait, later}
use Rattle.wait_chains.proofs.Waits.{no_wait, wait_else, wait_here}
use Rattle.wait_chains.proofs.chains.last_wait.Goals as goal

pub loop-k-init : goal.loop-k-init
loop-k-init c = record { most = omega arith; so_far = no_wait c.args.at c.args.all.now _ (omega arith) }

pub loop-k-preserved-then-leads_up_to : goal.loop-k-preserved-then-leads_up_to
loop-k-preserved-then-leads_up_to c =
    let most = c.loop-k.invariant.most in
    let some = c.loop-k-test.true in
    let next : c.loop-k.k ≡ c.loop-k.k - 1 + 1 = omega arith in
    record {
      most = omega arith;
      so_far = ap Some c.later.ensures
          ∙ wait_here c.args.at c.args.all.now (c.loop-k.k - 1) _ (omega arith) c.loop-k.found
          (c.loop-k.invariant.so_far
          ∙ ap (λ (n : ℕ). last_wait c.args.at (drop n c.args.all.now)) next)
          (sym c.leads_up_to.ensures ∙ c.if-leads_up_to.true);
    }

pub loop-k-preserved : goal.loop-k-preserved
loop-k-preserved c =
    let most = c.loop-k.invariant.most in
    let some = c.loop-k-test.true in
    let next : c.loop-k.k ≡ c.loop-k.k - 1 + 1 = omega arith in
    record {
      most = omega arith;
      so_far = wait_else c.args.at c.args.all.now (c.loop-k.k - 1) _ (omega arith) c.loop-k.found
          (c.loop-k.invariant.so_far
          ∙ ap (λ (n : ℕ). last_wait c.args.at (drop n c.args.all.now)) next)
          (sym c.leads_up_to.ensures ∙ c.if-leads_up_to.false);
    }

pub returns : goal.returns
returns c =
    let none : c.loop-k.k ≡ 0 = omega (arith, c.loop-k-test.false) in
    c.loop-k.invariant.so_far ∙ ap (λ (n : ℕ). last_wait c.args.at (drop n c.args.all.now)) none
