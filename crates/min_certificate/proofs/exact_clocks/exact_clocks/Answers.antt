use Rattle.std.proofs.Common.{◌∷◌, [], arith}
use Rattle.std.proofs.lemmas.List.{length-append}
use Rattle.min_certificate.proofs.Exactly.{cores_more}
use Rattle.min_certificate.proofs.exact_clocks.exact_clocks.Goals as goal

pub loop-core-preserved : goal.loop-core-preserved
loop-core-preserved c = record {
  all = rw c.in_ok-push.ensures.ok
      (omega (
        arith,
        length-append c.loop-core.clocks (c.in_ok-clocks_of_core.field-0 ∷ []),
        c.loop-core.invariant.all,
      ));
  each = cores_more c.args.audited.now.recording c.loop-core.core c.loop-core.clocks c.push.new.self
      c.in_ok-clocks_of_core.field-0 c.loop-core.invariant.all
      c.loop-core.invariant.each c.in_ok-push.ensures.ok c.in_ok-clocks_of_core.ensures;
}
