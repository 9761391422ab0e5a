-- The line that asked waits, and so the cache does.
use Rattle.std.proofs.Common.{arith, ◌∙◌, ap, ◌≡◌, ◌<◌, ◌%◌, false}
use Rattle.std.proofs.lemmas.List.{length-set}
use Rattle.std.proofs.lemmas.Nat.{mod_below}
use Rattle.msi_cache.specs.Lines.{waits}
use Rattle.msi_cache.specs.Table.{is_transient}
use Rattle.msi_cache.specs.declared.line.Line.{Line}
use Rattle.msi_cache.proofs.WaitCounts.{one_waits}
use Rattle.msi_cache.proofs.WaitingCaches.{any_put}
use Rattle.msi_cache.proofs.cache.Cache.ask.Goals as goal

pub invariant_of-self : goal.invariant_of-self
invariant_of-self g c =
    let low : c.args.block % 16 < 16 = mod_below c.args.block 16 (omega arith) in
    let still : waits c.self.inside.lines.items ≡ false = ap waits c.self.view_is ∙ c.requires.still in (
      length-set c.self.inside.lines.items (c.args.block % 16) _ ∙ c.self.invariant.0,
      one_waits c.self.inside.lines.items (c.args.block % 16) c.ask.new.self c.ask.new.self
          (omega (arith, low, c.self.invariant.0)) still c.ask.ensures.waits,
    )

pub returns-clause-waits : goal.returns-clause-waits
returns-clause-waits g c =
    let low : c.args.block % 16 < 16 = mod_below c.args.block 16 (omega arith) in
    any_put (λ (line : Line g.row.R.Denot). is_transient line.state) c.self.inside.lines.items (c.args.block % 16)
    c.ask.new.self
    (omega (arith, low, c.self.invariant.0)) c.ask.ensures.waits
