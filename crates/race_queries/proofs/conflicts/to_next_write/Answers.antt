use Rattle.std.proofs.Common.{sym, ◌∙◌}
use Rattle.race_queries.specs.Conflicts.{behind}
use Rattle.race_queries.proofs.ConflictLemmas.{next_all, next_load, next_write}
use Rattle.race_queries.proofs.conflicts.to_next_write.Goals as goal

pub returns-then-is_write : goal.returns-then-is_write
returns-then-is_write c =
    next_write (behind c.args.at c.args.accesses.now) c.loop-access.next c.push.new.self
    c.accesses_behind-access-items.result.now c.loop-access.access-index _ c.loop-access.invariant
    c.loop-access-test.true (sym c.is_write.ensures ∙ c.if-is_write.true) c.in_ok-push.ensures.ok

pub loop-access-preserved : goal.loop-access-preserved
loop-access-preserved c =
    next_load (behind c.args.at c.args.accesses.now) c.loop-access.next c.push.new.self
    c.accesses_behind-access-items.result.now c.loop-access.access-index _ c.loop-access.invariant
    c.loop-access-test.true (sym c.is_write.ensures ∙ c.if-is_write.false) c.in_ok-push.ensures.ok

pub returns : goal.returns
returns c =
    next_all (behind c.args.at c.args.accesses.now) c.loop-access.next c.accesses_behind-access-items.result.now
    c.loop-access.access-index c.loop-access.invariant c.loop-access-test.false
