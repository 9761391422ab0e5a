use Rattle.std.proofs.Common.{refl, sym, ap, ◌∙◌}
use Rattle.race_queries.specs.Conflicts.{since_last_write}
use Rattle.race_queries.proofs.ConflictLemmas.{front_all, front_ends, front_more, near_load, near_write, since_nothing}
use Rattle.race_queries.proofs.conflicts.since_last_write.Goals as goal
use Rattle.race_queries.proofs.conflicts.since_last_write.Goals.{then-is_write, else-is_write}

pub loop-access-init : goal.loop-access-init
loop-access-init c = record { near = c.new-near.ensures ∙ since_nothing; front = refl }

pub returns-then-eq : goal.returns-then-eq
returns-then-eq c =
    c.loop-access.invariant.near
    ∙ ap since_last_write
    (front_ends c.args.at c.args.accesses.now c.loop-access.access-index _ c.loop-access.invariant.front
    c.loop-access-test.true (sym c.eq.ensures ∙ c.if-eq.true))

pub loop-access-preserved : goal.loop-access-preserved
loop-access-preserved c = record {
  near = elim c.if-is_write.branch [
    | then-is_write w ↦
        near_write c.args.accesses.now c.loop-access.access-index _ c.loop-access-test.true c.if-is_write.near
        c.push.new.self (w.near-is ∙ w.new-near-then-is_write.ensures) c.in_ok-push.ensures.ok
        (sym c.is_write.ensures ∙ w.if-is_write.true)
    | else-is_write w ↦
        near_load c.args.accesses.now c.loop-access.access-index _ c.loop-access-test.true c.if-is_write.near
        c.push.new.self (w.near-is ∙ c.loop-access.invariant.near) c.in_ok-push.ensures.ok
        (sym c.is_write.ensures ∙ w.if-is_write.false)
  ];
  front = front_more c.args.at c.args.accesses.now c.loop-access.access-index _ c.loop-access.invariant.front
      c.loop-access-test.true (sym c.eq.ensures ∙ c.if-eq.false);
}

pub returns : goal.returns
returns c =
    c.loop-access.invariant.near
    ∙ ap since_last_write
    (front_all c.args.at c.args.accesses.now c.loop-access.access-index c.loop-access.invariant.front
    c.loop-access-test.false)
