use Rattle.std.proofs.Common.{◌≡◌, ◌≢◌, ◌∙◌, ap, sym, subst, arith, ℕ}
use Rattle.std.specs.Prelude.{slice_index}
use Rattle.roomy_lists.specs.Lists.{is_ready_at, items_in, with_item}
use Rattle.know_history.specs.Changes.{is_news}
use Rattle.know_history.proofs.Places.{length-items, put_none, put_one, put_start}
use Rattle.know_history.proofs.changes.put_news.Goals as goal
use Rattle.know_history.proofs.changes.put_news.Goals.{then-is_news, else-is_news}

pub loop-of-init : goal.loop-of-init
loop-of-init c = put_start c.args.at c.args.counts.now c.args.newest.now c.args.changes.now c.requires.lists
    c.requires.ready

pub loop-of-preserved : goal.loop-of-preserved
loop-of-preserved c =
    let at = c.args.at in
    let counts = c.args.counts.now in
    let old = items_in c.args.changes.now in
    let all = c.loop-of.changes in
    let newer = c.loop-of.newest in
    let i = c.loop-of.of in
    let is : is_news at i (slice_index counts i) (slice_index newer i) ≡ c.is_news.result =
    sym (c.is_news.ensures ∙ ap (λ (n : ℕ). is_news at i (slice_index counts i) n) c.get.ensures) in
    elim c.if-is_news.branch [
      | then-is_news w ↦
          rw (w.changes-is, w.newest-is)
          (put_one at counts old c.args.newest.now all w.push.new.self newer w.set.new.self i c.loop-of-test.true (is
          ∙ w.if-is_news.true)
          (omega (arith, c.requires.lists, length-items c.args.changes.now))
          (subst (λ (p : ℕ). items_in w.push.new.self
          ≡ with_item (items_in all) p (record {
            count = at.count;
            known =
                slice_index counts i;
          })) w.list_place.ensures w.push.ensures.items)
          (subst (λ (p : ℕ). (other : ℕ) → other ≢ p → is_ready_at w.push.new.self other ≡ is_ready_at all other)
          w.list_place.ensures w.push.ensures.others)
          w.set.ensures.at w.set.ensures.others c.loop-of.invariant)
      | else-is_news w ↦ rw (w.changes-is, w.newest-is) (put_none at counts old c.args.newest.now all newer i (is
          ∙ w.if-is_news.false) c.loop-of.invariant)
    ]
