use Rattle.std.proofs.Common.{◌≡◌, ◌+◌, ◌∷◌, [], ◌++◌, refl, sym, ap, ◌∙◌, length, length-append, arith}
use Rattle.std.specs.Prelude.{List, Option, Some, None}
use Rattle.race_queries.specs.declared.ends.Ends.{Ends}
use Rattle.wait_chains.proofs.Waits.{front_ends, front_full, front_more, front_start}
use Rattle.wait_chains.proofs.chains.chain_of.Goals as goal

pub loop-from-init : goal.loop-from-init
loop-from-init c = record {
  most = let none = ap (λ (l : List Ends). length l) c.new-list.ensures in omega arith;
  front = front_start c.args.all.now c.args.at c.args.most c.new-list.result c.new-list.ensures;
}

pub returns-in_default : goal.returns-in_default
returns-in_default c =
    front_ends c.args.all.now c.args.at c.args.most c.loop-from.list c.loop-from.from c.loop-from.invariant.front
    (sym c.last_wait.ensures ∙ c.in_default.is)

pub loop-from-preserved : goal.loop-from-preserved
loop-from-preserved c =
    let more = c.in_ok-push.ensures.ok in
    record {
      most =
          let long = ap (λ (l : List Ends). length l) more ∙ length-append c.loop-from.list (c.in-Some.wait ∷ []) in
          omega arith;
      front = front_more c.args.all.now c.args.at c.args.most c.loop-from.list c.loop-from.from
          c.loop-from.invariant.front c.in-Some.wait (sym c.last_wait.ensures ∙ c.in-Some.is) (omega arith)
          c.push.new.self more;
    }

pub returns : goal.returns
returns c =
    front_full c.args.all.now c.args.at c.args.most c.loop-from.list c.loop-from.from c.loop-from.invariant.front
    (omega arith)
