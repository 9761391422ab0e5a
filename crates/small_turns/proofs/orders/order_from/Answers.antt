use Rattle.std.proofs.Common.{◌≡◌, ◌≤◌, ◌-◌, ◌++◌, ◌∙◌, ℕ, List, ap, sym, length, get_or, replicate, arith}
use Rattle.std.proofs.lemmas.List.{get_or_read, length-replicate, length-set}
use Rattle.turn_lists.specs.declared.actor.Turn.{Turn}
use Rattle.small_turns.specs.Acts.{made_by, single_turn}
use Rattle.small_turns.specs.Orders.{reached}
use Rattle.small_turns.specs.declared.lines.Line.{Line}
use Rattle.small_turns.proofs.PlacesReached.{none_reached, order_more}
use Rattle.small_turns.proofs.orders.order_from.Goals as goal

pub loop-turn-init : goal.loop-turn-init
loop-turn-init c =
    let none : c.in_ok-places.places.items ≡ replicate (length c.args.lines.now) 0 =
    c.in_ok-places.ensures.items_if_clones_equal (λ y h. h) in
    record {
      now = c.requires;
      long = ap length none ∙ length-replicate _ _;
      before = λ a. ap (made_by a) c.new-order.ensures
          ∙ sym (ap (reached a c.args.lines.now) none ∙ none_reached a c.args.lines.now _);
    }

pub loop-turn-preserved : goal.loop-turn-preserved
loop-turn-preserved c =
    let places : List ℕ = c.loop-turn.places.items in
    let now : ℕ = c.loop-turn.now in
    let to : ℕ = c.reach-to.result in
    let order : List Turn = c.loop-turn.order in
    let line : Line = c.index-lines-now-in-loop-turn.result in
    let from : c.index-from.result.now ≡ get_or places now 0 =
    get_or_read places now c.index-from.result.now
    (omega (arith, c.loop-turn.invariant.now, c.loop-turn.invariant.long)) c.index-from.ensures 0 in
    let up : get_or places now 0 ≤ to = omega (arith, from, c.reach-to.ensures) in
    let is : c.put_acts.new.order
    ≡ order ++ replicate (to - get_or places now 0) (single_turn (get_or c.args.lines.now now line).actor) =
    c.in_ok-put_acts.ensures
    ∙ ap (λ (n : ℕ). order ++ replicate (to - n) (single_turn (get_or c.args.lines.now now line).actor)) from in
    record {
      now = c.next_line-now.ensures;
      long = length-set places now to ∙ c.loop-turn.invariant.long;
      before = λ a. order_more a c.args.lines.now places now to line order c.put_acts.new.order
          c.loop-turn.invariant.now c.loop-turn.invariant.long up is (c.loop-turn.invariant.before a);
    }
