use Rattle.std.proofs.Common.{◌≡◌, ◌-◌, ◌++◌, length, get_or, ap, ◌∙◌, append_assoc, arith, List, ℕ}
use Rattle.rtr_types.specs.Turns.{follow}
use Rattle.log_codec.specs.Turns.{spelled_in_turn}
use Rattle.rtr_types.specs.PairEdges.{EdgeRises}
use Rattle.log_codec.specs.Spelling.{number, edge_text}
use Rattle.log_codec.proofs.InTurn.{puts_on, puts_done}
use Rattle.race_log.proofs.InTurn.{stand-drop}
use Rattle.log_codec.proofs.writing.put_edges.Goals as goal

pub loop-edge-init : goal.loop-edge-init
loop-edge-init c = record {
  rising = c.requires.rising;
  wrote = rw c.in_ok-put_u32.ensures.ok
      (append_assoc c.args.out.now.items (number (length c.args.edges.now))
      (spelled_in_turn edge_text follow (0, 0) c.args.edges.now));
}

pub overflow_sub-edge : goal.overflow_sub-edge
overflow_sub-edge c =
    let h = stand-drop EdgeRises follow c.loop-edge.last c.args.edges.now c.loop-edge.edge-index (0, 0)
    c.loop-edge-test.true c.loop-edge.invariant.rising in
    let up = h.0.target in
    omega arith

pub overflow_sub-edge-in-loop-edge : goal.overflow_sub-edge-in-loop-edge
overflow_sub-edge-in-loop-edge c =
    let h = stand-drop EdgeRises follow c.loop-edge.last c.args.edges.now c.loop-edge.edge-index (0, 0)
    c.loop-edge-test.true c.loop-edge.invariant.rising in
    let up = h.0.source in
    omega arith

pub loop-edge-preserved : goal.loop-edge-preserved
loop-edge-preserved c =
    let last = c.loop-edge.last in
    let e = get_or c.args.edges.now c.loop-edge.edge-index (0, 0) in
    let h = stand-drop EdgeRises follow last c.args.edges.now c.loop-edge.edge-index (0, 0) c.loop-edge-test.true
    c.loop-edge.invariant.rising in
    let is : c.put_u32-in-loop-edge-2.new.out.items ≡ c.loop-edge.out.items ++ edge_text last e =
    c.in_ok-put_u32-3.ensures.ok ∙ ap (λ (t : List ℕ). t ++ number (e.0 - last.0)) c.in_ok-put_u32-2.ensures.ok
    ∙ append_assoc c.loop-edge.out.items (number (e.1 - last.1)) (number (e.0 - last.0)) in
    record {
      rising = h.1;
      wrote = puts_on edge_text follow _ _ _ _ _ _ (0, 0) c.loop-edge-test.true is c.loop-edge.invariant.wrote;
    }

pub returns : goal.returns
returns c = puts_done edge_text follow _ _ _ _ _ c.loop-edge-test.false c.loop-edge.invariant.wrote
