use Rattle.std.proofs.Common.{◌≡◌, ◌<◌, ◌^◌, ◌++◌, ℕ, List, [], length, get_or, refl, sym, subst, ◌∙◌}
use Rattle.std.proofs.lemmas.List.{get_or_default}
use Rattle.log_codec.specs.Turns.{alike}
use Rattle.rtr_types.specs.Turns.{StandInTurn, follow, count_up}
use Rattle.rtr_types.specs.PairEdges.{EdgeRises}
use Rattle.log_codec.specs.Spelling.{edges_text, pairs_text}
use Rattle.log_codec.proofs.InTurn.{puts_on, puts_done}
use Rattle.log_codec.proofs.writing.put_pairs.Goals as goal

pub loop-edges-init : goal.loop-edges-init
loop-edges-init c = refl

pub put_edges-requires-clause-few : goal.put_edges-requires-clause-few
put_edges-requires-clause-few c =
    let i = c.loop-edges.edges-index in
    let same = c.as_slice.ensures ∙ c.edges-item.is
    ∙ get_or_default c.args.reduced.now i c.edges-item.result [] c.loop-edges-test.true in
    subst (λ (edges : List (ℕ × ℕ)). length edges < 2 ^ 32) (sym same) (c.requires i c.loop-edges-test.true).few

pub put_edges-requires-clause-rising : goal.put_edges-requires-clause-rising
put_edges-requires-clause-rising c =
    let i = c.loop-edges.edges-index in
    let same = c.as_slice.ensures ∙ c.edges-item.is
    ∙ get_or_default c.args.reduced.now i c.edges-item.result [] c.loop-edges-test.true in
    subst (λ (edges : List (ℕ × ℕ)). StandInTurn EdgeRises follow (0, 0) edges) (sym same)
    (c.requires i c.loop-edges-test.true).rising

pub loop-edges-preserved : goal.loop-edges-preserved
loop-edges-preserved c =
    let i = c.loop-edges.edges-index in
    let item = c.edges-item.result in
    let is : c.put_edges.new.out.items ≡ c.loop-edges.out.items ++ edges_text (get_or c.args.reduced.now i item) =
    rw (← c.edges-item.is, ← c.as_slice.ensures) c.in_ok-put_edges.ensures in
    puts_on (alike edges_text) count_up c.loop-edges.out.items c.put_edges.new.out.items
    (c.args.out.now.items ++ pairs_text c.args.reduced.now) i c.args.reduced.now i item c.loop-edges-test.true is
    c.loop-edges.invariant

pub returns : goal.returns
returns c = puts_done (alike edges_text) count_up c.loop-edges.out.items
    (c.args.out.now.items ++ pairs_text c.args.reduced.now) c.loop-edges.edges-index c.args.reduced.now
    c.loop-edges.edges-index c.loop-edges-test.false
    c.loop-edges.invariant
