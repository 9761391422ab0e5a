use Rattle.std.proofs.Common.{◌≡◌, ◌<◌, ◌++◌, List, [], get_or, sym, ap, ◌∙◌, arith}
use Rattle.std.proofs.lemmas.List.FromFn.{length-map-range_with_len}
use Rattle.log_codec.specs.declared.incoming.Incoming.{Incoming}
use Rattle.log_codec.specs.Incoming.{incoming_edges, target_count}
use Rattle.log_codec.specs.Spelling.{into_text, targets_text}
use Rattle.log_codec.specs.Turns.{alike}
use Rattle.rtr_types.specs.Turns.{count_up}
use Rattle.log_codec.proofs.InTurn.{puts_on, puts_done}
use Rattle.log_codec.proofs.ReducedLaws.{all_into, into-at}
use Rattle.log_codec.proofs.merging.put_targets.Goals as goal

pub loop-target-preserved : goal.loop-target-preserved
loop-target-preserved c =
    let target = c.loop-target.target in
    let all = all_into c.args.cores c.args.reduced.now in
    let long = length-map-range_with_len (incoming_edges c.args.cores c.args.reduced.now) 0 (target_count c.args.cores)
    in
    let lt : target < target_count c.args.cores =
    omega (arith, c.loop-target-test.true, c.target_count-target-end.ensures) in
    let is : c.put_into.new.out.items ≡ c.loop-target.out.items ++ into_text (get_or all target []) =
    c.in_ok-put_into.ensures
    ∙ ap (λ (edges : List Incoming). c.loop-target.out.items ++ into_text edges)
    (sym (into-at c.args.cores c.args.reduced.now target lt)) in
    puts_on (alike into_text) count_up c.loop-target.out.items c.put_into.new.out.items
    (c.args.out.now.items ++ targets_text c.args.cores c.args.reduced.now) target all target []
    (omega (arith, long, lt)) is c.loop-target.invariant

pub returns : goal.returns
returns c =
    let long = length-map-range_with_len (incoming_edges c.args.cores c.args.reduced.now) 0 (target_count c.args.cores)
    in
    puts_done (alike into_text) count_up c.loop-target.out.items
    (c.args.out.now.items ++ targets_text c.args.cores c.args.reduced.now) c.loop-target.target
    (all_into c.args.cores c.args.reduced.now) c.loop-target.target
    (omega (arith, long, c.loop-target-test.false, c.target_count-target-end.ensures)) c.loop-target.invariant
