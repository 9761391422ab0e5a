use Rattle.std.proofs.Common.{◌≡◌, ◌<◌, ◌+◌, ◌++◌, ◌∙◌, ap, arith, false, get_or, length, refl, sym, List}
use Rattle.std.specs.Prelude.{map}
use Rattle.std.specs.List.{flat_map, range_with_len}
use Rattle.rtr_types.specs.declared.instr.Edge.{Edge}
use Rattle.rtr_types.specs.declared.pairs.Which.TheVariants.{Reduced}
use Rattle.rtr_types.specs.Pairs.{pair_count}
use Rattle.race_log.specs.Sources.{edge_between, edges_at, log_edges}
use Rattle.clock_entries.specs.Ends.{instr, is_end}
use Rattle.part_lists.proofs.ByPairs.{led_done, led_more, pair_led_is}
use Rattle.certificate_codec.proofs.Marks.{pair_marked}
use Rattle.certificate_codec.proofs.edge_ends.mark_edges.Goals as goal

pub loop-place-init : goal.loop-place-init
loop-place-init c n lt = c.requires.none n lt

pub loop-place-preserved : goal.loop-place-preserved
loop-place-preserved c n lt =
    let r = c.args.recording.now in
    let place = c.loop-place.place in
    let pair = map (edge_between c.pair_of-from.result.0 c.pair_of-from.result.1) c.as_slice-counts.result.now in
    let old = flat_map (edges_at Reduced r) (range_with_len 0 place) in
    let within : place < pair_count r.params.cores =
    omega (arith, c.loop-place-test.true, c.pair_count-place-end.ensures) in
    let first : n < length c.loop-place.marks = omega (arith, c.loop-place.auto.marks) in
    pair_marked old pair (flat_map (edges_at Reduced r) (range_with_len 0 (place + 1))) (instr c.args.core (n + 1))
    (get_or c.loop-place.marks n false) (get_or c.mark_pair.new.marks n false) (c.loop-place.invariant n lt)
    (c.mark_pair.ensures n first)
    (sym (led_more (edges_at Reduced r) place old (old ++ edges_at Reduced r place) refl refl)
    ∙ sym (pair_led_is edge_between r.params.cores place c.pair_of-from.result r.reduced c.index-as_slice-place.result
    c.as_slice-counts.result.now old (old ++ pair) c.requires.valid.each_reduced within c.pair_of-from.ensures.pair
    (rw c.as_slice.ensures at c.index-as_slice-place.is) c.as_slice-counts.ensures refl))

pub returns : goal.returns
unfolding log_edges
returns c n lt =
    let r = c.args.recording.now in
    let last : c.loop-place.place ≡ pair_count r.params.cores =
    omega (arith, c.loop-place-test.false, c.loop-place.auto.place-end, c.pair_count-place-end.ensures) in
    c.loop-place.invariant n lt
    ∙ ap (λ (edges : List Edge). is_end edges (instr c.args.core (n + 1)))
    (led_done (edges_at Reduced r) c.loop-place.place (pair_count r.params.cores) _ last refl)
