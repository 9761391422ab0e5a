use Rattle.std.proofs.Common.{◌≡◌, ℕ, ap, ◌∙◌, arith}
use Rattle.std.specs.List.{flat_map, range_with_len}
use Rattle.race_log.specs.Sources.{edges_at, log_edges}
use Rattle.race_queries.proofs.LogEdges.{pairs_more}
use Rattle.race_queries.proofs.log_edges.edges_of.Goals as goal

pub loop-place-preserved : goal.loop-place-preserved
loop-place-preserved c =
    pairs_more (edges_at c.args.which c.args.recording.now) c.loop-place.place c.loop-place.list _
    c.loop-place.invariant c.in_ok-put_pair.ensures

pub returns : goal.returns
unfolding log_edges
returns c =
    let end : c.loop-place.place ≡ c.pair_count-place-end.result =
    omega (arith, c.loop-place-test.false, c.loop-place.auto.place-end) in
    c.loop-place.invariant
    ∙ ap (λ (n : ℕ). flat_map (edges_at c.args.which c.args.recording.now) (range_with_len 0 n))
    (end ∙ c.pair_count-place-end.ensures)
