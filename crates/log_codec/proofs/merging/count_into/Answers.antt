use Rattle.std.proofs.Common.{◌≡◌, ℕ, List, length, ap, arith}
use Rattle.log_codec.specs.Incoming.{edges_out_of}
use Rattle.log_codec.proofs.Merges.{length-merged}
use Rattle.log_codec.proofs.NextEdges.{joined_from, length-more}
use Rattle.log_codec.proofs.ReducedLaws.{list-is, list-own}
use Rattle.log_codec.proofs.EdgeWriter.{counted}
use Rattle.log_codec.proofs.merging.count_into.Goals as goal
use Rattle.log_codec.proofs.merging.count_into.Goals.{then-source-target, else-source-target}

pub overflow_add-count : goal.overflow_add-count
overflow_add-count c =
    let cores = c.args.cores in
    let reduced = c.args.reduced.now in
    let source = c.loop-source.source in
    let list = list-is cores reduced c.args.target source c.pair_at.result c.index-reduced-pair_at.result
    c.if-source-target.true c.pair_at.ensures.place
    (omega (arith, c.pair_at.ensures.within, c.requires.log.pairs)) c.index-reduced-pair_at.is in
    let size = ap (λ (l : List (ℕ × ℕ)). length l) list in
    let sum = counted cores reduced c.args.target source c.loop-source-test.true in
    let all = c.requires.log.into c.args.target c.requires.target in
    omega (arith, size, sum, all, c.len.ensures, c.loop-source.invariant)

pub loop-source-preserved : goal.loop-source-preserved
loop-source-preserved c =
    let cores = c.args.cores in
    let reduced = c.args.reduced.now in
    let source = c.loop-source.source in
    let more = length-more (edges_out_of cores reduced c.args.target) 0 source source (omega arith) in
    elim c.if-source-target.branch [
      | then-source-target w ↦
          let list = list-is cores reduced c.args.target source w.pair_at.result w.index-reduced-pair_at.result
          w.if-source-target.true w.pair_at.ensures.place
          (omega (arith, w.pair_at.ensures.within, c.requires.log.pairs)) w.index-reduced-pair_at.is in
          let size = ap (λ (l : List (ℕ × ℕ)). length l) list in
          omega (arith, size, more, w.len.ensures, w.count-is, c.loop-source.invariant)
      | else-source-target w ↦
          let none = ap (λ (l : List (ℕ × ℕ)). length l)
          (list-own cores reduced c.args.target source w.if-source-target.false) in
          omega (arith, none, more, w.count-is, c.loop-source.invariant)
    ]

pub returns : goal.returns
returns c =
    let all = c.loop-source.invariant in
    let same : c.loop-source.source ≡ c.args.cores =
    omega (arith, c.loop-source-test.false, c.loop-source.auto.source-end) in
    let size : length (joined_from (edges_out_of c.args.cores c.args.reduced.now c.args.target) 0 c.loop-source.source)
    ≡ length (joined_from (edges_out_of c.args.cores c.args.reduced.now c.args.target) 0 c.args.cores) =
    ap (λ (n : ℕ). length (joined_from (edges_out_of c.args.cores c.args.reduced.now c.args.target) 0 n)) same in
    let merge = length-merged c.args.cores (edges_out_of c.args.cores c.args.reduced.now c.args.target) in
    omega (arith, all, size, merge)
