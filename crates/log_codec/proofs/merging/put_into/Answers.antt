-- Along the merged edges: each rises in both counts from those of its pair before it, so its two differences fit, and
-- the bytes so far spell the edges so far.
use Rattle.std.proofs.Common.{◌≡◌, ◌+◌, ◌-◌, ◌++◌, ◌≤◌, ℕ, List, [], length, ap, ◌∙◌, append_assoc, arith}
use Rattle.std.specs.Prelude.{slice_index}
use Rattle.log_codec.specs.Incoming.{incoming_edges, remember, target_of}
use Rattle.log_codec.specs.Spelling.{incoming_text, into_text, number}
use Rattle.log_codec.specs.Turns.{spelled_in_turn}
use Rattle.log_codec.proofs.NextEdges.{fronts-step}
use Rattle.log_codec.proofs.EdgeWriter.{fronts-start, log-rises, writes-start, writes-rises, writes-more, writes-none}
use Rattle.log_codec.proofs.EdgeWriter.{writes-done}
use Rattle.log_codec.proofs.merging.put_into.Goals as goal
use Rattle.log_codec.proofs.merging.put_into.Goals.{In-Some, in-Some+in_ok-put_incoming, in_default}

pub loop-init : goal.loop-init
loop-init c =
    let cores = c.args.cores in
    let target = c.args.target in
    let reduced = c.args.reduced.now in
    let edges = incoming_edges cores reduced target in
    let text = spelled_in_turn incoming_text remember [] edges in
    let wrote : c.put_u32.new.out.items ++ text ≡ c.args.out.now.items ++ into_text edges =
    ap (λ (l : List ℕ). l ++ text)
    (c.in_ok-put_u32.ensures.ok ∙ ap (λ (n : ℕ). c.args.out.now.items ++ number n) c.count_into-count.ensures)
    ∙ append_assoc c.args.out.now.items (number (length edges)) text in (
      writes-start cores target (c.count_into-count.result - 0) reduced c.put_u32.new.out.items
          (c.args.out.now.items ++ into_text edges) c.requires.target (log-rises cores reduced c.requires.log)
          (omega (arith, c.count_into-count.ensures)) wrote,
      fronts-start cores reduced target c.first_fronts-fronts.result c.first_fronts-fronts.ensures,
    )

-- the next edge rises in both counts from those before it
rises : (c : In-Some) → (target_of c.loop.last ≤ c.in-Some.edge.counts.1)
    × (slice_index c.loop.counts c.in-Some.edge.source ≤ c.in-Some.edge.counts.0)
rises c =
    let whole = c.args.out.now.items ++ into_text (incoming_edges c.args.cores c.args.reduced.now c.args.target) in
    writes-rises c.args.cores c.args.target (c.count_into-count.result - c.loop.counter) c.args.reduced.now c.loop.next
    c.loop.last c.loop.counts c.loop.out.items whole c.in-Some.edge c.requires.log.few c.requires.target
    (log-rises c.args.cores c.args.reduced.now c.requires.log) c.loop.invariant.0 c.in-Some.ensures.first

pub put_incoming-requires-clause-target : goal.put_incoming-requires-clause-target
put_incoming-requires-clause-target c = (rises (goal.at.put_incoming-requires-clause-target c).In-Some).0

pub put_incoming-requires-clause-source : goal.put_incoming-requires-clause-source
put_incoming-requires-clause-source c = (rises (goal.at.put_incoming-requires-clause-source c).In-Some).1

pub loop-preserved : goal.loop-preserved
loop-preserved c =
    let cores = c.args.cores in
    let target = c.args.target in
    let reduced = c.args.reduced.now in
    let whole = c.args.out.now.items ++ into_text (incoming_edges cores reduced target) in
    let many = c.count_into-count.result - c.loop.counter in
    let one : many - 1 ≡ c.count_into-count.result - (c.loop.counter + 1) = omega arith in
    elim c.match-first_left.branch [
      | in-Some+in_ok-put_incoming w ↦
          let next = writes-more cores target many reduced c.loop.next c.loop.last c.loop.counts c.loop.out.items whole
          w.in-Some.edge
          w.put_incoming.new.out.items c.requires.log.few c.requires.target
          (log-rises cores reduced c.requires.log) c.loop.invariant.0 w.in-Some.ensures.first
          w.in_ok-put_incoming.ensures in
          let passed = fronts-step cores reduced target c.loop.next c.loop.fronts w.in-Some.edge.source
          (slice_index c.loop.next w.in-Some.edge.source + 1) w.front_at-front.result c.requires.log.few
          w.in-Some.ensures.first.inside c.loop.invariant.1
          w.front_at-front.ensures in
          rw (w.next-is, w.last-is, w.counts-is, w.out-is, w.fronts-is, w.put.ensures, ← one) (next, passed)
      | in_default w ↦
          let none = writes-none cores target many reduced c.loop.next c.loop.last c.loop.counts c.loop.out.items whole
          c.loop.invariant.0
          w.in_default.ensures.none in
          absurd (omega (arith, none, c.loop-test.true))
    ]

pub returns : goal.returns
returns c =
    writes-done c.args.cores c.args.target
    (c.count_into-count.result - c.loop.counter) c.args.reduced.now c.loop.next c.loop.last c.loop.counts
    c.loop.out.items
    (c.args.out.now.items ++ into_text (incoming_edges c.args.cores c.args.reduced.now c.args.target))
    c.loop.invariant.0
    (omega (arith, c.loop-test.false))
