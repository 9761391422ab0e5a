use Rattle.std.proofs.Common.{ℕ, arith}
use Rattle.edge_regulate.proofs.SeatSources.{looking_next}
use Rattle.edge_regulate.proofs.seat.Seat.look.Goals as goal
use Rattle.edge_regulate.proofs.seat.Seat.look.Goals.{then-target-next, else-target-next}

pub loop-source-preserved : goal.loop-source-preserved
loop-source-preserved c =
    let at = c.look_at-target.ensures.at in
    let target = c.look_at-target.ensures.target in
    let known = c.count.ensures in
    let next = λ (later : ℕ). looking_next c.args.self.now c.loop-source.self c.look_at-target.new.self c.args.count
    c.args.known.now c.loop-source.next later c.loop-source.source c.loop-source.invariant (rw known at at)
    c.look_at-target.ensures.others in
    elim c.if-target-next.branch [
      | then-target-next w ↦ rw (w.next-is)
          (next c.look_at-target.result (let less = w.if-target-next.true in omega arith) (omega arith)
          (λ bound before here. omega arith))
      | else-target-next w ↦ rw (w.next-is)
          (next c.loop-source.next (omega arith) (let more = w.if-target-next.false in omega arith)
          (λ bound before here. before))
    ]

pub returns-clause-least : goal.returns-clause-least
returns-clause-least c = record {
  lower = λ source lt. c.loop-source.invariant.lower source (omega arith);
  greatest = λ bound le each. c.loop-source.invariant.greatest bound le (λ source lt. each source (omega arith));
}
