use Rattle.std.proofs.Common.{ℕ, Some, ap, arith}
use Rattle.race_log.proofs.Near.{at_place}
use Rattle.race_log.proofs.sources.edge_source_near.Goals as goal
use Rattle.race_log.proofs.sources.edge_source_near.Goals.{else-place-edges-via-then-place-edges+else-edges-place}
use Rattle.race_log.proofs.sources.edge_source_near.Goals.{else-place-edges-via-else-place-edges}

pub returns-then-edges-place-clause-only : goal.returns-then-edges-place-clause-only
returns-then-edges-place-clause-only c a has =
    let at =
    at_place c.args.edges.now c.requires c.args.target c.place_near-place.result a c.place_near-place.ensures has in
    ap (λ (e : ℕ × ℕ). Some e.0) at.1

pub returns-else-place-edges-clause-only : goal.returns-else-place-edges-clause-only
returns-else-place-edges-clause-only c a has =
    let at =
    at_place c.args.edges.now c.requires c.args.target c.place_near-place.result a c.place_near-place.ensures has in
    let within = at.0 in
    let count = ap (λ (e : ℕ × ℕ). e.1) at.1 in
    elim c.else-place-edges.branch [
      | else-place-edges-via-then-place-edges+else-edges-place w ↦
          absurd (let other = w.if-edges-place.false in omega arith)
      | else-place-edges-via-else-place-edges w ↦ absurd (let past = w.if-place-edges.false in omega arith)
    ]
