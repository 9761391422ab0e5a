use Rattle.std.proofs.Common.{refl, sym, subst}
use Rattle.rtr_types.specs.declared.instr.Edge.{Edge}
use Rattle.vector_reduce.specs.Cuts.{Holds, counts_in}
use Rattle.vector_reduce.proofs.CheckedCuts.{last_decides, none_within}
use Rattle.vector_reduce.proofs.checking.is_closed_under.Goals as goal

pub returns-then-most-vector : goal.returns-then-most-vector
returns-then-most-vector c = (λ t. none_within c.args.vector.now c.args.cut.now c.if-most-vector.true, λ closed. refl)

pub returns : goal.returns
returns c =
    let d = last_decides c.args.vector.now c.args.cut.now c.last_within-position.result c.last_within-position.ensures
    in (
      λ t. d.0 (subst (λ (e : Edge). Holds (counts_in c.args.cut.now) e.from) c.edge.ensures (c.holds.ensures.0 t)),
      λ closed. c.holds.ensures.1
          (subst (λ (e : Edge). Holds (counts_in c.args.cut.now) e.from) (sym c.edge.ensures) (d.1 closed)),
    )
