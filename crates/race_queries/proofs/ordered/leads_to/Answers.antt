use Rattle.std.proofs.Common.{sym, subst}
use Rattle.rtr_types.specs.declared.instr.Instr.{Instr}
use Rattle.race_queries.specs.Queries.{Leads}
use Rattle.race_queries.proofs.Edges.{same_instr}
use Rattle.race_queries.proofs.Writes.{acyclic}
use Rattle.race_queries.proofs.ordered.leads_to.Goals as goal

pub returns-then-eq : goal.returns-then-eq
returns-then-eq c =
    let a = c.args.audited.now in
    let same = same_instr c.args.at c.args.other (sym c.if-eq.ensures) in (
      λ t. absurd (cc),
      λ p. absurd (acyclic a (record { valid = c.recording.ensures.valid; passed = c.outcome.ensures.passed }) c.args.at
          (subst (λ (z : Instr). Leads a c.args.at z) (sym same) p)),
    )
