use Rattle.std.proofs.Common.{subst}
use Rattle.race_queries.specs.Queries.{IsAudited}
use Rattle.replay_audit.specs.Audits.{Findings}
use Rattle.cut_index.proofs.index.Index.audited.Goals as goal

pub returns-clause-passed : goal.returns-clause-passed
returns-clause-passed c = subst (λ (f : Findings). IsAudited f) c.self.view_is c.self.invariant.audited
