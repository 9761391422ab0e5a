use Rattle.std.proofs.Common.{ap, sym, subst}
use Rattle.edge_regulate.specs.Seats.{Following, Follows}
use Rattle.recorder.proofs.run_clerk.RunClerk.ready.Goals as goal

pub returns-clause-follows : goal.returns-clause-follows
returns-clause-follows c notes edges kept =
    c.ready-2.ensures.follows notes edges
    (subst (λ (f : Following). Follows notes edges f) (sym (ap (λ v. v.regulation) c.self.view_is)) kept)
