-- What is kept of a core says what it needs.
use Rattle.std.proofs.Common.{◌∙◌, ◌<◌, ap, sym, subst, ℕ, length}
use Rattle.rv_core.specs.Steps.{need}
use Rattle.tso_state.specs.States.{core_at}
use Rattle.tso_core.specs.Machineries.{Machinery}
use Rattle.tso_core.specs.declared.standing.Standing.{Standing}
use Rattle.tso_core.proofs.Standings.{stands_at}
use Rattle.tso_core.proofs.machine.BufferedMachine.need.Goals as goal

pub returns : goal.returns
returns g c =
    let m : Machinery g.row.R.Denot g.row.K.Denot = c.self.inside.parts in
    let here : c.args.core < length m.state.cores =
    subst (λ (x : Machinery g.row.R.Denot g.row.K.Denot). c.args.core < length x.state.cores) (sym c.self.view_is)
    c.requires in
    ap (λ (x : Standing). x.need)
    (c.index.ensures
    ∙ stands_at m.state c.self.inside.standings.items c.args.core c.index.result.now c.self.invariant.stands here)
    ∙ ap (λ (x : Machinery g.row.R.Denot g.row.K.Denot). need x.state.image (core_at x.state.cores c.args.core).core)
    c.self.view_is
