use Rattle.std.proofs.Common.{◌≡◌, ◌∙◌, ◌<◌, length, ap, sym, subst, arith}
use Rattle.std.proofs.lemmas.List.{get_or_default}
use Rattle.clock_core.specs.Counts.{no_counts}
use Rattle.race_log.specs.Sources.{log_edges}
use Rattle.replay_core.specs.Plans.{Plan}
use Rattle.replay_core.specs.Play.{instr}
use Rattle.replay_core.specs.Sources.{AreSources}
use Rattle.replay_core.specs.Coming.{IsComing, coming_at, no_coming}
use Rattle.replay_core.specs.declared.coming.Coming.{Coming}
use Rattle.replay_core.proofs.coming.Sources.free_to.Goals as goal

pub returns : goal.returns
returns c n from before =
    let all = c.self.invariant in
    let r = c.self.inside.recording.now in
    let cores = all.valid.each_core in
    let totals = ap (λ (q : Plan). length q.totals) c.self.view_is in
    let below : c.args.at.core < r.params.cores = omega (arith, c.requires) in
    let inside : c.args.at.core < length c.self.inside.coming.items = let a = all.all in omega arith in
    let is : c.index.result.now ≡ coming_at c.self.inside.coming.items c.args.at.core =
    c.index.ensures
    ∙ get_or_default c.self.inside.coming.items c.args.at.core c.index.result.now no_coming inside in
    let coming : IsComing (log_edges c.self.inside.which r) c.args.at.core r.params.cores c.index.result.now =
    subst (λ (x : Coming). IsComing (log_edges c.self.inside.which r) c.args.at.core r.params.cores x) (sym is)
    (all.each c.args.at.core below) in
    subst (λ (q : Plan). AreSources q.edges (instr c.args.at.core n) no_counts) c.self.view_is
    (c.free_to.ensures c.self.inside.which r c.args.at.core n all.valid coming from before)
