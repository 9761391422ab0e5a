use Rattle.std.proofs.Common.{◌≡◌, ◌∙◌, ◌<◌, ℕ, length, ap, sym, subst, arith}
use Rattle.std.proofs.lemmas.List.{get_or_default}
use Rattle.race_log.specs.Sources.{log_edges}
use Rattle.replay_core.specs.Plans.{Plan}
use Rattle.replay_core.specs.declared.coming.Coming.{Coming}
use Rattle.replay_core.specs.Sources.{AreSources, sources_in}
use Rattle.replay_core.specs.Coming.{IsComing, coming_at, no_coming}
use Rattle.replay_core.proofs.AwaitedEdges.{coming_step}
use Rattle.replay_core.proofs.coming.Sources.find.Goals as goal

pub find-requires-clause-coming : goal.find-requires-clause-coming
find-requires-clause-coming c =
    let all = c.self.invariant in
    let r = c.self.inside.recording.now in
    let cores = all.valid.each_core in
    let totals = ap (λ (q : Plan). length q.totals) c.self.view_is in
    let below : c.args.at.core < r.params.cores = omega (arith, c.requires.core) in
    let inside : c.args.at.core < length c.self.inside.coming.items = let a = all.all in omega arith in
    let is : c.index_mut-coming.result.now ≡ coming_at c.self.inside.coming.items c.args.at.core =
    c.index_mut-coming.ensures.value
    ∙ get_or_default c.self.inside.coming.items c.args.at.core c.index_mut-coming.result.now no_coming inside in
    subst (λ (x : Coming). IsComing (log_edges c.self.inside.which r) c.args.at.core r.params.cores x) (sym is)
    (all.each c.args.at.core below)

pub invariant_of-self : goal.invariant_of-self
invariant_of-self c =
    let known = subst (λ (q : Plan). IsComing q.edges c.args.at.core (length q.totals) c.find.new.self) c.self.view_is
    (subst (λ (n : ℕ). IsComing (log_edges c.self.inside.which c.self.inside.recording.now) c.args.at.core n
    c.find.new.self)
    (sym c.self.invariant.valid.each_core) c.find.ensures.coming) in
    coming_step c.self.inside.which c.self.inside.recording.now c.args.self.now c.self.inside.coming.items
    c.args.at.core c.find.new.self
    c.self.invariant c.self.view_is c.requires.core known

pub returns-clause-sources : goal.returns-clause-sources
returns-clause-sources c =
    subst (λ (q : Plan). AreSources q.edges c.args.at (sources_in c.find.new.sources)) c.self.view_is
    c.find.ensures.sources
