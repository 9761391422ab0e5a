use Rattle.std.proofs.Common.{IsTrue, ◌∙◌}
use Rattle.msi_cache.specs.Messages.{request_seen}
use Rattle.msi_directory.specs.Deeds.{request_deed}
use Rattle.msi_directory.specs.Entries.{has_request_row}
use Rattle.msi_directory.specs.Kept.{home_of}
use Rattle.msi_directory.proofs.Fits.{request_keeps_fit}
use Rattle.msi_directory.proofs.Rows.{done_by, fits_after, is_answered, roomy_kept, stage_found}
use Rattle.msi_directory.proofs.home.Home.on_request.Goals as goal

pub find-place-requires : goal.find-place-requires
find-place-requires g c =
    roomy_kept (home_of c.self.inside.opening c.self.inside.fresh c.self.inside.kept) _ c.self.view_is
    g.R.Rider.riding.fresh (request_deed g.R.Rider.riding c.args.from c.args.request) c.requires.within _
    c.block.ensures c.requires.room

pub serve-requires-clause-row : goal.serve-requires-clause-row
serve-requires-clause-row g c =
    stage_found (home_of c.self.inside.opening c.self.inside.fresh c.self.inside.kept) _ c.self.view_is
    g.R.Rider.riding.fresh (request_deed g.R.Rider.riding c.args.from c.args.request) c.requires.within _
    c.block.ensures _ c.find-place.ensures
    (λ stage. IsTrue (has_request_row stage c.args.from (request_seen c.lent-lent.result)))
    (rw c.lent-lent.ensures c.requires.row)

pub invariant_of-self : goal.invariant_of-self
invariant_of-self g c =
    fits_after (home_of c.self.inside.opening c.self.inside.fresh c.self.inside.kept) _ c.self.view_is
    g.R.Rider.riding.fresh (request_deed g.R.Rider.riding c.args.from c.args.request) c.requires.within _
    c.block.ensures _ c.find-place.ensures _ _ _
    (done_by (request_deed g.R.Rider.riding c.args.from) c.lent-lent.ensures c.serve.ensures)
    (λ e. request_keeps_fit g.R.Rider.riding e c.args.from c.args.request c.requires.from) c.self.invariant

pub returns : goal.returns
returns g c =
    is_answered (home_of c.self.inside.opening c.self.inside.fresh c.self.inside.kept) _ c.self.view_is
    _ (request_deed g.R.Rider.riding c.args.from c.args.request) c.requires.within _ c.block.ensures _
    c.find-place.ensures _ _ _
    (done_by (request_deed g.R.Rider.riding c.args.from) c.lent-lent.ensures c.serve.ensures) _ _
    (c.copied.ensures ∙ c.get.ensures) c.riding.ensures
