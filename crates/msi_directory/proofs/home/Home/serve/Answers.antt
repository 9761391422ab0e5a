use Rattle.std.proofs.Common.{IsTrue, ◌∙◌}
use Rattle.msi_cache.specs.Messages.{request_seen}
use Rattle.msi_directory.specs.Deeds.{request_deed}
use Rattle.msi_directory.specs.Entries.{has_request_row}
use Rattle.msi_directory.specs.Kept.{home_of}
use Rattle.msi_directory.proofs.Fits.{request_keeps_fit}
use Rattle.msi_directory.proofs.Rows.{fits_after, is_served, roomy_kept, stage_found}
use Rattle.msi_directory.proofs.LentRequests.{seen_request_block}
use Rattle.msi_directory.proofs.home.Home.serve.Goals as goal

pub find-place-requires : goal.find-place-requires
find-place-requires g c =
    roomy_kept (home_of c.self.inside.opening c.self.inside.fresh c.self.inside.kept) _ c.self.view_is
    g.R.Rider.riding.fresh (request_deed g.R.Rider.riding c.args.from (request_seen c.args.request)) c.requires.within _
    (c.block.ensures ∙ seen_request_block c.args.request) c.requires.room

pub serve-requires-clause-row : goal.serve-requires-clause-row
serve-requires-clause-row g c =
    stage_found (home_of c.self.inside.opening c.self.inside.fresh c.self.inside.kept) _ c.self.view_is
    g.R.Rider.riding.fresh (request_deed g.R.Rider.riding c.args.from (request_seen c.args.request)) c.requires.within _
    (c.block.ensures ∙ seen_request_block c.args.request) _ c.find-place.ensures
    (λ stage. IsTrue (has_request_row stage c.args.from (request_seen c.args.request)))
    c.requires.row

pub invariant_of-self : goal.invariant_of-self
invariant_of-self g c =
    fits_after (home_of c.self.inside.opening c.self.inside.fresh c.self.inside.kept) _ c.self.view_is
    g.R.Rider.riding.fresh (request_deed g.R.Rider.riding c.args.from (request_seen c.args.request)) c.requires.within _
    (c.block.ensures ∙ seen_request_block c.args.request) _ c.find-place.ensures _ _ _
    c.serve.ensures (λ e. request_keeps_fit g.R.Rider.riding e c.args.from (request_seen c.args.request)
    c.requires.from)
    c.self.invariant

pub returns : goal.returns
returns g c =
    is_served (home_of c.self.inside.opening c.self.inside.fresh c.self.inside.kept) _ c.self.view_is
    g.R.Rider.riding.fresh (request_deed g.R.Rider.riding c.args.from (request_seen c.args.request)) c.requires.within _
    (c.block.ensures ∙ seen_request_block c.args.request) _ c.find-place.ensures _ _ _ c.serve.ensures
