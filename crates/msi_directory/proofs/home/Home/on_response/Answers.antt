use Rattle.std.proofs.Common.{IsTrue, ◌∙◌, refl}
use Rattle.msi_directory.specs.Deeds.{response_deed}
use Rattle.msi_directory.specs.Entries.{has_response_row}
use Rattle.msi_directory.specs.Fitting.{stage_fits}
use Rattle.msi_directory.specs.Kept.{home_of}
use Rattle.msi_directory.proofs.Fits.{response_keeps_fit}
use Rattle.msi_directory.proofs.Rows.{done_by, fits_after, fits_before, is_answered, stage_found, staged_kept}
use Rattle.msi_directory.proofs.home.Home.on_response.Goals as goal

pub find-place-requires : goal.find-place-requires
find-place-requires g c =
    staged_kept (home_of c.self.inside.opening c.self.inside.fresh c.self.inside.kept) _ c.self.view_is
    g.R.Rider.riding.fresh (response_deed g.R.Rider.riding c.args.from c.args.response) c.requires.within _
    c.block.ensures (λ stage. has_response_row stage c.args.from c.args.response) refl c.requires.row

pub receive-requires-clause-row : goal.receive-requires-clause-row
receive-requires-clause-row g c =
    stage_found (home_of c.self.inside.opening c.self.inside.fresh c.self.inside.kept) _ c.self.view_is
    g.R.Rider.riding.fresh (response_deed g.R.Rider.riding c.args.from c.args.response) c.requires.within _
    c.block.ensures _ c.find-place.ensures (λ stage. IsTrue (has_response_row stage c.args.from c.put.new.self))
    (rw (c.put.ensures, c.lent.ensures) c.requires.row)

pub receive-requires-clause-fits : goal.receive-requires-clause-fits
receive-requires-clause-fits g c =
    stage_found (home_of c.self.inside.opening c.self.inside.fresh c.self.inside.kept) _ c.self.view_is
    g.R.Rider.riding.fresh (response_deed g.R.Rider.riding c.args.from c.args.response) c.requires.within _
    c.block.ensures _ c.find-place.ensures (λ stage. IsTrue (stage_fits stage))
    (fits_before (home_of c.self.inside.opening c.self.inside.fresh c.self.inside.kept) _ c.self.view_is
    g.R.Rider.riding.fresh (response_deed g.R.Rider.riding c.args.from c.args.response) c.requires.within _
    c.block.ensures c.self.invariant)

pub invariant_of-self : goal.invariant_of-self
invariant_of-self g c =
    fits_after (home_of c.self.inside.opening c.self.inside.fresh c.self.inside.kept) _ c.self.view_is
    g.R.Rider.riding.fresh (response_deed g.R.Rider.riding c.args.from c.args.response) c.requires.within _
    c.block.ensures _ c.find-place.ensures _ _ _
    (done_by (response_deed g.R.Rider.riding c.args.from) (c.put.ensures ∙ c.lent.ensures) c.receive.ensures)
    (λ e. response_keeps_fit g.R.Rider.riding e c.args.from c.args.response c.requires.from) c.self.invariant

pub returns : goal.returns
returns g c =
    is_answered (home_of c.self.inside.opening c.self.inside.fresh c.self.inside.kept) _ c.self.view_is
    _ (response_deed g.R.Rider.riding c.args.from c.args.response) c.requires.within _ c.block.ensures _
    c.find-place.ensures _ _ _ (done_by (response_deed g.R.Rider.riding c.args.from) (c.put.ensures ∙ c.lent.ensures)
    c.receive.ensures) _ _
    (c.copied.ensures ∙ c.get.ensures) c.riding.ensures
