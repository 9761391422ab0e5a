-- Line after line is emptied, and of empty lines none waits.
use Rattle.std.proofs.Common.{◌≡◌, ◌∙◌, List, ap, arith, length, refl, replicate, sym}
use Rattle.std.specs.Prelude.{slice_set}
use Rattle.std.proofs.lemmas.List.{length-replicate}
use Rattle.msi_cache.specs.Lines.{empty_line}
use Rattle.msi_cache.specs.Waiting.{how_many_wait}
use Rattle.msi_cache.specs.declared.line.Line.{Line}
use Rattle.msi_cache.proofs.Cleared.{cleared_all, cleared_next}
use Rattle.msi_cache.proofs.WaitCounts.{none_empty}
use Rattle.msi_cache.proofs.cache.Cache.clear.Goals as goal

pub loop-place-init : goal.loop-place-init
loop-place-init g c = refl

pub loop-place-preserved : goal.loop-place-preserved
loop-place-preserved g c =
    let empty : Line g.row.R.Denot = empty_line g.R.Rider.riding.fresh in
    ap (slice_set c.loop-place.self-inside.lines.items c.loop-place.place) c.clear.ensures
    ∙ ap (λ (lines : List (Line g.row.R.Denot)). slice_set lines c.loop-place.place empty) c.loop-place.invariant
    ∙ cleared_next empty c.self.inside.lines.items c.loop-place.place
    (omega (arith, c.loop-place-test.true, c.self.invariant.0))

pub invariant_of-self : goal.invariant_of-self
invariant_of-self g c =
    let empty : Line g.row.R.Denot = empty_line g.R.Rider.riding.fresh in
    let all : c.loop-place.self-inside.lines.items ≡ replicate 16 empty =
    cleared_all empty c.loop-place.self-inside.lines.items c.self.inside.lines.items c.loop-place.place 16
    c.loop-place.invariant c.loop-place.auto.place-end c.loop-place-test.false c.self.invariant.0 in (
      ap length all ∙ length-replicate 16 empty,
      sym (ap how_many_wait all ∙ none_empty 16 g.R.Rider.riding.fresh),
    )

pub returns : goal.returns
returns g c =
    cleared_all (empty_line g.R.Rider.riding.fresh) c.loop-place.self-inside.lines.items c.self.inside.lines.items
    c.loop-place.place 16 c.loop-place.invariant c.loop-place.auto.place-end c.loop-place-test.false c.self.invariant.0
