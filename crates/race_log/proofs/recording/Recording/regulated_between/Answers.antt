use Rattle.std.proofs.Common.{ℕ, ◌<◌, sym, subst}
use Rattle.race_log.specs.Sources.{AreApart}
use Rattle.race_log.proofs.SourceLaws.{list_at, vectors_apart}
use Rattle.race_log.proofs.recording.Recording.regulated_between.Goals as goal

pub returns-clause-apart : goal.returns-clause-apart
returns-clause-apart c =
    let r = c.args.self.now in
    let is = list_at r.regulated c.as_slice.result.now c.pair_at.result c.index-as_slice-pair_at.result
    c.as_slice-2.result.now c.as_slice.ensures c.index-as_slice-pair_at.is c.as_slice-2.ensures
    (subst (λ (n : ℕ). c.pair_at.result < n) (sym c.requires.valid.each_regulated) c.pair_at.ensures.within) in
    subst AreApart (sym is) (vectors_apart r c.requires.valid c.pair_at.result c.pair_at.ensures.within)
