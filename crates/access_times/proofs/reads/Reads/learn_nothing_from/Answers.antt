use Rattle.std.proofs.Common.{◌∙◌, sym, ap, List, Option, ℕ, true, arith, ◌≡◌}
use Rattle.std.proofs.lemmas.Bool.Decides.{nat_tests}
use Rattle.rtr_types.specs.CoreSets.{is_none}
use Rattle.clock_core.specs.declared.clock.Clock.{Clock}
use Rattle.access_times.specs.Reads.{reads_kept}
use Rattle.access_times.specs.Times.{reads_absorbed}
use Rattle.access_times.proofs.KeptReads.{absorbs_none}
use Rattle.access_times.proofs.reads.Reads.learn_nothing_from.Goals as goal

pub returns : goal.returns
returns c none =
    let empty : is_none c.other.inside.readers ≡ true = sym c.is_empty.ensures ∙ (grind (arith, nat_tests)) in
    let own = reads_kept c.self.inside.readers c.self.inside.places in
    sym (ap (reads_absorbed c.args.self.now) c.other.view_is)
    ∙ sym (ap (λ (a : List (Option (ℕ × Clock))). reads_absorbed a
    (reads_kept c.other.inside.readers c.other.inside.places)) c.self.view_is)
    ∙ absorbs_none c.self.inside c.other.inside empty ∙ c.self.view_is
