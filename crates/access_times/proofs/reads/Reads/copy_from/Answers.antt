use Rattle.std.proofs.Common.{◌∙◌, sym, subst, ◌<◌}
use Rattle.std.proofs.lemmas.List.{length-set}
use Rattle.rtr_types.specs.declared.core_set.CoreSet.{CoreSet}
use Rattle.access_times.proofs.KeptReads.{copied, all_seen, fewer, view_same}
use Rattle.access_times.proofs.reads.Reads.copy_from.Goals as goal

pub returns : goal.returns
returns c =
    view_same c.loop-other.self-inside c.other.inside
    (all_seen c.loop-other.invariant.2 (sym c.is_empty.ensures ∙ c.loop-other-test.false))
    ∙ c.other.view_is

pub loop-other-preserved : goal.loop-other-preserved
loop-other-preserved c =
    rw (c.without-left.ensures) (
      length-set c.loop-other.self-inside.places c.first_of-core.result _ ∙ c.loop-other.invariant.0,
      c.loop-other.invariant.1,
      copied c.loop-other.self-inside c.other.inside c.loop-other.left c.first_of-core.result _ c.loop-other.invariant.0
          c.other.invariant
          c.first_of-core.ensures.within c.loop-other.invariant.1 c.loop-other.invariant.2,
    )

pub loop-other-smaller : goal.loop-other-smaller
loop-other-smaller c =
    subst (λ (s : CoreSet). s.bits < c.loop-other.left.bits) (sym c.without-left.ensures)
    (fewer c.loop-other.left c.first_of-core.result c.first_of-core.ensures.within c.first_of-core.ensures.there)
