-- Core by core, lowest first: each core's read is by now the newer of the two, and the cores that are left still have
-- their own; each turn leaves fewer.
use Rattle.std.proofs.Common.{◌≡◌, ◌∙◌, sym, ap, subst, ℕ, ◌<◌, List, Option, None, true}
use Rattle.clock_core.specs.Counts.{no_counts}
use Rattle.clock_core.specs.declared.clock.Clock.{Clock}
use Rattle.access_times.specs.Times.{newer_by, reads_by}
use Rattle.access_times.specs.Reads.{reads_kept}
use Rattle.std.proofs.lemmas.List.{length-set}
use Rattle.rtr_types.specs.CoreSets.{has}
use Rattle.rtr_types.specs.declared.core_set.CoreSet.{CoreSet}
use Rattle.access_times.proofs.KeptReads.{all_seen, fewer, view_by, read_of, taken, stays, is_mine, if_true, if_false}
use Rattle.access_times.proofs.KeptReads.{ends_by}
use Rattle.access_times.proofs.reads.Reads.take_over.Goals as goal

pub returns : goal.returns
returns c =
    view_by c.args.ties c.loop-other.self-inside c.self.inside c.other.inside
    (all_seen c.loop-other.invariant.1 (sym c.is_empty.ensures ∙ c.loop-other-test.false))
    ∙ ap (λ (a : List (Option (ℕ × Clock))). reads_by c.args.ties a
    (reads_kept c.other.inside.readers c.other.inside.places)) c.self.view_is
    ∙ ap (reads_by c.args.ties c.args.self.now) c.other.view_is

pub loop-other-preserved-then-wins : goal.loop-other-preserved-then-wins
loop-other-preserved-then-wins c =
    let core = c.first_of-core.result in
    let within = c.first_of-core.ensures.within in
    let rest = c.loop-other.invariant.1.rest core within c.first_of-core.ensures.there in
    rw (c.without-left.ensures, c.with-self-inside.ensures) (
      length-set c.loop-other.self-inside.places core _ ∙ c.loop-other.invariant.0,
      taken c.self.inside c.loop-other.self-inside c.other.inside
          (λ k. newer_by c.args.ties (read_of c.self.inside k) (read_of c.other.inside k))
          c.loop-other.left core _
          c.loop-other.invariant.0 within
          (ends_by c.self.inside c.loop-other.self-inside c.other.inside core _ _ c.has.result _
          c.args.ties c.loop-other.invariant.0 c.other.invariant within c.has.ensures rest
          (c.wins.ensures ∙ if_true c.wins.result _ _ c.if-wins.true))
          c.loop-other.invariant.1,
    )

pub loop-other-preserved : goal.loop-other-preserved
loop-other-preserved c =
    let core = c.first_of-core.result in
    let within = c.first_of-core.ensures.within in
    let rest = c.loop-other.invariant.1.rest core within c.first_of-core.ensures.there in
    rw (c.without-left.ensures) (
      c.loop-other.invariant.0,
      stays (λ k. read_of c.loop-other.self-inside k
          ≡ newer_by c.args.ties (read_of c.self.inside k) (read_of c.other.inside k))
          (λ k. (has c.other.inside.readers k ≡ true) × (read_of c.loop-other.self-inside k ≡ read_of c.self.inside k))
          c.loop-other.left core within
          (rest.1
          ∙ sym (is_mine c.self.inside c.loop-other.self-inside c.other.inside core _ (0, no_counts) c.has.result None
          c.loop-other.invariant.0 within c.has.ensures rest.1)
          ∙ (ends_by c.self.inside c.loop-other.self-inside c.other.inside core _ _ c.has.result _
          c.args.ties c.loop-other.invariant.0 c.other.invariant within c.has.ensures rest
          (c.wins.ensures ∙ if_false c.wins.result _ _ c.if-wins.false)))
          c.loop-other.invariant.1,
    )

pub loop-other-smaller-then-wins : goal.loop-other-smaller-then-wins
loop-other-smaller-then-wins c =
    subst (λ (s : CoreSet). s.bits < c.loop-other.left.bits) (sym c.without-left.ensures)
    (fewer c.loop-other.left c.first_of-core.result c.first_of-core.ensures.within c.first_of-core.ensures.there)

pub loop-other-smaller : goal.loop-other-smaller
loop-other-smaller c =
    subst (λ (s : CoreSet). s.bits < c.loop-other.left.bits) (sym c.without-left.ensures)
    (fewer c.loop-other.left c.first_of-core.result c.first_of-core.ensures.within c.first_of-core.ensures.there)
