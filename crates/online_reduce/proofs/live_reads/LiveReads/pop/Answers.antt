use Rattle.std.proofs.Common.{◌≡◌, ◌∙◌, ◌∷◌, [], ap, sym, subst, arith}
use Rattle.rtr_types.specs.declared.core_set.CoreSet.{CoreSet}
use Rattle.rtr_types.specs.declared.TheConstants.{CORES_MAX}
use Rattle.access_times.specs.Reads.{read_seen}
use Rattle.online_reduce.specs.LiveReads.{AreNoted, reads_of}
use Rattle.online_reduce.specs.declared.source.Source.{Source}
use Rattle.online_reduce.proofs.SetReads.{no_reads_of, noted_first, noted_without}
use Rattle.online_reduce.proofs.live_reads.LiveReads.pop.Goals as goal

pub returns-then-is_empty : goal.returns-then-is_empty
returns-then-is_empty c =
    let none : c.args.self.now ≡ [] = sym c.self.view_is
    ∙ no_reads_of CORES_MAX c.self.inside.cores c.self.inside.times.now c.self.inside.slot
    (sym c.is_empty.ensures ∙ c.if-is_empty.true) in
    (none, none)

pub invariant_of-self-2 : goal.invariant_of-self-2
invariant_of-self-2 c = (
  c.self.invariant.0,
  subst (λ (s : CoreSet). AreNoted s c.self.inside.times.now c.self.inside.slot) (sym c.without-self-inside.ensures)
      (noted_without c.self.inside.cores c.self.inside.times.now c.self.inside.slot c.first_of-core.result
      c.first_of-core.ensures.within c.self.invariant.1),
)

pub returns : goal.returns
returns c =
    let t = c.self.inside.times.now in
    let slot = c.self.inside.slot in
    let read = c.in_ok-count.field-0.now in
    let s : Source = record { at = record { core = c.first_of-core.result; count = read.0 }; clock = read.1 } in
    sym c.self.view_is
    ∙ noted_first CORES_MAX c.first_of-core.result c.self.inside.cores t slot read.0 read.1 (omega arith)
    c.first_of-core.ensures.within
    c.first_of-core.ensures.there c.first_of-core.ensures.first
    (sym c.last_read.ensures ∙ ap read_seen c.in_ok-count.was)
    ∙ ap (λ (left : CoreSet). s ∷ reads_of CORES_MAX left t slot) (sym c.without-self-inside.ensures)
