-- What the two calls find.
use Rattle.std.proofs.Common.{◌≡◌, subst, arith}
use Rattle.rtr_types.specs.declared.cut.Cut.{Cut}
use Rattle.rtr_types.specs.declared.instr.Instr.{Instr}
use Rattle.rtr_types.specs.declared.pairs.Which.{Which}
use Rattle.rtr_types.specs.declared.pairs.Which.TheVariants.{Reduced}
use Rattle.race_log.specs.declared.recording.Recording.{Recording}
use Rattle.race_log.specs.Sources.{HasEdge}
use Rattle.race_log.specs.Validity.{Valid}
use Rattle.replay_audit.specs.Audits.{IsInstrOf}
use Rattle.replay_audit.specs.Determinate.{IsDeterminate}
use Rattle.cut_replay.specs.ClosedCuts.{IsContained, IsGreatestWithout, IsLeastWith}
use Rattle.cut_replay.proofs.Cuts.{has_within}
use Rattle.cut_moves.specs.Unions.{intersection_of}
use Rattle.cut_moves.proofs.OneStep.{back_by_intersection}
use Rattle.min_certificate.specs.Laws.{IsLeastIn}
use Rattle.race_cuts.specs.OpenCuts.{IsOpenCut, HasLeastLog}
use Rattle.race_cuts.proofs.OpenEdges.{greatest_is_open, last_open}
use Rattle.race_cuts.proofs.BackSteps.{back_is_open, first_open}

pub target_node : (r : Recording) (x y : Instr) → Valid r → HasEdge Reduced r x y → IsInstrOf r y
target_node r x y valid has =
    let w = has_within Reduced r x y valid has in
    record {
      core = let lt = w.pair.target in let e = valid.each_core in omega arith;
      some = w.some_target;
      most = w.target_most;
    }

module _ (which : Which) (r : Recording) (x y : Instr) (valid : Valid r) (reduced : which ≡ Reduced)
    (determinate : IsDeterminate which r) (least : IsLeastIn r) (has : HasEdge Reduced r x y) where
  known : HasLeastLog r
  known = record {
    valid = valid;
    determinate = subst (λ (w : Which). IsDeterminate w r) reduced determinate;
    least = least;
  }

  module _ (cut : Cut) (h : IsGreatestWithout which r x cut) where
    without : IsGreatestWithout Reduced r x cut
    without = subst (λ (w : Which). IsGreatestWithout w r x cut) reduced h

    pub last_both : IsOpenCut Reduced r x y cut
    last_both = greatest_is_open r x y cut known has without

    pub last_holds : (other : Cut) → IsOpenCut Reduced r x y other → IsContained other cut
    last_holds other both = last_open Reduced r x y cut other without both

    module _ (held : Cut) (l : IsLeastWith which r y held) where
      least_with : IsLeastWith Reduced r y held
      least_with = subst (λ (w : Which). IsLeastWith w r y held) reduced l

      pub first_both : IsOpenCut Reduced r x y (intersection_of held cut)
      first_both =
          back_is_open r x y held (intersection_of held cut) known has least_with.closed least_with.holds
          (back_by_intersection Reduced r held cut x least_with.closed without)

      pub first_held : (other : Cut) → IsOpenCut Reduced r x y other → IsContained (intersection_of held cut) other
      first_held other both =
          first_open r x y held (intersection_of held cut) other known has least_with
          (back_by_intersection Reduced r held cut x least_with.closed without) both
