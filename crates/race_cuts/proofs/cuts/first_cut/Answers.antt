use Rattle.std.proofs.Common.{sym, subst}
use Rattle.rtr_types.specs.declared.cut.Cut.{Cut}
use Rattle.cut_replay.specs.ClosedCuts.{IsContained}
use Rattle.race_cuts.specs.OpenCuts.{IsOpenCut}
use Rattle.race_cuts.proofs.OpenEdges.{edge_node}
use Rattle.race_cuts.proofs.TwoCuts.{first_both, first_held, target_node}
use Rattle.race_cuts.proofs.cuts.first_cut.Goals as goal

pub cut_with-requires : goal.cut_with-requires
cut_with-requires c = target_node _ _ _ c.recording.ensures.valid c.requires.edge

pub cut_without-requires : goal.cut_without-requires
cut_without-requires c = edge_node _ _ _ _ c.recording.ensures.valid c.requires.edge

pub returns-clause-both : goal.returns-clause-both
returns-clause-both c =
    subst (IsOpenCut _ _ _ _) (sym c.intersection.ensures)
    (first_both _ _ _ _ c.recording.ensures.valid c.requires.reduced c.outcome.ensures.passed.determinate
    c.requires.least c.requires.edge _ c.in_ok-greatest.ensures _ c.in_ok-least.ensures)

pub returns-clause-first : goal.returns-clause-first
returns-clause-first c other both =
    subst (λ (cut : Cut). IsContained cut other) (sym c.intersection.ensures)
    (first_held _ _ _ _ c.recording.ensures.valid c.requires.reduced c.outcome.ensures.passed.determinate
    c.requires.least c.requires.edge _ c.in_ok-greatest.ensures _ c.in_ok-least.ensures other both)
