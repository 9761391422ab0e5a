use Rattle.race_cuts.proofs.OpenEdges.{edge_node}
use Rattle.race_cuts.proofs.TwoCuts.{last_both, last_holds}
use Rattle.race_cuts.proofs.cuts.last_cut.Goals as goal

pub cut_without-requires : goal.cut_without-requires
cut_without-requires c = edge_node _ _ _ _ c.recording.ensures.valid c.requires.edge

pub returns-clause-both : goal.returns-clause-both
returns-clause-both c =
    last_both _ _ _ _ c.recording.ensures.valid c.requires.reduced c.outcome.ensures.passed.determinate c.requires.least
    c.requires.edge _ c.in_ok-cut.ensures

pub returns-clause-last : goal.returns-clause-last
returns-clause-last c =
    last_holds _ _ _ _ c.recording.ensures.valid c.requires.reduced c.outcome.ensures.passed.determinate
    c.requires.least c.requires.edge _ c.in_ok-cut.ensures
