use Rattle.cut_moves.proofs.Hulls.{IsHullUpTo}
use Rattle.cut_moves.proofs.moves.hull.Given as goal

abbrev pub invariant-loop-core : goal.invariant-loop-core
invariant-loop-core l = IsHullUpTo l.audited.which l.audited.recording l.counts l.core l.hull
