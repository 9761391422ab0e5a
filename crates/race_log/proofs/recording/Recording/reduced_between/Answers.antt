use Rattle.std.proofs.Common.{ℕ, ◌<◌, List, length, sym, subst}
use Rattle.rtr_types.specs.Turns.{StandInTurn, follow}
use Rattle.rtr_types.specs.PairEdges.{EdgeRises}
use Rattle.race_log.proofs.Parts.{edges_listed}
use Rattle.race_log.proofs.SourceLaws.{list_at}
use Rattle.race_log.proofs.recording.Recording.reduced_between.Goals as goal

pub returns-clause-rise : goal.returns-clause-rise
returns-clause-rise c =
    let r = c.args.self.now in
    let place = c.pair_at.result in
    let below : place < length r.reduced =
    subst (λ (n : ℕ). place < n) (sym c.requires.valid.each_reduced) c.pair_at.ensures.within in
    let is = list_at r.reduced c.as_slice.result.now place c.index-as_slice-pair_at.result c.as_slice-2.result.now
    c.as_slice.ensures c.index-as_slice-pair_at.is c.as_slice-2.ensures below in
    subst (λ (es : List (ℕ × ℕ)). StandInTurn EdgeRises follow (0, 0) es) (sym is)
    (edges_listed r c.requires.valid place below).rising
