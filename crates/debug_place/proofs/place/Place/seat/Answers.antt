use Rattle.std.proofs.Common.{◌<◌, List, ℕ, subst, sym, arith}
use Rattle.std.specs.Prelude.{slice_index}
use Rattle.replay_core.specs.Orders.{counts, nought}
use Rattle.cut_moves.proofs.Rounds.{rounds_whole}
use Rattle.debug_place.specs.Places.{Placed}
use Rattle.debug_place.proofs.place.Place.seat.Goals as goal

pub seat-requires-clause-count : goal.seat-requires-clause-count
seat-requires-clause-count c =
    let a = c.self.inside.audited.now in
    let i = c.self.invariant in
    let core = c.args.core in
    let inside = subst (λ (p : Placed). core < p.recording.params.cores) (sym c.self.view_is) c.requires.core in
    let below = subst (λ (p : Placed). c.args.count < slice_index p.recording.totals core) (sym c.self.view_is)
    c.requires.count in
    let all = (rounds_whole a.which a.recording i.valid i.determinate).each core
    (let each = i.valid.each_core in omega arith) in
    subst (λ (l : List ℕ). c.args.count < counts nought l core) (sym i.timeline_is) (omega arith)
