use Rattle.std.proofs.Common.{◌≡◌, ◌<◌, ◌≤◌, List, subst, ℕ, arith, sym}
use Rattle.rtr_types.specs.declared.TheConstants.{CORES_MAX}
use Rattle.replay_core.specs.Orders.{counts, nought}
use Rattle.cut_replay.specs.ClosedCuts.{count_in}
use Rattle.cut_moves.specs.Seats.{AreWindows}
use Rattle.cut_moves.proofs.CutWindows.{are_windows}
use Rattle.cut_moves.proofs.seats.Timeline.windows.Goals as goal

pub returns : goal.returns
returns c =
    let places = c.self.inside.places in
    let low : ℕ → ℕ = count_in c.args.low.now in
    let high : ℕ → ℕ = count_in c.args.high.now in
    let l = c.loop-core.invariant in
    let end = c.loop-core-test.false in
    subst (λ (t : List ℕ). AreWindows t low high c.loop-core.windows) c.self.view_is
    (are_windows places c.self.inside.seats.items c.self.invariant low high c.loop-core.windows l.wide
    (subst (λ (t : List ℕ). (core : ℕ) → core < CORES_MAX → high core ≤ counts nought t core) (sym c.self.view_is) c.requires)
    (λ core few. l.each core (omega arith)))
