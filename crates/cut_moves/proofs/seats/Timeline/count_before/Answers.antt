use Rattle.std.proofs.Common.{◌≡◌, ◌∙◌, ◌≤◌, List, [], ℕ, ap, arith, length, subst, sym, take}
use Rattle.std.proofs.lemmas.List.{get_or_default, take_all}
use Rattle.replay_core.specs.Orders.{counts, nought}
use Rattle.cut_moves.specs.Seats.{AreSeats}
use Rattle.cut_moves.specs.Ways.{between}
use Rattle.cut_moves.proofs.SeatHalves.{between_seats, seats_rise}
use Rattle.cut_moves.proofs.seats.Timeline.count_before.Goals as goal
use Rattle.cut_moves.proofs.seats.Timeline.count_before.Goals.{After-as_slice}

-- the core's seats
are : (c : After-as_slice) →
    AreSeats c.self.inside.places (length c.self.inside.places) c.args.core c.as_slice.result.now
are c =
    let seats = c.self.inside.seats.items in
    let wide = c.self.invariant.up_to.wide in
    let few = c.requires.core in
    subst (λ (l : List ℕ). AreSeats c.self.inside.places (length c.self.inside.places) c.args.core l)
    (sym (c.as_slice.ensures ∙ c.index.ensures
    ∙ get_or_default seats c.args.core c.index.result.now [] (omega arith)))
    (c.self.invariant.up_to.each c.args.core few)

-- there are at least as many as the higher count says
enough : (c : After-as_slice) → c.args.high ≤ length c.as_slice.result.now
enough c =
    let places = c.self.inside.places in
    let all = (are c).all in
    let whole = ap (λ (l : List ℕ). counts nought l c.args.core) (take_all (length places) places (omega arith)) in
    let most = subst (λ (l : List ℕ). c.args.high ≤ counts nought l c.args.core) (sym c.self.view_is) c.requires.most in
    omega arith

pub some_before-requires-clause-rise : goal.some_before-requires-clause-rise
some_before-requires-clause-rise c =
    let here = (goal.at.some_before-requires-clause-rise c).After-as_slice in
    seats_rise c.self.inside.places c.as_slice.result.now c.args.core (are here)

pub some_before-requires-clause-most : goal.some_before-requires-clause-most
some_before-requires-clause-most c = enough (goal.at.some_before-requires-clause-most c).After-as_slice

pub returns : goal.returns
returns c =
    let here = (goal.at.returns c).After-as_slice in
    subst (λ (l : List ℕ). c.some_before.result ≡ between c.args.low c.args.high
    (counts nought (take c.args.number l) c.args.core)) c.self.view_is
    (between_seats c.self.inside.places c.as_slice.result.now c.args.core (are here) c.args.low c.args.high
    c.args.number c.some_before.result (enough here) c.some_before.ensures)
