use Rattle.std.proofs.Common.{◌≡◌, ◌<◌, List, sym, ap, subst, length, arith, rules, ◌∙◌}
use Rattle.std.proofs.lemmas.List.{set-get_or}
use Rattle.std.specs.Prelude.{slice_set}
use Rattle.know_history.specs.Knowledge.{count_in}
use Rattle.edge_regulate.specs.declared.seat.Seat.{Seat}
use Rattle.edge_regulate.specs.Awaiting.{watched}
use Rattle.edge_regulate.specs.Seats.{Following, Follows, awaited_at, no_seat, seat_at}
use Rattle.edge_regulate.proofs.AwaitedAfterEach.{follows_looked, follows_quiet, held_by, seat_was}
use Rattle.edge_regulate.proofs.regulator.Regulator.retired.Goals as goal
use Rattle.edge_regulate.proofs.regulator.Regulator.retired.Goals.{then-awaits, else-awaits}

pub returns-clause-follows : goal.returns-clause-follows
returns-clause-follows c old new edges next kept =
    let f = held_by c.self.inside.cores c.self.inside.pairs c.self.inside.seats.items in
    let whole = subst (λ (x : Following). Follows old edges x) (sym c.self.view_is) kept in
    let core = c.args.at.core in
    let few = ap (λ (x : Following). x.regulation.cores) c.self.view_is in
    let asked = c.requires in
    let within : core < c.self.inside.cores = omega arith in
    let ok = c.self.inside.seats.ok.0 in
    let all = c.self.invariant.3 in
    let seats : core < length c.self.inside.seats.items = omega arith in
    let was : c.index_mut-seat.result.now ≡ seat_at f core =
    seat_was f core c.index_mut-seat.result.now seats c.index_mut-seat.ensures.value in
    elim c.if-awaits.branch [
      | then-awaits w ↦
          rw (w.self-inside-is)
          (follows_looked old new c.args.at c.args.known.now edges f next c.self.invariant.0 (omega arith)
          c.self.invariant.2 whole
          w.look.new.self within seats
          (λ source lt. w.look.ensures.each source lt
          ∙ ap (λ (s : Seat). watched c.args.at.count (count_in c.args.known.now source) (awaited_at s source)) was)
          w.look.ensures.least)
      | else-awaits w ↦
          rw (w.self-inside-is)
          (subst (λ (ss : List Seat). Follows new edges (record { regulation = f.regulation; seats = ss }))
          (sym (ap (λ (s : Seat). slice_set f.seats core s) was ∙ set-get_or f.seats core no_seat))
          (follows_quiet old new c.args.at c.args.known.now edges f next c.self.invariant.0 (omega arith)
          c.self.invariant.2 whole
          (λ is. (let no = w.if-awaits.false in let yes = c.awaits.ensures.1 (ap (λ (s : Seat). s.next) was ∙ is) in
          search rules))))
    ]
