use Rattle.std.proofs.Common.{◌≡◌, ◌∙◌, sym, ap, ℕ, List, Some, get_or, true, false}
use Rattle.turn_lists.specs.Counts.{many_of, row_of}
use Rattle.turn_lists.specs.Few.{had_last}
use Rattle.turn_lists.specs.declared.actor.Actor.TheVariants.{Core}
use Rattle.turn_lists.specs.declared.actor.Turn.{Turn}
use Rattle.turn_lists.proofs.ListCounts.{row_at}
use Rattle.turn_lists.proofs.ListByNumber.{found, seeks_first, seeks_had, seeks_past}
use Rattle.turn_lists.proofs.few.FewLists.first_turn.Goals as goal
use Rattle.turn_lists.proofs.few.FewLists.first_turn.Goals.{then-not-had_last+else-left-these, else-not-had_last}

no_turn : Turn
no_turn = record { actor = Core 0; count = 0 }

pub loop-place-init : goal.loop-place-init
loop-place-init c =
    rw c.greatest-all.ensures (seeks_first c.args.self.now c.args.after c.args.last c.args.number c.requires.small
    c.requires.within)

pub returns-then-left-these : goal.returns-then-left-these
unfolding no_turn
returns-then-left-these c =
    let gs = c.greatest-all.result.now in
    let i = c.loop-place.place in
    let each = get_or c.row-row.result.now i 0 in
    let row : c.row-row.result.now ≡ row_of gs c.args.after =
    c.row-row.ensures ∙ ap (λ (ts : List Turn). row_of ts c.args.after) (sym c.greatest-all.ensures) in
    let is : each ≡ many_of gs c.args.after (Some (get_or gs i no_turn).actor) =
    ap (λ (ns : List ℕ). get_or ns i 0) row ∙ row_at gs c.args.after i no_turn c.loop-place-test.true in
    let had : had_last c.args.last (get_or gs i no_turn).actor ≡ false =
    sym c.had_last.ensures ∙ c.if-not-had_last.true in
    let f = found gs c.args.after c.args.last c.args.number c.loop-place.left i no_turn c.loop-place-test.true
    c.loop-place.invariant each had is c.if-left-these.true in
    rw (← c.greatest-all.ensures, c.turn_of.ensures.turn, c.turn_of.ensures.rest) (record {
      small = f.small;
      within = f.within;
      list = f.list;
    })

pub loop-place-preserved : goal.loop-place-preserved
unfolding no_turn
loop-place-preserved c =
    let gs = c.greatest-all.result.now in
    let i = c.loop-place.place in
    let each = get_or c.row-row.result.now i 0 in
    let row : c.row-row.result.now ≡ row_of gs c.args.after =
    c.row-row.ensures ∙ ap (λ (ts : List Turn). row_of ts c.args.after) (sym c.greatest-all.ensures) in
    let is : each ≡ many_of gs c.args.after (Some (get_or gs i no_turn).actor) =
    ap (λ (ns : List ℕ). get_or ns i 0) row ∙ row_at gs c.args.after i no_turn c.loop-place-test.true in
    elim c.if-not-had_last.branch [
      | then-not-had_last+else-left-these w ↦
          let had : had_last c.args.last (get_or gs i no_turn).actor ≡ false =
          sym c.had_last.ensures ∙ w.if-not-had_last.true in
          rw w.left-is (seeks_past gs c.args.after c.args.last c.args.number c.loop-place.left i no_turn
          c.loop-place-test.true c.loop-place.invariant each had is w.if-left-these.false)
      | else-not-had_last w ↦
          let had : had_last c.args.last (get_or gs i no_turn).actor ≡ true =
          sym c.had_last.ensures ∙ w.if-not-had_last.false in
          rw w.left-is (seeks_had gs c.args.after c.args.last c.args.number c.loop-place.left i no_turn
          c.loop-place-test.true c.loop-place.invariant had)
    ]
