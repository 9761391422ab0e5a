use Rattle.std.proofs.Common.{arith, inl, inr, sym}
use Rattle.std.proofs.lemmas.Bool.Decides.{nat_tests}
use Rattle.hunt_words.specs.Seen.{all_seen}
use Rattle.hunt_words.proofs.FaultPlaces.{missing-words}
use Rattle.hunt_words.proofs.FaultReads.{lacks-is}
use Rattle.hunt_words.proofs.stops.missing.Goals as goal
use Rattle.hunt_words.proofs.stops.missing.Goals.{else-not-has-via-then-not-has+in_ok-suits+else-not-branch}
use Rattle.hunt_words.proofs.stops.missing.Goals.{else-not-has-via-else-not-has}

pub returns-in-Some : goal.returns-in-Some
returns-in-Some c = lacks-is c.args.verb (all_seen c.args.given.now) c.in-Some.missing (sym c.in-Some.ensures)

pub returns-else-not-has : goal.returns-else-not-has
returns-else-not-has c =
    let none = c.requires.none in
    let whole = sym c.in_default.ensures in (
      whole,
      missing-words c.args.verb c.requires.cut.0 (all_seen c.args.given.now) c.requires.cut.1 none whole
          (elim c.else-not-has.branch [
            | else-not-has-via-then-not-has+in_ok-suits+else-not-branch w ↦
                inr (grind (arith, nat_tests, w.in_ok-suits.ensures, w.if-not-branch.false))
            | else-not-has-via-else-not-has w ↦ inl (grind (arith, nat_tests, c.has.ensures, w.if-not-has.false))
          ]),
      none,
    )
