use Rattle.std.proofs.Common.{refl, subst}
use Rattle.std.specs.Prelude.{IfOk}
use Rattle.debug_place.specs.Places.{IsKept}
use Rattle.gdb_session.specs.Answers.{AnswersPlain}
use Rattle.gdb_session.specs.Seats.{Seat, seat_of}
use Rattle.gdb_session.proofs.StillLemmas.{still_told}
use Rattle.gdb_session.proofs.session.Session.answered_plain.Goals as goal

pub returns-in_default : goal.returns-in_default
returns-in_default c =
    let place = c.self.inside.place in
    let old = seat_of place c.self.inside.wishes c.self.inside.points c.self.inside.marks in
    let none = c.in_default in
    record {
      kept = subst (λ (s : Seat). IsKept s.place place) c.self.view_is (record { recording = refl; which = refl });
      answers = subst (λ (s : Seat). IfOk c.answered_still.result (AnswersPlain c.args.plain s
          (seat_of place c.answered_still.new.wishes c.self.inside.points c.self.inside.marks))) c.self.view_is
          (still_told c.args.plain old c.answered_still.new.wishes c.answered_still.result none.not-StepBack
          none.not-GoBack none.not-Quit none.not-ResumeKinds none.not-SetPoint none.not-ClearPoint c.answered_still.ensures.wishes
          c.answered_still.ensures.told);
    }
