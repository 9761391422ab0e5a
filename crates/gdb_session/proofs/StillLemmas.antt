-- A packet that moves nothing, sets no point and wants an answer: the points stay, and its answer is told.
use Rattle.std.proofs.Common.{◌≡◌, ℕ, List, refl, sym, ◌∙◌}
use Rattle.std.specs.Prelude.{IfOk, OnOk, Result, Ok, Err, [], ◌∷◌}
use Rattle.gdb_packets.specs.Replies.{spelled}
use Rattle.gdb_packets.specs.declared.asks.Plain.{Plain}
use Rattle.gdb_packets.specs.declared.asks.Plain.TheVariants as plain
use Rattle.gdb_packets.specs.declared.asks.PointKind.{PointKind}
use Rattle.gdb_packets.specs.declared.asks.Span.{Span}
use Rattle.gdb_session.specs.declared.wishes.Wishes.{Wishes}
use Rattle.gdb_session.specs.Answers.{AnswersPlain, Tells, payloads_of, points_after}
use Rattle.gdb_session.specs.Seats.{Seat, seat_of}
use Rattle.gdb_session.specs.Told.{still_reply}
use Rattle.gdb_session.specs.Wishes.{wishes_after}

module _ (old : Seat) (wishes : Wishes) (payloads : List (List ℕ)) where
  told : (packet : Plain) → points_after old.points packet ≡ old.points →
      payloads_of old packet ≡ spelled (still_reply old.place old.wishes packet) ∷ [] →
      wishes ≡ wishes_after old.wishes packet old.place.recording.params.cores →
      payloads ≡ spelled (still_reply old.place old.wishes packet) ∷ [] →
      Tells old packet (seat_of old.place wishes old.points old.marks) payloads
  told packet points_are payloads_are w p = record {
    place = refl;
    wishes = w;
    points = sym points_are;
    marks = refl;
    payloads_are = p ∙ sym payloads_are;
  }

  still : (packet : Plain) → (packet ≡ plain.StepBack → ⊥) → (packet ≡ plain.GoBack → ⊥) →
      (packet ≡ plain.Quit → ⊥) → (packet ≡ plain.ResumeKinds → ⊥) → ((kind : PointKind) (span : Span) → packet ≡ plain.SetPoint kind span → ⊥) →
      ((kind : PointKind) (span : Span) → packet ≡ plain.ClearPoint kind span → ⊥) →
      wishes ≡ wishes_after old.wishes packet old.place.recording.params.cores →
      payloads ≡ spelled (still_reply old.place old.wishes packet) ∷ [] →
      AnswersPlain packet old (seat_of old.place wishes old.points old.marks) payloads
  still plain.StepBack step go quit kinds set clear w p = absurd (step refl)
  still plain.GoBack step go quit kinds set clear w p = absurd (go refl)
  still plain.Quit step go quit kinds set clear w p = absurd (quit refl)
  still (plain.SetPoint kind span) step go quit kinds set clear w p = absurd (set kind span refl)
  still (plain.ClearPoint kind span) step go quit kinds set clear w p = absurd (clear kind span refl)
  still plain.LastStop step go quit kinds set clear w p = told plain.LastStop refl refl w p
  still plain.Registers step go quit kinds set clear w p = told plain.Registers refl refl w p
  still plain.ResumeKinds step go quit kinds set clear w p = absurd (kinds refl)
  still plain.ToldThread step go quit kinds set clear w p = told plain.ToldThread refl refl w p
  still plain.Detach step go quit kinds set clear w p = told plain.Detach refl refl w p
  still plain.ThreadsFirst step go quit kinds set clear w p = told plain.ThreadsFirst refl refl w p
  still plain.ThreadsRest step go quit kinds set clear w p = told plain.ThreadsRest refl refl w p
  still plain.StopAcks step go quit kinds set clear w p = told plain.StopAcks refl refl w p
  still plain.Features step go quit kinds set clear w p = told plain.Features refl refl w p
  still plain.Attached step go quit kinds set clear w p = told plain.Attached refl refl w p
  still plain.Kill step go quit kinds set clear w p = told plain.Kill refl refl w p
  still plain.Write step go quit kinds set clear w p = told plain.Write refl refl w p
  still plain.OtherPart step go quit kinds set clear w p = told plain.OtherPart refl refl w p
  still plain.Malformed step go quit kinds set clear w p = told plain.Malformed refl refl w p
  still plain.Unknown step go quit kinds set clear w p = told plain.Unknown refl refl w p
  still (plain.LookAt thread) step go quit kinds set clear w p = told (plain.LookAt thread) refl refl w p
  still (plain.MoveWith thread) step go quit kinds set clear w p = told (plain.MoveWith thread) refl refl w p
  still (plain.IsThere thread) step go quit kinds set clear w p = told (plain.IsThere thread) refl refl w p
  still (plain.ThreadText thread) step go quit kinds set clear w p = told (plain.ThreadText thread) refl refl w p
  still (plain.TargetPart span) step go quit kinds set clear w p = told (plain.TargetPart span) refl refl w p
  still (plain.ThreadsPart span) step go quit kinds set clear w p = told (plain.ThreadsPart span) refl refl w p
  still (plain.Register number) step go quit kinds set clear w p = told (plain.Register number) refl refl w p
  still (plain.Memory span) step go quit kinds set clear w p = told (plain.Memory span) refl refl w p

pub still_told : (packet : Plain) (old : Seat) (wishes : Wishes) {E : Type 0} (result : Result (List (List ℕ)) E) →
    (packet ≡ plain.StepBack → ⊥) → (packet ≡ plain.GoBack → ⊥) → (packet ≡ plain.Quit → ⊥) →
    (packet ≡ plain.ResumeKinds → ⊥) →
    ((kind : PointKind) (span : Span) → packet ≡ plain.SetPoint kind span → ⊥) →
    ((kind : PointKind) (span : Span) → packet ≡ plain.ClearPoint kind span → ⊥) →
    OnOk result (wishes ≡ wishes_after old.wishes packet old.place.recording.params.cores) →
    IfOk result (λ payloads. payloads ≡ spelled (still_reply old.place old.wishes packet) ∷ []) →
    IfOk result (AnswersPlain packet old (seat_of old.place wishes old.points old.marks))
still_told packet old wishes (Ok payloads) step go quit kinds set clear w p =
    still old wishes payloads packet step go quit kinds set clear w p
still_told packet old wishes (Err e) step go quit kinds set clear w p = tt
