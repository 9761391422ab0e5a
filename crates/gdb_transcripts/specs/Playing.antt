-- What it is for a session to do as the lines of a stored one say.
use Rattle.std.specs.Prelude.{ℕ, List, ◌≡◌, [], ◌∷◌}
use Rattle.gdb_server.specs.declared.partner.Answer as answers
use Rattle.gdb_session.specs.Answers.{AnswersPacket}
use Rattle.gdb_session.specs.Seats.{Seat, interrupted}
use Rattle.gdb_transcripts.specs.declared.lines.Line.{Line}
use Rattle.gdb_transcripts.specs.declared.lines.Line.TheVariants.{Packet, Interrupt, Answer, Silence, Blank, Unknown}

-- a session, and the payloads that it told last and that aren't compared yet
pub record Standing : Type 0 where
  pub seat : Seat
  pub left : List (List ℕ)

-- nothing is left, and the packet is answered
pub record Asks (packet : List ℕ) (old new : Standing) : Type 0 where
  pub heard : old.left ≡ []
  pub answer : answers.Answer
  pub answered : AnswersPacket old.seat packet new.seat answer
  pub left : new.left ≡ answer.payloads

-- the session does as the line says
abbrev pub Does : Line → (old new : Standing) → Type 0
Does (Packet payload) old new = Asks payload.now old new
Does Interrupt old new = (old.left ≡ []) × (new ≡ record old { seat = interrupted old.seat })
Does (Answer payload) old new = old ≡ record new { left = payload.now ∷ new.left }
Does Silence old new = (old.left ≡ []) × (new ≡ old)
Does Blank old new = (old.left ≡ []) × (new ≡ old)
Does Unknown old new = ⊥
