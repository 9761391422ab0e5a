-- What is told of the home's act is what it did.
use Rattle.std.proofs.Common.{◌≡◌, ◌∙◌, refl, ap, ℕ, Option, Some, None}
use Rattle.msi_cache.specs.Messages.{message_with}
use Rattle.msi_cache.specs.PlainPart.{plain_message}
use Rattle.msi_cache.specs.declared.messages.FromHome.{FromHome}
use Rattle.msi_cache.specs.declared.messages.FromHome.TheVariants.{BlockData, FwdGetM, FwdGetS, Inv, PutAck}
use Rattle.msi_directory.specs.Entries.{answer_riding, sent_riding}
use Rattle.msi_directory.specs.PlainPart.{plain_home_answer, plain_send}
use Rattle.msi_directory.specs.declared.entry.HomeAnswer.{HomeAnswer}
use Rattle.msi_memory.specs.declared.turn.Turn.{Turn}
use Rattle.msi_memory.specs.Rests.{hears, hears_in}
use Rattle.msi_memory.specs.Turns.{IsTurn}

module _ {R : Type 0} where
  -- without the rider that it got, an answer is what it was before
  plain_message_riding : (rider : R) (m : FromHome (Unit {0})) → m ≡ plain_message (message_with (λ own. rider) m)
  plain_message_riding rider (FwdGetS block) = refl
  plain_message_riding rider (FwdGetM block) = refl
  plain_message_riding rider (Inv block) = refl
  plain_message_riding rider (PutAck block) = refl
  plain_message_riding rider (BlockData block words own) = refl

  plain_riding : (rider : R) (answer : HomeAnswer (Unit {0})) → answer ≡ plain_home_answer (answer_riding rider answer)
  plain_riding rider answer = ap with_send (by answer.send)
    where
      with_send : Option (ℕ × FromHome (Unit {0})) → HomeAnswer (Unit {0})
      with_send send = record { invalidate = answer.invalidate; send = send }

      by : (send : Option (ℕ × FromHome (Unit {0}))) → send ≡ plain_send (sent_riding rider send)
      by None = refl
      by (Some (to, m)) = ap (λ (n : FromHome (Unit {0})). Some (to, n)) (plain_message_riding rider m)

  -- the riders of an answer don't say who hears it
  hears_plain : (answer : HomeAnswer R) (d : ℕ) → hears (plain_home_answer answer) d ≡ hears answer d
  hears_plain answer d = by answer.send
    where
      by : (send : Option (ℕ × FromHome R)) → hears_in (plain_send send) answer.invalidate d ≡ hears_in send
          answer.invalidate d
      by None = refl
      by (Some (to, m)) = refl

  -- who hears the turn's answer hears this one
  pub turn_heard : (about : ℕ) (told : HomeAnswer R) (turn : Turn) → IsTurn about told turn → (d : ℕ) →
      hears turn.answer d ≡ hears told d
  turn_heard about told turn is d = ap (λ (answer : HomeAnswer (Unit {0})). hears answer d) is.answer
      ∙ hears_plain told d

  pub turn_is : (rider : R) (answer : HomeAnswer R) (about : ℕ) (turn : Turn) → turn.block ≡ about →
      answer_riding rider turn.answer ≡ answer →
      IsTurn about answer turn
  turn_is rider answer about turn block whole =
      record {
        block = block;
        answer = plain_riding rider turn.answer
            ∙ ap (λ (a : HomeAnswer R). plain_home_answer a) whole;
      }
