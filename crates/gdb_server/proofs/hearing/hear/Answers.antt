use Rattle.std.proofs.Common.{◌≡◌, ◌∙◌, refl, ap, subst, ℕ, List, [], ◌∷◌, ◌++◌}
use Rattle.gdb_packets.specs.Frames.{tells}
use Rattle.gdb_packets.specs.Lines.{acknowledged}
use Rattle.gdb_server.specs.Words.{Heard, IsFront, saying}
use Rattle.gdb_server.proofs.SessionFronts.{on_err, unmade, unsaid}
use Rattle.gdb_server.proofs.hearing.hear.Goals as goal

pub returns-in_ok-say-in-Ok-Some-clause-heard : goal.returns-in_ok-say-in-Ok-Some-clause-heard
returns-in_ok-say-in-Ok-Some-clause-heard g c = λ wire s.
    let byte = c.in-Ok-Some.byte in
    let at : List ℕ = acknowledged wire (tells wire.at byte) in
    let heard = rw c.in-Ok-Some.field-0-is at c.in-Ok-Some.ensures.heard in
    let said : c.as_slice.result.now ≡ at =
    c.as_slice.ensures.value ∙ c.in_ok-told-in-Ok-Some.ensures.written wire s
    ∙ ap (λ (l : List ℕ). l ++ at) c.new-said.ensures.items in
    record {
      byte = byte;
      told_is = c.in_ok-told-in-Ok-Some.ensures.told wire s;
      passed_is = g.C.Conversation.goes_on c.args.conversation.now c.hear.new.self c.say.new.self (Heard byte ∷ [])
          (saying at) heard
          (subst (λ (l : List ℕ). g.C.Conversation.passed c.hear.new.self (saying l) c.say.new.self) said
          c.in_ok-say-in-Ok-Some.ensures.said);
      shows = c.in_ok-told-in-Ok-Some.ensures.follows wire s;
    }

pub returns-in_err-told-in-Ok-Some-clause-broken : goal.returns-in_err-told-in-Ok-Some-clause-broken
returns-in_err-told-in-Ok-Some-clause-broken g c = λ wire s.
    on_err c.from_residual.result _
    (unmade g.C.Conversation.passed wire c.in-Ok-Some.byte c.args.conversation.now c.hear.new.self
    (rw c.in-Ok-Some.field-0-is at c.in-Ok-Some.ensures.heard))

pub returns-in_err-say-in-Ok-Some-clause-broken : goal.returns-in_err-say-in-Ok-Some-clause-broken
returns-in_err-say-in-Ok-Some-clause-broken g c = λ wire s.
    let byte = c.in-Ok-Some.byte in
    let at : List ℕ = acknowledged wire (tells wire.at byte) in
    let said : c.as_slice.result.now ≡ at =
    c.as_slice.ensures.value ∙ c.in_ok-told-in-Ok-Some.ensures.written wire s
    ∙ ap (λ (l : List ℕ). l ++ at) c.new-said.ensures.items in
    let part = c.in_err-say-in-Ok-Some.ensures.part in
    on_err c.from_residual-in_err-say-in-Ok-Some.result _
    (unsaid g.C.Conversation.passed g.C.Conversation.goes_on wire byte c.args.conversation.now c.hear.new.self
    c.say.new.self at part.0
    refl (subst (λ (l : List ℕ). IsFront part.0 (saying l)) said part.1)
    (rw c.in-Ok-Some.field-0-is at c.in-Ok-Some.ensures.heard) part.2)
