use Rattle.std.proofs.Common.{◌≡◌, ◌∙◌, refl, sym, ap, subst, List, ℕ, true, false}
use Rattle.gdb_packets.specs.Lines.{Shows, Wire, payload_in}
use Rattle.gdb_server.specs.Wires.{frames, last_frame, stops_acks}
use Rattle.gdb_server.specs.Words.{IsFront, saying}
use Rattle.gdb_server.proofs.SessionLemmas.{shows_on, shows_stopped}
use Rattle.gdb_server.proofs.SessionFronts.{answers_in_part, on_err}
use Rattle.gdb_server.proofs.hearing.answer.Goals as goal
use Rattle.gdb_server.proofs.hearing.answer.Goals.{then-stops_acks, else-stops_acks}

pub returns-clause-said : goal.returns-clause-said
returns-clause-said g c = λ wire s.
    let made = c.in_ok-payloads.field-0 in
    let spelled : c.as_slice.result.now ≡ made.payloads = cc in
    let said : c.as_slice-2.result.now ≡ frames made.payloads =
    c.as_slice-2.ensures.value ∙ c.in_ok-said.ensures.frames ∙ ap frames spelled in
    let framed : Shows (record wire { last = last_frame wire.last made.payloads }) c.frames_of.new.line =
    subst (λ (l : List (List ℕ)). Shows (record wire { last = last_frame wire.last l }) c.frames_of.new.line) spelled
    (c.in_ok-said.ensures.shows wire s) in
    record {
      answer = made;
      answered = subst (λ (p : List ℕ). g.P.Partner.answers c.args.partner.now p c.answer.new.self made)
          c.payload.ensures c.in_ok-payloads.ensures;
      next_is = refl;
      passed_is = subst (λ (l : List ℕ). g.C.Conversation.passed c.args.conversation.now (saying l)
          c.say.new.self) said c.in_ok-say.ensures.said;
      shows = elim c.if-stops_acks.branch [
        | then-stops_acks w ↦
            let stops : stops_acks made.next ≡ true = sym c.stops_acks.ensures ∙ w.if-stops_acks.true in
            let before : Wire = record wire { last = last_frame wire.last made.payloads } in
            rw w.line-is (shows_stopped wire made w.stop_acks.new.self stops (w.stop_acks.ensures before framed))
        | else-stops_acks w ↦
            let keeps : stops_acks made.next ≡ false = sym c.stops_acks.ensures ∙ w.if-stops_acks.false in
            rw w.line-is (shows_on wire made c.frames_of.new.line keeps framed)
      ];
    }

pub returns-in_err-say-clause-broken : goal.returns-in_err-say-clause-broken
returns-in_err-say-clause-broken g c = λ wire.
    let made = c.in_ok-payloads.field-0 in
    let spelled : c.as_slice.result.now ≡ made.payloads = cc in
    let said : c.as_slice-2.result.now ≡ frames made.payloads =
    c.as_slice-2.ensures.value ∙ c.in_ok-said.ensures.frames ∙ ap frames spelled in
    let part = c.in_err-say.ensures.part in
    on_err c.from_residual-in_err-say.result _
    (answers_in_part g.P.Partner.answers g.P.Partner.interrupts g.C.Conversation.passed wire c.args.partner.now
    (payload_in c.args.line.now) c.args.conversation.now c.say.new.self c.answer.new.self made part.0
    (subst (λ (p : List ℕ). g.P.Partner.answers c.args.partner.now p c.answer.new.self made)
    c.payload.ensures c.in_ok-payloads.ensures)
    (subst (λ (l : List ℕ). IsFront part.0 (saying l)) said part.1) part.2)
