use Rattle.std.proofs.Common.{◌≡◌, ◌∙◌, sym, ap, subst, ℕ, List, ◌++◌, get_or, take}
use Rattle.gdb_packets.specs.Frames.{framed}
use Rattle.gdb_packets.specs.Lines.{Shows, Wire}
use Rattle.gdb_server.specs.Wires.{last_frame}
use Rattle.gdb_server.proofs.SessionLemmas.{frames_more, last_taken}
use Rattle.gdb_server.proofs.hearing.frames_of.Goals as goal

pub loop-payload-preserved : goal.loop-payload-preserved
loop-payload-preserved c =
    let payloads = c.args.payloads.now in
    let i = c.loop-payload.payload-index in
    let item = c.payload-item.result in
    let test = c.loop-payload-test.true in
    let is : c.answer.new.out.items ≡ c.loop-payload.said.items ++ framed (get_or payloads i item) =
    rw (← c.payload-item.is, ← c.as_slice.ensures) c.in_ok-answer.ensures.written in
    record {
      said = is ∙ ap (λ (l : List ℕ). l ++ framed (get_or payloads i item)) c.loop-payload.invariant.said
          ∙ sym (frames_more payloads i item test);
      shows = λ wire s.
          let before : Wire = record wire { last = last_frame wire.last (take i payloads) } in
          let behind = c.in_ok-answer.ensures.last before (c.loop-payload.invariant.shows wire s) in
          subst (λ (l : List ℕ). Shows (record wire { last = l }) c.answer.new.self)
          (ap framed (c.as_slice.ensures ∙ c.payload-item.is) ∙ sym (last_taken wire.last payloads i item test)) behind;
    }
