use Rattle.std.proofs.Common.{◌≡◌, ℕ, List, sym, ap, subst, ◌∙◌}
use Rattle.std.specs.Prelude.{IfOk, slice_index}
use Rattle.gdb_packets.specs.declared.asks.Plain.{Plain}
use Rattle.race_log.specs.declared.recording.Recording.{Recording}
use Rattle.gdb_places.specs.Registers.{register_reply}
use Rattle.gdb_session.specs.Told.{place_reply}
use Rattle.gdb_session.proofs.told.place_reply.Goals as goal

pub returns-in-Register : goal.returns-in-Register
returns-in-Register c =
    let place = c.args.place.now in
    let core = c.args.core in
    let number = c.in-Register.number in
    let list_is : c.as_slice.result.now ≡ place.recording.totals =
    c.as_slice.ensures ∙ ap (λ (r : Recording). r.totals) (c.recording.ensures.recording ∙ c.requires.recording) in
    subst (λ (p : Plain). IfOk c.register_reply.result (λ reply. reply ≡ place_reply place core p))
    (sym c.in-Register.is)
    (subst (λ (totals : List ℕ). IfOk c.register_reply.result
    (λ reply. reply ≡ register_reply place core (slice_index totals core) number)) list_is c.register_reply.ensures)
