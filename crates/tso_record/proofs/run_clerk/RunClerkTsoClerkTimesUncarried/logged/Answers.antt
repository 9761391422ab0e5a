use Rattle.std.proofs.Common.{IsTrue, length, sym, ap, subst, ◌∙◌, arith}
use Rattle.std.proofs.lemmas.List.{length-map}
use Rattle.roomy_lists.proofs.Rooms.{items_of, ready_each}
use Rattle.tso_record.proofs.run_clerk.RunClerkTsoClerkTimesUncarried.logged.Goals as goal

-- each core's list has room where all have
pub push-requires-clause-room : goal.push-requires-clause-room
push-requires-clause-room c =
    let as_many = sym (length-map c.self.inside.values items_of) ∙ ap (λ v. length v.values) c.self.view_is in
    ready_each c.self.inside.values c.args.at.core
    (subst IsTrue (sym (ap (λ v. v.roomy) c.self.view_is)) c.requires.roomy) (omega (arith, as_many, c.requires.core))
