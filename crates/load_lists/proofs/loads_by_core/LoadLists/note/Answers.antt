use Rattle.std.proofs.Common.{IsTrue, length, sym, ap, subst, ◌∙◌, arith}
use Rattle.std.proofs.lemmas.List.{length-map}
use Rattle.roomy_lists.specs.Lists.{Listed}
use Rattle.roomy_lists.proofs.Rooms.{items_of, ready_each}
use Rattle.load_lists.proofs.loads_by_core.LoadLists.note.Goals as goal

-- each core's list has room where all have
pub push-requires-clause-room : goal.push-requires-clause-room
push-requires-clause-room c =
    let as_many = sym (length-map c.self.inside.notes items_of) ∙ ap (λ v. length v.lists) c.self.view_is in
    ready_each c.self.inside.notes c.args.core (subst IsTrue (sym (ap (λ v. v.roomy) c.self.view_is)) c.requires.room)
    (omega (arith, as_many, c.requires.core))
