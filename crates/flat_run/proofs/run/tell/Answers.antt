use Rattle.std.proofs.Common.{◌<◌, ap, sym, subst, List, length}
use Rattle.rtr_types.specs.declared.access.Access.{Access}
use Rattle.rv_core.specs.declared.outcome.LoadNote.{LoadNote}
use Rattle.flat_machine.specs.Machines.{event_of}
use Rattle.flat_run.proofs.run.tell.Goals as goal

pub touched-requires : goal.touched-requires
touched-requires c =
    let access : Access = c.in-Accessed.access in
    record {
      core = subst (λ (lists : List (List LoadNote)). access.at.core < length lists) (sym c.make_room.ensures.lists)
          (c.requires access (ap event_of c.in-Accessed.is));
      roomy = c.in_ok-make_room.ensures.roomy;
    }
