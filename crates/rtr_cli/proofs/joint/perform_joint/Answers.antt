use Rattle.std.proofs.Common.{◌≡◌, refl, rules}
use Rattle.rtr_cli.proofs.CompletenessLemmas.{lacks_memory}
use Rattle.rtr_cli.proofs.JointLemmas.{prints_joint, refused_not_done}
use Rattle.rtr_cli.proofs.RefusalLemmas.{refused_answers}
use Rattle.rtr_cli.specs.Joints.{command_of}
use Rattle.rtr_cli.proofs.joint.perform_joint.Goals as goal

-- the input was taken, and is refused
pub returns-in-Err-clause-answered : goal.returns-in-Err-clause-answered
returns-in-Err-clause-answered g c =
    refused_answers (command_of c.args.asked) c.in-Ok.bytes.items c.in-Err.exit _ _ _ _ c.in-Ok.ensures.bytes
    c.in-Err.ensures.refused (search rules)

-- so memory ran out where the command accepts it
pub returns-in-Err-clause-complete : goal.returns-in-Err-clause-complete
returns-in-Err-clause-complete g c = λ bytes is accepts read write.
    lacks_memory (command_of c.args.asked) c.in-Err.exit _ _ bytes c.in-Ok.bytes.items is accepts
    c.in-Ok.ensures.bytes c.in-Err.ensures.refused

pub returns-in-Err-clause-none : goal.returns-in-Err-clause-none
returns-in-Err-clause-none g c = refused_not_done (command_of c.args.asked) c.in-Ok.bytes.items c.in-Err.exit
    c.in-Err.ensures.refused

-- a part of the text was given
pub returns-clause-answered : goal.returns-clause-answered
returns-clause-answered g c =
    let part = rw c.as_slice.ensures.value at c.in-Err-write_all.ensures.part in
    let it = c.in-Ok-make_joint in
    (c.in-Ok.bytes.items, it.made.out.items, c.in-Ok.ensures.bytes, it.ensures.made, it.ensures.promised, part)

-- or all of it
pub returns-in-Ok-write_all-clause-answered : goal.returns-in-Ok-write_all-clause-answered
returns-in-Ok-write_all-clause-answered g c =
    let whole = rw c.as_slice.ensures.value at c.in-Ok-write_all.ensures.all in
    let it = c.in-Ok-make_joint in
    (c.in-Ok.bytes.items, it.made.out.items, c.in-Ok.ensures.bytes, it.ensures.made, it.ensures.promised, whole)

pub returns-in-Ok-write_all-clause-closed : goal.returns-in-Ok-write_all-clause-closed
returns-in-Ok-write_all-clause-closed g c =
    let whole = rw c.as_slice.ensures.value at c.in-Ok-write_all.ensures.all in (
      refl,
      prints_joint c.args.asked c.in-Ok-make_joint.made.closed _ _ _ _ c.in-Ok.bytes.items
          c.in-Ok-make_joint.made.out.items c.in-Ok.ensures.bytes
          c.in-Ok-make_joint.ensures.printed whole,
    )
