-- At the start no move is marked but the cores' own, and all that a machine holds is true of the opening state by the
-- laws of the start.
use Rattle.std.proofs.Common.{◌≡◌, ◌∙◌, ◌*◌, ◌≤◌, length, subst, ℕ, arith}
use Rattle.image_mem.specs.Contents.{Contents}
use Rattle.tso_state.specs.States.{BufferedCore, buffered_start}
use Rattle.tso_plain.specs.Plain.{plain}
use Rattle.tso_plain.proofs.ForgetfulSteps.{plain_start}
use Rattle.tso_core.specs.Standings.{standing_with}
use Rattle.machine_ports.proofs.AtHand.{one_writer}
use Rattle.machine_ports.proofs.CoreRanges.{kept_long}
use Rattle.tso_core.proofs.StartMarks.{begun_coherent, begun_holds, notes_first}
use Rattle.tso_core.proofs.machine.BufferedMachine.over.Goals as goal

pub first_marks-marks-requires : goal.first_marks-marks-requires
first_marks-marks-requires g c =
    let long : length c.as_slice-2.result.now ≡ c.args.params.cores =
    kept_long (λ (id : ℕ). buffered_start id c.args.params.limit)
    (λ (t : BufferedCore). standing_with c.parts.inside.program t.core) c.args.params.cores
    (c.as_slice.ensures.value ∙ (λ i. (c.parts.view_is i).state.cores) ∙ (λ i. (c.requires.start i).cores))
    c.in_ok-standings.ensures c.as_slice-2.ensures.value in
    record { few = rw long c.requires.fits.cores }

pub invariant_of-result : goal.invariant_of-result
invariant_of-result g c =
    notes_first g.R.Rider.riding g.K.Carry.carrying c.args.parts.state.image c.args.params.cores c.args.params.limit
    c.args.parts c.requires.start c.requires.fits.cores (omega arith) c.parts.view_is
    c.as_slice.ensures.value c.in_ok-standings.ensures c.as_slice-2.ensures.value c.first_marks-marks.result
    c.first_marks-marks.ensures.cores c.first_marks-marks.ensures.own c.first_marks-marks.ensures.orders
    c.first_marks-marks.ensures.others

pub returns-clause-plain : goal.returns-clause-plain
returns-clause-plain g c =
    (λ i. plain (c.requires.start i))
    ∙ plain_start g.R.Rider.riding g.K.Carry.carrying c.args.parts.state.image c.args.params.cores c.args.params.limit

pub returns-clause-coherent : goal.returns-clause-coherent
returns-clause-coherent g c =
    begun_coherent g.R.Rider.riding g.K.Carry.carrying c.args.parts.state.image c.args.params.cores c.args.params.limit
    c.args.parts c.requires.start
    (subst (λ (x : Contents). length x.bytes ≤ 4 * x.words)
    (c.image-image.ensures ∙ (λ i. (c.parts.view_is i).state.image)) (omega (
      arith,
      c.words-words.ensures.value,
      c.words-words.ensures.room,
    )))

pub returns-clause-one_writer : goal.returns-clause-one_writer
returns-clause-one_writer g c =
    one_writer g.R.Rider.riding g.K.Carry.carrying c.args.parts.state.memory
    (begun_holds g.R.Rider.riding g.K.Carry.carrying c.args.parts.state.image c.args.params.cores c.args.params.limit
    c.args.parts c.requires.start c.requires.fits.cores (omega arith)).memory
