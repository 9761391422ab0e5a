-- At the start no move is marked but the cores' own, and all that a machine holds is true of the opening state by the
-- laws of the start.
use Rattle.std.proofs.Common.{◌≡◌, ◌∙◌, ◌*◌, ◌≤◌, ap, sym, subst, false, length, ℕ, arith, List}
use Rattle.std.specs.Prelude.{map}
use Rattle.image_mem.specs.Contents.{Contents}
use Rattle.rv_core.specs.declared.core_state.Core.{Core}
use Rattle.rv_core.specs.States.{starting}
use Rattle.machine_bound.specs.Bound.{total_owed}
use Rattle.machine_bound.proofs.RunEnds.{owed_start}
use Rattle.machine_data.specs.Coherent.{Coherent, opening_memory}
use Rattle.machine_data.proofs.OpeningWords.{start_coherent}
use Rattle.machine_invariant.specs.Holds.{MachineHolds}
use Rattle.machine_invariant.proofs.StartInvariant.{holds_start}
use Rattle.machine_plain.specs.Plain.{plain}
use Rattle.machine_plain.proofs.Shows.{plain_start}
use Rattle.machine_ports.proofs.CoreRanges.{kept_long}
use Rattle.msi_state.specs.States.{Machinery, State}
use Rattle.msi_machine.specs.declared.standing.Standing.{Standing}
use Rattle.msi_machine.specs.Standings.{may_begin, standing_with}
use Rattle.msi_machine.proofs.AtHand.{one_writer}
use Rattle.msi_machine.proofs.StartMarks.{notes_begin}
use Rattle.msi_machine.proofs.machine.Machine.over.Goals as goal

pub first_marks-marks-requires : goal.first_marks-marks-requires
first_marks-marks-requires g c =
    let long : length c.as_slice-2.result.now ≡ c.args.params.cores =
    kept_long (λ (id : ℕ). starting id c.args.params.limit)
    (λ (core : Core). standing_with c.parts.inside.program core false) c.args.params.cores
    (c.as_slice.ensures.value ∙ (λ i. (c.parts.view_is i).state.cores) ∙ (λ i. (c.requires.start i).cores))
    c.in_ok-standings.ensures c.as_slice-2.ensures.value in
    record { few = rw long c.requires.fits.cores }

pub invariant_of-result : goal.invariant_of-result
invariant_of-result g c =
    let image : c.parts.inside.program ≡ c.args.parts.state.image =
    ap (λ (m : Machinery g.row.R.Denot g.row.K.Denot). m.state.image) c.parts.view_is in
    let cores : c.as_slice.result.now ≡ c.args.parts.state.cores =
    c.as_slice.ensures.value ∙ ap (λ (m : Machinery g.row.R.Denot g.row.K.Denot). m.state.cores) c.parts.view_is in
    notes_begin g.R.Rider.riding g.K.Carry.carrying c.args.parts.state.image c.args.params.cores c.args.params.limit
    c.args.parts
    c.in_ok-standings.standings.items c.first_marks-marks.result c.requires.start
    (subst (λ (s : State g.row.R.Denot g.row.K.Denot). MachineHolds g.R.Rider.riding g.K.Carry.carrying s)
    (sym c.requires.start)
    (holds_start g.R.Rider.riding g.K.Carry.carrying c.args.parts.state.image c.args.params.cores c.args.params.limit
    c.requires.fits.cores (omega arith)))
    (c.in_ok-standings.ensures
    ∙ ap (λ (x : Contents). map (λ (core : Core). standing_with x core false) c.as_slice.result.now) image
    ∙ ap (map (λ (core : Core). standing_with c.args.parts.state.image core false)) cores)
    (c.first_marks-marks.ensures.cores ∙ ap (λ (xs : List Standing). length xs) c.as_slice-2.ensures.value)
    (λ k. c.first_marks-marks.ensures.own k ∙ ap (λ (xs : List Standing). may_begin xs k) c.as_slice-2.ensures.value)
    c.first_marks-marks.ensures.others

pub returns-clause-plain : goal.returns-clause-plain
returns-clause-plain g c =
    ap (plain {R = g.row.R.Denot} {K = g.row.K.Denot}) c.requires.start
    ∙ plain_start g.R.Rider.riding g.K.Carry.carrying c.args.parts.state.image c.args.params.cores c.args.params.limit

pub returns-clause-coherent : goal.returns-clause-coherent
returns-clause-coherent g c =
    subst (λ (s : State g.row.R.Denot g.row.K.Denot). Coherent g.R.Rider.riding g.K.Carry.carrying s
    (opening_memory c.args.parts.state.image))
    (sym c.requires.start)
    (start_coherent g.R.Rider.riding g.K.Carry.carrying c.args.parts.state.image c.args.params.cores c.args.params.limit
    (subst (λ (x : Contents). length x.bytes ≤ 4 * x.words)
    (c.image-image.ensures ∙ (λ i. (c.parts.view_is i).state.image)) (omega (
      arith,
      c.words-words.ensures.value,
      c.words-words.ensures.room,
    ))))

pub returns-clause-idle : goal.returns-clause-idle
returns-clause-idle g c =
    subst (λ (s : State g.row.R.Denot g.row.K.Denot). total_owed s ≡ 0) (sym c.requires.start)
    (owed_start g.R.Rider.riding g.K.Carry.carrying c.args.params.cores)

pub returns-clause-one_writer : goal.returns-clause-one_writer
returns-clause-one_writer g c =
    one_writer g.R.Rider.riding g.K.Carry.carrying c.args.parts.state
    (subst (λ (s : State g.row.R.Denot g.row.K.Denot). MachineHolds g.R.Rider.riding g.K.Carry.carrying s)
    (sym c.requires.start)
    (holds_start g.R.Rider.riding g.K.Carry.carrying c.args.parts.state.image c.args.params.cores c.args.params.limit
    c.requires.fits.cores (omega arith)))
