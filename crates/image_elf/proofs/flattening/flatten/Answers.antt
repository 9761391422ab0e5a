use Rattle.std.proofs.Common.{◌≡◌, inl, inr}
use Rattle.std.specs.Prelude.{None}
use Rattle.std.proofs.lemmas.Result.{err_from_is_err_and}
use Rattle.image_elf.specs.Faults.{elf_fault}
use Rattle.image_elf.proofs.FaultLemmas.{bad_entry, bad_header, bad_headers, no_fault_at_all, not_elf}
use Rattle.image_elf.proofs.FlatLemmas.{is_flat_image}
use Rattle.image_elf.proofs.RoomLemmas.{flat_image_fits}
use Rattle.image_elf.proofs.flattening.flatten.Goals as goal
use Rattle.image_elf.proofs.flattening.flatten.Goals.{In_ok-image_of}

pub returns-then-not-is_elf-clause-answer : goal.returns-then-not-is_elf-clause-answer
returns-then-not-is_elf-clause-answer c =
    inr (not_elf c.args.file.now c.args.words (rw c.is_elf.ensures at c.if-not-is_elf.true))

pub returns-then-not-accepts_header-clause-answer : goal.returns-then-not-accepts_header-clause-answer
returns-then-not-accepts_header-clause-answer c =
    inr (bad_header c.args.file.now c.args.words (rw c.is_elf.ensures at c.if-not-is_elf.false)
    (rw c.accepts_header.ensures at c.if-not-accepts_header.true))

pub returns-in_err-cells-clause-answer : goal.returns-in_err-cells-clause-answer
returns-in_err-cells-clause-answer c =
    let p = err_from_is_err_and c.from_residual.result c.from_residual.ensures.1 in
    rw (p.1, p.2) (elim c.in_err-cells.ensures [
      | inl memory ↦ inl memory
      | inr found ↦ inr (bad_headers c.args.file.now c.args.words c.in_err-cells.field-0.0
          (rw c.is_elf.ensures at c.if-not-is_elf.false)
          (rw c.accepts_header.ensures at c.if-not-accepts_header.false) found)
    ])

pub returns-then-not-accepts_entry-clause-answer : goal.returns-then-not-accepts_entry-clause-answer
returns-then-not-accepts_entry-clause-answer c =
    inr (bad_entry c.args.file.now c.args.words (rw c.is_elf.ensures at c.if-not-is_elf.false)
    (rw c.accepts_header.ensures at c.if-not-accepts_header.false) c.in_ok-cells.ensures.1
    (rw c.accepts_entry.ensures at c.if-not-accepts_entry.true))

-- no fault was met on the way to the image
fine : (c : In_ok-image_of) → elf_fault c.args.file.now c.args.words ≡ None
fine c = no_fault_at_all c.args.file.now c.args.words (rw c.is_elf.ensures at c.if-not-is_elf.false)
    (rw c.accepts_header.ensures at c.if-not-accepts_header.false) c.in_ok-cells.ensures.1
    (rw c.accepts_entry.ensures at c.if-not-accepts_entry.false)

pub returns-clause-image : goal.returns-clause-image
returns-clause-image c = rw c.in_ok-image_of.ensures (is_flat_image c.args.file.now c.args.words
    (fine (goal.at.returns-clause-image c).In_ok-image_of))

pub returns-clause-answer : goal.returns-clause-answer
returns-clause-answer c = (fine (goal.at.returns-clause-answer c).In_ok-image_of, c.in_ok-image_of.ensures)

pub returns-clause-room : goal.returns-clause-room
returns-clause-room c = rw c.in_ok-image_of.ensures (flat_image_fits c.args.file.now c.args.words
    (fine (goal.at.returns-clause-room c).In_ok-image_of))
