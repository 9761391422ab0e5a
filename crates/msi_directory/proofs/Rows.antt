-- A row of the table on an entry that a sparse home keeps, as contracts see it.
use Rattle.std.proofs.Common.{◌≡◌, ◌∙◌, ℕ, ◌+◌, ◌*◌, ◌^◌, ◌<◌, Bool, false, IsTrue, Some, None, ap, arith, refl}
use Rattle.std.proofs.Common.{subst, sym}
use Rattle.std.specs.Prelude.{length, slice_index_or, slice_set}
use Rattle.std.proofs.lemmas.List.{get_or-set_other}
use Rattle.std.proofs.lemmas.List.Elements.{All-set}
use Rattle.msi_directory.specs.Blocks.{Blocks, entry_at, has_room, no_entry, opening_entry}
use Rattle.msi_directory.specs.Deeds.{Deed, IsAnswered, IsServed}
use Rattle.msi_directory.specs.KeptDeeds.{IsDoneAt}
use Rattle.msi_directory.specs.Entries.{answer_riding}
use Rattle.msi_directory.specs.Fitting.{stage_fits}
use Rattle.msi_directory.specs.Kept.{HomeFits, IsAt, Kept, Sparse, blocks_in, is_kept, kept_at, kept_with, place_of}
use Rattle.msi_directory.specs.Table.{is_free}
use Rattle.msi_directory.specs.declared.entry.Entry.{Entry}
use Rattle.msi_directory.specs.declared.entry.HomeAnswer.{HomeAnswer}
use Rattle.msi_directory.specs.declared.entry.Served.{Served}
use Rattle.msi_directory.specs.declared.entry.Stage.{Stage}
use Rattle.msi_directory.specs.declared.entry.Stage.TheVariants.{Unshared}
use Rattle.msi_directory.proofs.Sparse.{entries_counted, entries_with, fits_with, reads_kept, reads_opening}
use Rattle.msi_directory.proofs.Sparse.{room_reads, stage_kept}

-- a block of the memory is looked up in the home, which contracts see as `now`
module _ {R : Type 0} (home : Sparse R) (now : Blocks R) (view : blocks_in home ≡ now) (fresh : R) (block : ℕ)
    (within : block < length now.entries) where
  -- its entry is the one at the place that is found, or else the opening one
  pub reads_there : (place : ℕ) → place_of home.kept.blocks block ≡ Some place
      → entry_at fresh now.entries block ≡ kept_at home.kept place (opening_entry home.fresh home.opening block)
  reads_there place stands =
      ap (λ (b : Blocks R). entry_at fresh b.entries block) (sym view)
      ∙ reads_kept home block (rw (← view) at within) (no_entry fresh) place stands

  pub reads_nowhere : place_of home.kept.blocks block ≡ None
      → entry_at fresh now.entries block ≡ opening_entry home.fresh home.opening block
  reads_nowhere none =
      ap (λ (b : Blocks R). entry_at fresh b.entries block) (sym view)
      ∙ reads_opening home block (rw (← view) at within) (no_entry fresh) none

  -- the words of its opening entry have 32-bit indices
  pub opens_within : HomeFits home → block * 4 + 3 < 2 ^ 32
  opens_within fits = let inside = rw (← view) at within in omega (arith, inside, fits.words, entries_counted home)

-- what was done for a message was done for one that is equal to it
pub done_by : {R M : Type 0} (does : M → Deed R) {told message : M} {old after : Kept R} {place : ℕ} {hand : R}
    {served : Served} → told ≡ message → IsDoneAt (does told) old after place hand served →
    IsDoneAt (does message) old after place hand served
done_by does {old = old} {after = after} {place = place} {hand = hand} {served = served} same did =
    subst (λ m. IsDoneAt (does m) old after place hand served) same did

-- a message about a block of the memory comes to the home, which contracts see as `now`
module _ {R : Type 0} (home : Sparse R) (now : Blocks R) (view : blocks_in home ≡ now) (fresh : R) (done : Deed R)
    (within : done.block < length now.entries) (asked : ℕ) (about : asked ≡ done.block) where
  -- the block's entry, before
  abbrev pub entry_before : Entry R
  entry_before = entry_at fresh now.entries done.block

  inside : done.block < length (blocks_in home).entries
  inside = rw (← view) at within

  -- a block that has room is kept, and so is one in a stage that isn't the opening one
  pub roomy_kept : IsTrue (has_room now.rooms done.block) → IsTrue (is_kept home.kept.blocks asked)
  roomy_kept roomy = rw about (rw (← view, room_reads home done.block inside) at roomy)

  pub staged_kept : (test : Stage → Bool) → test Unshared ≡ false → IsTrue (test entry_before.stage) →
      IsTrue (is_kept home.kept.blocks asked)
  staged_kept test refused passes =
      rw about (stage_kept home done.block inside (no_entry fresh) test refused (rw (← view) at passes))

  -- its stage fits
  pub fits_before : HomeFits home → IsTrue (stage_fits entry_before.stage)
  fits_before fits = rw (← view) (fits.stages done.block (no_entry fresh) inside)

  module _ (place : ℕ) (found : IsAt home.kept asked place) where
    stands : place_of home.kept.blocks done.block ≡ Some place
    stands = ap (place_of home.kept.blocks) (sym about) ∙ found.stands

    abbrev opens : Entry R
    opens = opening_entry home.fresh home.opening done.block

    reads : entry_before ≡ kept_at home.kept place opens
    reads = reads_there home now view fresh done.block within place stands

    -- the stage that is kept is the block's, whatever is asked of it
    pub stage_found : (P : Stage → Type 0) → P entry_before.stage → P (slice_index_or home.kept.stages place Unshared)
    stage_found P holds = subst (λ (e : Entry R). P e.stage) reads holds

    module _ (after : Kept R) (hand : R) (served : Served)
        (did : IsDoneAt done home.kept after place hand served) where
      abbrev pub home_after : Sparse R
      home_after = record home { kept = after }

      row_is : after ≡ kept_with home.kept place (done.after entry_before)
      row_is = did.kept opens ∙ ap (λ (e : Entry R). kept_with home.kept place (done.after e)) (sym reads)

      pub fits_after : ((e : Entry R) → IsTrue (stage_fits e.stage) → IsTrue (stage_fits (done.after e).stage)) →
          HomeFits home → HomeFits home_after
      fits_after law fits =
          let new : Entry R = done.after entry_before in
          rw row_is (fits_with home done.block place stands found.stage found.copy new
          (All-set (λ (e : Entry R). IsTrue (stage_fits e.stage)) (blocks_in home).entries done.block new
          (law entry_before (fits_before fits)) fits.stages) fits)

      blocks_after : blocks_in home_after
          ≡ record now { entries = slice_set now.entries done.block (done.after entry_before) }
      blocks_after =
          ap (λ (k : Kept R). blocks_in (record home { kept = k })) row_is
          ∙ ap (λ entries. record (blocks_in home) { entries = entries }) (entries_with home done.block place stands
          found.stage found.copy (done.after entry_before))
          ∙ ap (λ (b : Blocks R). record b { entries = slice_set b.entries done.block (done.after entry_before) }) view

      pub is_answered : (rider : R) (answer : HomeAnswer R) → rider ≡ hand →
          answer ≡ answer_riding rider served.answer → IsAnswered fresh done now (blocks_in home_after) answer
      is_answered rider answer handed rides =
          record {
            blocks = blocks_after;
            elsewhere = λ other apart. ap (λ (b : Blocks R). entry_at fresh b.entries other) blocks_after
                ∙ get_or-set_other now.entries done.block other (done.after entry_before) (no_entry fresh) apart;
            answer = rides ∙ ap (λ (own : R). answer_riding own served.answer) handed ∙ did.answer opens
                ∙ ap done.answer (sym reads);
          }

      pub is_served : IsServed fresh done now (blocks_in home_after) hand served
      is_served =
          record {
            home = is_answered hand (answer_riding hand served.answer) refl refl;
            free = did.free opens ∙ ap (λ (e : Entry R). is_free (done.after e).stage) (sym reads);
          }
