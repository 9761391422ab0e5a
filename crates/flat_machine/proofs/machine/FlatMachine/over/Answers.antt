use Rattle.std.proofs.Common.{◌∙◌, ap, sym, subst, ℕ, List, length}
use Rattle.std.proofs.lemmas.List.{length-replicate}
use Rattle.image_mem.specs.Contents.{Contents}
use Rattle.msi_directory.specs.Blocks.{block_count}
use Rattle.flat_machine.specs.Machines.{PlacesKept}
use Rattle.flat_machine.proofs.StartMarks.{marked_start, places_start}
use Rattle.flat_machine.proofs.machine.FlatMachine.over.Goals as goal

pub returns-clause-kept : goal.returns-clause-kept
returns-clause-kept c =
    let f = c.in_ok-flat.flat in
    let e = c.in_ok-flat.ensures in
    let zeros = c.requires.places in
    record {
      marked = marked_start f.program c.args.params.cores c.args.params.limit f e.nodes e.empty
          c.first_marks-marks.result c.first_marks-marks.ensures.own c.first_marks-marks.ensures.others;
      places = subst (λ (slots : List ℕ). PlacesKept f.home.items slots) (sym zeros)
          (places_start f.home.items _ e.empty);
      long = ap length zeros ∙ (length-replicate _ 0
          ∙ ap (λ (image : Contents). block_count image.words) (sym e.stands.shows.image));
    }
