use Rattle.std.proofs.Common.{◌∙◌, ap, refl, sym, subst, ℕ, ◌+◌, ◌-◌, ◌<◌, List, arith, length}
use Rattle.std.specs.Prelude.{slice_set}
use Rattle.std.proofs.lemmas.List.{length-set}
use Rattle.image_mem.specs.Contents.{Contents}
use Rattle.msi_directory.specs.Blocks.{block_count}
use Rattle.flat_state.specs.declared.block.HomeBlock.{HomeBlock}
use Rattle.flat_state.specs.Shows.{home_at}
use Rattle.flat_start.proofs.MoreBlocks.{on_err}
use Rattle.flat_machine.specs.Machines.{PlacesKept}
use Rattle.flat_machine.proofs.NewEntries.{block_lies, few_entries, long_more, marked_more, marked_still, noted_none}
use Rattle.flat_machine.proofs.NewEntries.{noted_some}
use Rattle.flat_machine.proofs.NewEntries.{places_more, slot_read}
use Rattle.flat_machine.proofs.machine.FlatMachine.entry_of.Goals as goal

pub returns-then-noted-gt0-clause-entry : goal.returns-then-noted-gt0-clause-entry
returns-then-noted-gt0-clause-entry c =
    let m = c.args.self.now in
    let x = c.index-noted.result.now in
    let at = slot_read m.places.items c.args.block x
    (block_lies c.args.block m.flat.program.words (length m.places.items) c.requires.kept.long c.requires.within)
    c.index-noted.ensures ∙ noted_some x c.if-noted-gt0.true in
    record {
      stands = λ s memory stands. stands;
      nodes = refl;
      marks = refl;
      kept = c.requires.kept;
      lies = c.requires.kept.places.there c.args.block (x - 1) at;
      there = c.requires.kept.places.block c.args.block (x - 1) at;
    }

pub make_entry-requires-clause-few : goal.make_entry-requires-clause-few
make_entry-requires-clause-few c =
    let m = c.args.self.now in
    let w = c.requires.stands in
    let few = few_entries m.flat w.s w.memory w.stands in
    let words = c.count_words.ensures in
    omega (arith, few, words)

pub overflow_add-place : goal.overflow_add-place
overflow_add-place c =
    let m = c.args.self.now in
    let w = c.requires.stands in
    let few = few_entries m.flat w.s w.memory w.stands in
    let words = c.count_words.ensures in
    let place = c.in_ok-place.ensures.place in
    omega (arith, few, words, place)

pub returns-clause-entry : goal.returns-clause-entry
returns-clause-entry c =
    let m = c.args.self.now in
    let w = c.requires.stands in
    let e = c.in_ok-place.ensures in
    let f = m.flat in
    let g = c.make_entry.new.flat in
    let x = c.index-noted.result.now in
    let lies = block_lies c.args.block f.program.words (length m.places.items) c.requires.kept.long
    c.requires.within in
    let none = slot_read m.places.items c.args.block x lies c.index-noted.ensures
    ∙ noted_none x c.if-noted-gt0.false in
    let more = long_more f.home.items g.home.items m.places.items c.args.block c.requires.kept.places none lies e.blocks
    in
    record {
      stands = e.stands;
      nodes = e.nodes;
      marks = refl;
      kept = record {
        marked = marked_more f g m.marks c.args.block w.s w.memory w.stands e.nodes more e.entry e.others
            c.requires.kept.marked;
        places = subst (λ (p : ℕ). PlacesKept g.home.items (slice_set m.places.items c.args.block (p + 1)))
            (sym e.place)
            (places_more f.home.items g.home.items m.places.items c.args.block c.requires.kept.places none lies
            e.blocks);
        long = length-set m.places.items c.args.block (c.in_ok-place.place + 1)
            ∙ (c.requires.kept.long ∙ ap (λ (image : Contents). block_count image.words) (sym e.image));
      };
      lies = subst (λ (p : ℕ). p < length g.home.items) (sym e.place) (omega (arith, more));
      there = ap (λ (p : ℕ). (home_at g.home.items p).block) e.place ∙ ap (λ (b : HomeBlock). b.block) e.entry;
    }

pub returns-in_err-place-clause-err : goal.returns-in_err-place-clause-err
returns-in_err-place-clause-err c =
    let m = c.args.self.now in
    let f = m.flat in
    let g = c.make_entry.new.flat in
    let e = c.in_err-place.ensures in
    on_err c.from_residual.result _ (record {
      stands = e.stands;
      kept = record {
        marked = marked_still f g m.marks e.nodes e.err c.requires.kept.marked;
        places = subst (λ (l : List HomeBlock). PlacesKept l m.places.items) (sym e.err) c.requires.kept.places;
        long = c.requires.kept.long ∙ ap (λ (image : Contents). block_count image.words) (sym e.image);
      };
    })
