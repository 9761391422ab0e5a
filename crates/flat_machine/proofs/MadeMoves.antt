-- A move whose marks went with it keeps what the machine keeps.
use Rattle.std.proofs.Common.{◌≡◌, ◌∙◌, sym, ap, subst, ℕ, ◌<◌, true, List, length}
use Rattle.std.proofs.lemmas.List.{length-map}
use Rattle.access_times.specs.Riding.{none_riding, none_carrying}
use Rattle.image_mem.specs.Contents.{Contents}
use Rattle.msi_directory.specs.Blocks.{block_count}
use Rattle.msi_state.specs.Events.{Event}
use Rattle.msi_state.specs.declared.moves.Move.{Move}
use Rattle.msi_state.specs.States.{PlainState}
use Rattle.msi_state.specs.Steps.{enabled}
use Rattle.flat_state.specs.declared.block.HomeBlock.{HomeBlock}
use Rattle.flat_state.specs.declared.flat.Flat.{Flat}
use Rattle.flat_state.specs.Shows.{IsSomewhere, Makes, Stands, blocks_of, block_at, home_at}
use Rattle.flat_state.proofs.HomeBlocks.{block_is}
use Rattle.flat_marks.specs.Kept.{Follows}
use Rattle.flat_machine.specs.Machines.{HasMade, IsKept, PlacesKept, place_in}
use Rattle.flat_machine.specs.declared.machine.FlatMachine.{FlatMachine}

-- where each entry's block stays, so do the places that are noted
module _ (home home' : List HomeBlock) (blocks : blocks_of home' ≡ blocks_of home) where
  long_same : length home' ≡ length home
  long_same = sym (length-map home' (λ (b : HomeBlock). b.block))
      ∙ (ap length blocks ∙ length-map home (λ (b : HomeBlock). b.block))

  block_same : (i : ℕ) → (home_at home' i).block ≡ (home_at home i).block
  block_same i = sym (block_is home' i) ∙ (ap (λ (bs : List ℕ). block_at bs i) blocks ∙ block_is home i)

  pub places_same : (slots : List ℕ) → PlacesKept home slots → PlacesKept home' slots
  places_same slots kept =
      record {
        here = λ i lies. ap (place_in slots) (block_same i)
            ∙ kept.here i (subst (λ (k : ℕ). i < k) long_same lies);
        there = λ b i is. subst (λ (k : ℕ). i < k) (sym long_same) (kept.there b i is);
        block = λ b i is. block_same i ∙ kept.block b i is;
      }

-- no move changes the program
pub program_same : (old new : Flat) (m : Move) (w : IsSomewhere old) →
    enabled none_riding none_carrying w.s m ≡ true → Makes old new m → new.program ≡ old.program
program_same old new m w on makes = (makes w.s w.memory w.stands on).shows.image ∙ sym w.stands.shows.image

pub has_made : (old new : FlatMachine) (m : Move) (e : Event) (w : IsSomewhere old.flat) →
    enabled none_riding none_carrying w.s m ≡ true → IsKept old → Follows old.flat new.flat new.marks m e →
    new.places.items ≡ old.places.items → HasMade old new m e
has_made old new m e w on kept follows places =
    record {
      makes = follows.makes;
      told = follows.told;
      kept = record {
        marked = follows.marked;
        places = subst (λ (slots : List ℕ). PlacesKept new.flat.home.items slots) (sym places)
            (places_same old.flat.home.items new.flat.home.items follows.blocks old.places.items kept.places);
        long = ap length places ∙ (kept.long ∙ ap (λ (image : Contents). block_count image.words)
            (sym (program_same old.flat new.flat m w on follows.makes)));
      };
    }

-- so it does where the block that it needs got an entry before
pub made_after : (old mid new : FlatMachine) (m : Move) (e : Event) →
    ((s : PlainState) (memory : ℕ → List ℕ) → Stands old.flat s memory → Stands mid.flat s memory) →
    HasMade mid new m e → HasMade old new m e
made_after old mid new m e stood made =
    record {
      makes = λ s memory stands on. made.makes s memory (stood s memory stands) on;
      told = λ s memory stands on. made.told s memory (stood s memory stands) on;
      kept = made.kept;
    }
