-- Rule: what the flat machine keeps from step to step: IsKept
-- What the flat machine keeps, and what a move of it does.
use Rattle.std.specs.Prelude.{◌≡◌, ℕ, zero, suc, ◌<◌, Option, Some, None, List, true, if◌then◌else◌, length, nat_lt}
use Rattle.std.specs.Prelude.{slice_index_or}
use Rattle.access_times.specs.Riding.{none_riding, none_carrying}
use Rattle.image_mem.specs.Contents.{Contents}
use Rattle.machine_data.specs.Coherent.{opening_memory}
use Rattle.msi_directory.specs.Blocks.{block_count}
use Rattle.move_marks.specs.declared.marks.MoveKind.{MoveKind}
use Rattle.machine_ports.specs.Marks.{move_by}
use Rattle.msi_state.specs.Events.{Event, Nothing, Retires, Accesses}
use Rattle.msi_state.specs.Runs.{chosen}
use Rattle.msi_state.specs.States.{PlainState}
use Rattle.msi_state.specs.Steps.{enabled}
use Rattle.msi_state.specs.declared.moves.Move.{Move}
use Rattle.msi_state.specs.declared.moves.Move.TheVariants.{Core as CoreMove, Request as RequestMove}
use Rattle.msi_state.specs.declared.moves.Move.TheVariants.{Response as ResponseMove, FromHome as MessageMove}
use Rattle.flat_state.specs.declared.block.HomeBlock.{HomeBlock}
use Rattle.flat_state.specs.Shows.{Makes, Stands, Tells, home_at}
use Rattle.flat_laws.specs.StepsLeft.{left_kept}
use Rattle.flat_marks.specs.Kept.{IsMarked}
use Rattle.flat_machine.specs.declared.machine.FlatMachine.{FlatMachine}
use Rattle.flat_machine.specs.declared.machine.Happened.{Happened}
use Rattle.flat_machine.specs.declared.machine.Happened.TheVariants.{Moved, Retired, Accessed}

-- the place of a block's entry, by what is noted of the block: none, or its place and one
abbrev pub noted : ℕ → Option ℕ
noted zero = None
noted (suc place) = Some place

abbrev pub place_in : List ℕ → (block : ℕ) → Option ℕ
place_in slots block = noted (slice_index_or slots block 0)

-- exactly the places of the entries are noted
pub record PlacesKept (home : List HomeBlock) (slots : List ℕ) : Type 0 where
  pub here : (i : ℕ) → i < length home → place_in slots (home_at home i).block ≡ Some i
  pub there : (b i : ℕ) → place_in slots b ≡ Some i → i < length home
  pub block : (b i : ℕ) → place_in slots b ≡ Some i → (home_at home i).block ≡ b

-- the marks are those of the moves that can be made, and the places of all entries are noted
pub record IsKept (m : FlatMachine) : Type 0 where
  pub marked : IsMarked m.flat m.marks
  pub places : PlacesKept m.flat.home.items m.places.items
  pub long : length m.places.items ≡ block_count m.flat.program.words

abbrev pub event_of : Happened → Event
event_of Moved = Nothing
event_of (Retired at) = Retires at
event_of (Accessed access) = Accesses access

-- the machine's move of a kind at a core
abbrev pub move_of : MoveKind → ℕ → Move
move_of = move_by (λ c. CoreMove c) (λ c. RequestMove c) (λ c. ResponseMove c) (λ c. MessageMove c)

-- the machine made the move, which tells of this event
pub record HasMade (old new : FlatMachine) (m : Move) (e : Event) : Type 0 where
  pub makes : Makes old.flat new.flat m
  pub told : Tells old.flat m e
  pub kept : IsKept new

-- the block has its entry at this place, and the flat state stands where it stood
pub record HasEntry (old new : FlatMachine) (block place : ℕ) : Type 0 where
  pub stands : (s : PlainState) (memory : ℕ → List ℕ) → Stands old.flat s memory → Stands new.flat s memory
  pub nodes : new.flat.nodes.items ≡ old.flat.nodes.items
  pub marks : new.marks ≡ old.marks
  pub kept : IsKept new
  pub lies : place < length new.flat.home.items
  pub there : (home_at new.flat.home.items place).block ≡ block

-- the machine stands where it stood, and keeps what it keeps
pub record StandsStill (old new : FlatMachine) : Type 0 where
  pub stands : (s : PlainState) (memory : ℕ → List ℕ) → Stands old.flat s memory → Stands new.flat s memory
  pub kept : IsKept new

-- the machine made the move that this choice takes, which tells of this event, and fewer steps are left
pub record HasStepped (old new : FlatMachine) (choice : ℕ) (e : Event) : Type 0 where
  pub taken : Move
  pub chooses : (s : PlainState) (memory : ℕ → List ℕ) → Stands old.flat s memory → chosen s choice ≡ Some taken
  pub can : (s : PlainState) (memory : ℕ → List ℕ) → Stands old.flat s memory
      → enabled none_riding none_carrying s taken ≡ true
  pub made : HasMade old new taken e
  pub nearer : left_kept new.flat.nodes.items < left_kept old.flat.nodes.items

-- ---- the words of its memory

-- those of the block's entry, by its place, and where it has none the image's
abbrev pub words_at : List HomeBlock → Contents → (block : ℕ) → Option ℕ → List ℕ
words_at home image block None = opening_memory image block
words_at home image block (Some place) =
    if nat_lt place (length home) then (home_at home place).words else opening_memory image block

abbrev pub words_noted : FlatMachine → (block : ℕ) → List ℕ
words_noted m block = words_at m.flat.home.items m.flat.program block (place_in m.places.items block)
