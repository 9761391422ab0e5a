-- Rule: what is shown of a block: Shows, KeptBy
-- The one link from what the home and the cores have of a block to the block with its copies: what they show, whole
-- messages with words and riders, is the picture of a block whose phases fit its stage, and of which a property holds.
-- The property may be any that the moves of a block keep: none, that the copies that count have these words, or that
-- their riders have these times.
use Rattle.std.specs.Prelude.{◌≡◌, ℕ, ◌<◌, true, List, ◌∷◌}
use Rattle.rtr_types.specs.declared.TheConstants.{CORES_MAX}
use Rattle.msi_cache.specs.Table.{Signal, Ask, Reply}
use Rattle.msi_directory.specs.Table.{is_free}
use Rattle.msi_directory.specs.declared.entry.Entry.{Entry}
use Rattle.msi_protocol.specs.Block.{Wish}
use Rattle.msi_protocol.specs.Counting.{home_counts, line_counts}
use Rattle.msi_protocol.specs.Phases.{picture}
use Rattle.msi_protocol.specs.Seats.{FullBlock, PhasesFit, requested, responded, messaged, wishing}
use Rattle.msi_protocol.specs.Shown.{Payload, Sight, shown, entry_with}

-- the block's entry and what the cores show of it are the picture of a block that has the property
pub record Shows {R : Type 0} (Q : FullBlock (Payload R) → Type 0) (b : ℕ) (entry : Entry R)
    (sights : ℕ → Sight R) : Type 0 where
  pub block : FullBlock (Payload R)
  pub entry_is : entry_with block ≡ entry
  pub shows : (d : ℕ) → d < CORES_MAX → shown b (block.seats d) ≡ sights d
  pub fits : PhasesFit block
  pub has : Q block

-- the block with other copies in its lines
abbrev pub relined : {X : Type 0} → (ℕ → X) → FullBlock X → FullBlock X
relined lines b = record b { seats = λ d. record (b.seats d) { line = lines d } }

-- the block with another copy at home
abbrev pub rehomed : {X : Type 0} → X → FullBlock X → FullBlock X
rehomed home b = record b { home = home }

-- each move of a block keeps the property; what a line or the home has whose copy doesn't count doesn't matter to it
pub record KeptBy {X : Type 0} (absorbed : X → X → X) (Q : FullBlock X → Type 0) : Type 0 where
  pub request : (c : ℕ) (a : Ask) (rest : List Ask) (b : FullBlock X) → c < CORES_MAX → is_free b.stage ≡ true
      → (picture (b.seats c).phase).requests ≡ a ∷ rest → PhasesFit b → Q b → Q (requested absorbed c a b)
  pub response : (c : ℕ) (a : Reply) (rest : List Reply) (b : FullBlock X) → c < CORES_MAX
      → (picture (b.seats c).phase).responses ≡ a ∷ rest → PhasesFit b → Q b → Q (responded absorbed c a b)
  pub message : (c : ℕ) (m : Signal) (rest : List Signal) (b : FullBlock X) → c < CORES_MAX
      → (picture (b.seats c).phase).messages ≡ m ∷ rest → PhasesFit b → Q b → Q (messaged absorbed c b)
  pub wish : (c : ℕ) (w : Wish) (b : FullBlock X) → PhasesFit b → Q b → Q (wishing c w b)
  pub reline : (b : FullBlock X) (lines : ℕ → X)
      → ((d : ℕ) → d < CORES_MAX → line_counts (b.seats d).phase ≡ true → lines d ≡ (b.seats d).line)
      → PhasesFit b → Q b → Q (relined lines b)
  pub rehome : (b : FullBlock X) (home : X) → (home_counts b.stage ≡ true → home ≡ b.home) → PhasesFit b → Q b
      → Q (rehomed home b)
