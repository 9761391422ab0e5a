-- What is kept of a core on its own.
use Rattle.std.specs.Prelude.{◌≡◌, ℕ, ◌+◌, ◌*◌, ◌/◌, ◌%◌, ◌<◌, ◌==◌, ◌^◌, false, List, [], ◌∷◌, ◌++◌, length}
use Rattle.std.specs.Prelude.{slice_index, slice_index_or, if◌then◌else◌, ◌≤◌}
use Rattle.image_mem.specs.Contents.{Contents}
use Rattle.rv_core.specs.declared.core_state.Core.{Core}
use Rattle.rv_core.specs.declared.outcome.LoadNote.{LoadNote}
use Rattle.rv_core.specs.Steps.{is_done, need}
use Rattle.replay_core.specs.Play.{use_of}
use Rattle.cut_index.specs.declared.alone.Alone.{Alone}
use Rattle.cut_index.specs.declared.alone.Next.{Next}
use Rattle.cut_index.specs.declared.runs.Run.{Run}
use Rattle.cut_index.specs.Alone.{alone_after}
use Rattle.cut_index.specs.Touches.{code_of}

-- what comes next at a core
abbrev pub next_of : Contents → Core → Next
next_of image core = record { pc = core.pc; used = use_of (need image core) }

-- a snapshot is taken behind so many instructions, if these are whole spans
abbrev pub marked : List Alone → (count : ℕ) → Alone → List Alone
marked marks count alone = if count % 1024 == 0 then marks ++ alone ∷ [] else marks

-- the core isn't done before its total, and each count and each word fit
pub record CanRun (image : Contents) (loads : List LoadNote) (first : Alone) (total : ℕ) : Type 0 where
  pub going : (count : ℕ) → count < total → is_done (need image (alone_after image loads first count).core) ≡ false
  pub fits : first.read + total < 2 ^ 32
  pub few : image.words ≤ 2 ^ 30

-- of so many instructions it is noted what comes next before each: its address, and its access
pub record ArePcs (image : Contents) (loads : List LoadNote) (first : Alone) (past : ℕ) (pcs : List ℕ) : Type 0 where
  pub all : length pcs ≡ past
  pub each : (count : ℕ) → count < past →
      slice_index pcs count ≡ (next_of image (alone_after image loads first count).core).pc

pub record AreUses (image : Contents) (loads : List LoadNote) (first : Alone) (past : ℕ) (uses : List ℕ) : Type 0 where
  pub all : length uses ≡ past
  pub each : (count : ℕ) → count < past →
      slice_index uses count ≡ code_of (next_of image (alone_after image loads first count).core).used

-- and there is a snapshot behind each whole number of spans
pub record AreMarked (image : Contents) (loads : List LoadNote) (first : Alone) (past : ℕ) (marks : List Alone) : Type 0
  where
    pub all : length marks ≡ past / 1024 + 1
    pub each : (k : ℕ) (d : Alone) → k < length marks →
        slice_index_or marks k d ≡ alone_after image loads first (k * 1024)

pub record IsRun (image : Contents) (loads : List LoadNote) (first : Alone) (past : ℕ) (run : Run) : Type 0 where
  pub pcs : ArePcs image loads first past run.pcs
  pub uses : AreUses image loads first past run.uses
  pub marked : AreMarked image loads first past run.marks

-- a run that has come so far, with the core there
pub record IsRunTo (image : Contents) (loads : List LoadNote) (first : Alone) (past : ℕ) (run : Run) (alone : Alone)
    : Type 0 where
  pub is_run : IsRun image loads first past run
  pub here : alone ≡ alone_after image loads first past
