-- What is told of a core's instructions is what the core does, one instruction after the other: each is the core's
-- next, needs what is told of it, and finds the word that is told.
use Rattle.std.specs.Prelude.{◌≡◌, ℕ, ◌<◌, ◌==◌, List, [], ◌∷◌, ◌++◌, Some, if◌then◌else◌, true}
use Rattle.std.specs.List.{filter}
use Rattle.image_mem.specs.Contents.{Contents}
use Rattle.rtr_types.specs.Accesses.{is_read}
use Rattle.rtr_types.specs.declared.access.Access.{Access}
use Rattle.rtr_types.specs.declared.access.Kind.TheVariants.{Load as Loading}
use Rattle.rtr_types.specs.declared.params.Params.{Params}
use Rattle.rv_core.specs.declared.core_state.Core.{Core}
use Rattle.rv_core.specs.declared.core_state.Need.TheVariants.{Local}
use Rattle.rv_core.specs.declared.outcome.LoadNote.{LoadNote}
use Rattle.rv_core.specs.States.{starting}
use Rattle.rv_core.specs.Steps.{need, after, wrote, access_of as need_access}
use Rattle.msi_state.specs.Events.{next_instr}
use Rattle.tso_state.specs.Events.{Told, Alone, Ordered, Logged, instr_told}
use Rattle.tso_state.specs.Runs.{LoggedLoad, all_told, read_by, reads as reads_of, run}
use Rattle.tso_state.specs.States.{all_done, core_at}
use Rattle.tso_state.specs.declared.pending.Pending.{Pending}

-- the word that an instruction found
abbrev pub found_by : Told → ℕ
found_by (Alone at) = 0
found_by (Ordered a) = a.before
found_by (Logged at word value) = value

-- a core after these instructions of its own
abbrev pub told_core : Contents → Core → List Told → Core
told_core image core [] = core
told_core image core (e ∷ later) = told_core image (after image core (found_by e)) later

-- what is told is right of the core's next instruction
abbrev pub IsNext : Contents → Core → Told → Type 0
IsNext image core (Alone at) = (at ≡ next_instr core) × (need image core ≡ Local)
IsNext image core (Ordered a) =
    (a.at ≡ next_instr core) × (need_access (need image core) ≡ Some (a.kind, a.word))
    × (a.after ≡ wrote image core a.before)
IsNext image core (Logged at word value) =
    (at ≡ next_instr core) × (need_access (need image core) ≡ Some (Loading, word))

-- and of each of them, one after the other
abbrev pub AreNext : Contents → Core → List Told → Type 0
AreNext image core [] = Unit {0}
AreNext image core (e ∷ later) = IsNext image core e × AreNext image (after image core (found_by e)) later

-- what is told of core c
abbrev pub told_of : (c : ℕ) → List Told → List Told
told_of c list = filter (λ e. (instr_told e).core == c) list

-- each instruction that was told is of one of so many cores
abbrev pub AreInside : (cores : ℕ) → List Told → Type 0
AreInside cores [] = Unit {0}
AreInside cores (e ∷ list) = ((instr_told e).core < cores) × AreInside cores list

-- ---- what was read

-- what an instruction that was told read, if it is a load or an atomic memory operation
abbrev pub read_told : Told → List LoadNote
read_told (Alone at) = []
read_told (Ordered a) =
    if is_read a.kind then record { count = a.at.count; word = a.word; value = a.before } ∷ [] else []
read_told (Logged at word value) = record { count = at.count; word = word; value = value } ∷ []

-- and of all of them, in order
abbrev pub reads_told : List Told → List LoadNote
reads_told [] = []
reads_told (e ∷ later) = read_told e ++ reads_told later

-- what pending loads read
abbrev pub reads_pending : List Pending → List LoadNote
reads_pending [] = []
reads_pending (x ∷ rest) = read_by x ++ reads_pending rest

-- what is told of core c in so many steps of a run is what the core did: each instruction is the core's next; once each
-- core has ended, it is all that the core did; what the core read is told with it, or still pending, and all of it is
-- told once each core has ended
pub record IsToldOf (image : Contents) (params : Params) (choices : ℕ → ℕ) (t c : ℕ) : Type 0 where
  pub right : AreNext image (starting c params.limit) (told_of c (all_told image params choices t))
  pub whole : all_done (run image params choices t) ≡ true
      → told_core image (starting c params.limit) (told_of c (all_told image params choices t))
      ≡ (core_at (run image params choices t).cores c).core
  pub reads : reads_of image params choices t c ≡ reads_told (told_of c (all_told image params choices t))
      ++ reads_pending (core_at (run image params choices t).cores c).queue
  pub all_reads : all_done (run image params choices t) ≡ true
      → reads_of image params choices t c ≡ reads_told (told_of c (all_told image params choices t))

-- ---- by kind

-- the ordered accesses among them
abbrev pub ordered_told : List Told → List Access
ordered_told [] = []
ordered_told (Alone at ∷ later) = ordered_told later
ordered_told (Ordered a ∷ later) = a ∷ ordered_told later
ordered_told (Logged at word value ∷ later) = ordered_told later

-- and the loads that are logged
abbrev pub logged_told : List Told → List LoggedLoad
logged_told [] = []
logged_told (Alone at ∷ later) = logged_told later
logged_told (Ordered a ∷ later) = logged_told later
logged_told (Logged at word value ∷ later) = record { at = at; value = value } ∷ logged_told later
