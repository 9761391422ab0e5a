-- Rule: what a run with store buffers tells is a play: Tells, ToldPlaysLaw
-- What it is that instructions are a play, as a run of cores with store buffers tells them.
use Rattle.std.specs.Prelude.{◌≡◌, ℕ, ◌+◌, false, List, [], ◌∷◌, Some, None, map, slice_index}
use Rattle.rtr_types.specs.declared.instr.Instr.{Instr}
use Rattle.rtr_types.specs.declared.access.Access.{Access}
use Rattle.rtr_types.specs.declared.access.Kind.TheVariants.{Load}
use Rattle.rv_core.specs.declared.outcome.Outcome.{Outcome}
use Rattle.rv_core.specs.Steps.{is_done, wrote}
use Rattle.replay_core.specs.Plans.{Plan}
use Rattle.replay_core.specs.Play.{Given, use_of, heeded, instr, core_at, need_at, valued_place, ValuedPlays}
use Rattle.replay_core.specs.Play.{valued_accesses_from}
use Rattle.tso_state.specs.Events.{Told, Alone, Ordered, Logged, instr_told}
use Rattle.tso_told.specs.Played.{ordered_told}

-- the cores of what is told, in their order
abbrev pub cores_told : List Told → List ℕ
cores_told list = map (λ e. (instr_told e).core) list

-- the instruction is its core's next one, and its program isn't done
pub record GoesNext (p : Plan) (s : Outcome) (at : Instr) : Type 0 where
  pub is : at ≡ instr at.core ((core_at s at.core).count + 1)
  pub going : is_done (need_at p s at.core) ≡ false

-- it uses no word
pub record IsLocal (p : Plan) (s : Outcome) (at : Instr) : Type 0 where
  pub next : GoesNext p s at
  pub uses : use_of (need_at p s at.core) ≡ None

-- it makes this access of the memory as the list found it, and heeds no given value
pub record IsOrdered (given : Given) (p : Plan) (s : Outcome) (a : Access) : Type 0 where
  pub next : GoesNext p s a.at
  pub uses : use_of (need_at p s a.at.core) ≡ Some (a.kind, a.word)
  pub before : a.before ≡ slice_index s.words a.word
  pub after : a.after ≡ wrote p.image (core_at s a.at.core) a.before
  pub own : heeded (given a.at.core a.at.count) (Some (a.kind, a.word)) ≡ None

-- it is a load of this word, which is given this value
pub record IsLogged (given : Given) (p : Plan) (s : Outcome) (at : Instr) (word value : ℕ) : Type 0 where
  pub next : GoesNext p s at
  pub uses : use_of (need_at p s at.core) ≡ Some (Load, word)
  pub given_is : given at.core at.count ≡ Some value

-- what is told is what its core does next
abbrev pub TellsAt : Given → Plan → Outcome → Told → Type 0
TellsAt given p s (Alone at) = IsLocal p s at
TellsAt given p s (Ordered a) = IsOrdered given p s a
TellsAt given p s (Logged at word value) = IsLogged given p s at word value

-- so one after the other
abbrev pub Tells : Given → Plan → Outcome → List Told → Type 0
Tells given p s [] = Unit {0}
Tells given p s (e ∷ list) = TellsAt given p s e × Tells given p (valued_place given p s (instr_told e).core) list

-- then their cores play, by the accesses that are ordered
abbrev pub ToldPlaysLaw : Type 0
ToldPlaysLaw = (given : Given) (p : Plan) (s : Outcome) (list : List Told) → Tells given p s list →
    ValuedPlays given p s (cores_told list) × (valued_accesses_from given p s (cores_told list) ≡ ordered_told list)
