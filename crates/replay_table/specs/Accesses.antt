-- What the table does for an access: it loads the word, or stores a whole one, or goes by a word that is held.
use Rattle.std.specs.Prelude.{◌≡◌, ℕ, ◌==◌, Bool, true, false, not, ◌&&◌, List, [], ◌∷◌, ◌++◌, Some, None}
use Rattle.std.specs.Prelude.{if◌then◌else◌}
use Rattle.rtr_types.specs.declared.access.Access.{Access}
use Rattle.rtr_types.specs.declared.access.Kind.{Kind}
use Rattle.rtr_types.specs.Accesses.{is_write}
use Rattle.rv_core.specs.declared.core_state.Need.{Need}
use Rattle.rv_core.specs.Needs.{is_of_kind, is_writing}
use Rattle.rv_core.specs.Steps.{is_whole}
use Rattle.replay_core.specs.Play.{Use, use_of, instr}
use Rattle.replay_audit.specs.declared.touch.Touch.{Touch}
use Rattle.replay_audit.specs.Touches.{as_touch}

-- the instruction makes an access to this word
pub record Accesses (n : Need) (word : ℕ) (writes whole : Bool) : Type 0 where
  pub kind : Kind
  pub used : use_of n ≡ Some (kind, word)
  pub writes_is : is_write kind ≡ writes
  pub whole_is : is_whole n ≡ whole

-- an access that leaves its word as it is
abbrev pub Loads : Need → (word : ℕ) → Type 0
Loads n word = Accesses n word false false

-- an access that leaves a word whatever it held
abbrev pub Stores : Need → (word : ℕ) → Type 0
Stores n word = Accesses n word true true

-- an access that leaves what depends on the word before: the word is held in between. It is a store of a part of its
-- word, or an atomic memory operation
abbrev pub Changes : Need → (word : ℕ) → Type 0
Changes n word = Accesses n word true false

-- the accesses of a core after one more instruction
abbrev pub touched_after : Use → List Touch → (core count : ℕ) → List Touch
touched_after None list core count = list
touched_after (Some used) list core count =
    list ++ record { at = instr core count; word = used.1; kind = used.0 } ∷ []

-- the accesses of core c among these, in their order
abbrev pub touches_by : ℕ → List Access → List Touch
touches_by c [] = []
touches_by c (a ∷ rest) = if a.at.core == c then as_touch a ∷ touches_by c rest else touches_by c rest

-- ---- the same as tests of what an instruction needs

abbrev pub word_by : Use → ℕ
word_by None = 0
word_by (Some used) = used.1

-- the word of its access, or 0
abbrev pub word_of : Need → ℕ
word_of n = word_by (use_of n)

abbrev pub is_load : Need → Bool
is_load n = is_of_kind (λ kind. not (is_write kind)) (use_of n)

abbrev pub is_change : Need → Bool
is_change n = is_writing n && not (is_whole n)
