-- Rule: a play, and one with given values: play, accesses_from, Given, place_given, valued_play, valued_accesses_from
-- The play of a list of cores: at each place its core retires one instruction, over one flat memory. What a play has
-- come to is an outcome; the accesses stand apart from it, so that two lists can end in the same outcome.
use Rattle.std.specs.Prelude.{◌≡◌, ◌==◌, ℕ, ◌+◌, ◌<◌, false, List, [], ◌∷◌, ◌++◌, length, map, replicate, slice_index}
use Rattle.std.specs.Prelude.{slice_index_or, slice_set, Option, Some, None, if◌then◌else◌}
use Rattle.std.specs.List.{range_with_len}
use Rattle.rtr_types.specs.declared.instr.Instr.{Instr}
use Rattle.rtr_types.specs.declared.access.Access.{Access}
use Rattle.rtr_types.specs.declared.access.Kind.{Kind}
use Rattle.rtr_types.specs.Accesses.{is_read, is_write}
use Rattle.rtr_types.specs.Turns.{StandInTurn}
pub use Rattle.clock_entries.specs.Ends.{instr}
use Rattle.image_mem.specs.Contents.{opening_words}
use Rattle.rv_core.specs.declared.core_state.Core.{Core}
use Rattle.rv_core.specs.declared.core_state.Need.{Need}
use Rattle.rv_core.specs.declared.outcome.LoadNote.{LoadNote}
use Rattle.rv_core.specs.declared.outcome.Outcome.{Outcome}
use Rattle.rv_core.specs.States.{starting}
use Rattle.rv_core.specs.Steps.{need, after, wrote, is_done, access_of}
use Rattle.replay_core.specs.Plans.{Plan}

-- ---- what an instruction uses

-- no word, or one by an access of this kind
abbrev pub Use : Type 0
Use = Option (Kind × ℕ)

-- the one summary of a need: what a place reads, writes, notes and lists goes by it alone
abbrev pub use_of : Need → Use
use_of need = access_of need

-- the value that is found
abbrev pub old_for : Use → (words : List ℕ) → ℕ
old_for None words = 0
old_for (Some used) words = slice_index words used.1

-- the words after a value was left
abbrev pub words_after : Use → (words : List ℕ) → (value : ℕ) → List ℕ
words_after None words value = words
words_after (Some used) words value = if is_write used.0 then slice_set words used.1 value else words

-- the core's loads after it found a value: an access that reads is among them
abbrev pub loads_after : Use → List LoadNote → (count value : ℕ) → List LoadNote
loads_after None loads count value = loads
loads_after (Some used) loads count value =
    if is_read used.0 then loads ++ record { count = count; word = used.1; value = value } ∷ [] else loads

-- the access, if there is one
abbrev pub accesses_by : Use → Instr → (before after : ℕ) → List Access
accesses_by None at before after = []
accesses_by (Some used) at before after =
    record { at = at; word = used.1; kind = used.0; before = before; after = after } ∷ []

-- ---- given values

-- the value that an instruction is given in place of its word's, if it is given one, by core and count
abbrev pub Given : Type 0
Given = (core count : ℕ) → Option ℕ

abbrev pub no_values : Given
no_values core count = None

-- a load takes the value that it is given; at any other instruction it is ignored
abbrev pub heeded : Option ℕ → Use → Option ℕ
heeded None used = None
heeded (Some value) None = None
heeded (Some value) (Some used) = if is_write used.0 then None else Some value

-- what an instruction uses of the memory: nothing, where its value is given
abbrev pub shared : (given : Option ℕ) → Use → Use
shared None used = used
shared (Some value) used = None

-- the value that is found: the given one, or the word's
abbrev pub found_for : (given : Option ℕ) → Use → (words : List ℕ) → ℕ
found_for None used words = old_for used words
found_for (Some value) used words = value

-- ---- one place

abbrev pub core_at : Outcome → ℕ → Core
core_at s c = slice_index_or s.cores c (starting 0 0)

abbrev pub loads_at : Outcome → ℕ → List LoadNote
loads_at s c = slice_index_or s.loads c []

-- what core c needs next
abbrev pub need_at : Plan → Outcome → ℕ → Need
need_at p s c = need p.image (core_at s c)

-- the given value that its next instruction heeds
abbrev pub heeds : Plan → Outcome → ℕ → (given : Option ℕ) → Option ℕ
heeds p s c given = heeded given (use_of (need_at p s c))

-- what that instruction uses of the memory
abbrev pub uses : Plan → Outcome → ℕ → (given : Option ℕ) → Use
uses p s c given = shared (heeds p s c given) (use_of (need_at p s c))

-- the value that it finds, and what it leaves
abbrev pub old_given : Plan → Outcome → ℕ → (given : Option ℕ) → ℕ
old_given p s c given = found_for (heeds p s c given) (use_of (need_at p s c)) s.words

abbrev pub new_given : Plan → Outcome → ℕ → (given : Option ℕ) → ℕ
new_given p s c given = wrote p.image (core_at s c) (old_given p s c given)

-- without a given value
abbrev pub old_at : Plan → Outcome → ℕ → ℕ
old_at p s c = old_given p s c None

abbrev pub new_at : Plan → Outcome → ℕ → ℕ
new_at p s c = new_given p s c None

-- core c has retired one instruction more, given a value or none
unfoldable pub place_given : Plan → Outcome → ℕ → (given : Option ℕ) → Outcome
place_given p s c given = record {
  cores = slice_set s.cores c (after p.image (core_at s c) (old_given p s c given));
  words = words_after (uses p s c given) s.words (new_given p s c given);
  loads =
      slice_set s.loads c
      (loads_after (use_of (need_at p s c)) (loads_at s c) ((core_at s c).count + 1) (old_given p s c given));
}

-- the access of that instruction, if it has one. One that takes a given value has none
unfoldable pub touched_given : Plan → Outcome → ℕ → (given : Option ℕ) → List Access
touched_given p s c given =
    accesses_by (uses p s c given) (instr c ((core_at s c).count + 1)) (old_given p s c given) (new_given p s c given)

-- without a given value
abbrev pub place : Plan → Outcome → ℕ → Outcome
place p s c = place_given p s c None

abbrev pub touched : Plan → Outcome → ℕ → List Access
touched p s c = touched_given p s c None

-- ---- given values, by lists

-- the value at a count in a list of counts and values
abbrev pub value_at : List (ℕ × ℕ) → ℕ → Option ℕ
value_at [] count = None
value_at (v ∷ values) count = if v.0 == count then Some v.1 else value_at values count

-- the counts of such a list rise
abbrev pub count_of : ℕ → ℕ × ℕ → ℕ
count_of last v = v.0

abbrev pub AreRising : List (ℕ × ℕ) → Type 0
AreRising values = StandInTurn (λ last v. last < v.0) count_of 0 values

abbrev pub EachRising : List (List (ℕ × ℕ)) → Type 0
EachRising values = (core : ℕ) → core < length values → AreRising (slice_index_or values core [])

-- each core is given the values of its list
abbrev pub given_by : List (List (ℕ × ℕ)) → Given
given_by values core count = value_at (slice_index_or values core []) count

-- ---- the play

-- before the first place
abbrev pub start : Plan → Outcome
start p = record {
  cores = map (λ c. starting c p.limit) (range_with_len 0 (length p.totals));
  words = opening_words p.image;
  loads = replicate (length p.totals) [];
}

-- core c's place, with the value that its next instruction is given
abbrev pub given_next : Given → Outcome → ℕ → Option ℕ
given_next given s c = given c ((core_at s c).count + 1)

abbrev pub valued_place : Given → Plan → Outcome → ℕ → Outcome
valued_place given p s c = place_given p s c (given_next given s c)

abbrev pub valued_touch : Given → Plan → Outcome → ℕ → List Access
valued_touch given p s c = touched_given p s c (given_next given s c)

-- what the places leave
abbrev pub valued_play : Given → Plan → Outcome → List ℕ → Outcome
valued_play given p s [] = s
valued_play given p s (c ∷ cs) = valued_play given p (valued_place given p s c) cs

-- their accesses, in order
abbrev pub valued_accesses_from : Given → Plan → Outcome → List ℕ → List Access
valued_accesses_from given p s [] = []
valued_accesses_from given p s (c ∷ cs) =
    valued_touch given p s c ++ valued_accesses_from given p (valued_place given p s c) cs

-- the play falls short nowhere: no place has a core whose program is done
abbrev pub ValuedPlays : Given → Plan → Outcome → List ℕ → Type 0
ValuedPlays given p s [] = Unit {0}
ValuedPlays given p s (c ∷ cs) =
    (is_done (need_at p s c) ≡ false) × ValuedPlays given p (valued_place given p s c) cs

-- the first place where it falls short, if there is one: the core, and how many instructions it had retired
abbrev pub valued_short : Given → Plan → Outcome → List ℕ → Option (ℕ × ℕ)
valued_short given p s [] = None
valued_short given p s (c ∷ cs) =
    if is_done (need_at p s c) then Some (c, (core_at s c).count) else
    valued_short given p (valued_place given p s c) cs

-- from the start
abbrev pub valued_played : Given → Plan → List ℕ → Outcome
valued_played given p order = valued_play given p (start p) order

abbrev pub valued_accesses : Given → Plan → List ℕ → List Access
valued_accesses given p order = valued_accesses_from given p (start p) order

-- ---- the play without given values

abbrev pub play : Plan → Outcome → List ℕ → Outcome
play p s order = valued_play no_values p s order

abbrev pub accesses_from : Plan → Outcome → List ℕ → List Access
accesses_from p s order = valued_accesses_from no_values p s order

abbrev pub Plays : Plan → Outcome → List ℕ → Type 0
Plays p s order = ValuedPlays no_values p s order

abbrev pub first_short : Plan → Outcome → List ℕ → Option (ℕ × ℕ)
first_short p s order = valued_short no_values p s order

abbrev pub played : Plan → List ℕ → Outcome
played p order = valued_played no_values p order

abbrev pub accesses_of : Plan → List ℕ → List Access
accesses_of p order = valued_accesses no_values p order
