-- Readings and spellings are the same.
use Rattle.std.specs.Prelude.{◌≡◌, ℕ, ◌<◌, List, [], ◌++◌, slice_index_or, Ok}
use Rattle.std.specs.List.{AllByRecursion}
use Rattle.rtr_types.specs.declared.params.Params.{Params}
use Rattle.rtr_types.specs.Pairs.{IsPair, pair_place}
use Rattle.rtr_types.specs.Parameters.{Fits}
use Rattle.race_log.specs.declared.recording.Recording.{Recording}
use Rattle.log_codec.specs.declared.version.Version.{Version}
use Rattle.log_codec.specs.Incoming.{IncomingStands, incoming_edges, from_source, remember}
use Rattle.rtr_types.specs.Turns.{StandInTurn}
use Rattle.race_log.specs.Validity.{Valid}
use Rattle.log_codec.specs.Versions.{FitsIn, FitsOld}
use Rattle.log_codec.specs.Spelling.{Spells, spelling, spelling_in}
use Rattle.log_codec.specs.Reading.{front_at, whole_at}

abbrev pub IsBytes : List ℕ → Type 0
IsBytes bytes = AllByRecursion (λ b. b < 256) bytes

-- what is read is spelled so
abbrev pub ReadIsSpelled : Type 0
ReadIsSpelled = (bytes : List ℕ) (r : Recording) → IsBytes bytes → whole_at bytes ≡ Ok r → Valid r × Spells bytes r

-- what is spelled is read
abbrev pub SpelledIsRead : Type 0
SpelledIsRead = (v : Version) (r : Recording) → Valid r → FitsIn v r.params → whole_at (spelling_in v r) ≡ Ok r

-- it is read whatever follows, so that certificates may begin with it
abbrev pub SpelledIsFront : Type 0
SpelledIsFront = (v : Version) (r : Recording) (rest : List ℕ) → Valid r → FitsIn v r.params →
    front_at (spelling_in v r ++ rest) ≡ Ok (r, rest)

-- what is read from the front of the bytes is spelled so
abbrev pub FrontIsSpelled : Type 0
FrontIsSpelled = (bytes : List ℕ) (r : Recording) (rest : List ℕ) → IsBytes bytes → front_at bytes ≡ Ok (r, rest) →
    Valid r × ((v : Version) × FitsIn v r.params × (bytes ≡ spelling_in v r ++ rest))

-- no spelling begins another, of the same version or the other
abbrev pub PrefixFree : Type 0
PrefixFree = (v w : Version) (r s : Recording) (x y : List ℕ) → Valid r → FitsIn v r.params → Valid s →
    FitsIn w s.params →
    spelling_in v r ++ x ≡ spelling_in w s ++ y → (v ≡ w) × (r ≡ s) × (x ≡ y)

-- a recording that is read and spelled anew is the same, and one of version 2 has the same bytes
abbrev pub ReadAndSpelled : Type 0
ReadAndSpelled = (bytes : List ℕ) (r : Recording) → IsBytes bytes → whole_at bytes ≡ Ok r → whole_at (spelling r)
    ≡ whole_at bytes

-- version 1 has the narrower limits
abbrev pub LimitsNest : Type 0
LimitsNest = (p : Params) → FitsOld p → Fits p

-- the edges into a core stand in turn, and those from each other core are the pair's
abbrev pub IntoTheTarget : Type 0
IntoTheTarget = (r : Recording) (target : ℕ) → Valid r → target < r.params.cores →
    StandInTurn (IncomingStands r.totals target) remember [] (incoming_edges r.params.cores r.reduced target)
    × ((source : ℕ) → IsPair r.params.cores source target →
    from_source source (incoming_edges r.params.cores r.reduced target)
    ≡ slice_index_or r.reduced (pair_place r.params.cores source target) [])
