-- What holds of every plan, list of cores and play.
use Rattle.std.specs.Prelude.{◌≡◌, ◌≢◌, ℕ, ◌+◌, ◌<◌, ◌≤◌, ◌↔◌, true, List, [], ◌∷◌, ◌++◌, length, slice_index}
use Rattle.std.specs.Prelude.{Option, None}
use Rattle.std.specs.List.{Contains}
use Rattle.rtr_types.specs.declared.instr.Edge.{Edge}
use Rattle.rtr_types.specs.declared.instr.Instr.{Instr}
use Rattle.rv_core.specs.declared.outcome.Outcome.{Outcome}
use Rattle.rv_core.specs.States.{starting}
use Rattle.rv_core.specs.Steps.{after}
use Rattle.replay_core.specs.Plans.{Plan}
use Rattle.replay_core.specs.Play.{use_of, words_after, loads_after, accesses_by, core_at, loads_at, instr, need_at}
use Rattle.replay_core.specs.Play.{uses, old_given, new_given, place_given, touched_given}
use Rattle.replay_core.specs.Play.{start, play, accesses_from, Plays, first_short, played}
use Rattle.replay_core.specs.Orders.{bump, counts, nought, counts_in, Sourced, Ready, Ordered, IsReplayOrder, is_ready}
use Rattle.replay_core.specs.Orders.{low_order}

-- ---- longer lists: with `c ∷ []` for `ys`, one more place at the end

abbrev pub CountsOnLaw : Type 0
CountsOnLaw = (f : ℕ → ℕ) (xs ys : List ℕ) → counts f (xs ++ ys) ≡ counts (counts f xs) ys

abbrev pub PlayOnLaw : Type 0
PlayOnLaw = (p : Plan) (s : Outcome) (xs ys : List ℕ) → play p s (xs ++ ys) ≡ play p (play p s xs) ys

abbrev pub AccessesOnLaw : Type 0
AccessesOnLaw = (p : Plan) (s : Outcome) (xs ys : List ℕ) →
    accesses_from p s (xs ++ ys) ≡ accesses_from p s xs ++ accesses_from p (play p s xs) ys

abbrev pub PlaysOnLaw : Type 0
PlaysOnLaw = (p : Plan) (s : Outcome) (xs ys : List ℕ) →
    Plays p s (xs ++ ys) ↔ (Plays p s xs × Plays p (play p s xs) ys)

abbrev pub OrderedOnLaw : Type 0
OrderedOnLaw = (p : Plan) (f : ℕ → ℕ) (xs ys : List ℕ) →
    Ordered p f (xs ++ ys) ↔ (Ordered p f xs × Ordered p (counts f xs) ys)

-- ---- places of a list

-- a longer list counts no less
abbrev pub CountsMoreLaw : Type 0
CountsMoreLaw = (f : ℕ → ℕ) (order : List ℕ) (i : ℕ) → f i ≤ counts f order i

-- the place at which a core reaches a count
pub record PlaceOf (order : List ℕ) (f : ℕ → ℕ) (core count : ℕ) : Type 0 where
  pub front : List ℕ
  pub rest : List ℕ
  pub split : order ≡ front ++ core ∷ rest
  pub before : counts f front core + 1 ≡ count

-- each count that the list reaches has a place
abbrev pub PlaceOfLaw : Type 0
PlaceOfLaw = (order : List ℕ) (f : ℕ → ℕ) (core count : ℕ) → f core < count → count ≤ counts f order core
    → PlaceOf order f core count

-- and no other
abbrev pub OnePlaceLaw : Type 0
OnePlaceLaw = (order : List ℕ) (f : ℕ → ℕ) (core : ℕ) (front rest other more : List ℕ)
    → order ≡ front ++ core ∷ rest → order ≡ other ++ core ∷ more → counts f front core ≡ counts f other core
    → front ≡ other

-- ---- replay orders

-- a source is an instruction from which an edge leads
abbrev pub SourcedLaw : Type 0
SourcedLaw = (edges : List Edge) (f : ℕ → ℕ) (c n : ℕ) →
    Sourced edges f c n
    ↔ ((from : Instr) → Contains edges (record { from = from; to = instr c n }) → from.count ≤ f from.core)

abbrev pub ReadyTestLaw : Type 0
ReadyTestLaw = (p : Plan) (f : ℕ → ℕ) (c : ℕ) → (is_ready p f c ≡ true) ↔ Ready p f c

-- a list is a replay order exactly where at each of its places the core is ready by the places before
abbrev pub PlacesLaw : Type 0
PlacesLaw = (p : Plan) (order : List ℕ) →
    IsReplayOrder p order
    ↔ ((front : List ℕ) (c : ℕ) (rest : List ℕ) → order ≡ front ++ c ∷ rest → Ready p (counts nought front) c)

-- a ready core's place can be added, and no other's
abbrev pub OneMoreLaw : Type 0
OneMoreLaw = (p : Plan) (order : List ℕ) (c : ℕ) → IsReplayOrder p order →
    IsReplayOrder p (order ++ c ∷ []) ↔ Ready p (counts nought order) c

-- at each place the lowest core that is ready, until there is none
abbrev pub Lowest : Plan → (ℕ → ℕ) → List ℕ → Type 0
Lowest p f [] = (c : ℕ) → Ready p f c → ⊥
Lowest p f (c ∷ cs) = Ready p f c × ((d : ℕ) → d < c → Ready p f d → ⊥) × Lowest p (bump f c) cs

abbrev pub LowOrderLaw : Type 0
LowOrderLaw = (p : Plan) → Lowest p nought (low_order p)

-- so it is a replay order
abbrev pub LowestOrderedLaw : Type 0
LowestOrderedLaw = (p : Plan) (f : ℕ → ℕ) (order : List ℕ) → Lowest p f order → Ordered p f order

abbrev pub LowOrderedLaw : Type 0
LowOrderedLaw = (p : Plan) → IsReplayOrder p (low_order p)

-- and no core is ready at its end
abbrev pub LowestStuckLaw : Type 0
LowestStuckLaw = (p : Plan) (f : ℕ → ℕ) (order : List ℕ) → Lowest p f order → (c : ℕ) → Ready p (counts f order) c → ⊥

-- ---- plays

-- what is known before the first place
pub record StartKnown (p : Plan) : Type 0 where
  pub core : (c : ℕ) → c < length p.totals → core_at (start p) c ≡ starting c p.limit
  pub loads : (c : ℕ) → loads_at (start p) c ≡ []

abbrev pub PlayStartLaw : Type 0
PlayStartLaw = (p : Plan) → StartKnown p

-- what a place does to the cores, the words and the loads, and its access, where a value is given or none
pub record PlaceGiven (p : Plan) (s : Outcome) (c : ℕ) (given : Option ℕ) : Type 0 where
  pub core : c < length s.cores →
      core_at (place_given p s c given) c ≡ after p.image (core_at s c) (old_given p s c given)
  pub words : (place_given p s c given).words ≡ words_after (uses p s c given) s.words (new_given p s c given)
  pub loads : c < length s.loads → loads_at (place_given p s c given) c
      ≡ loads_after (use_of (need_at p s c)) (loads_at s c) ((core_at s c).count + 1) (old_given p s c given)
  pub access : touched_given p s c given
      ≡ accesses_by (uses p s c given) (instr c ((core_at s c).count + 1)) (old_given p s c given)
      (new_given p s c given)
  pub other_cores : (i : ℕ) → i ≢ c → core_at (place_given p s c given) i ≡ core_at s i
  pub other_loads : (i : ℕ) → i ≢ c → loads_at (place_given p s c given) i ≡ loads_at s i
  pub all_cores : length (place_given p s c given).cores ≡ length s.cores
  pub all_words : length (place_given p s c given).words ≡ length s.words
  pub all_loads : length (place_given p s c given).loads ≡ length s.loads

abbrev pub PlaceLaw : Type 0
PlaceLaw = (p : Plan) (s : Outcome) (c : ℕ) → PlaceGiven p s c None

-- what is known after the places of a replay order
pub record PlayKnown (p : Plan) (f : ℕ → ℕ) (s : Outcome) : Type 0 where
  pub all_cores : length s.cores ≡ length p.totals
  pub all_words : length s.words ≡ p.image.words
  pub all_loads : length s.loads ≡ length p.totals
  pub counts : counts_in s ≡ f
  pub numbers : (c : ℕ) → c < length p.totals → (core_at s c).id ≡ c
  pub limits : (c : ℕ) → c < length p.totals → (core_at s c).limit ≡ p.limit
  pub within : (c : ℕ) → f c ≤ slice_index p.totals c

abbrev pub PlayLaw : Type 0
PlayLaw = (p : Plan) (order : List ℕ) → IsReplayOrder p order → PlayKnown p (counts nought order) (played p order)

-- a play falls short nowhere exactly where there is no first place at which it does
abbrev pub ShortLaw : Type 0
ShortLaw = (p : Plan) (s : Outcome) (order : List ℕ) → Plays p s order ↔ (first_short p s order ≡ None)

-- two plans play a list of cores alike
pub record PlaysAlike (p q : Plan) (s : Outcome) (order : List ℕ) : Type 0 where
  pub plays : Plays p s order ↔ Plays q s order
  pub outcome : play p s order ≡ play q s order
  pub accesses_from : accesses_from p s order ≡ accesses_from q s order

-- a play goes by the image alone, and its start by the limit and the number of cores besides: the edges of the log
-- have no part in either
abbrev pub ByImageLaw : Type 0
ByImageLaw = (p q : Plan) (s : Outcome) (order : List ℕ) → p.image ≡ q.image → PlaysAlike p q s order

abbrev pub SameStartLaw : Type 0
SameStartLaw = (p q : Plan) → p.image ≡ q.image → p.limit ≡ q.limit → length p.totals ≡ length q.totals
    → start p ≡ start q

-- ---- the low order, place by place

-- so far the lowest core that is ready, at each place
abbrev pub LowFront : Plan → (ℕ → ℕ) → List ℕ → Type 0
LowFront p f [] = Unit {0}
LowFront p f (c ∷ cs) = Ready p f c × ((d : ℕ) → d < c → Ready p f d → ⊥) × LowFront p (bump f c) cs

-- such a list is a front of the low order
abbrev pub LowFrontLaw : Type 0
LowFrontLaw = (p : Plan) (front : List ℕ) → LowFront p nought front → (rest : List ℕ) × (low_order p ≡ front ++ rest)

-- and is the low order where no core is ready at its end
abbrev pub LowEndLaw : Type 0
LowEndLaw = (p : Plan) (front : List ℕ) → LowFront p nought front → ((c : ℕ) → Ready p (counts nought front) c → ⊥)
    → low_order p ≡ front
