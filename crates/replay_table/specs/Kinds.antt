-- Rule: the kinds of step of the table: SeesDone, LoadsWord, ExchangesWord
-- The eight kinds of step: what each asks of the view of the seat that makes it, and what it changes in it. What the
-- rule then tells of a step stands beside (`Told.antt`).
use Rattle.std.specs.Prelude.{◌≡◌, ℕ, zero, suc, ◌+◌, ◌-◌, ◌≤◌, ◌==◌, List, [], ◌∷◌, ◌++◌, length, replicate}
use Rattle.std.specs.Prelude.{take, drop, max, slice_index, slice_set, Some, None, if◌then◌else◌}
use mathlib.Core.Option.{some}
use lib.ListN.{get_elem?}
use Rattle.clock_core.specs.Counts.{merged}
use Rattle.rv_core.specs.declared.core_state.Core.{Core}
use Rattle.rv_core.specs.States.{starting}
use Rattle.rv_core.specs.Steps.{need, after, wrote}
use Rattle.replay_core.specs.Plans.{Plan}
use Rattle.replay_core.specs.Play.{use_of, loads_after}
use Rattle.replay_table.specs.declared.view.Own.{Own}
use Rattle.replay_table.specs.declared.view.View.{View}
use Rattle.replay_table.specs.Accesses.{Loads, Stores, Changes, touched_after}
use Rattle.replay_table.specs.Aheads.{Ahead}
use Rattle.replay_table.specs.Rule.{seen_of, Next}

-- an owned core after the next instruction of `at`, which found a value in its word: an access that reads, a load or an
-- atomic memory operation, has the value join the core's loads
abbrev pub retired : Plan → Own → (at : Core) → (old : ℕ) → Own
retired p o at old = record o {
  core = after p.image at old;
  loads = loads_after (use_of (need p.image at)) o.loads (at.count + 1) old;
  touched = touched_after (use_of (need p.image at)) o.touched at.id (at.count + 1);
}

abbrev pub alone_with : Own → View → View
alone_with o v = record v { owned = o ∷ [] }

-- one load more of the done word of core c
abbrev pub polled : ℕ → List ℕ → List ℕ
polled c polls = slice_set polls c (slice_index polls c + 1)

-- 1: a done word was loaded
pub record SeesDone (p : Plan) (v : View) (word found : ℕ) (w : View) : Type 0 where
  pub core : ℕ
  pub word_is : word ≡ p.image.words + core
  pub view : w ≡ record v { seen = slice_set v.seen core found; polls = polled core v.polls }

-- 2: a word was loaded for a load
pub record LoadsWord (p : Plan) (v : View) (word found : ℕ) (w : View) : Type 0 where
  pub own : Own
  pub at : Core
  pub next : Next p v own at
  pub access : Loads (need p.image at) word
  pub view : w ≡ alone_with (retired p own at found) v

-- 3: a word was loaded to be held
pub record HoldsWord (p : Plan) (v : View) (word found : ℕ) (w : View) : Type 0 where
  pub own : Own
  pub at : Core
  pub next : Next p v own at
  pub access : Changes (need p.image at) word
  pub view : w ≡ record v { held = Some found }

-- 4: a whole word was stored
pub record StoresWord (p : Plan) (v : View) (word new : ℕ) (w : View) : Type 0 where
  pub own : Own
  pub at : Core
  pub next : Next p v own at
  pub access : Stores (need p.image at) word
  pub new_is : new ≡ wrote p.image at 0
  pub view : w ≡ alone_with (retired p own at 0) v

-- the view after a compare-exchange of the held word: it has retired the access, or has failed once more
abbrev pub exchanged : Plan → View → Own → Core → (old found : ℕ) → View
exchanged p v o at old found =
    if found == old
    then record (alone_with (retired p o at old) v) { held = None }
    else record v { held = None; failed = v.failed + 1 }

-- 5: the held word was to be exchanged for the value after
pub record ExchangesWord (p : Plan) (v : View) (word old new found : ℕ) (w : View) : Type 0 where
  pub own : Own
  pub at : Core
  pub next : Next p v own at
  pub access : Changes (need p.image at) word
  pub held : v.held ≡ Some old
  pub new_is : new ≡ wrote p.image at old
  pub view : w ≡ exchanged p v own at old found

-- 6: a count was published
pub record PublishesCount (p : Plan) (v : View) (word new : ℕ) (w : View) : Type 0 where
  pub own : Own
  pub at : Core
  pub locals : ℕ
  pub owned : v.owned ≡ own ∷ []
  pub ahead : Ahead p (seen_of v) locals own.core at
  pub most : at.count ≤ slice_index p.totals at.id
  pub word_is : word ≡ p.image.words + at.id
  pub new_is : new ≡ at.count
  pub view : w ≡ alone_with (record own { core = at; published = new }) v

-- 7: the first core of a view goes to a new one, before any of them has executed an instruction
abbrev pub without_first : View → View
without_first v = record v { owned = drop 1 v.owned }

abbrev pub first_alone : View → View
first_alone v = record v { owned = take 1 v.owned }

pub record SplitsView (v left right : View) : Type 0 where
  pub held : v.held ≡ None
  pub fresh : (k : ℕ) (o : Own) → get_elem? v.owned k ≡ some o → o.core.count ≡ 0
  pub left_is : left ≡ without_first v
  pub right_is : right ≡ first_alone v

-- 8: one view takes in another, which is spent
abbrev pub both : View → View → View
both v w = record {
  owned = v.owned ++ w.owned;
  seen = merged v.seen w.seen;
  polls = merged v.polls w.polls;
  held = None;
  failed = max v.failed w.failed;
}

abbrev pub spent : View
spent = record { owned = []; seen = []; polls = []; held = None; failed = 0 }

pub record JoinsViews (v w joined left : View) : Type 0 where
  pub held : v.held ≡ None
  pub other_held : w.held ≡ None
  pub joined_is : joined ≡ both v w
  pub left_is : left ≡ spent

-- ---- the start

abbrev pub first_own : Plan → ℕ → Own
first_own p c = record { core = starting c p.limit; published = 0; loads = []; touched = [] }

-- the n cores c, c + 1, .. before their first instruction
abbrev pub own_from : Plan → (c n : ℕ) → List Own
own_from p c zero = []
own_from p c (suc n) = first_own p c ∷ own_from p (c + 1) n

-- the first view owns all cores
abbrev pub first_view : Plan → View
first_view p = record {
  owned = own_from p 0 (length p.totals);
  seen = replicate (length p.totals) 0;
  polls = replicate (length p.totals) 0;
  held = None;
  failed = 0;
}

-- and those from c on when c cores have gone to other views
abbrev pub rest_view : Plan → ℕ → View
rest_view p c = record (first_view p) { owned = own_from p c (length p.totals - c) }

-- core c has gone to a seat of its own: it has executed and published nothing, and its seat has seen nothing and holds
-- nothing
abbrev pub dealt_view : Plan → ℕ → View
dealt_view p c = record (first_view p) { owned = first_own p c ∷ [] }
