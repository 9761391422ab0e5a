-- The play of any list of cores, with values given or none, has its plan's cores and memory: no place changes how many
-- there are. Its loads are of words of that memory, since each access is.
use Rattle.std.proofs.Common.{◌∙◌, inl, inr, ◌⊎◌, ℕ, ◌+◌, ◌<◌, ◌≤◌, Bool, true, false, cond, List, [], ◌∷◌, ◌++◌}
use Rattle.std.proofs.Common.{length, refl, sym, subst}
use Rattle.std.specs.Prelude.{All, Option, Some, None, slice_index_or}
use Rattle.std.proofs.lemmas.Bool.{cases_lt}
use Rattle.std.proofs.lemmas.List.{get_or_past}
use Rattle.std.proofs.lemmas.List.Elements.{All-get_or, All-nil, All-push, All-replicate, All-set}
use Rattle.rtr_types.specs.Accesses.{is_read}
use Rattle.rv_core.specs.declared.outcome.LoadNote.{LoadNote}
use Rattle.rv_core.specs.declared.outcome.Outcome.{Outcome}
use Rattle.replay_core.specs.Plans.{Plan}
use Rattle.replay_core.specs.Play.{Given, Use, core_at, given_next, loads_after, loads_at, need_at, no_values}
use Rattle.replay_core.specs.Play.{old_given, place_given, start, use_of, valued_place, valued_play, valued_played}
use Rattle.replay_core.specs.Answers.{UsesWithin}
use Rattle.replay_core.proofs.Places.{place_given_law, start_known}
use Rattle.replay_core.proofs.PlaceSteps.{used_within}
use Rattle.replay_audit.specs.Laws.{OutcomeFits, ReplayFitsLaw}

-- each load is of a word below this one
abbrev Within : ℕ → LoadNote → Type 0
Within words note = note.word < words

abbrev AllWithin : ℕ → List LoadNote → Type 0
AllWithin words notes = All (Within words) notes

noted : (used : Use) (words : ℕ) (old : List LoadNote) (count value : ℕ) → UsesWithin used words → AllWithin words old →
    AllWithin words (loads_after used old count value)
noted None words old count value lt h = h
noted (Some used) words old count value lt h = by (is_read used.0)
  where
    note : LoadNote
    note = record { count = count; word = used.1; value = value }

    by : (b : Bool) → AllWithin words (cond b (old ++ note ∷ []) old)
    by true = All-push (Within words) old note h lt
    by false = h

abbrev no_notes : List LoadNote
no_notes = []

own : (words c : ℕ) (lists : List (List LoadNote)) → All (AllWithin words) lists →
    AllWithin words (slice_index_or lists c no_notes)
own words c lists h = by (cases_lt c (length lists))
  where
    by : (c < length lists) ⊎ (length lists ≤ c) → AllWithin words (slice_index_or lists c no_notes)
    by (inl lt) = All-get_or (AllWithin words) lists c no_notes lt h
    by (inr le) = subst (λ (l : List LoadNote). AllWithin words l) (sym (get_or_past lists c no_notes le))
        (All-nil (Within words))

-- a place keeps each of these
place_fits : (p : Plan) (s : Outcome) (c : ℕ) (given : Option ℕ) → OutcomeFits p s
    → OutcomeFits p (place_given p s c given)
unfolding place_given
place_fits p s c given h =
    let law = place_given_law p s c given in
    record {
      cores = law.all_cores ∙ h.cores;
      words = law.all_words ∙ h.words;
      lists = law.all_loads ∙ h.lists;
      within =
          All-set (AllWithin p.image.words) s.loads c _
          (noted (use_of (need_at p s c)) p.image.words (loads_at s c) ((core_at s c).count + 1) (old_given p s c given)
          (used_within p.image (core_at s c) (use_of (need_at p s c)) p.image.words refl refl)
          (own p.image.words c s.loads h.within)) h.within;
    }

play_fits : (given : Given) (p : Plan) (s : Outcome) (order : List ℕ) → OutcomeFits p s →
    OutcomeFits p (valued_play given p s order)
play_fits given p s [] h = h
play_fits given p s (c ∷ cs) h =
    play_fits given p (valued_place given p s c) cs (place_fits p s c (given_next given s c) h)

pub valued_fits : (given : Given) (p : Plan) (order : List ℕ) → OutcomeFits p (valued_played given p order)
valued_fits given p order =
    let known = start_known p in
    play_fits given p (start p) order (record {
      cores = known.all_cores;
      words = known.all_words;
      lists = known.all_loads;
      within = All-replicate (AllWithin p.image.words) (length p.totals) no_notes (All-nil (Within p.image.words));
    })

pub replay_fits_law : ReplayFitsLaw
replay_fits_law p order ordered = valued_fits no_values p order
