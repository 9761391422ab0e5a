-- The loads of runs and of plays are those of their accesses.
use Rattle.std.proofs.Common.{◌≡◌, ◌∙◌, refl, sym, ap, ℕ, ◌+◌, Bool, true, false, List, [], ◌∷◌, ◌++◌, append-nil}
use Rattle.std.proofs.Common.{append_assoc, length, Some, None}
use Rattle.std.specs.Prelude.{slice_index_or, slice_set, if◌then◌else◌}
use Rattle.std.proofs.lemmas.List.{set-get_or}
use Rattle.rtr_types.specs.Accesses.{is_read}
use Rattle.rtr_types.specs.declared.access.Access.{Access}
use Rattle.rv_core.specs.declared.outcome.LoadNote.{LoadNote}
use Rattle.rv_core.specs.declared.outcome.Outcome.{Outcome}
use Rattle.roomy_lists.specs.Lists.{with_item}
use Rattle.run_outcome.specs.Loads.{note_of}
use Rattle.run_outcome.specs.Outcomes.{outcome_of}
use Rattle.run_outcome.proofs.NotedLoads.{lists_more}
use Rattle.run_outcome.proofs.RunPlaces.{no_loads}
use Rattle.run_records.specs.Recordings.{run_accesses}
use Rattle.replay_core.specs.Plans.{Plan}
use Rattle.replay_core.specs.Play.{place_given, touched_given, Use, accesses_from, accesses_by, core_at, instr}
use Rattle.replay_core.specs.Play.{loads_after, need_at, new_at, old_at, place, play, start, touched, use_of}
use Rattle.run_replays.specs.Loads.{OutcomeLoadsLaw, PlayLoadsLaw, loads_by_core}

-- the core's list with the access noted, if it reads, in place of what it was
pub loads_noted : (list : List Access) (a : Access) (n : ℕ)
    → slice_set (loads_by_core n list) a.at.core
    (if is_read a.kind then slice_index_or (loads_by_core n list) a.at.core [] ++ note_of a ∷ []
    else slice_index_or (loads_by_core n list) a.at.core [])
    ≡ loads_by_core n (list ++ a ∷ [])
loads_noted list a n = by (is_read a.kind) ∙ lists_more list a n
  where
    lists : List (List LoadNote)
    lists = loads_by_core n list

    by : (read : Bool)
        → slice_set lists a.at.core
        (if read then slice_index_or lists a.at.core [] ++ note_of a ∷ [] else slice_index_or lists a.at.core [])
        ≡ (if read then with_item lists a.at.core (note_of a) else lists)
    by true = refl
    by false = set-get_or lists a.at.core []

pub outcome_loads : OutcomeLoadsLaw
unfolding outcome_of run_accesses
outcome_loads image params schedule = refl

-- ---- plays

-- what a place leaves of these loads is what its access adds to them, by what its instruction uses
used_loads : (used : Use) (c count old new n : ℕ) (list : List Access)
    → slice_set (loads_by_core n list) c (loads_after used (slice_index_or (loads_by_core n list) c []) count old)
    ≡ loads_by_core n (list ++ accesses_by used (instr c count) old new)
used_loads None c count old new n list =
    set-get_or (loads_by_core n list) c [] ∙ ap (loads_by_core n) (sym (append-nil list))
used_loads (Some used) c count old new n list =
    loads_noted list (record { at = instr c count; word = used.1; kind = used.0; before = old; after = new }) n

place_loads : (p : Plan) (s : Outcome) (c n : ℕ) (list : List Access) → s.loads ≡ loads_by_core n list
    → (place p s c).loads ≡ loads_by_core n (list ++ touched p s c)
unfolding place_given touched_given
place_loads p s c n list is =
    ap (λ (loads : List (List LoadNote)). slice_set loads c
    (loads_after (use_of (need_at p s c)) (slice_index_or loads c []) ((core_at s c).count + 1) (old_at p s c))) is
    ∙ used_loads (use_of (need_at p s c)) c ((core_at s c).count + 1) (old_at p s c) (new_at p s c) n list

loads_on : (p : Plan) (s : Outcome) (order : List ℕ) (n : ℕ) (list : List Access) → s.loads ≡ loads_by_core n list
    → (play p s order).loads ≡ loads_by_core n (list ++ accesses_from p s order)
loads_on p s [] n list is = is ∙ ap (loads_by_core n) (sym (append-nil list))
loads_on p s (c ∷ cs) n list is =
    loads_on p (place p s c) cs n (list ++ touched p s c) (place_loads p s c n list is)
    ∙ ap (loads_by_core n) (append_assoc list (touched p s c) (accesses_from p (place p s c) cs))

pub play_loads : PlayLoadsLaw
play_loads p order = loads_on p (start p) order (length p.totals) [] (sym (no_loads 0 (length p.totals)))
