-- What is told, one place after the other.
use Rattle.std.proofs.Common.{◌≡◌, ◌≢◌, ◌∙◌, refl, sym, ap, subst, ℕ, ◌<◌, List, [], ◌∷◌, ◌++◌, length}
use Rattle.std.proofs.Common.{append-nil, arith}
use native.Mathlib.Decide.{ℕ_discrete}
use Rattle.machine_data.specs.LastValues.{EachFindsLast, memory_left}
use Rattle.rtr_types.specs.declared.access.Access.{Access}
use Rattle.rv_core.specs.declared.core_state.Core.{Core}
use Rattle.rv_core.specs.declared.outcome.Outcome.{Outcome}
use Rattle.rv_core.proofs.LawLemmas.{number_law, start_law}
use Rattle.replay_core.specs.Plans.{Plan}
use Rattle.replay_core.specs.Play.{Given, core_at, given_next, start, valued_place, valued_play}
use Rattle.replay_core.proofs.Places.{place_given_law, play_start_law, start_known}
use Rattle.tso_state.specs.Events.{Told, Alone, Ordered, Logged, instr_told}
use Rattle.tso_told.specs.Played.{AreInside, AreNext, found_by, ordered_told, told_core, told_of}
use Rattle.tso_recordings.specs.Tells.{Tells, cores_told}
use Rattle.tso_recordings.specs.Plays.{AreGiven, PlayedLaw}
use Rattle.tso_recordings.proofs.Firsts.{ordered_first}
use Rattle.tso_told.proofs.InOrder.{first_own, first_else}
use Rattle.tso_recordings.proofs.Places.{FindsLeft, Placed, is_placed}

-- what is told from a state on is right there, after these accesses
record Comes (given : Given) (p : Plan) (earlier : List Access) (s : Outcome) (list : List Told) : Type 0 where
  cores : length s.cores ≡ length p.totals
  ids : (c : ℕ) → c < length p.totals → (core_at s c).id ≡ c
  next : (c : ℕ) → c < length p.totals → AreNext p.image (core_at s c) (told_of c list)
  words : s.words ≡ memory_left p.image earlier
  inside : AreInside (length p.totals) list
  finds : EachFindsLast p.image (earlier ++ ordered_told list)
  given_is : AreGiven given list

-- so it plays from there
record Plays (given : Given) (p : Plan) (earlier : List Access) (s : Outcome) (list : List Told) : Type 0 where
  tells : Tells given p s list
  core : (c : ℕ) → c < length p.totals → core_at (valued_play given p s (cores_told list)) c
      ≡ told_core p.image (core_at s c) (told_of c list)
  words : (valued_play given p s (cores_told list)).words
      ≡ memory_left p.image (earlier ++ ordered_told list)

finds_left : (p : Plan) (earlier : List Access) (e : Told) (list : List Told) →
    EachFindsLast p.image (earlier ++ ordered_told (e ∷ list)) →
    FindsLeft p earlier e
finds_left p earlier (Alone at) list h = tt
finds_left p earlier (Ordered a) list h = h earlier (ordered_told list) a refl
finds_left p earlier (Logged at word value) list h = tt

module _ (given : Given) (p : Plan) where
  module _ (earlier : List Access) (s : Outcome) (e : Told) (list : List Told)
      (h : Comes given p earlier s (e ∷ list)) where
    abbrev d : ℕ
    d = (instr_told e).core

    own : AreNext p.image (core_at s (instr_told e).core) (e ∷ told_of (instr_told e).core list)
    own = subst (AreNext p.image (core_at s d)) (first_own e list) (h.next d h.inside.0)

    place : Placed given p earlier s e
    place = let all = h.cores in let lt = h.inside.0 in
        is_placed given p earlier s h.words e (omega arith) (h.ids d h.inside.0) own.0
        (finds_left p earlier e list h.finds) h.given_is.0

    others : (c : ℕ) → c ≢ (instr_told e).core → core_at (valued_place given p s (instr_told e).core) c ≡ core_at s c
    others c ne = (place_given_law p s d (given_next given s d)).other_cores c ne

    comes : Comes given p (earlier ++ ordered_told (e ∷ [])) (valued_place given p s (instr_told e).core) list
    comes = record {
      cores = (place_given_law p s d (given_next given s d)).all_cores ∙ h.cores;
      ids = λ c lt. elim (ℕ_discrete c d) [
        | yes same ↦
            subst (λ (x : ℕ). (core_at (valued_place given p s d) x).id ≡ x) (sym same)
            (ap (λ (k : Core). k.id) place.core ∙ number_law p.image (core_at s d) (found_by e) ∙ h.ids d h.inside.0)
        | no ne ↦ ap (λ (k : Core). k.id) (others c ne) ∙ h.ids c lt
      ];
      next = λ c lt. elim (ℕ_discrete c d) [
        | yes same ↦
            subst (λ (x : ℕ). AreNext p.image (core_at (valued_place given p s d) x) (told_of x list)) (sym same)
            (subst (λ (k : Core). AreNext p.image k (told_of d list)) (sym place.core) own.1)
        | no ne ↦
            subst (λ (k : Core). AreNext p.image k (told_of c list)) (sym (others c ne))
            (subst (AreNext p.image (core_at s c)) (first_else c e list (λ is. ne (sym is))) (h.next c lt))
      ];
      words = place.words;
      inside = h.inside.1;
      finds = subst (EachFindsLast p.image) (ordered_first earlier e list) h.finds;
      given_is = h.given_is.1;
    }

    then : Plays given p (earlier ++ ordered_told (e ∷ [])) (valued_place given p s (instr_told e).core) list →
        Plays given p earlier s (e ∷ list)
    then rest = record {
      tells = (place.tells, rest.tells);
      core = λ c lt.
          rest.core c lt
          ∙ elim (ℕ_discrete c d) [
            | yes same ↦
                subst (λ (x : ℕ). told_core p.image (core_at (valued_place given p s d) x) (told_of x list)
                ≡ told_core p.image (core_at s x) (told_of x (e ∷ list)))
                (sym same)
                (ap (λ (k : Core). told_core p.image k (told_of d list)) place.core
                ∙ ap (told_core p.image (core_at s d)) (sym (first_own e list)))
            | no ne ↦
                ap (λ (k : Core). told_core p.image k (told_of c list)) (others c ne)
                ∙ ap (told_core p.image (core_at s c)) (sym (first_else c e list (λ is. ne (sym is))))
          ];
      words =
          rest.words
          ∙ ap (memory_left p.image) (sym (ordered_first earlier e list));
    }

  plays : (earlier : List Access) (s : Outcome) (list : List Told) → Comes given p earlier s list →
      Plays given p earlier s list
  plays earlier s [] h = record {
    tells = tt;
    core = λ c lt. refl;
    words = h.words ∙ ap (memory_left p.image) (sym (append-nil earlier));
  }
  plays earlier s (e ∷ list) h =
      then earlier s e list h
      (plays (earlier ++ ordered_told (e ∷ [])) (valued_place given p s (instr_told e).core) list
      (comes earlier s e list h))

pub played : PlayedLaw
played given p list told finds given_is =
    let all = (start_known p).all_cores in
    let it = plays given p [] (start p) list (record {
      cores = all;
      ids = λ c lt. ap (λ (k : Core). k.id) ((play_start_law p).core c lt) ∙ (start_law c p.limit).0;
      next = λ c lt. subst (λ (k : Core). AreNext p.image k (told_of c list)) (sym ((play_start_law p).core c lt))
          (told.next c lt);
      words = refl;
      inside = told.inside;
      finds = finds;
      given_is = given_is;
    }) in
    record {
      tells = it.tells;
      core = λ c lt. it.core c lt
          ∙ ap (λ (k : Core). told_core p.image k (told_of c list)) ((play_start_law p).core c lt);
      words = it.words;
    }
