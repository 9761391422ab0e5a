-- What an event tells of is what the places of its cores play.
use Rattle.std.proofs.Common.{◌≡◌, ◌∙◌, refl, sym, ap, ℕ, ◌+◌, ◌<◌, List, [], ◌∷◌, ◌++◌, append-nil}
use Rattle.std.proofs.Common.{Some, None, arith}
use Rattle.std.specs.Prelude.{slice_index, slice_set, if◌then◌else◌}
use Rattle.std.proofs.lemmas.List.{set-get_or}
use Rattle.std.proofs.lemmas.List.FromFn.{get_or-map-range_with_len}
use Rattle.image_mem.specs.Contents.{Contents, opening_word}
use Rattle.rtr_types.specs.Accesses.{is_read, is_write}
use Rattle.rtr_types.specs.declared.access.Access.{Access}
use Rattle.rtr_types.specs.declared.instr.Instr.{Instr}
use Rattle.rv_core.specs.declared.core_state.Core.{Core}
use Rattle.rv_core.specs.declared.outcome.LoadNote.{LoadNote}
use Rattle.rv_core.specs.declared.outcome.Outcome.{Outcome}
use Rattle.rv_core.specs.Steps.{after, wrote}
use Rattle.msi_state.specs.Events.{Event, Nothing, Retires, Accesses}
use Rattle.msi_state.specs.Runs.{accesses_in, retired_in}
use Rattle.machine_data.specs.LastValues.{last_value, memory_left}
use Rattle.run_outcome.specs.Loads.{note_of}
use Rattle.replay_core.specs.Plans.{Plan}
use Rattle.replay_core.specs.Play.{place_given, touched_given, Use, use_of, old_for, words_after, loads_after}
use Rattle.replay_core.specs.Play.{accesses_by, core_at, loads_at, instr, need_at, place, touched, play}
use Rattle.replay_core.specs.Play.{accesses_from, Plays}
use Rattle.replay_core.proofs.PlaceSteps.{used_within}
use Rattle.msi_state.specs.States.{core_at as machine_core}
use Rattle.run_outcome.proofs.CoreMoves.{Retiring, Accessing, CoresAfter}
use Rattle.run_replays.specs.Loads.{loads_by_core}
use Rattle.run_replays.specs.Orders.{cores_of}
use Rattle.run_replays.proofs.Loads.{loads_noted}
use Rattle.machine_data.proofs.OneMore.{words_more}

-- ---- a place by what its instruction uses

abbrev placed : Plan → Outcome → ℕ → Use → Outcome
placed p s c used = record {
  cores = slice_set s.cores c (after p.image (core_at s c) (old_for used s.words));
  words = words_after used s.words (wrote p.image (core_at s c) (old_for used s.words));
  loads = slice_set s.loads c (loads_after used (loads_at s c) ((core_at s c).count + 1) (old_for used s.words));
}

abbrev told_of : Plan → Outcome → ℕ → Use → List Access
told_of p s c used =
    accesses_by used (instr c ((core_at s c).count + 1)) (old_for used s.words) (wrote p.image (core_at s c)
    (old_for used s.words))

place_by : (p : Plan) (s : Outcome) (c : ℕ) (used : Use) → use_of (need_at p s c) ≡ used →
    place p s c ≡ placed p s c used
unfolding place_given
place_by p s c used is = ap (placed p s c) is

touched_by : (p : Plan) (s : Outcome) (c : ℕ) (used : Use) → use_of (need_at p s c) ≡ used →
    touched p s c ≡ told_of p s c used
unfolding touched_given
touched_by p s c used is = ap (told_of p s c) is

-- ---- what accesses leave

-- the outcome of these accesses, beside these cores
abbrev pub outcome_with : Contents → (cores : ℕ) → List Core → List Access → Outcome
outcome_with image cores now list = record {
  cores = now;
  words = memory_left image list;
  loads =
      loads_by_core cores list;
}

outcome_cores : (image : Contents) (cores : ℕ) (now later : List Core) (list : List Access) → later ≡ now
    → outcome_with image cores now list ≡ outcome_with image cores later list
outcome_cores image cores now later list is = ap (λ (l : List Core). outcome_with image cores l list) (sym is)

abbrev made : List Core → List ℕ → List (List LoadNote) → Outcome
made cores words loads = record { cores = cores; words = words; loads = loads }

-- an event's access finds what the accesses before it left
abbrev pub FoundIn : Contents → List Access → Event → Type 0
FoundIn image list (Accesses a) = a.before ≡ last_value (opening_word image a.word) a.word list
FoundIn image list _ = Unit {0}

-- ---- an event

-- playing the event's cores leads from one outcome to the other, by the event's accesses
pub record EventPlays (p : Plan) (s t : Outcome) (e : Event) : Type 0 where
  pub state : play p s (cores_of (retired_in e)) ≡ t
  pub plays : Plays p s (cores_of (retired_in e))
  pub accesses_are : accesses_from p s (cores_of (retired_in e)) ≡ accesses_in e

-- an instruction without an access
local_place : (p : Plan) (s : Outcome) (at : Instr) (new : List Core) → Retiring p.image s.cores at None 0 new
    → place p s at.core ≡ made new s.words s.loads
local_place p s at new h =
    place_by p s at.core None h.uses
    ∙ ap (λ (cores : List Core). made cores s.words (slice_set s.loads at.core (loads_at s at.core))) (sym h.cores)
    ∙ ap (λ (loads : List (List LoadNote)). made new s.words loads) (set-get_or s.loads at.core [])

-- an instruction with an access, which finds its word's value
module _ (p : Plan) (s : Outcome) (a : Access) (new : List Core) (h : Accessing p.image s.cores a new)
    (found : slice_index s.words a.word ≡ a.before) where
  abbrev used : Use
  used = Some (a.kind, a.word)

  abbrev words_left : List ℕ
  words_left = if is_write a.kind then slice_set s.words a.word a.after else s.words

  abbrev loads_left : List (List LoadNote)
  loads_left =
      slice_set s.loads a.at.core (if is_read a.kind then loads_at s a.at.core ++ note_of a ∷ [] else loads_at s
      a.at.core)

  abbrev leaves : Core → (old value count : ℕ) → Outcome
  leaves k old value count = record {
    cores = slice_set s.cores a.at.core k;
    words = if is_write a.kind then slice_set s.words a.word value else s.words;
    loads = slice_set s.loads a.at.core
        (if is_read a.kind then loads_at s a.at.core ++ (record { count = count; word = a.word; value = old }) ∷ []
        else loads_at s a.at.core);
  }

  access_place : place p s a.at.core ≡ made new words_left loads_left
  access_place =
      let k : Core = core_at s a.at.core in
      place_by p s a.at.core used h.retires.uses
      ∙ ap (λ (old : ℕ). leaves (after p.image k old) old (wrote p.image k old) (k.count + 1)) found
      ∙ ap (λ (value : ℕ). leaves (after p.image k a.before) a.before value (k.count + 1)) (sym h.after_is)
      ∙ ap (λ (count : ℕ). leaves (after p.image k a.before) a.before a.after count) (sym h.retires.count)
      ∙ ap (λ (cores : List Core). made cores words_left loads_left) (sym h.retires.cores)

  abbrev tells : (old value count : ℕ) → List Access
  tells old value count = record {
    at = instr a.at.core count;
    word = a.word;
    kind = a.kind;
    before = old;
    after =
        value;
  } ∷ []

  access_told : touched p s a.at.core ≡ a ∷ []
  access_told =
      let k : Core = core_at s a.at.core in
      touched_by p s a.at.core used h.retires.uses
      ∙ ap (λ (old : ℕ). tells old (wrote p.image k old) (k.count + 1)) found
      ∙ ap (λ (value : ℕ). tells a.before value (k.count + 1)) (sym h.after_is)
      ∙ ap (λ (count : ℕ). tells a.before a.after count) (sym h.retires.count)

-- an event with an access
module _ (p : Plan) (cores : ℕ) (old new : List Core) (list : List Access) (a : Access)
    (h : Accessing p.image old a new) (found : FoundIn p.image list (Accesses a)) where
  before : Outcome
  before = outcome_with p.image cores old list

  within : a.word < p.image.words
  within =
      used_within p.image (machine_core old a.at.core) (Some (a.kind, a.word)) p.image.words (sym h.retires.uses) refl

  finds : slice_index (memory_left p.image list) a.word ≡ a.before
  finds =
      get_or-map-range_with_len (λ word. last_value (opening_word p.image word) word list) 0 p.image.words a.word a.word
      0
      within (omega arith)
      ∙ sym found

  access_played : place p (outcome_with p.image cores old list) a.at.core ≡ outcome_with p.image cores new
      (list ++ a ∷ [])
  access_played =
      access_place p (outcome_with p.image cores old list) a new h finds
      ∙ ap (λ (words : List ℕ). made new words (loads_left p (outcome_with p.image cores old list) a new h finds))
      (words_more p.image list a found h.reads)
      ∙ ap (λ (loads : List (List LoadNote)). made new (memory_left p.image (list ++ a ∷ [])) loads)
      (loads_noted list a cores)

  access_plays : EventPlays p (outcome_with p.image cores old list) (outcome_with p.image cores new (list ++ a ∷ []))
      (Accesses a)
  access_plays = record {
    state = access_played;
    plays = (h.retires.going, tt);
    accesses_are =
        append-nil (touched p (outcome_with p.image cores old list) a.at.core)
        ∙ access_told p (outcome_with p.image cores old list) a new h finds;
  }

pub event_plays : (p : Plan) (cores : ℕ) (old new : List Core) (list : List Access) (e : Event) →
    CoresAfter p.image old e new
    → FoundIn p.image list e
    → EventPlays p (outcome_with p.image cores old list) (outcome_with p.image cores new (list ++ accesses_in e)) e
event_plays p cores old new list Nothing h found = record {
  state = outcome_cores p.image cores old new list h ∙ ap (outcome_with p.image cores new) (sym (append-nil list));
  plays = tt;
  accesses_are = refl;
}
event_plays p cores old new list (Retires at) h found =
    let s : Outcome = outcome_with p.image cores old list in
    record {
      state = local_place p s at new h ∙ ap (outcome_with p.image cores new) (sym (append-nil list));
      plays = (h.going, tt);
      accesses_are = append-nil (touched p s at.core) ∙ touched_by p s at.core None h.uses;
    }
event_plays p cores old new list (Accesses a) h found = access_plays p cores old new list a h found
