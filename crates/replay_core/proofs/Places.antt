-- What is known after a place, and after the places of a replay order.
use Rattle.std.proofs.Common.{inl, inr, ◌≡◌, ℕ, subst, ◌+◌, ◌<◌, ◌≤◌, Bool, true, false, cond, List, [], ◌∷◌}
use Rattle.std.proofs.Common.{length, sym, refl, ap, ◌∙◌, arith, length-set}
use Rattle.std.proofs.Common.{get_or-set_same, get_or-set_other}
use Rattle.std.specs.Prelude.{slice_index, slice_index_or, slice_set, replicate, Option, Some, None}
use Rattle.std.proofs.Math.Path.{fun_ext}
use Rattle.std.proofs.lemmas.Bool.{cases_lt}
use Rattle.std.proofs.lemmas.List.{get_or_past, get_or-replicate, length-replicate}
use Rattle.std.proofs.lemmas.List.FromFn.{length-map-range_with_len, get_or-map-range_with_len}
use native.Mathlib.Decide.{ℕ_discrete}
use Rattle.rtr_types.specs.Accesses.{is_write}
use Rattle.image_mem.specs.Contents.{opening_word}
use Rattle.rv_core.specs.declared.core_state.Core.{Core}
use Rattle.rv_core.specs.declared.outcome.LoadNote.{LoadNote}
use Rattle.rv_core.specs.declared.outcome.Outcome.{Outcome}
use Rattle.rv_core.specs.States.{starting}
use Rattle.rv_core.specs.Steps.{after}
use Rattle.rv_core.proofs.LawLemmas.{start_law, count_law, number_law, limit_law}
use Rattle.replay_core.specs.Plans.{Plan}
use Rattle.replay_core.specs.Play.{Given, no_values, Use, words_after, core_at, uses}
use Rattle.replay_core.specs.Play.{old_given, new_given, place_given, touched_given}
use Rattle.replay_core.specs.Play.{given_next, place, valued_place, start, play}
use Rattle.replay_core.specs.Play.{valued_play, valued_played}
use Rattle.replay_core.specs.Orders.{bump, counts, nought, counts_in, Ready, Ordered, IsReplayOrder}
use Rattle.replay_core.specs.Laws.{PlaceGiven, PlayStartLaw, PlaceLaw, PlayKnown, PlayLaw}
use Rattle.replay_core.proofs.Counts.{bump_same, bump_else}

-- ---- one place

length-written : (writes : Bool) (words : List ℕ) (word value : ℕ) →
    length (cond writes (slice_set words word value) words) ≡ length words
length-written true words word value = length-set words word value
length-written false words word value = refl

pub length-words_after : (used : Use) (words : List ℕ) (value : ℕ) →
    length (words_after used words value) ≡ length words
length-words_after None words value = refl
length-words_after (Some used) words value = length-written (is_write used.0) words used.1 value

pub place_given_law : (p : Plan) (s : Outcome) (c : ℕ) (given : Option ℕ) → PlaceGiven p s c given
unfolding place_given touched_given
place_given_law p s c given = record {
  core = λ below. get_or-set_same s.cores c _ (starting 0 0) below;
  words = refl;
  loads = λ below. get_or-set_same s.loads c _ [] below;
  access = refl;
  other_cores = λ i ne. get_or-set_other s.cores c i _ (starting 0 0) ne;
  other_loads = λ i ne. get_or-set_other s.loads c i _ [] ne;
  all_cores = length-set s.cores c _;
  all_words = length-words_after (uses p s c given) s.words (new_given p s c given);
  all_loads = length-set s.loads c _;
}

pub place_law : PlaceLaw
place_law p s c = place_given_law p s c None

-- ---- the start

start-core : (p : Plan) (c : ℕ) → c < length p.totals → core_at (start p) c ≡ starting c p.limit
start-core p c below = get_or-map-range_with_len (λ i. starting i p.limit) 0 (length p.totals) c c (starting 0 0) below
    (omega arith)

-- each list is empty, and so is one past the last
nothing : (n c : ℕ) → ◌≡◌ {A = List LoadNote} (slice_index_or (replicate n []) c []) []
nothing n c = elim (cases_lt c n) [
  | inl below ↦ get_or-replicate n c [] [] below
  | inr past ↦
      let lists : List (List LoadNote) = replicate n [] in
      let all : length lists ≡ n = length-replicate n [] in
      get_or_past lists c [] (omega arith)
]

pub play_start_law : PlayStartLaw
play_start_law p = record { core = start-core p; loads = nothing (length p.totals) }

start-count : (p : Plan) (i : ℕ) → counts_in (start p) i ≡ 0
start-count p i = elim (cases_lt i (length p.totals)) [
  | inl below ↦ ap (λ (k : Core). k.count) (start-core p i below) ∙ (start_law i p.limit).2
  | inr past ↦
      let all = length-map-range_with_len (λ c. starting c p.limit) 0 (length p.totals) in
      ap (λ (k : Core). k.count) (get_or_past (start p).cores i (starting 0 0) (omega arith)) ∙ (start_law 0 0).2
]

pub start_known : (p : Plan) → PlayKnown p nought (start p)
start_known p = record {
  all_cores = length-map-range_with_len (λ c. starting c p.limit) 0 (length p.totals);
  all_words = length-map-range_with_len (opening_word p.image) 0 p.image.words;
  all_loads = length-replicate (length p.totals) [];
  counts = fun_ext (start-count p);
  numbers = λ c below. ap (λ (k : Core). k.id) (start-core p c below) ∙ (start_law c p.limit).0;
  limits = λ c below. ap (λ (k : Core). k.limit) (start-core p c below) ∙ (start_law c p.limit).1;
  within = λ c. omega arith;
}

-- ---- a place more

-- what a step keeps of a core holds of all cores after a place
kept-core : (given : Option ℕ) (p : Plan) (s : Outcome) (c i : ℕ) (of : Core → ℕ) →
    ((k : Core) (old : ℕ) → of (after p.image k old) ≡ of k) → c < length s.cores →
    of (core_at (place_given p s c given) i) ≡ of (core_at s i)
kept-core given p s c i of keeps below = elim (ℕ_discrete i c) [
  | yes e ↦
      let here : of (core_at (place_given p s c given) c) ≡ of (core_at s c) =
      ap of ((place_given_law p s c given).core below) ∙ keeps (core_at s c) (old_given p s c given) in
      subst (λ (x : ℕ). of (core_at (place_given p s c given) x) ≡ of (core_at s x)) (sym e) here
  | no ne ↦ ap of ((place_given_law p s c given).other_cores i ne)
]

pub bumped : (given : Option ℕ) (p : Plan) (f : ℕ → ℕ) (s : Outcome) (c : ℕ) → counts_in s ≡ f → c < length s.cores →
    (i : ℕ) → counts_in (place_given p s c given) i ≡ bump f c i
bumped given p f s c is below i = elim (ℕ_discrete i c) [
  | yes e ↦
      let here : counts_in (place_given p s c given) c ≡ counts_in s c + 1 =
      ap (λ (k : Core). k.count) ((place_given_law p s c given).core below)
      ∙ count_law p.image (core_at s c) (old_given p s c given) in
      let there = subst (λ (x : ℕ). counts_in (place_given p s c given) x ≡ counts_in s x + 1) (sym e) here in
      let more = bump_same f c i e in
      let same = ap (λ (g : ℕ → ℕ). g i) is in
      omega arith
  | no ne ↦ ap (λ (k : Core). k.count) ((place_given_law p s c given).other_cores i ne) ∙ ap (λ (g : ℕ → ℕ). g i) is
      ∙ sym (bump_else f c i ne)
]

within-more : (p : Plan) (f : ℕ → ℕ) (c : ℕ) → Ready p f c → ((i : ℕ) → f i ≤ slice_index p.totals i) → (i : ℕ) →
    bump f c i ≤ slice_index p.totals i
within-more p f c ready within i = elim (ℕ_discrete i c) [
  | yes e ↦
      let more = bump_same f c i e in
      let below : f i < slice_index p.totals i = subst (λ (x : ℕ). f x < slice_index p.totals x) (sym e) ready.below in
      omega arith
  | no ne ↦ let same = bump_else f c i ne in let le = within i in omega arith
]

pub given_known : (given : Option ℕ) (p : Plan) (f : ℕ → ℕ) (s : Outcome) (c : ℕ) → PlayKnown p f s → Ready p f c →
    PlayKnown p (bump f c) (place_given p s c given)
given_known given p f s c known ready =
    let law = place_given_law p s c given in
    let below : c < length s.cores = let all = known.all_cores in let inside = ready.inside in omega arith in
    record {
      all_cores = law.all_cores ∙ known.all_cores;
      all_words = law.all_words ∙ known.all_words;
      all_loads = law.all_loads ∙ known.all_loads;
      counts = fun_ext (bumped given p f s c known.counts below);
      numbers = λ i lt. kept-core given p s c i (λ k. k.id) (number_law p.image) below ∙ known.numbers i lt;
      limits = λ i lt. kept-core given p s c i (λ k. k.limit) (limit_law p.image) below ∙ known.limits i lt;
      within = within-more p f c ready known.within;
    }

pub place_known : (p : Plan) (f : ℕ → ℕ) (s : Outcome) (c : ℕ) → PlayKnown p f s → Ready p f c →
    PlayKnown p (bump f c) (place p s c)
place_known p f s c known ready = given_known None p f s c known ready

pub valued_known : (given : Given) (p : Plan) (f : ℕ → ℕ) (s : Outcome) (order : List ℕ) → PlayKnown p f s →
    Ordered p f order →
    PlayKnown p (counts f order) (valued_play given p s order)
valued_known given p f s [] known ordered = known
valued_known given p f s (c ∷ cs) known ordered =
    valued_known given p (bump f c) (valued_place given p s c) cs
    (given_known (given_next given s c) p f s c known ordered.0) ordered.1

pub play_known : (p : Plan) (f : ℕ → ℕ) (s : Outcome) (order : List ℕ) → PlayKnown p f s → Ordered p f order →
    PlayKnown p (counts f order) (play p s order)
play_known p f s order known ordered = valued_known no_values p f s order known ordered

pub valued_play_law : (given : Given) (p : Plan) (order : List ℕ) → IsReplayOrder p order →
    PlayKnown p (counts nought order) (valued_played given p order)
valued_play_law given p order ordered = valued_known given p nought (start p) order (start_known p) ordered

pub play_law : PlayLaw
play_law p order ordered = valued_play_law no_values p order ordered
