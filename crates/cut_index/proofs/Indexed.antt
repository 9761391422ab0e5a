-- What an index tells of a core and of a word is what holds at each closed cut.
use Rattle.std.proofs.Common.{inl, inr, ◌≡◌, ◌⊎◌, ℕ, zero, suc, ◌+◌, ◌<◌, ◌≤◌, ◌^◌, List, [], ◌∷◌, length, refl, sym}
use Rattle.std.proofs.Common.{ap}
use Rattle.std.proofs.Common.{◌∙◌, subst, arith}
use Rattle.std.specs.Prelude.{slice_index, slice_index_or, Some, None}
use Rattle.rtr_types.specs.declared.access.Access.{Access}
use Rattle.rtr_types.specs.declared.cut.Cut.{Cut}
use Rattle.rtr_types.specs.declared.instr.Instr.{Instr}
use Rattle.rtr_types.specs.declared.params.TheConstants.{LIMIT_MAX, WORDS_MAX}
use Rattle.image_mem.specs.Contents.{Contents, opening_word}
use Rattle.conflict_edge.specs.Conflicts.{StandsIn}
use Rattle.conflict_edge.proofs.AccessPlaces.{stands_which}
use Rattle.rv_core.specs.declared.core_state.Core.{Core}
use Rattle.rv_core.specs.declared.outcome.LoadNote.{LoadNote}
use Rattle.rv_core.specs.declared.outcome.Outcome.{Outcome}
use Rattle.rv_core.specs.Steps.{need}
use Rattle.race_queries.specs.Queries.{IsAudited}
use Rattle.replay_core.specs.Answers.{UsesWithin}
use Rattle.replay_core.specs.Plans.{Plan, plan_of, recorded_image}
use Rattle.replay_core.specs.Play.{Use, accesses_by, accesses_from, core_at, instr, loads_at, need_at, new_at, old_at}
use Rattle.replay_core.specs.Play.{place}
use Rattle.replay_core.specs.Play.{start, touched, use_of}
use Rattle.replay_core.proofs.PlaceSteps.{used_within}
use Rattle.replay_audit.specs.Audits.{Findings}
use Rattle.replay_audit.specs.Determinate.{low_accesses, low_order_of}
use Rattle.replay_audit.proofs.Rise.{touched_is}
use Rattle.cut_replay.specs.ClosedCuts.{IsClosed}
use Rattle.cut_index.specs.Alone.{alone_after, alone_first}
use Rattle.cut_index.specs.AloneLaws.{alone_at, own_loads}
use Rattle.cut_index.specs.Indexes.{IsCoreAt, IsNextAt, IsWordAt}
use Rattle.cut_index.specs.Runs.{CanRun, IsRun, next_of}
use Rattle.cut_index.specs.Touches.{used_by}
use Rattle.cut_index.specs.Writes.{left_behind, writes_in}
use Rattle.cut_index.specs.declared.alone.Alone.{Alone}
use Rattle.cut_index.specs.declared.alone.Next.{Next}
use Rattle.cut_index.specs.declared.runs.Run.{Run}
use Rattle.cut_index.specs.declared.writes.Write.{Write}
use Rattle.cut_index.proofs.CoresAlone.{alone_at_law, goes_on_law}
use Rattle.cut_index.proofs.HeldAccesses.{word_left}
use Rattle.cut_index.proofs.UseCodes.{told_use}
use Rattle.cut_index.proofs.WritesHeld.{left_of_writes}

-- ---- the parts of a core's run

-- what the code has at hand is the recording's
pub record AreParts (a : Findings) (core : ℕ) (image : Contents) (loads : List LoadNote) (first : Alone) (total : ℕ)
    : Type 0 where
  pub image_is : image ≡ recorded_image a.recording
  pub loads_is : loads ≡ own_loads a.which a.recording core
  pub first_is : first ≡ alone_first core a.recording.params.limit
  pub total_is : total ≡ slice_index a.recording.totals core

pub loads_own : (a : Findings) (core : ℕ) (loads : List LoadNote) (outcome : Outcome) → IsAudited a →
    outcome ≡ a.outcome → loads ≡ loads_at outcome core → loads ≡ own_loads a.which a.recording core
loads_own a core loads outcome h is loads_are =
    loads_are ∙ ap (λ (s : Outcome). loads_at s core) (is ∙ h.passed.outcome_is)

module _ (a : Findings) (h : IsAudited a) (core : ℕ) (inside : core < a.recording.params.cores) where
  abbrev limit : ℕ
  limit = a.recording.params.limit

  abbrev own : List LoadNote
  own = own_loads a.which a.recording core

  abbrev total : ℕ
  total = slice_index a.recording.totals core

  pub total_small : slice_index a.recording.totals core ≤ 1000000
  total_small =
      let most = h.valid.totals core 0 (let all = h.valid.each_core in omega arith) in
      let few = h.valid.params.limit in
      let million : LIMIT_MAX ≡ 1000000 = refl in
      omega arith

  pub can_run : CanRun (recorded_image a.recording) (own_loads a.which a.recording core)
      (alone_first core a.recording.params.limit) (slice_index a.recording.totals core)
  can_run = record {
    going = λ count lt. goes_on_law a.which a.recording core count h.valid h.passed.determinate inside lt;
    fits = small (slice_index a.recording.totals core) total_small;
    few = let words = h.valid.params.words in let most : WORDS_MAX ≡ 262144 = refl in omega arith;
  }
    where
      small : (n : ℕ) → n ≤ 1000000 → 0 + n < 2 ^ 32
      small n le = omega arith

  module _ (image : Contents) (loads : List LoadNote) (first : Alone) (most : ℕ)
      (parts : AreParts a core image loads first most) where
    pub by_parts : (P : Contents → List LoadNote → Alone → ℕ → Type 0) →
        P (recorded_image a.recording) (own_loads a.which a.recording core)
        (alone_first core a.recording.params.limit) (slice_index a.recording.totals core) → P image loads first most
    by_parts P x =
        subst (λ (i : Contents). P i loads first most) (sym parts.image_is)
        (subst (λ (l : List LoadNote). P (recorded_image a.recording) l first most) (sym parts.loads_is)
        (subst (λ (f : Alone). P (recorded_image a.recording) own f most) (sym parts.first_is)
        (subst (λ (n : ℕ). P (recorded_image a.recording) own (alone_first core limit) n) (sym parts.total_is) x)))

    pub can_run_parts : CanRun image loads first most
    can_run_parts = by_parts (λ i l f n. CanRun i l f n) can_run

    pub run_parts : (run : Run) → IsRun (recorded_image a.recording) (own_loads a.which a.recording core)
        (alone_first core a.recording.params.limit) (slice_index a.recording.totals core) run →
        IsRun image loads first most run
    run_parts run is = by_parts (λ i l f n. IsRun i l f n run) is

    pub alone_parts : (count : ℕ) → alone_after image loads first count ≡ alone_at a.which a.recording core count
    alone_parts count =
        by_parts (λ i l f n. alone_after i l f count ≡ alone_at a.which a.recording core count) refl

  -- a core behind so many of its instructions
  pub core_told : (count : ℕ) (result : Alone) → result ≡ alone_at a.which a.recording core count →
      IsCoreAt a core count result.core
  core_told count result is cut outcome at count_is =
      ap (λ (x : Alone). x.core) (is ∙ ap (λ (n : ℕ). alone_at a.which a.recording core n) (sym count_is))
      ∙ sym (alone_at_law a.which a.recording cut outcome core h.valid h.passed.determinate at inside)

next_same : (x y : Next) → x.pc ≡ y.pc → x.used ≡ y.used → x ≡ y
next_same x y pc used =
    ap (λ (p : ℕ). as_next p x.used) pc ∙ ap (λ (u : Use). as_next y.pc u) used
  where
    as_next : ℕ → Use → Next
    as_next p u = record { pc = p; used = u }

-- what comes next at it
pub next_told : (a : Findings) (core count : ℕ) (image : Contents) (k : Core) (next : Next) →
    image ≡ recorded_image a.recording → IsCoreAt a core count k → next ≡ next_of image k → IsNextAt a core count next
next_told a core count image k next image_is here is cut outcome at count_is =
    let there = here cut outcome at count_is in
    record {
      pc = ap (λ (n : Next). n.pc) is ∙ ap (λ (x : Core). x.pc) there;
      used = ap (λ (n : Next). n.used) is ∙ ap (λ (i : Contents). use_of (need i k)) image_is
          ∙ ap (λ (x : Core). use_of (need (recorded_image a.recording) x)) there;
    }

-- as it was noted
pub noted_told : (a : Findings) (h : IsAudited a) (core count : ℕ) (inside : core < a.recording.params.cores)
    (run : Run) (next : Next) → IsRun (recorded_image a.recording) (own_loads a.which a.recording core)
    (alone_first core a.recording.params.limit) (slice_index a.recording.totals core) run →
    count < slice_index a.recording.totals core → next.pc ≡ slice_index run.pcs count →
    next.used ≡ used_by (slice_index run.uses count) → IsNextAt a core count next
noted_told a h core count inside run next is below pc used =
    next_told a core count (recorded_image a.recording) (alone_at a.which a.recording core count).core next refl
    (core_told a h core inside count (alone_at a.which a.recording core count) refl)
    (next_same next (next_of (recorded_image a.recording) (alone_at a.which a.recording core count).core)
    (pc ∙ is.pcs.each count below)
    (used ∙ ap (λ (n : ℕ). used_by n) (is.uses.each count below) ∙ told_use _))

-- ---- a word

pub word_told : (a : Findings) (h : IsAudited a) (cut : Cut) (closed : IsClosed a.which a.recording cut) (word : ℕ)
    (inside : word < a.recording.params.words) (image : Contents) (held value : ℕ) (list : List Write) →
    image ≡ recorded_image a.recording → held ≡ opening_word image word → list ≡ writes_in word a.accesses →
    value ≡ left_behind cut held list → IsWordAt a cut word value
word_told a h cut closed word inside image held value list image_is held_is list_is is outcome at =
    let opening : held ≡ opening_word (recorded_image a.recording) word =
    held_is ∙ ap (λ (i : Contents). opening_word i word) image_is in
    is ∙ ap (λ (v : ℕ). left_behind cut v list) opening
    ∙ ap (λ (l : List Write). left_behind cut (opening_word (recorded_image a.recording) word) l)
    (list_is ∙ ap (λ (l : List Access). writes_in word l) h.passed.accesses_is)
    ∙ sym (left_of_writes cut word (opening_word (recorded_image a.recording) word)
    (low_accesses a.which a.recording))
    ∙ sym (word_left a.which a.recording h.valid h.passed.determinate cut closed outcome at word inside)

-- ---- accesses are of words of the memory

words_by : (used : Use) (at : Instr) (old new words : ℕ) (a : Access) → UsesWithin used words →
    StandsIn (accesses_by used at old new) a → a.word < words
words_by None at old new words a within here = absurd here
words_by (Some used) at old new words a within (inl e) = subst (λ (x : Access). x.word < words) e within
words_by (Some used) at old new words a within (inr s) = absurd s

words_from : (p : Plan) (s : Outcome) (order : List ℕ) (a : Access) → StandsIn (accesses_from p s order) a →
    a.word < p.image.words
words_from p s [] a here = absurd here
words_from p s (c ∷ cs) a here =
    by (λ later. words_from p (place p s c) cs a later)
    (stands_which (touched p s c) (accesses_from p (place p s c) cs) a here)
  where
    by : (StandsIn (accesses_from p (place p s c) cs) a → a.word < p.image.words) →
        StandsIn (touched p s c) a ⊎ StandsIn (accesses_from p (place p s c) cs) a → a.word < p.image.words
    by on (inl first) =
        words_by (use_of (need_at p s c)) (instr c ((core_at s c).count + 1)) (old_at p s c)
        (new_at p s c) p.image.words
        a (used_within p.image (core_at s c) (use_of (need_at p s c)) p.image.words refl refl)
        (subst (λ (l : List Access). StandsIn l a) (touched_is p s c) first)
    by on (inr later) = on later

at_stands : (list : List Access) (number : ℕ) (d : Access) → number < length list →
    StandsIn list (slice_index_or list number d)
at_stands [] number d lt = absurd (omega arith)
at_stands (x ∷ xs) zero d lt = inl refl
at_stands (x ∷ xs) (suc number) d lt = inr (at_stands xs number d (omega arith))

pub accesses_within : (a : Findings) → IsAudited a → (list : List Access) → list ≡ a.accesses → (number : ℕ)
    (d : Access) → number < length list → (slice_index_or list number d).word < a.recording.params.words
accesses_within a h list is number d lt =
    let p : Plan = plan_of a.which a.recording in
    words_from p (start p) (low_order_of a.which a.recording) (slice_index_or list number d)
    (subst (λ (l : List Access). StandsIn l (slice_index_or list number d)) (is ∙ h.passed.accesses_is)
    (at_stands list number d lt))
