-- Cores of any type over a memory system, each of whose moves makes one access or none: where each access finds the
-- memory's word, the states of a run are coherent with the memory that its accesses left of what the image has. By
-- induction on the number of choices: the memory of the accesses so far, and its next one.
use Rattle.std.proofs.Common.{◌≡◌, ◌∙◌, ap, refl, sym, subst, ℕ, ◌+◌, ◌<◌, ◌≤◌, ◌/◌, ◌%◌, ◌^◌, Bool, true, List, []}
use Rattle.std.proofs.Common.{◌++◌, Option, Some, None, zero, suc, arith, zero-add}
use Rattle.std.specs.Prelude.{map, slice_index}
use Rattle.std.specs.List.{range_with_len}
use Rattle.std.proofs.lemmas.List.FromFn.{map-range_with_len_more}
use Rattle.access_times.specs.Riding.{Riding, Carrying, none_riding, none_carrying}
use Rattle.rtr_types.specs.declared.TheConstants.{BLOCK_WORDS, CORES_MAX}
use Rattle.rtr_types.specs.declared.access.Access.{Access}
use Rattle.rtr_types.specs.declared.params.Params.{Params}
use Rattle.image_mem.specs.Contents.{Contents, opening_word}
use Rattle.msi_memory.specs.Finals.{memory_word}
use Rattle.msi_laws.specs.Holds.{MemoryHolds}
use Rattle.msi_laws.specs.Moving.{links_empty}
use Rattle.msi_laws.specs.Words.{HaveWords}
use Rattle.msi_laws.proofs.Final.{final_current}
use Rattle.msi_laws.proofs.StartInvariant.{words_start}
use Rattle.msi_state.specs.Choosing.{by_choice, by_move, chosen_of, state_after}
use Rattle.msi_state.specs.CoreStates.{CoresState, PlainCores, cores_start}
use Rattle.msi_state.specs.Events.{Event, Nothing}
use Rattle.msi_state.specs.Runs.{accesses_in}
use Rattle.machine_invariant.specs.Promises.{EachRunHas}
use Rattle.machine_data.specs.Coherent.{Finds, memory_after}
use Rattle.machine_data.specs.LastValues.{last_value, memory_left, RunsFindLast, RunsLeaveLast}
use Rattle.machine_data.proofs.OpeningWords.{home_memory}
use Rattle.machine_data.proofs.Values.{Found, Honest, found_none, found_more}

-- the state after a move is coherent with the memory after its access, which found the memory's word
pub record Works {C R K : Type 0} (riding : Riding R) (carrying : Carrying K) (s : CoresState C R K) (words : ℕ)
    (e : Event) (memory : ℕ → List ℕ) : Type 0 where
  pub coherent : HaveWords riding carrying s.memory (memory_after e memory)
  pub finds : Finds e memory
  pub honest : Honest words e

-- the start of an image and parameters, where each core starts so by its number and its limit
abbrev pub opening_of : {C : Type 0} → (starts : (id limit : ℕ) → C) → Contents → Params → PlainCores C
opening_of starts image params =
    cores_start (λ id. starts id params.limit) none_riding none_carrying image params.cores

-- a state that is coherent with the memory that these accesses left of what the image has
record Remembers {C : Type 0} (image : Contents) (s : PlainCores C) (memory : ℕ → List ℕ)
    (list : List Access) : Type 0 where
  image_is : s.image ≡ image
  coherent : HaveWords none_riding none_carrying s.memory memory
  found : Found image memory list

same_maps : (f g : ℕ → ℕ) (n : ℕ) → ((i : ℕ) → i < n → f i ≡ g i) →
    map f (range_with_len 0 n) ≡ map g (range_with_len 0 n)
same_maps f g zero same = refl
same_maps f g (suc n) same =
    let shorter : map f (range_with_len 0 n) ≡ map g (range_with_len 0 n) =
    same_maps f g n (λ i lt. same i (omega arith)) in
    let last : f n ≡ g n = same n (omega arith) in
    let one_more : n + 1 ≡ suc n = omega arith in
    subst (λ (k : ℕ). map f (range_with_len 0 k) ≡ map g (range_with_len 0 k)) one_more (map-range_with_len_more f 0 n n
    (zero-add n)
    ∙ (rw (shorter, last) refl ∙ sym (map-range_with_len_more g 0 n n (zero-add n))))

-- what it leaves once nothing is under way
module _ {C : Type 0} (image : Contents) (s : PlainCores C) (memory : ℕ → List ℕ) (list : List Access)
    (h : Remembers image s memory list) (holds : MemoryHolds none_riding none_carrying s.memory)
    (empty : links_empty s.memory ≡ true) where
  left_value : (word : ℕ) → word < image.words →
      memory_word none_riding none_carrying s.memory word ≡ last_value (opening_word image word) word list
  left_value word within =
      ap (λ (words : List ℕ). slice_index words (word % BLOCK_WORDS))
      (final_current none_riding none_carrying s.memory memory holds empty h.coherent (word / BLOCK_WORDS))
      ∙ h.found.values word within

  left_memory : map (memory_word none_riding none_carrying s.memory) (range_with_len 0 s.image.words)
      ≡ memory_left image list
  left_memory =
      ap (λ (x : Contents). map (memory_word none_riding none_carrying s.memory) (range_with_len 0 x.words)) h.image_is
      ∙ same_maps (memory_word none_riding none_carrying s.memory) (λ word. last_value (opening_word image word) word
      list) image.words left_value

-- ---- along a run

-- what the runs of a machine find, and what they leave
pub record RunsRecall {C : Type 0} (run : Contents → Params → (choices : ℕ → ℕ) → (t : ℕ) → PlainCores C)
    (all_done : PlainCores C → Bool)
    (accesses : Contents → Params → (choices : ℕ → ℕ) → (t : ℕ) → List Access) : Type 0 where
  pub find : RunsFindLast accesses
  pub leave : RunsLeaveLast run all_done (λ s word. memory_word none_riding none_carrying s.memory word)
      (λ s. map (λ word. memory_word none_riding none_carrying s.memory word) (range_with_len 0 s.image.words)) accesses

module _ {C M : Type 0} (Holds : PlainCores C → Type 0) (moves : PlainCores C → List M)
    (step : PlainCores C → M → PlainCores C) (event : PlainCores C → M → Event)
    (images : (s : PlainCores C) (m : M) → (step s m).image ≡ s.image)
    (works : (s : PlainCores C) (choice : ℕ) (m : M) (memory : ℕ → List ℕ) → chosen_of (moves s) choice ≡ Some m →
    Holds s → HaveWords none_riding none_carrying s.memory memory →
    Works none_riding none_carrying (step s m) s.image.words (event s m) memory) where
  remembers_moved : (image : Contents) (s : PlainCores C) (memory : ℕ → List ℕ) (list : List Access) (choice : ℕ)
      (taken : Option M) → chosen_of (moves s) choice ≡ taken → Holds s → Remembers image s memory list →
      Remembers image (by_move s (step s) taken) (memory_after (by_move Nothing (event s) taken) memory)
      (list ++ accesses_in (by_move Nothing (event s) taken))
  remembers_moved image s memory list choice None is holds h =
      record {
        image_is = h.image_is;
        coherent = h.coherent;
        found = found_more image memory list Nothing h.found tt tt;
      }
  remembers_moved image s memory list choice (Some m) is holds h =
      let w = works s choice m memory is holds h.coherent in
      record {
        image_is = images s m ∙ h.image_is;
        coherent = w.coherent;
        found = found_more image memory list (event s m) h.found w.finds
            (subst (λ (x : Contents). Honest x.words (event s m)) h.image_is w.honest);
      }

  -- the memory after t choices
  abbrev memory_at : Contents → PlainCores C → (ℕ → ℕ) → ℕ → ℕ → List ℕ
  memory_at image start choices zero = home_memory none_riding.fresh image
  memory_at image start choices (suc t) =
      memory_after (by_choice moves Nothing event (state_after moves step start choices t) (choices t))
      (memory_at image start choices t)

  remembers : (image : Contents) (start : PlainCores C) (choices : ℕ → ℕ) (accesses : ℕ → List Access) →
      start.image ≡ image →
      HaveWords none_riding none_carrying start.memory (home_memory none_riding.fresh image) → accesses zero ≡ [] →
      ((u : ℕ) → accesses (suc u) ≡ accesses u
      ++ accesses_in (by_choice moves Nothing event (state_after moves step start choices u) (choices u))) →
      ((u : ℕ) → Holds (state_after moves step start choices u)) → (t : ℕ) →
      Remembers image (state_after moves step start choices t) (memory_at image start choices t) (accesses t)
  remembers image start choices accesses is opens none more holds zero =
      record {
        image_is = is;
        coherent = opens;
        found = subst (λ (list : List Access). Found image (home_memory none_riding.fresh image) list) (sym none)
            (found_none none_riding.fresh image);
      }
  remembers image start choices accesses is opens none more holds (suc t) =
      let s : PlainCores C = state_after moves step start choices t in
      subst (λ (list : List Access). Remembers image (state_after moves step start choices (suc t))
      (memory_at image start choices (suc t)) list) (sym (more t))
      (remembers_moved image s (memory_at image start choices t) (accesses t) (choices t)
      (chosen_of (moves s) (choices t)) refl (holds t)
      (remembers image start choices accesses is opens none more holds t))

  pub runs_recall : (starts : (id limit : ℕ) → C) (all_done : PlainCores C → Bool)
      (accesses : Contents → Params → (choices : ℕ → ℕ) → (t : ℕ) → List Access) →
      EachRunHas (λ image params choices t. state_after moves step (opening_of starts image params) choices t) Holds →
      ((s : PlainCores C) → Holds s → all_done s ≡ true →
      (MemoryHolds none_riding none_carrying s.memory) × (links_empty s.memory ≡ true)) →
      ((image : Contents) (params : Params) (choices : ℕ → ℕ) → accesses image params choices zero ≡ []) →
      ((image : Contents) (params : Params) (choices : ℕ → ℕ) (t : ℕ) →
      accesses image params choices (suc t) ≡ accesses image params choices t
      ++ accesses_in (by_choice moves Nothing event (state_after moves step (opening_of starts image params) choices t)
      (choices t))) →
      RunsRecall (λ image params choices t. state_after moves step (opening_of starts image params) choices t)
      all_done accesses
  runs_recall starts all_done accesses holds quiet none more = record {
    find = record {
      finds = λ image params choices t few small. (recalls image params choices t few small).found.found;
      within = λ image params choices t few small. (recalls image params choices t few small).found.within;
    };
    leave = record {
      word = λ image params choices t few small done.
          (let s : PlainCores C = state_after moves step (opening_of starts image params) choices t in
          let q = quiet s (holds image params choices t few small) done in
          left_value image s (memory_at image (opening_of starts image params) choices t)
          (accesses image params choices t) (recalls image params choices t few small) q.0 q.1);
      memory = λ image params choices t few small done.
          (let s : PlainCores C = state_after moves step (opening_of starts image params) choices t in
          let q = quiet s (holds image params choices t few small) done in
          left_memory image s (memory_at image (opening_of starts image params) choices t)
          (accesses image params choices t) (recalls image params choices t few small) q.0 q.1);
    };
  }
    where
      recalls : (image : Contents) (params : Params) (choices : ℕ → ℕ) (t : ℕ) → params.cores ≤ CORES_MAX →
          params.limit < 2 ^ 32 →
          Remembers image (state_after moves step (opening_of starts image params) choices t)
          (memory_at image (opening_of starts image params) choices t) (accesses image params choices t)
      recalls image params choices t few small =
          remembers image (opening_of starts image params) choices (λ u. accesses image params choices u) refl
          (words_start none_riding none_carrying image params.cores) (none image params choices)
          (λ u. more image params choices u) (λ u. holds image params choices u few small) t
