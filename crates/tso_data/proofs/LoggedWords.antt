-- Along a run what loads are logged with are words. By induction on the number of choices.
use Rattle.std.proofs.Common.{◌≡◌, refl, sym, subst, ℕ, zero, suc, ◌<◌, ◌≤◌, ◌==◌, ◌^◌}
use Rattle.std.proofs.Common.{Bool, true, false, List, [], ◌∷◌, ◌++◌, append-nil, length, Option, Some, None}
use Rattle.std.proofs.Common.{arith, zero-add}
use Rattle.std.specs.Prelude.{if◌then◌else◌}
use Rattle.std.proofs.lemmas.Bool.Decides.{nat_tests}
use Rattle.std.proofs.lemmas.List.FromFn.{length-map-range_with_len, get_or-map-range_with_len}
use Rattle.access_times.specs.Riding.{none_riding, none_carrying}
use Rattle.image_mem.specs.Contents.{Contents}
use Rattle.rtr_types.specs.declared.TheConstants.{CORES_MAX}
use Rattle.rtr_types.specs.declared.params.Params.{Params}
use Rattle.msi_laws.specs.Words.{HaveWords}
use Rattle.msi_laws.proofs.StartInvariant.{words_start}
use Rattle.machine_data.specs.Coherent.{WordsFit, memory_after, value_after, word_of, writes_to}
use Rattle.machine_data.proofs.Memory.{last_write_found}
use Rattle.machine_data.proofs.OpeningWords.{home_fits, home_memory, opening_at}
use Rattle.msi_state.specs.Events.{Event as ClerkEvent, Nothing as NothingTold, Retires, Accesses}
use Rattle.tso_data.specs.Orders.{ordering_of}
use Rattle.tso_data.proofs.WordSteps.{step_works}
use Rattle.tso_invariant.specs.Holds.{TsoHolds}
use Rattle.tso_invariant.proofs.StartInvariant.{chosen_enabled, holds_run}
use Rattle.tso_invariant.proofs.MoveInvariant.{core_elsewhere, core_there, enabled_core, step_cores}
use Rattle.tso_state.specs.declared.moves.Move.{Move}
use Rattle.tso_state.specs.Moves.{core_of}
use Rattle.tso_state.specs.States.{PlainState, BufferedCore, buffered_start, core_at}
use Rattle.tso_state.specs.Events.{Event, Told, Alone, Ordered, Logged}
use Rattle.tso_state.specs.Steps.{cores_after, enabled, event, step, told}
use Rattle.tso_state.specs.Runs.{all_told, chosen, opening_state, run, stepped_by, told_by}
use Rattle.tso_data.specs.Words.{OpensSmall, SmallTold, SmallToldLaw}
use Rattle.tso_data.proofs.Events.{Small, SmallMemory, SmallQueue, SmallWritten, move_small}

small_append : (xs ys : List Told) → SmallTold xs → SmallTold ys → SmallTold (xs ++ ys)
small_append [] ys a b = b
small_append (Alone at ∷ xs) ys a b = small_append xs ys a b
small_append (Ordered x ∷ xs) ys a b = small_append xs ys a b
small_append (Logged at word value ∷ xs) ys a b = (a.0, small_append xs ys a.1 b)

-- what is written and what is there are words
memory_small : (words : ℕ) (e : ClerkEvent) (memory : ℕ → List ℕ) → WordsFit memory → SmallMemory words memory →
    SmallWritten e →
    SmallMemory words (memory_after e memory)
memory_small words NothingTold memory fits small written = small
memory_small words (Retires at) memory fits small written = small
memory_small words (Accesses a) memory fits small written =
    λ word lt.
    subst (λ (n : ℕ). n < 2 ^ 32) (sym ((last_write_found (Accesses a) memory fits).1 word))
    (by word lt (writes_to (Accesses a) word))
  where
    by : (word : ℕ) → word < words → (b : Bool) → (if b then value_after (Accesses a) else word_of memory word) < 2 ^ 32
    by word lt true = written
    by word lt false = small word lt

-- the state has a memory of words, and words alone are pending
record Stands (image : Contents) (s : PlainState) (list : List Told) : Type 0 where
  image_is : s.image ≡ image
  memory : ℕ → List ℕ
  coherent : HaveWords none_riding none_carrying s.memory memory
  fits : WordsFit memory
  small : SmallMemory image.words memory
  queues : (c : ℕ) → c < length s.cores → SmallQueue (core_at s.cores c).queue
  told_small : SmallTold list

stands_step : (image : Contents) (s : PlainState) (list : List Told) (m : Move) →
    enabled none_riding none_carrying s m ≡ true →
    TsoHolds none_riding none_carrying s → Stands image s list →
    Stands image (step none_riding none_carrying tt s m) (list ++ told none_riding none_carrying s m)
stands_step image s list m e holds h =
    record {
      image_is = h.image_is;
      memory = memory_after (ordering_of now) h.memory;
      coherent = (step_works none_riding none_carrying s m tt h.memory e holds h.coherent).coherent;
      fits = (last_write_found (ordering_of now) h.memory h.fits).0;
      small = memory_small image.words (ordering_of now) h.memory h.fits h.small it.written;
      queues = λ d lt. by_core d (subst (λ (n : ℕ). d < n) (step_cores none_riding none_carrying tt s m) lt)
          (d == core_of m) refl;
      told_small = small_append list (told none_riding none_carrying s m) h.told_small it.told;
    }
  where
    now : Event
    now = event none_riding none_carrying s m

    there : core_of m < length s.cores
    there = enabled_core none_riding none_carrying s m e holds

    it : Small (core_at s.cores (core_of m)) (event none_riding none_carrying s m)
    it =
        move_small none_riding none_carrying s m h.memory e holds h.coherent
        (subst (λ (i : Contents). SmallMemory i.words h.memory) (sym h.image_is) h.small) (h.queues (core_of m) there)

    by_core : (d : ℕ) → d < length s.cores → (b : Bool) → (d == core_of m) ≡ b →
        SmallQueue (core_at (cores_after none_riding none_carrying s m) d).queue
    by_core d lt true f =
        let same : core_of m ≡ d = grind (arith, nat_tests) in
        subst (λ (x : ℕ). SmallQueue (core_at (cores_after none_riding none_carrying s m) x).queue) same
        (subst (λ (x : BufferedCore). SmallQueue x.queue)
        (sym (core_there none_riding none_carrying s m there)) it.queue)
    by_core d lt false f =
        subst (λ (x : BufferedCore). SmallQueue x.queue) (sym (core_elsewhere none_riding none_carrying s m d f))
        (h.queues d lt)

stands_by : (image : Contents) (s : PlainState) (list : List Told) (taken : Option Move) →
    ((m : Move) → taken ≡ Some m → enabled none_riding none_carrying s m ≡ true) →
    TsoHolds none_riding none_carrying s → Stands image s list →
    Stands image (stepped_by s taken) (list ++ told_by s taken)
stands_by image s list None can holds h = subst (λ (l : List Told). Stands image s l) (sym (append-nil list)) h
stands_by image s list (Some m) can holds h = stands_step image s list m (can m refl) holds h

stands_start : (image : Contents) (params : Params) → OpensSmall image → Stands image (opening_state image params) []
stands_start image params opens =
    record {
      image_is = refl;
      memory = home_memory none_riding.fresh image;
      coherent = words_start none_riding none_carrying image params.cores;
      fits = home_fits none_riding.fresh image;
      small = λ word lt. subst (λ (n : ℕ). n < 2 ^ 32) (sym (opening_at none_riding.fresh image word lt)) (opens word);
      queues = λ c lt.
          subst (λ (x : BufferedCore). SmallQueue x.queue)
          (sym (get_or-map-range_with_len (λ (id : ℕ). buffered_start id params.limit) 0 params.cores c c
          (buffered_start 0 0)
          (subst (λ (n : ℕ). c < n)
          (length-map-range_with_len (λ (id : ℕ). buffered_start id params.limit) 0
          params.cores) lt) (zero-add c))) tt;
      told_small = tt;
    }

stands_at : (image : Contents) (params : Params) (choices : ℕ → ℕ) (t : ℕ) → params.cores ≤ CORES_MAX →
    params.limit < 2 ^ 32 → OpensSmall image →
    Stands image (run image params choices t) (all_told image params choices t)
stands_at image params choices zero few small opens = stands_start image params opens
stands_at image params choices (suc t) few small opens =
    let s : PlainState = run image params choices t in
    stands_by image s (all_told image params choices t) (chosen s (choices t))
    (λ m is. chosen_enabled s (choices t) m is)
    (holds_run image params choices t few small) (stands_at image params choices t few small opens)

pub small_told : SmallToldLaw
small_told image params choices t few small opens = (stands_at image params choices t few small opens).told_small
