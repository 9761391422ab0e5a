-- A core's own run is places of the play, of which the watch is told.
use Rattle.std.proofs.Common.{◌≡◌, ◌∙◌, ℕ, zero, suc, ◌+◌, ◌<◌, List, length, refl, sym, ap, subst}
use Rattle.std.proofs.Common.{arith, get_or-set_same}
use Rattle.std.specs.Prelude.{Option, Some, None, slice_set}
use Rattle.std.proofs.lemmas.List.{set-set}
use Rattle.rtr_types.specs.declared.instr.Instr.{Instr}
use Rattle.rtr_types.specs.declared.access.Access.{Access}
use Rattle.image_mem.specs.Contents.{Contents}
use Rattle.rv_core.specs.declared.core_state.Core.{Core}
use Rattle.rv_core.specs.declared.outcome.LoadNote.{LoadNote}
use Rattle.rv_core.specs.declared.outcome.Outcome.{Outcome}
use Rattle.rv_core.specs.States.{starting}
use Rattle.rv_core.specs.Steps.{need, wrote, is_done, access_of}
use Rattle.rv_core.proofs.LawLemmas.{count_law, number_law}
use Rattle.core_runs.specs.declared.running.Ran.{Ran}
use Rattle.core_runs.specs.declared.running.Ran.TheVariants as ran
use Rattle.core_runs.specs.Runs.{Goes, RunsTo, Standing, next_instr, standing}
use Rattle.core_runs.specs.Runs.{Retires as HasRetired}
use Rattle.replay_core.specs.declared.noted_memory.NotedMemory.{NotedMemory}
use Rattle.replay_core.specs.Plans.{Plan}
use Rattle.replay_core.specs.Play.{Use, accesses_by, core_at, instr}
use Rattle.replay_core.specs.Orders.{counts_in}
use Rattle.replay_core.specs.Answers.{AreNoted, Retires, told}
use Rattle.replay_core.specs.Runs.{GoesAlone, GoesTo, ToldNoted, Touching, access_by, same_notes}
use Rattle.replay_core.specs.Runs.{noted_keeps_lists, noted_keeps_words}
use Rattle.replay_core.proofs.PlaceSteps.{made-same, retires_by}

-- the access is the one that the instruction lists
one_access : (used : Use) (at : Instr) (old value : ℕ) →
    told (access_by used at old value) ≡ accesses_by used at old value
one_access None at old value = refl
one_access (Some used) at old value = refl

module _ {W : Type 0} (touched : Touching W) (p : Plan) (image : Contents) (image_is : image ≡ p.image)
    (cores : List Core) (c : ℕ) (inside : c < length cores) where
  -- the play, where core c and the memory stand so
  abbrev pub play_at : Core → NotedMemory → Outcome
  play_at k m = record { cores = slice_set cores c k; words = m.memory; loads = m.loads.lists }

  pub core_here : (k : Core) (m : NotedMemory) → core_at (play_at k m) c ≡ k
  core_here k m = get_or-set_same cores c k (starting 0 0) inside

  abbrev pub telling : NotedMemory → W → Instr → Use → (old new : ℕ) → NotedMemory → W → Type 0
  telling m w at used old new n v = ToldNoted touched m w at used old new n v

  abbrev pub refusing : NotedMemory → W → Instr → NotedMemory → W → Type 0
  refusing m w at n v = same_notes m n

  -- one place
  module _ (s t : Standing NotedMemory W) (number : s.core.id ≡ c) (one : HasRetired telling image s t) where
    abbrev used : Use
    used = access_of (need image s.core)

    abbrev left : ℕ
    left = wrote image s.core one.old

    at_is : next_instr s.core ≡ instr c (s.core.count + 1)
    at_is = ap (λ (i : ℕ). instr i (s.core.count + 1)) number

    abbrev pub access_of_place : Option Access
    access_of_place = access_by used (next_instr s.core) one.old left

    noted : AreNoted s.reach.loads.lists c used (s.core.count + 1) one.old t.reach.loads.lists
    noted = subst (λ (i : ℕ). AreNoted s.reach.loads.lists i used (s.core.count + 1) one.old t.reach.loads.lists)
        number one.tells.loads

    pub place_on : Retires p (play_at s.core s.reach) c access_of_place (play_at t.core t.reach)
    place_on = subst (λ (l : List Core). Retires p (play_at s.core s.reach) c access_of_place (record {
      cores = l;
      words = t.reach.memory;
      loads = t.reach.loads.lists;
    })) (set-set cores c s.core t.core)
        (retires_by image p (play_at s.core s.reach) c None None s.core s.core t.core used used one.old left
        (s.core.count + 1) t.reach.memory t.reach.loads.lists access_of_place image_is
        (sym (core_here s.core s.reach)) (sym (core_here s.core s.reach)) one.going refl refl refl one.tells.found
        one.core refl (sym (ap (λ (k : Core). k.count) one.core ∙ count_law image s.core one.old)) one.tells.words noted
        (one_access used (next_instr s.core) one.old left
        ∙ ap (λ (x : Instr). accesses_by used x one.old left) at_is))

  -- the number stays, and each instruction is a place
  pub record IsAlone (n : ℕ) (s t : Standing NotedMemory W) : Type 0 where
    pub number : t.core.id ≡ c
    pub count : t.core.count ≡ s.core.count + n
    pub words : length t.reach.memory ≡ length s.reach.memory
    pub lists : length t.reach.loads.lists ≡ length s.reach.loads.lists
    pub goes : GoesAlone touched p c n (play_at s.core s.reach) s.watch (play_at t.core t.reach) t.watch

  pub alone : (n : ℕ) (s t : Standing NotedMemory W) → s.core.id ≡ c → Goes telling image n s t → IsAlone n s t
  alone zero s t number is = record {
    number = ap (λ (x : Standing NotedMemory W). x.core.id) is ∙ number;
    count = let e = ap (λ (x : Standing NotedMemory W). x.core.count) is in omega arith;
    words = ap (λ (x : Standing NotedMemory W). length x.reach.memory) is;
    lists = ap (λ (x : Standing NotedMemory W). length x.reach.loads.lists) is;
    goes = (
      ap (λ (x : Standing NotedMemory W). play_at x.core x.reach) is,
      ap (λ (x : Standing NotedMemory W). x.watch) is,
    );
  }
  alone (suc n) s t number goes =
      let mid = goes.0 in
      let one = goes.2 in
      let before = alone n s mid number goes.1 in record {
        number = ap (λ (k : Core). k.id) one.core ∙ number_law image mid.core one.old ∙ before.number;
        count = let e = ap (λ (k : Core). k.count) one.core ∙ count_law image mid.core one.old in
            let was = before.count in
            omega arith;
        words = noted_keeps_words touched mid.reach mid.watch (next_instr mid.core) (access_of (need image mid.core))
            one.old (wrote image mid.core one.old) t.reach t.watch one.tells ∙ before.words;
        lists = noted_keeps_lists touched mid.reach mid.watch (next_instr mid.core) (access_of (need image mid.core))
            one.old (wrote image mid.core one.old) t.reach t.watch one.tells ∙ before.lists;
        goes = (
          play_at mid.core mid.reach,
          mid.watch,
          access_of_place mid t before.number one,
          before.goes,
          place_on mid t before.number one,
          one.tells.watch,
        );
      }

  count_here : (k : Core) (m : NotedMemory) → counts_in (play_at k m) c ≡ k.count
  count_here k m = ap (λ (x : Core). x.count) (core_here k m)

  counted_here : (k : Core) (m : NotedMemory) (k' : Core) (m' : NotedMemory) (n : ℕ) → k'.count ≡ k.count + n →
      counts_in (play_at k' m') c ≡ counts_in (play_at k m) c + n
  counted_here k m k' m' n is =
      let a = count_here k m in
      let b = count_here k' m' in
      omega arith

  below_here : (k : Core) (m : NotedMemory) (until : ℕ) → k.count < until → counts_in (play_at k m) c < until
  below_here k m until lt = subst (λ (n : ℕ). n < until) (sym (count_here k m)) lt

  -- what the run comes to
  pub run_alone : (until : ℕ) (k : Core) (m : NotedMemory) (w : W) (answer : Ran) (k' : Core) (m' : NotedMemory)
      (w' : W) → k.id ≡ c → RunsTo telling refusing image until (standing k m w) answer (standing k' m' w') →
      GoesTo touched p c until (play_at k m) w answer (play_at k' m') w'
  run_alone until k m w ran.Whole k' m' w' number run = record {
    number = run.count;
    goes = (alone run.count (standing k m w) (standing k' m' w') number run.goes).goes;
    counted = counted_here k m k' m' run.count
        (alone run.count (standing k m w) (standing k' m' w') number run.goes).count;
    all = count_here k' m' ∙ run.all;
  }
  run_alone until k m w ran.Done k' m' w' number run = record {
    number = run.count;
    goes = (alone run.count (standing k m w) (standing k' m' w') number run.goes).goes;
    counted = counted_here k m k' m' run.count
        (alone run.count (standing k m w) (standing k' m' w') number run.goes).count;
    below = below_here k' m' until run.below;
    done = ap (λ (i : Contents). is_done (need i (core_at (play_at k' m') c))) (sym image_is)
        ∙ ap (λ (x : Core). is_done (need image x)) (core_here k' m') ∙ run.done;
  }
  run_alone until k m w ran.Refused k' m' w' number run = record {
    number = run.count;
    mid = run.mid.watch;
    goes = subst (λ (x : Outcome). GoesAlone touched p c run.count (play_at k m) w x run.mid.watch)
        (same run.mid.core run.mid.reach (sym run.core) (sym run.refuses.0) (sym run.refuses.1))
        (alone run.count (standing k m w) run.mid number run.goes).goes;
    below = below_here k' m' until (subst (λ (x : Core). x.count < until) (sym run.core) run.below);
  }
    where
      same : (l : Core) (n : NotedMemory) → l ≡ k' → n.memory ≡ m'.memory → n.loads.lists ≡ m'.loads.lists →
          play_at l n ≡ play_at k' m'
      same l n core words loads =
          made-same (slice_set cores c l) (slice_set cores c k') n.memory m'.memory n.loads.lists m'.loads.lists
          (ap (λ (x : Core). slice_set cores c x) core) words loads

  -- it keeps how many words and lists there are
  pub run_keeps : (until : ℕ) (k : Core) (m : NotedMemory) (w : W) (answer : Ran) (k' : Core) (m' : NotedMemory)
      (w' : W) → k.id ≡ c → RunsTo telling refusing image until (standing k m w) answer (standing k' m' w') →
      (length m'.memory ≡ length m.memory) × (length m'.loads.lists ≡ length m.loads.lists)
  run_keeps until k m w ran.Whole k' m' w' number run =
      let a = alone run.count (standing k m w) (standing k' m' w') number run.goes in (a.words, a.lists)
  run_keeps until k m w ran.Done k' m' w' number run =
      let a = alone run.count (standing k m w) (standing k' m' w') number run.goes in (a.words, a.lists)
  run_keeps until k m w ran.Refused k' m' w' number run =
      let a = alone run.count (standing k m w) run.mid number run.goes in (
        ap (λ (l : List ℕ). length l) run.refuses.0 ∙ a.words,
        ap (λ (l : List (List LoadNote)). length l) run.refuses.1 ∙ a.lists,
      )
