-- A core's run on its own, instruction by instruction.
use Rattle.std.proofs.Common.{inl, inr, ◌≡◌, ◌≢◌, ℕ, zero, suc, ◌+◌, ◌*◌, ◌/◌, ◌%◌, ◌<◌, ◌≤◌, Bool, true, false, cond}
use Rattle.std.proofs.Common.{List, [], ◌∷◌, ◌++◌, length, refl, sym, ap, ◌∙◌, subst, add-one, eq-eqb, ne_eqb}
use Rattle.std.proofs.Common.{length-append}
use Rattle.std.proofs.Common.{arith}
use Rattle.std.specs.Prelude.{slice_index_or, ◌^◌, None, Some}
use Rattle.std.proofs.lemmas.Bool.{cases_lt}
use Rattle.std.proofs.lemmas.List.{get_or_append_left, get_or_push}
use native.Mathlib.Decide.{ℕ_discrete}
use Rattle.image_mem.specs.Contents.{Contents}
use Rattle.rv_core.specs.declared.core_state.Core.{Core}
use Rattle.rv_core.specs.declared.outcome.LoadNote.{LoadNote}
use Rattle.rv_core.specs.Steps.{need}
use Rattle.replay_core.specs.Answers.{UsesWithin}
use Rattle.replay_core.specs.Play.{Use, use_of}
use Rattle.replay_core.proofs.PlaceSteps.{used_within}
use Rattle.cut_index.specs.declared.alone.Alone.{Alone}
use Rattle.cut_index.specs.declared.alone.Next.{Next}
use Rattle.cut_index.specs.declared.runs.Run.{Run}
use Rattle.cut_index.specs.Alone.{alone_after, goes_on, own_read, reads}
use Rattle.cut_index.specs.Touches.{code_of}
use Rattle.cut_index.specs.Runs.{AreMarked, ArePcs, AreUses, IsRun, IsRunTo, marked, next_of}

own_most : (used : Use) (read : ℕ) → own_read used read ≤ read + 1
own_most used read = by (reads used)
  where
    by : (b : Bool) → cond b (read + 1) read ≤ read + 1
    by true = omega arith
    by false = omega arith

-- each access is of a word that fits
pub uses_fit : (image : Contents) (core : Core) (used : Use) → used ≡ use_of (need image core) → image.words ≤ 2 ^ 30 →
    UsesWithin used (2 ^ 30)
uses_fit image core None is few = tt
uses_fit image core (Some used) is few =
    let within = used_within image core (Some used) image.words is refl in omega arith

module _ (image : Contents) (loads : List LoadNote) (first : Alone) where
  -- no more loads than instructions
  pub read_most : (count : ℕ) → (alone_after image loads first count).read ≤ first.read + count
  read_most zero = omega arith
  read_most (suc count) =
      let so_far = read_most count in
      let a : Alone = alone_after image loads first count in
      let one = own_most (use_of (need image a.core)) a.read in
      omega arith

  one_more : (count : ℕ) → goes_on image loads (alone_after image loads first count)
      ≡ alone_after image loads first (count + 1)
  one_more count = ap (λ (n : ℕ). alone_after image loads first n) (sym (add-one count))

  pub run_first : (run : Run) → run.pcs ≡ [] → run.uses ≡ [] → run.marks ≡ first ∷ [] →
      IsRunTo image loads first 0 run first
  run_first run pcs uses marks = record {
    is_run = record {
      pcs = record { all = ap (λ (l : List ℕ). length l) pcs; each = λ count lt. absurd (omega arith) };
      uses = record { all = ap (λ (l : List ℕ). length l) uses; each = λ count lt. absurd (omega arith) };
      marked = record {
        all = ap (λ (l : List Alone). length l) marks;
        each = λ k d lt.
            let one : length run.marks ≡ 1 = ap (λ (l : List Alone). length l) marks in
            let none : k ≡ 0 = omega arith in
            subst (λ (n : ℕ). slice_index_or run.marks n d ≡ alone_after image loads first (n * 1024)) (sym none)
            (ap (λ (l : List Alone). slice_index_or l 0 d) marks);
      };
    };
    here = refl;
  }

  -- what comes next is noted: its address, and its access
  pcs_on : (count : ℕ) (pcs : List ℕ) (pc : ℕ) → ArePcs image loads first count pcs →
      pc ≡ (next_of image (alone_after image loads first count).core).pc →
      ArePcs image loads first (count + 1) (pcs ++ pc ∷ [])
  pcs_on count pcs pc h is = record {
    all = let old = h.all in length-append pcs (pc ∷ []) ∙ ap (λ (n : ℕ). n + 1) old;
    each = λ k lt. elim (cases_lt k count) [
      | inl below ↦ get_or_append_left pcs (pc ∷ []) 0 k (let old = h.all in omega arith) ∙ h.each k below
      | inr past ↦
          let here : k ≡ count = omega arith in
          get_or_push pcs pc 0 k (h.all ∙ sym here) ∙ is
          ∙ ap (λ (n : ℕ). (next_of image (alone_after image loads first n).core).pc) (sym here)
    ];
  }

  uses_on : (count : ℕ) (uses : List ℕ) (code : ℕ) → AreUses image loads first count uses →
      code ≡ code_of (next_of image (alone_after image loads first count).core).used →
      AreUses image loads first (count + 1) (uses ++ code ∷ [])
  uses_on count uses code h is = record {
    all = let old = h.all in length-append uses (code ∷ []) ∙ ap (λ (n : ℕ). n + 1) old;
    each = λ k lt. elim (cases_lt k count) [
      | inl below ↦ get_or_append_left uses (code ∷ []) 0 k (let old = h.all in omega arith) ∙ h.each k below
      | inr past ↦
          let here : k ≡ count = omega arith in
          get_or_push uses code 0 k (h.all ∙ sym here) ∙ is
          ∙ ap (λ (n : ℕ). code_of (next_of image (alone_after image loads first n).core).used) (sym here)
    ];
  }

  -- a snapshot is taken, or not
  marked_on : (count : ℕ) (marks : List Alone) (alone : Alone) → AreMarked image loads first count marks →
      alone ≡ alone_after image loads first (count + 1) →
      AreMarked image loads first (count + 1) (marked marks (count + 1) alone)
  marked_on count marks alone h is = elim (ℕ_discrete ((count + 1) % 1024) 0) [
    | yes whole ↦ rw (eq-eqb ((count + 1) % 1024) 0 whole) (more whole)
    | no part ↦ rw (ne_eqb ((count + 1) % 1024) 0 part) (record {
      all = let old = h.all in omega arith;
      each = h.each;
    })
  ]
    where
      more : (count + 1) % 1024 ≡ 0 → AreMarked image loads first (count + 1) (marks ++ alone ∷ [])
      more whole = record {
        all = let old = h.all in let len = length-append marks (alone ∷ []) in omega arith;
        each = λ k d lt. elim (cases_lt k (length marks)) [
          | inl below ↦ get_or_append_left marks (alone ∷ []) d k below ∙ h.each k d below
          | inr past ↦
              let len : length (marks ++ alone ∷ []) ≡ length marks + 1 = length-append marks (alone ∷ []) in
              let here : length marks ≡ k = omega arith in
              let old = h.all in
              let there : count + 1 ≡ k * 1024 = omega arith in
              get_or_push marks alone d k here ∙ is ∙ ap (λ (n : ℕ). alone_after image loads first n) there
        ];
      }

  pub run_on : (count : ℕ) (run new : Run) (alone after : Alone) (next : Next) →
      IsRunTo image loads first count run alone →
      next ≡ next_of image alone.core → after ≡ goes_on image loads alone → new.pcs ≡ run.pcs ++ next.pc ∷ [] →
      new.uses ≡ run.uses ++ code_of next.used ∷ [] → new.marks ≡ marked run.marks (count + 1) after → IsRunTo image loads first (count + 1) new after
  run_on count run new alone after next h next_is after_is pcs uses marks =
      let here : after ≡ alone_after image loads first (count + 1) =
      after_is ∙ ap (λ (a : Alone). goes_on image loads a) h.here ∙ one_more count in
      let there : next ≡ next_of image (alone_after image loads first count).core =
      next_is ∙ ap (λ (a : Alone). next_of image a.core) h.here in
      record {
        is_run = record {
          pcs = subst (λ (l : List ℕ). ArePcs image loads first (count + 1) l) (sym pcs)
              (pcs_on count run.pcs next.pc h.is_run.pcs (ap (λ (n : Next). n.pc) there));
          uses = subst (λ (l : List ℕ). AreUses image loads first (count + 1) l) (sym uses)
              (uses_on count run.uses (code_of next.used) h.is_run.uses
              (ap (λ (n : Next). code_of n.used) there));
          marked = subst (λ (l : List Alone). AreMarked image loads first (count + 1) l) (sym marks)
              (marked_on count run.marks after h.is_run.marked here);
        };
        here = here;
      }

  -- from the last snapshot before
  pub from_mark : (total : ℕ) (run : Run) (count : ℕ) (d : Alone) → IsRun image loads first total run → count ≤ total →
      slice_index_or run.marks (count / 1024) d ≡ alone_after image loads first (count / 1024 * 1024)
  from_mark total run count d h le = h.marked.each (count / 1024) d (let all = h.marked.all in omega arith)

  pub further : (count : ℕ) (alone after : Alone) → alone ≡ alone_after image loads first count →
      after ≡ goes_on image loads alone → after ≡ alone_after image loads first (count + 1)
  further count alone after here is = is ∙ ap (λ (a : Alone). goes_on image loads a) here ∙ one_more count
