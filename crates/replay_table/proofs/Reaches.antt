-- An order that goes on from another with places of one core.
use Rattle.std.proofs.Common.{◌≡◌, ◌≢◌, ℕ, subst, zero, suc, ◌+◌, ◌<◌, ◌≤◌, false, List, [], ◌∷◌, ◌++◌, length}
use Rattle.std.proofs.Common.{replicate, sym, refl, ap, ◌∙◌, arith, append_assoc, append-nil}
use Rattle.std.specs.Prelude.{slice_index}
use Rattle.rtr_types.specs.declared.access.Access.{Access}
use Rattle.rv_core.specs.declared.core_state.Core.{Core}
use Rattle.rv_core.specs.declared.core_state.Need.TheVariants.{Local}
use Rattle.rv_core.specs.declared.outcome.LoadNote.{LoadNote}
use Rattle.rv_core.specs.declared.outcome.Outcome.{Outcome}
use Rattle.rv_core.specs.Steps.{need, after, wrote, is_done}
use Rattle.replay_core.specs.Plans.{Plan}
use Rattle.replay_core.specs.Play.{use_of, old_for, words_after, core_at, loads_at, old_at, need_at}
use Rattle.replay_core.specs.Play.{new_at, place, touched as touched_at, start, Plays, played, accesses_of}
use Rattle.replay_core.specs.Orders.{bump, counts, nought, Sourced, Ready, IsReplayOrder}
use Rattle.replay_core.proofs.Counts.{counts_on, bump_more}
use Rattle.replay_core.proofs.Lists.{play_on, accesses_on, plays_join, ordered_join}
use Rattle.replay_core.proofs.Places.{place_law, play_law}
use Rattle.replay_table.specs.declared.view.Own.{Own}
use Rattle.replay_audit.specs.declared.touch.Touch.{Touch}
use Rattle.replay_audit.proofs.Front.{sourced_more}
use Rattle.replay_table.specs.Accesses.{touched_after, touches_by}
use Rattle.replay_table.specs.Aheads.{Due, Ahead}
use Rattle.replay_table.specs.Kinds.{retired}
use Rattle.replay_table.proofs.Uses.{touches_on, touches_here, touches_else}
use Rattle.replay_table.proofs.Aheads.{ahead_rest}

-- what the play of an order leaves of a core
pub record Leaves (p : Plan) (order : List ℕ) (i : ℕ) (k : Core) (notes : List LoadNote) (ts : List Touch) : Type 0
  where
    pub core : core_at (played p order) i ≡ k
    pub loads : loads_at (played p order) i ≡ notes
    pub touched : touches_by i (accesses_of p order) ≡ ts

-- the other cores are left as another order leaves them
abbrev pub LeavesOthers : Plan → ℕ → List ℕ → List ℕ → Type 0
LeavesOthers p c before order = (i : ℕ) → i ≢ c → Leaves p order i (core_at (played p before) i)
    (loads_at (played p before) i)
    (touches_by i (accesses_of p before))

-- the order goes on from another, to what core c has done by `o` and to these words
pub record Reach (p : Plan) (c : ℕ) (before order : List ℕ) (o : Own) (memory : List ℕ) : Type 0 where
  pub ordered : IsReplayOrder p order
  pub plays : Plays p (start p) order
  pub leaves : Leaves p order c o.core o.loads o.touched
  pub words : (played p order).words ≡ memory
  pub others : LeavesOthers p c before order

-- ---- one place more

one-place : (p : Plan) (order : List ℕ) (c : ℕ) → played p (order ++ c ∷ []) ≡ place p (played p order) c
one-place p order c = play_on p (start p) order (c ∷ [])

touched-here : (p : Plan) (s : Outcome) (c : ℕ) (ts : List Touch) → ts ++ touches_by c (touched_at p s c) ≡
    touched_after (use_of (need_at p s c)) ts c
    ((core_at s c).count + 1)
touched-here p s c ts =
    ap (λ (l : List Access). ts ++ touches_by c l) (place_law p s c).access
    ∙ touches_here (use_of (need_at p s c)) ts c ((core_at s c).count + 1) (old_at p s c) (new_at p s c)

touched-else : (p : Plan) (s : Outcome) (c i : ℕ) → i ≢ c → touches_by i (touched_at p s c) ≡ []
touched-else p s c i ne =
    ap (λ (l : List Access). touches_by i l) (place_law p s c).access
    ∙ touches_else (use_of (need_at p s c)) c i ((core_at s c).count + 1) (old_at p s c) (new_at p s c) ne

one-access : (p : Plan) (order : List ℕ) (c i : ℕ) → touches_by i (accesses_of p (order ++ c ∷ [])) ≡ touches_by i
    (accesses_of p order) ++ touches_by i
    (touched_at p (played p order) c)
one-access p order c i =
    ap (λ (l : List Access). touches_by i l) (accesses_on p (start p) order (c ∷ []))
    ∙ touches_on i (accesses_of p order) (touched_at p (played p order) c ++ [])
    ∙ ap (λ (l : List Access). touches_by i (accesses_of p order) ++ touches_by i l)
    (append-nil (touched_at p (played p order) c))

-- a core that a play leaves is known
pub core_known : (p : Plan) (order : List ℕ) (c : ℕ) (k : Core) → IsReplayOrder p order → c < length p.totals
    → core_at (played p order) c ≡ k
    → (k.id ≡ c) × (counts nought order c ≡ k.count)
core_known p order c k ordered inside is =
    let known = play_law p order ordered in (
      ap (λ (x : Core). x.id) (sym is) ∙ known.numbers c inside,
      ap (λ (f : ℕ → ℕ). f c) (sym known.counts) ∙ ap (λ (x : Core). x.count) is,
    )

-- the value that the core's instruction finds
abbrev pub found_in : Plan → Core → List ℕ → ℕ
found_in p k words = old_for (use_of (need p.image k)) words

due-ready : (p : Plan) (order : List ℕ) (c : ℕ) (k : Core) (f : ℕ → ℕ) → IsReplayOrder p order → c < length p.totals
    → core_at (played p order) c ≡ k
    → Due p f k → ((i : ℕ) → f i ≤ counts nought order i) → Ready p (counts nought order) c
due-ready p order c k f ordered inside is due le =
    let known = core_known p order c k ordered inside is in
    let more : Sourced p.edges (counts nought order) k.id (k.count + 1) = sourced_more p.edges f (counts nought order)
    k.id (k.count + 1) le due.sourced in
    record {
      inside = inside;
      below = let b = due.below in let t = ap (λ (i : ℕ). slice_index p.totals i) known.0 in let n = known.1 in
          omega arith;
      sourced = subst (λ (i : ℕ). Sourced p.edges (counts nought order) i (counts nought order c + 1)) known.0
          (subst (λ (n : ℕ). Sourced p.edges (counts nought order) k.id (n + 1)) (sym known.1) more);
    }

pub reach_one : (p : Plan) (c : ℕ) (before order : List ℕ) (o : Own) (words : List ℕ) (f : ℕ → ℕ)
    → Reach p c before order o words → c < length p.totals → Due p f o.core → is_done (need p.image o.core) ≡ false
    → ((i : ℕ) → f i ≤ counts nought order i)
    → Reach p c before (order ++ c ∷ []) (retired p o o.core (found_in p o.core words))
    (words_after (use_of (need p.image o.core)) words (wrote p.image o.core (found_in p o.core words)))
reach_one p c before order o words f h inside due go le =
    let s = played p order in
    let known = play_law p order h.ordered in
    let c1 : c < length s.cores = let e = known.all_cores in omega arith in
    let c2 : c < length s.loads = let e = known.all_loads in omega arith in
    let one = one-place p order c in
    let at : core_at s c ≡ o.core = h.leaves.core in
    let id : c ≡ o.core.id = sym (core_known p order c o.core h.ordered inside at).0 in
    let law = place_law p s c in
    record {
      ordered = ordered_join p nought order (c ∷ []) h.ordered
          (due-ready p order c o.core f h.ordered inside at due le, tt);
      plays = plays_join p (start p) order (c ∷ []) h.plays (rw at go, tt);
      leaves = record {
        core = ap (λ (x : Outcome). core_at x c) one ∙ law.core c1 ∙ rw (at, h.words) refl;
        loads = ap (λ (x : Outcome). loads_at x c) one ∙ law.loads c2 ∙ rw (at, h.words, h.leaves.loads) refl;
        touched = one-access p order c c ∙ ap (λ (l : List Touch). l ++ touches_by c (touched_at p s c))
            h.leaves.touched ∙ touched-here p s c o.touched
            ∙ rw (at, ← id) refl;
      };
      words = ap (λ (x : Outcome). x.words) one ∙ law.words ∙ rw (at, h.words) refl;
      others = λ i ne. let was = h.others i ne in record {
        core = ap (λ (x : Outcome). core_at x i) one ∙ law.other_cores i ne ∙ was.core;
        loads = ap (λ (x : Outcome). loads_at x i) one ∙ law.other_loads i ne ∙ was.loads;
        touched = one-access p order c i ∙ ap (λ (l : List Touch). touches_by i (accesses_of p order) ++ l)
            (touched-else p s c i ne)
            ∙ append-nil (touches_by i (accesses_of p order)) ∙ was.touched;
      };
    }

-- ---- local instructions

pub more_counts : (order : List ℕ) (c : ℕ) (f : ℕ → ℕ) → ((i : ℕ) → f i ≤ counts nought order i) → (i : ℕ)
    → f i ≤ counts nought (order ++ c ∷ []) i
more_counts order c f le i =
    let a = le i in
    let b : counts nought (order ++ c ∷ []) i ≡ bump (counts nought order) c i = ap (λ (g : ℕ → ℕ). g i)
    (counts_on nought order (c ∷ [])) in
    let d = bump_more (counts nought order) c i in
    omega arith

abbrev pub moved_to : Own → Core → Own
moved_to o at = record o { core = at }

reach-local : (p : Plan) (c : ℕ) (before order : List ℕ) (o : Own) (words : List ℕ) (f : ℕ → ℕ)
    → Reach p c before order o words → c < length p.totals → Due p f o.core → need p.image o.core ≡ Local
    → ((i : ℕ) → f i ≤ counts nought order i)
    → Reach p c before (order ++ c ∷ []) (moved_to o (after p.image o.core 0)) words
reach-local p c before order o words f h inside due is le = rw is at
    (reach_one p c before order o words f h inside due (rw is refl) le)

pub reach_locals : (p : Plan) (c : ℕ) (before : List ℕ) (n : ℕ) (order : List ℕ) (o : Own) (at : Core)
    (words : List ℕ) (f : ℕ → ℕ)
    → Reach p c before order o words → c < length p.totals → Ahead p f n o.core at
    → ((i : ℕ) → f i ≤ counts nought order i)
    → Reach p c before (order ++ replicate n c) (moved_to o at) words
    × ((i : ℕ) → f i ≤ counts nought (order ++ replicate n c) i)
reach_locals p c before zero order o at words f h inside ahead le =
    let e : order ++ [] ≡ order = append-nil order in (
      subst (λ (l : List ℕ). Reach p c before l (moved_to o at) words) (sym e)
          (subst (λ (x : Core). Reach p c before order (moved_to o x) words) ahead h),
      subst (λ (l : List ℕ). (i : ℕ) → f i ≤ counts nought l i) (sym e) le,
    )
reach_locals p c before (suc n) order o at words f h inside ahead le =
    let one = reach-local p c before order o words f h inside ahead.0 ahead.1 le in
    let e : (order ++ c ∷ []) ++ replicate n c ≡ order ++ replicate (suc n) c = append_assoc order (c ∷ [])
    (replicate n c) in
    let rest = reach_locals p c before n (order ++ c ∷ []) (moved_to o (after p.image o.core 0)) at words f one inside
    (ahead_rest p f n o.core at ahead)
    (more_counts order c f le) in (
      subst (λ (l : List ℕ). Reach p c before l (moved_to o at) words) e rest.0,
      subst (λ (l : List ℕ). (i : ℕ) → f i ≤ counts nought l i) e rest.1,
    )

-- ---- the local instructions and the access

pub reach_access : (p : Plan) (c n : ℕ) (order : List ℕ) (o : Own) (at : Core) (words : List ℕ) (f : ℕ → ℕ)
    → Reach p c order order o words → c < length p.totals → Ahead p f n o.core at → Due p f at
    → is_done (need p.image at) ≡ false
    → ((i : ℕ) → f i ≤ counts nought order i)
    → Reach p c order (order ++ (replicate n c ++ c ∷ [])) (retired p o at (found_in p at words))
    (words_after (use_of (need p.image at)) words (wrote p.image at (found_in p at words)))
reach_access p c n order o at words f h inside ahead due go le =
    let locals = reach_locals p c order n order o at words f h inside ahead le in
    subst (λ (l : List ℕ). Reach p c order l (retired p o at (found_in p at words))
    (words_after (use_of (need p.image at)) words (wrote p.image at (found_in p at words))))
    (append_assoc order (replicate n c) (c ∷ []))
    (reach_one p c order (order ++ replicate n c) (moved_to o at) words f locals.0 inside due go locals.1)
