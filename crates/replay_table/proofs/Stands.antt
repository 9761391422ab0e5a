-- The orders that stand after a step.
use Rattle.std.proofs.Common.{◌≡◌, ◌≢◌, ℕ, subst, ◌+◌, ◌<◌, ◌≤◌, eq-eqb, ne_eqb, ⊎_elim, Bool, true, false, List, []}
use Rattle.std.proofs.Common.{◌∷◌, ◌++◌, length, set, sym, refl, ap, ◌∙◌, arith}
use Rattle.std.specs.Prelude.{slice_index, None}
use mathlib.Core.Option.{some}
use lib.ListN.{get_elem?}
use native.Mathlib.Decide.{dec_lt}
use Rattle.atomic_table.specs.Table.{State}
use Rattle.rv_core.specs.declared.core_state.Core.{Core}
use Rattle.rv_core.specs.Steps.{need, wrote}
use Rattle.replay_core.specs.Plans.{Plan}
use Rattle.replay_core.specs.Play.{Use, use_of, old_for, words_after, core_at, loads_at, played, accesses_of}
use Rattle.replay_core.specs.Orders.{counts, nought, IsReplayOrder}
use Rattle.replay_core.proofs.Counts.{counts_on, counts_more}
use Rattle.replay_core.proofs.Places.{play_law}
use Rattle.replay_table.specs.declared.view.Own.{Own}
use Rattle.replay_table.specs.declared.view.View.{View}
use Rattle.replay_table.specs.Accesses.{Accesses, Changes, Loads, Stores, touches_by}
use Rattle.replay_table.specs.Aheads.{Ahead}
use Rattle.replay_table.specs.Rule.{Owns, seen_of, Agrees, OrderStands, Next, Reached}
use Rattle.replay_table.specs.Kinds.{retired, alone_with, exchanged}
use Rattle.replay_table.specs.Laws.{At, local_piece, piece, LoadLaw, StoreLaw, ExchangeLaw, PublishLaw, SeeLaw}
use Rattle.replay_table.specs.Laws.{HoldLaw, FailLaw}
use Rattle.replay_table.proofs.Uses.{going, word_within, words_left, words_written, whole_wrote, whole_retired}
use Rattle.replay_table.proofs.Reaches.{Leaves, LeavesOthers, Reach, core_known, found_in, moved_to, reach_locals}
use Rattle.replay_table.proofs.Reaches.{reach_access}
use Rattle.replay_table.proofs.RuleSteps.{owns_set, owns_kept, owns_here}
use Rattle.replay_table.proofs.Words.{beyond, index_set_else, index_both}

-- ---- what the play leaves of a core is what the view says

agrees-by : (p : Plan) (order : List ℕ) (c : ℕ) (o : Own) → IsReplayOrder p order → c < length p.totals
    → Leaves p order c o.core o.loads o.touched
    → Agrees p order o
agrees-by p order c o ordered inside leaves =
    let known = core_known p order c o.core ordered inside leaves.core in record {
      count = ap (λ (i : ℕ). counts nought order i) known.0 ∙ known.1;
      core = ap (λ (i : ℕ). core_at (played p order) i) known.0 ∙ leaves.core;
      loads = ap (λ (i : ℕ). loads_at (played p order) i) known.0 ∙ leaves.loads;
      touched = ap (λ (i : ℕ). touches_by i (accesses_of p order)) known.0 ∙ leaves.touched;
    }

agrees-still : (p : Plan) (c : ℕ) (before order : List ℕ) (x : Own) → IsReplayOrder p order → x.core.id < length
    p.totals → x.core.id ≢ c
    → LeavesOthers p c before order → Agrees p before x → Agrees p order x
agrees-still p c before order x ordered inside ne others was =
    let still = others x.core.id ne in
    agrees-by p order x.core.id x ordered inside (record {
      core = still.core ∙ was.core;
      loads = still.loads ∙ was.loads;
      touched = still.touched
          ∙ was.touched;
    })

pub owns_first : (s : State ℕ View) (id : ℕ) (v : View) (o : Own) → get_elem? s.views id ≡ some v → v.owned ≡ o ∷ []
    → Owns s.views id 0 o
owns_first s id v o here own = (v, here, subst (λ (l : List Own). get_elem? l 0 ≡ some o) (sym own) refl)

-- an order that goes on from one that stood stands afterwards
pub stands_step : (p : Plan) (s : State ℕ View) (id : ℕ) (v w : View) (o o' : Own) (before order : List ℕ)
    (memory words' : List ℕ)
    → At p s id v before → v.owned ≡ o ∷ [] → w.owned ≡ o' ∷ [] → Reach p o.core.id before order o' memory
    → ((i : ℕ) → i < p.image.words → slice_index words' i ≡ slice_index memory i)
    → OrderStands p words' (set s.views id w) order
stands_step p s id v w o o' before order memory words' h own own' reach same =
    let mine = owns_first s id v o h.view own in
    let inside = h.rule.inside id 0 o mine in record {
      ordered = reach.ordered;
      plays = reach.plays;
      cores = λ j k x ow. ⊎_elim
          (λ t. subst (λ (y : Own). Agrees p order y) (sym t.2)
          (agrees-by p order o.core.id o' reach.ordered inside reach.leaves))
          (λ t. let ne : x.core.id ≢ o.core.id = λ q. t.0 (h.rule.alone j k x id 0 o t.1 mine q).0 in
          agrees-still p o.core.id before order x reach.ordered (h.rule.inside j k x t.1) ne reach.others
          (h.stands.cores j k x t.1))
          (owns_set s.views id w o' own' j k x ow);
      memory = λ i lt. same i lt ∙ ap (λ (l : List ℕ). slice_index l i) (sym reach.words);
    }

-- ---- the piece

-- what was seen of a core lies within its places in the order
pub seen_counts : (p : Plan) (s : State ℕ View) (id : ℕ) (v : View) (order : List ℕ) → At p s id v order → (i : ℕ)
    → seen_of v i ≤ counts nought order i
seen_counts p s id v order h i =
    let most = h.rule.seen id v h.view i in
    elim (dec_lt i (length p.totals)) [
      | yes lt ↦
          let b = h.rule.one i lt in let d = h.rule.done b.0 b.1 b.2 b.3 in let g = h.stands.cores b.0 b.1 b.2 b.3 in
          let e1 : slice_index s.words (p.image.words + i) ≡ b.2.published
          = ap (λ (x : ℕ). slice_index s.words (p.image.words + x)) (sym b.4) ∙ d.0 in
          let e2 : counts nought order i ≡ b.2.core.count = ap (λ (x : ℕ). counts nought order x) (sym b.4) ∙ g.count in
          let e3 = d.1 in omega arith
      | no n ↦
          let w = h.rule.wide in
          let z : slice_index s.words (p.image.words + i) ≡ 0 = beyond s.words (p.image.words + i) (omega arith) in
          omega arith
    ]

reach-start : (p : Plan) (s : State ℕ View) (id : ℕ) (v : View) (order : List ℕ) (o : Own) → At p s id v order
    → v.owned ≡ o ∷ []
    → Reach p o.core.id order order o (played p order).words
reach-start p s id v order o h own =
    let g = h.stands.cores id 0 o (owns_first s id v o h.view own) in record {
      ordered = h.stands.ordered;
      plays = h.stands.plays;
      leaves = record { core = g.core; loads = g.loads; touched = g.touched };
      words = refl;
      others = λ i ne. record { core = refl; loads = refl; touched = refl };
    }

-- the local instructions of the view's core
pub reach_piece : (p : Plan) (s : State ℕ View) (id : ℕ) (v : View) (order : List ℕ) (o : Own) (at : Core) (n : ℕ)
    → At p s id v order → v.owned ≡ o ∷ []
    → Ahead p (seen_of v) n o.core at
    → Reach p o.core.id order (order ++ local_piece o n) (moved_to o at) (played p order).words
reach_piece p s id v order o at n h own ahead =
    (reach_locals p o.core.id order n order o at (played p order).words (seen_of v) (reach-start p s id v order o h own)
    (h.rule.inside id 0 o (owns_first s id v o h.view own)) ahead (seen_counts p s id v order h)).0

-- the value that its access finds is the word's
found-is : (p : Plan) (s : State ℕ View) (id : ℕ) (v : View) (order : List ℕ) (at : Core) (word : ℕ)
    (writes whole : Bool) → At p s id v order
    → Accesses (need p.image at) word writes whole
    → found_in p at (played p order).words ≡ slice_index s.words word
found-is p s id v order at word writes whole h a = ap (λ (u : Use). old_for u (played p order).words) a.used
    ∙ sym (h.stands.memory word (word_within p.image at word writes whole a))

-- and its access
pub reach_next : (p : Plan) (s : State ℕ View) (id : ℕ) (v : View) (order : List ℕ) (o : Own) (at : Core) (word : ℕ)
    (writes whole : Bool)
    → At p s id v order → (n : Next p v o at) → Accesses (need p.image at) word writes whole
    → Reach p o.core.id order (order ++ piece o n.locals) (retired p o at (slice_index s.words word))
    (words_after (use_of (need p.image at)) (played p order).words (wrote p.image at (slice_index s.words word)))
reach_next p s id v order o at word writes whole h n a =
    subst (λ (x : ℕ). Reach p o.core.id order (order ++ piece o n.locals) (retired p o at x)
    (words_after (use_of (need p.image at)) (played p order).words (wrote p.image at x)))
    (found-is p s id v order at word writes whole h a)
    (reach_access p o.core.id n.locals order o at (played p order).words (seen_of v)
    (reach-start p s id v order o h n.owned)
    (h.rule.inside id 0 o (owns_first s id v o h.view n.owned)) n.ahead n.due
    (going (need p.image at) word writes whole a) (seen_counts p s id v order h))

-- ---- the laws

owned-of : (v w : View) (o : Own) → w ≡ alone_with o v → w.owned ≡ o ∷ []
owned-of v w o e = ap (λ (x : View). x.owned) e

-- a load of the word that is there
pub loaded_stands : (p : Plan) (s : State ℕ View) (id : ℕ) (v w : View) (order : List ℕ) (word : ℕ) (o : Own)
    (at : Core) → At p s id v order
    → (n : Next p v o at) → Loads (need p.image at) word → w.owned ≡ retired p o at (slice_index s.words word) ∷ []
    → OrderStands p s.words (set s.views id w) (order ++ piece o n.locals)
loaded_stands p s id v w order word o at h n a own' =
    let found = slice_index s.words word in
    stands_step p s id v w o (retired p o at found) order (order ++ piece o n.locals)
    (words_after (use_of (need p.image at)) (played p order).words (wrote p.image at found)) s.words h n.owned own'
    (reach_next p s id v order o at word false false h n a)
    (λ i lt. h.stands.memory i lt ∙ ap (λ (l : List ℕ). slice_index l i)
    (sym (words_left (need p.image at) word false (played p order).words (wrote p.image at found) a)))

pub load_law : LoadLaw
load_law p s id v w order word h step =
    loaded_stands p s id v w order word step.own step.at h step.next step.access
    (owned-of v w (retired p step.own step.at (slice_index s.words word))
    step.view)

-- so an order plays to what the view owns afterwards, and has what was seen
pub reached_by : (p : Plan) (s : State ℕ View) (id : ℕ) (v w : View) (words' order more : List ℕ) (o' : Own)
    → At p s id v order → w.owned ≡ o' ∷ []
    → OrderStands p words' (set s.views id w) (order ++ more)
    → Reached p (seen_of v) o'
reached_by p s id v w words' order more o' h own' st = record {
  order = order ++ more;
  ordered = st.ordered;
  plays = st.plays;
  agrees = st.cores id 0 o' (owns_here s.views id v w o' h.view own');
  seen = λ i.
      let a = seen_counts p s id v order h i in
      let b : counts nought (order ++ more) i ≡ counts (counts nought order) more i = ap (λ (g : ℕ → ℕ). g i)
      (counts_on nought order more) in
      let d = counts_more (counts nought order) more i in
      omega arith;
}

pub load_reached : (p : Plan) (s : State ℕ View) (id : ℕ) (v w : View) (order : List ℕ) (word : ℕ) (o : Own)
    (at : Core) → At p s id v order
    → (n : Next p v o at) → Loads (need p.image at) word → w.owned ≡ retired p o at (slice_index s.words word) ∷ []
    → Reached p (seen_of v) (retired p o at (slice_index s.words word))
load_reached p s id v w order word o at h n a own' =
    reached_by p s id v w s.words order (piece o n.locals) (retired p o at (slice_index s.words word)) h own'
    (loaded_stands p s id v w order word o at h n a own')

-- the memory after a word was written
pub written_same : (p : Plan) (s : State ℕ View) (id : ℕ) (v : View) (order : List ℕ) (at : Core) (word new value : ℕ)
    (whole : Bool) → At p s id v order
    → Accesses (need p.image at) word true whole → new ≡ value
    → (i : ℕ) → i < p.image.words → slice_index (set s.words word new) i ≡ slice_index
    (words_after (use_of (need p.image at)) (played p order).words value) i
written_same p s id v order at word new value whole h a is i lt =
    let all = (play_law p order h.stands.ordered).all_words in
    let wide = h.rule.wide in
    let within = word_within p.image at word true whole a in
    index_both s.words (played p order).words word i new value is (omega arith) (omega arith) (h.stands.memory i lt)
    ∙ ap (λ (l : List ℕ). slice_index l i)
    (sym (words_written (need p.image at) word whole (played p order).words value a))

-- a store of a whole word
pub stored_stands : (p : Plan) (s : State ℕ View) (id : ℕ) (v w : View) (order : List ℕ) (word new : ℕ) (o : Own)
    (at : Core) → At p s id v order
    → (n : Next p v o at) → Stores (need p.image at) word → new ≡ wrote p.image at 0 → w.owned ≡ retired p o at 0 ∷ []
    → OrderStands p (set s.words word new) (set s.views id w) (order ++ piece o n.locals)
stored_stands p s id v w order word new o at h n a new_is own' =
    let found = slice_index s.words word in
    stands_step p s id v w o (retired p o at 0) order (order ++ piece o n.locals)
    (words_after (use_of (need p.image at)) (played p order).words (wrote p.image at found)) (set s.words word new) h
    n.owned own'
    (subst (λ (x : Own). Reach p o.core.id order (order ++ piece o n.locals) x
    (words_after (use_of (need p.image at)) (played p order).words
    (wrote p.image at found)))
    (whole_retired p o at word found 0 a) (reach_next p s id v order o at word true true h n a))
    (written_same p s id v order at word new (wrote p.image at found) true h a
    (new_is ∙ whole_wrote p.image at word 0 found a))

pub store_law : StoreLaw
store_law p s id v w order word new h step =
    stored_stands p s id v w order word new step.own step.at h step.next step.access step.new_is
    (owned-of v w (retired p step.own step.at 0) step.view)

-- an exchange of the word that is there
pub changed_stands : (p : Plan) (s : State ℕ View) (id : ℕ) (v w : View) (order : List ℕ) (word old new : ℕ) (o : Own)
    (at : Core) → At p s id v order
    → slice_index s.words word ≡ old
    → (n : Next p v o at) → Changes (need p.image at) word → new ≡ wrote p.image at old → w.owned ≡ retired p o at old
    ∷ []
    → OrderStands p (set s.words word new) (set s.views id w) (order ++ piece o n.locals)
changed_stands p s id v w order word old new o at h was n a new_is own' =
    stands_step p s id v w o (retired p o at old) order (order ++ piece o n.locals)
    (words_after (use_of (need p.image at)) (played p order).words (wrote p.image at old)) (set s.words word new) h
    n.owned own'
    (subst (λ (x : ℕ). Reach p o.core.id order (order ++ piece o n.locals) (retired p o at x)
    (words_after (use_of (need p.image at)) (played p order).words (wrote p.image at x))) was
    (reach_next p s id v order o at word true false h n a))
    (written_same p s id v order at word new (wrote p.image at old) false h a new_is)

-- a publication
pub published_stands : (p : Plan) (s : State ℕ View) (id : ℕ) (v w : View) (order : List ℕ) (word new n : ℕ) (o : Own)
    (at : Core) → At p s id v order
    → v.owned ≡ o ∷ [] → Ahead p (seen_of v) n o.core at → word ≡ p.image.words + at.id → w.owned ≡ record o
    { core = at; published = new } ∷ []
    → OrderStands p (set s.words word new) (set s.views id w) (order ++ local_piece o n)
published_stands p s id v w order word new n o at h own ahead word_is own' =
    stands_step p s id v w o (record o { core = at; published = new }) order (order ++ local_piece o n)
    (played p order).words (set s.words word new) h own own'
    (let m = reach_piece p s id v order o at n h own ahead in
    record {
      ordered = m.ordered;
      plays = m.plays;
      leaves = record { core = m.leaves.core; loads = m.leaves.loads; touched = m.leaves.touched };
      words
          = m.words;
      others = m.others;
    })
    (λ i lt. index_set_else s.words word i new (λ q. omega arith) ∙ h.stands.memory i lt)

pub publish_law : PublishLaw
publish_law p s id v w order word new h step =
    published_stands p s id v w order word new step.locals step.own step.at h step.owned step.ahead step.word_is
    (owned-of v w (record step.own { core = step.at; published = new }) step.view)

-- a step that changes neither words nor what is owned
pub stands_still : (p : Plan) (s : State ℕ View) (id : ℕ) (v w : View) (order : List ℕ) → At p s id v order
    → w.owned ≡ v.owned
    → OrderStands p s.words (set s.views id w) order
stands_still p s id v w order h own = record {
  ordered = h.stands.ordered;
  plays = h.stands.plays;
  cores = λ j k x ow. h.stands.cores j k x (owns_kept s.views id v w h.view own j k x ow);
  memory = h.stands.memory;
}

pub see_law : SeeLaw
see_law p s id v w order word found h step = stands_still p s id v w order h (ap (λ (x : View). x.owned) step.view)

pub hold_law : HoldLaw
hold_law p s id v w order word found h step = stands_still p s id v w order h (ap (λ (x : View). x.owned) step.view)

-- what an exchange leaves, by whether it found the held word
pub exchange_hit : (p : Plan) (v w : View) (o : Own) (at : Core) (old found : ℕ) → w ≡ exchanged p v o at old found
    → found ≡ old
    → w ≡ record (alone_with (retired p o at old) v) { held = None }
exchange_hit p v w o at old found e hit = e ∙ rw (eq-eqb found old hit) refl

pub exchange_miss : (p : Plan) (v w : View) (o : Own) (at : Core) (old found : ℕ) → w ≡ exchanged p v o at old found
    → found ≢ old
    → w ≡ record v { held = None; failed = v.failed + 1 }
exchange_miss p v w o at old found e miss = e ∙ rw (ne_eqb found old miss) refl

pub exchange_law : ExchangeLaw
exchange_law p s id v w order word old new h was step =
    changed_stands p s id v w order word old new step.own step.at h was step.next step.access step.new_is
    (ap (λ (x : View). x.owned) (exchange_hit p v w step.own step.at old old step.view refl))

pub fail_law : FailLaw
fail_law p s id v w order word old new found h miss step =
    stands_still p s id v w order h
    (ap (λ (x : View). x.owned) (exchange_miss p v w step.own step.at old found step.view miss))
