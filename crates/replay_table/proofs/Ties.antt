-- What ties a seat to its view, step by step.
use Rattle.std.proofs.Common.{◌≡◌, ◌≢◌, ℕ, subst, suc, ◌+◌, ◌<◌, ◌≤◌, true, false, Bool, List, [], ◌∷◌, length, set}
use Rattle.std.proofs.Common.{sym, refl, ap, ◌∙◌, arith, length-set}
use Rattle.std.specs.Prelude.{Option, Some, None, slice_index}
use Rattle.std.proofs.lemmas.Option.{none-some}
use Rattle.std.proofs.lemmas.Bool.{true≢false}
use Rattle.rv_core.specs.declared.core_state.Core.{Core}
use Rattle.rv_core.specs.declared.core_state.Need.{Need}
use Rattle.rv_core.specs.declared.core_state.Need.TheVariants.{Local, Load, Store, Amo, Done}
use Rattle.rv_core.specs.Needs.{is_writing}
use Rattle.rv_core.specs.Steps.{need, after, is_whole}
use Rattle.rv_core.specs.declared.outcome.LoadNote.{LoadNote}
use Rattle.rv_core.proofs.LawLemmas.{count_law, number_law}
use Rattle.replay_core.specs.Plans.{Plan}
use Rattle.replay_core.specs.Play.{use_of, loads_after}
use Rattle.replay_table.specs.declared.view.Own.{Own}
use Rattle.replay_audit.specs.declared.touch.Touch.{Touch}
use Rattle.replay_table.specs.declared.view.View.{View}
use Rattle.replay_table.specs.Accesses.{Accesses, Loads, Stores, Changes, touched_after, is_load, is_change, word_of}
use Rattle.replay_table.specs.Aheads.{Due, Ahead}
use Rattle.replay_table.specs.Rule.{seen_of, Next}
use Rattle.replay_table.specs.Kinds.{retired, polled, SeesDone, LoadsWord, HoldsWord, StoresWord, ExchangesWord}
use Rattle.replay_table.specs.Kinds.{PublishesCount}
use Rattle.replay_table.specs.Told.{ToldDone}
use Rattle.replay_table.specs.Seats.{Past, Notes, Tied, AwaitsChange}
use Rattle.replay_table.proofs.Uses.{not_local, one_access}
use Rattle.replay_table.proofs.Aheads.{ahead_same, ahead_one, own_same, ahead_equal, ahead_more, due_more, set_rises}
use Rattle.replay_table.proofs.Stands.{exchange_hit, exchange_miss}
use Rattle.replay_table.proofs.Words.{index_set}

-- ---- the tests

pub load_is : (n : Need) → is_load n ≡ true → Loads n (word_of n)
load_is Local t = absurd (cc)
load_is (Load w) t = record { kind = _; used = refl; writes_is = refl; whole_is = refl }
load_is (Store w b) t = absurd (cc)
load_is (Amo w) t = absurd (cc)
load_is (Done stop) t = absurd (cc)

pub write_is : (n : Need) (whole : Bool) → is_writing n ≡ true → is_whole n ≡ whole → Accesses n (word_of n) true whole
write_is Local whole t e = absurd (cc)
write_is (Load w) whole t e = absurd (cc)
write_is (Store w b) whole t e = record { kind = _; used = refl; writes_is = refl; whole_is = e }
write_is (Amo w) whole t e = record { kind = _; used = refl; writes_is = refl; whole_is = e }
write_is (Done stop) whole t e = absurd (cc)

pub change_parts : (n : Need) → is_change n ≡ true → (is_writing n ≡ true) × (is_whole n ≡ false)
change_parts Local t = absurd (cc)
change_parts (Load w) t = absurd (cc)
change_parts (Store w true) t = absurd (cc)
change_parts (Store w false) t = (refl, refl)
change_parts (Amo w) t = (refl, refl)
change_parts (Done stop) t = absurd (cc)

pub change_is : (n : Need) → is_change n ≡ true → Changes n (word_of n)
change_is n t = let c = change_parts n t in write_is n false c.0 c.1

-- ---- what a seat holds

-- a seat at an access that doesn't go by a held word holds none
load-free : (p : Plan) (f : ℕ → ℕ) (k : Core) (word : ℕ) → Loads (need p.image k) word → AwaitsChange p f k → ⊥
load-free p f k word a h = true≢false (one_access (need p.image k) h.word word true false false false h.access
    a).writes_is

store-free : (p : Plan) (f : ℕ → ℕ) (k : Core) (word : ℕ) → Stores (need p.image k) word → AwaitsChange p f k → ⊥
store-free p f k word a h = true≢false
    (sym (one_access (need p.image k) h.word word true true false true h.access a).whole_is)

awaits-by : (p : Plan) (k : Core) (v w : View) → w.seen ≡ v.seen → AwaitsChange p (seen_of v) k
    → AwaitsChange p (seen_of w) k
awaits-by p k v w seen h = subst (λ (l : List ℕ). AwaitsChange p (λ i. slice_index l i) k) (sym seen) h

-- ---- the way ahead

within-after : (p : Plan) (f : ℕ → ℕ) (at : Core) (old : ℕ) → Due p f at → (after p.image at old).count ≤ slice_index
    p.totals (after p.image at old).id
within-after p f at old due =
    let a = count_law p.image at old in let i = ap (λ (x : ℕ). slice_index p.totals x) (number_law p.image at old) in
    let d = due.below in omega arith

pub next_is : (p : Plan) (past : Past) (sees : List ℕ) (holds : Option ℕ) (v : View) → (t : Tied p past sees holds v)
    → Due p (seen_of v) past.core
    → Next p v t.own past.core
next_is p past sees holds v t due = record { owned = t.owned; locals = t.locals; ahead = t.ahead; due = due }

-- a seat's core that has gone on by a local instruction
pub local_ties : (p : Plan) (past new : Past) (sees : List ℕ) (holds : Option ℕ) (v : View) → Tied p past sees holds v
    → Due p (seen_of v) past.core
    → need p.image past.core ≡ Local
    → new.core ≡ after p.image past.core 0 → new.loads ≡ past.loads → new.touched ≡ past.touched
    → Tied p new sees holds v
local_ties p past new sees holds v t due is core loads touched = record {
  own = t.own;
  owned = t.owned;
  locals = suc t.locals;
  ahead = subst (λ (x : Core). Ahead p (seen_of v) (suc t.locals) t.own.core x) (sym core)
      (ahead_one p (seen_of v) t.locals t.own.core past.core t.ahead
      due is);
  loads_is = loads ∙ t.loads_is;
  touched_is = touched ∙ t.touched_is;
  sees_is = t.sees_is;
  holds_is = t.holds_is;
  wide = t.wide;
  inside = let e = number_law p.image past.core 0 in let c = ap (λ (x : Core). x.id) core in let i = t.inside in
      omega arith;
  within = subst (λ (x : Core). x.count ≤ slice_index p.totals x.id) (sym core)
      (within-after p (seen_of v) past.core 0 due);
  all_polls = t.all_polls;
  holding = λ value e. let x = t.holding value e in
      absurd (not_local (need p.image past.core) x.word true false x.access is);
}

-- the next access of the view is that of the seat's core
pub at_same : (p : Plan) (past : Past) (sees : List ℕ) (holds : Option ℕ) (v : View) (o : Own) (at : Core) (word : ℕ)
    (writes whole writes' whole' : Bool)
    (word' : ℕ) → (t : Tied p past sees holds v) → Next p v o at → Accesses (need p.image at) word writes whole
    → Accesses (need p.image past.core) word' writes' whole' → (t.own ≡ o) × (at ≡ past.core)
at_same p past sees holds v o at word writes whole writes' whole' word' t n a b =
    let e : t.own ≡ o = own_same v t.own o t.owned n.owned in
    let ah : Ahead p (seen_of v) t.locals o.core past.core = subst
    (λ (x : Own). Ahead p (seen_of v) t.locals x.core past.core) e t.ahead in (
      e,
      ahead_same p (seen_of v) (seen_of v) n.locals t.locals o.core at past.core n.ahead ah
          (not_local (need p.image at) word writes whole a)
          (not_local (need p.image past.core) word' writes' whole' b),
    )

-- a seat that has retired its access
pub access_ties : (plan : Plan) (past new : Past) (sees : List ℕ) (holds holds' : Option ℕ) (view left : View)
    (one : Own)
    (at : Core) (word word' old : ℕ)
    (writes whole writes' whole' : Bool) → Tied plan past sees holds view → Next plan view one at →
    Accesses (need plan.image at) word
    writes whole
    → Accesses (need plan.image past.core) word' writes' whole' → Due plan (seen_of view) past.core
    → Notes past (after plan.image past.core old) (use_of (need plan.image past.core)) old new
    → left.owned ≡ retired plan one at old ∷ [] → left.seen ≡ view.seen → left.polls ≡ view.polls → left.held ≡ holds'
    → ((value : ℕ) → holds' ≡ Some value → ⊥)
    → Tied plan new sees holds' left
access_ties plan past new sees holds holds' view left one at word word' old writes whole writes' whole' tied next a b
    due notes own
    seen polls held free =
    let e = at_same plan past sees holds view one at word writes whole writes' whole' word' tied next a b in
    let k = past.core in
    let u = use_of (need plan.image k) in
    let count = count_law plan.image k old in
    let id = number_law plan.image k old in
    let now : left.owned ≡ retired plan one k old ∷ [] =
    subst (λ (x : Core). left.owned ≡ retired plan one x old ∷ []) e.1 own in
    record {
      own = retired plan one k old;
      owned = now;
      locals = 0;
      ahead = sym notes.core;
      loads_is = notes.loads ∙ ap (λ (l : List LoadNote). loads_after u l (after plan.image k old).count old)
          (tied.loads_is ∙ ap (λ (x : Own). x.loads) e.0)
          ∙ ap (λ (m : ℕ). loads_after u one.loads m old) count;
      touched_is = notes.touched
          ∙ ap (λ (l : List Touch). touched_after u l (after plan.image k old).id (after plan.image k old).count)
          (tied.touched_is
          ∙ ap (λ (x : Own). x.touched) e.0)
          ∙ ap (λ (i : ℕ). touched_after u one.touched i (after plan.image k old).count)
          id
          ∙ ap (λ (m : ℕ). touched_after u one.touched k.id m) count;
      sees_is = seen ∙ tied.sees_is;
      holds_is = held;
      wide = tied.wide;
      inside = let c = ap (λ (x : Core). x.id) notes.core in let i = tied.inside in omega arith;
      within = subst (λ (x : Core). x.count ≤ slice_index plan.totals x.id) (sym notes.core)
          (within-after plan (seen_of view) k old due);
      all_polls = ap (λ (l : List ℕ). length l) polls ∙ tied.all_polls;
      holding = λ value e. absurd (free value e);
    }

-- a view that holds another word, or none
pub held_ties : (p : Plan) (past : Past) (sees : List ℕ) (holds holds' : Option ℕ) (v w : View)
    → Tied p past sees holds v → w.owned ≡ v.owned
    → w.seen ≡ v.seen → w.polls ≡ v.polls → w.held ≡ holds'
    → ((value : ℕ) → holds' ≡ Some value → AwaitsChange p (seen_of v) past.core) → Tied p past sees holds' w
held_ties p past sees holds holds' v w t own seen polls held awaits = record {
  own = t.own;
  owned = own ∙ t.owned;
  locals = t.locals;
  ahead = subst (λ (l : List ℕ). Ahead p (λ i. slice_index l i) t.locals t.own.core past.core) (sym seen) t.ahead;
  loads_is = t.loads_is;
  touched_is = t.touched_is;
  sees_is = seen ∙ t.sees_is;
  holds_is = held;
  wide = t.wide;
  inside = t.inside;
  within = t.within;
  all_polls = ap (λ (l : List ℕ). length l) polls ∙ t.all_polls;
  holding = λ value e. awaits-by p past.core v w seen (awaits value e);
}

-- ---- by kind of step

pub load_ties : (p : Plan) (past new : Past) (sees : List ℕ) (holds : Option ℕ) (v w : View) (word found : ℕ)
    → Tied p past sees holds v
    → LoadsWord p v word found w → Loads (need p.image past.core) word → Due p (seen_of v) past.core
    → Notes past (after p.image past.core found) (use_of (need p.image past.core)) found new → Tied p new sees holds w
load_ties p past new sees holds v w word found t step a due notes =
    access_ties p past new sees holds holds v w step.own step.at word word found false false false false t step.next
    step.access a due notes
    (ap (λ (x : View). x.owned) step.view) (ap (λ (x : View). x.seen) step.view) (ap (λ (x : View). x.polls) step.view)
    (ap (λ (x : View). x.held) step.view ∙ t.holds_is)
    (λ value e. load-free p (seen_of v) past.core word a (t.holding value e))

pub store_ties : (p : Plan) (past new : Past) (sees : List ℕ) (holds : Option ℕ) (v w : View) (word value : ℕ)
    → Tied p past sees holds v
    → StoresWord p v word value w → Stores (need p.image past.core) word → Due p (seen_of v) past.core
    → Notes past (after p.image past.core 0) (use_of (need p.image past.core)) 0 new → Tied p new sees holds w
store_ties p past new sees holds v w word value t step a due notes =
    access_ties p past new sees holds holds v w step.own step.at word word 0 true true true true t step.next
    step.access a due notes
    (ap (λ (x : View). x.owned) step.view) (ap (λ (x : View). x.seen) step.view) (ap (λ (x : View). x.polls) step.view)
    (ap (λ (x : View). x.held) step.view ∙ t.holds_is)
    (λ value e. store-free p (seen_of v) past.core word a (t.holding value e))

pub hit_ties : (p : Plan) (past new : Past) (sees : List ℕ) (holds : Option ℕ) (v w : View) (word old value found : ℕ)
    → Tied p past sees holds v
    → ExchangesWord p v word old value found w → Changes (need p.image past.core) word → Due p (seen_of v) past.core
    → found ≡ old → Notes past (after p.image past.core old) (use_of (need p.image past.core)) old new
    → Tied p new sees None w
hit_ties p past new sees holds v w word old value found t step a due hit notes =
    let w_is = exchange_hit p v w step.own step.at old found step.view hit in
    access_ties p past new sees holds None v w step.own step.at word word old true false true false t step.next
    step.access a due notes
    (ap (λ (x : View). x.owned) w_is) (ap (λ (x : View). x.seen) w_is) (ap (λ (x : View). x.polls) w_is)
    (ap (λ (x : View). x.held) w_is) none-some

pub miss_ties : (p : Plan) (past : Past) (sees : List ℕ) (holds : Option ℕ) (v w : View) (word old value found : ℕ)
    → Tied p past sees holds v
    → ExchangesWord p v word old value found w → found ≢ old → Tied p past sees None w
miss_ties p past sees holds v w word old value found t step miss =
    let w_is = exchange_miss p v w step.own step.at old found step.view miss in
    held_ties p past sees holds None v w t (ap (λ (x : View). x.owned) w_is) (ap (λ (x : View). x.seen) w_is)
    (ap (λ (x : View). x.polls) w_is)
    (ap (λ (x : View). x.held) w_is)
    (λ value e. absurd (none-some value e))

pub hold_ties : (p : Plan) (past : Past) (sees : List ℕ) (holds : Option ℕ) (v w : View) (word found : ℕ)
    → Tied p past sees holds v
    → HoldsWord p v word found w → Changes (need p.image past.core) word → Due p (seen_of v) past.core
    → Tied p past sees (Some found) w
hold_ties p past sees holds v w word found t step a due =
    held_ties p past sees holds (Some found) v w t (ap (λ (x : View). x.owned) step.view)
    (ap (λ (x : View). x.seen) step.view)
    (ap (λ (x : View). x.polls) step.view) (ap (λ (x : View). x.held) step.view)
    (λ value e. record { due = due; word = word; access = a })

pub see_ties : (p : Plan) (past : Past) (sees : List ℕ) (holds : Option ℕ) (v w : View) (c word found : ℕ)
    → Tied p past sees holds v
    → word ≡ p.image.words + c → ToldDone p v word found w → Tied p past (set sees c found) holds w
see_ties p past sees holds v w c word found t is told =
    let step = told.step in
    let e : step.core ≡ c = let q = step.word_is in omega arith in
    let seen_is : w.seen ≡ set v.seen step.core found = ap (λ (x : View). x.seen) step.view in
    let up : (i : ℕ) → seen_of v i ≤ seen_of w i = λ i. let a = set_rises v.seen step.core found i told.most in
    let q = ap (λ (l : List ℕ). slice_index l i) seen_is in omega arith in
    record {
      own = t.own;
      owned = ap (λ (x : View). x.owned) step.view ∙ t.owned;
      locals = t.locals;
      ahead = ahead_more p (seen_of v) (seen_of w) t.locals t.own.core past.core up t.ahead;
      loads_is = t.loads_is;
      touched_is = t.touched_is;
      sees_is = seen_is ∙ ap (λ (i : ℕ). set v.seen i found) e ∙ ap (λ (l : List ℕ). set l c found) t.sees_is;
      holds_is = ap (λ (x : View). x.held) step.view ∙ t.holds_is;
      wide = length-set sees c found ∙ t.wide;
      inside = t.inside;
      within = t.within;
      all_polls = ap (λ (x : View). length x.polls) step.view ∙ length-set v.polls step.core
          (slice_index v.polls step.core + 1) ∙ t.all_polls;
      holding = λ value e. let x = t.holding value e in
          record { due = due_more p (seen_of v) (seen_of w) past.core up x.due; word = x.word; access = x.access };
    }

-- the view after a publication
pub record Published (past : Past) (w : View) (o : Own) : Type 0 where
  pub owned : w.owned ≡ record { core = past.core; published = past.core.count; loads = o.loads; touched = o.touched }
      ∷ []
  pub loads_is : past.loads ≡ o.loads
  pub touched_is : past.touched ≡ o.touched

pub published : (p : Plan) (past : Past) (sees : List ℕ) (holds : Option ℕ) (v w : View) (word new : ℕ)
    → Tied p past sees holds v → new ≡ past.core.count
    → (step : PublishesCount p v word new w) → Published past w step.own
published p past sees holds v w word new t val step =
    let o = step.own in
    let e : t.own ≡ o = own_same v t.own o t.owned step.owned in
    let ah : Ahead p (seen_of v) t.locals o.core past.core = subst
    (λ (x : Own). Ahead p (seen_of v) t.locals x.core past.core) e t.ahead in
    let s : step.at ≡ past.core = ahead_equal p (seen_of v) step.locals t.locals o.core step.at past.core step.ahead
    ah (sym step.new_is ∙ val) in
    let own : Core → ℕ → List Own = λ k n. record { core = k; published = n; loads = o.loads; touched = o.touched } ∷
    [] in
    record {
      owned = ap (λ (x : View). x.owned) step.view ∙ ap (λ (k : Core). own k new) s ∙ ap (λ (n : ℕ). own past.core n)
          val;
      loads_is = t.loads_is ∙ ap (λ (x : Own). x.loads) e;
      touched_is = t.touched_is ∙ ap (λ (x : Own). x.touched) e;
    }

pub publish_ties : (p : Plan) (past : Past) (sees : List ℕ) (holds : Option ℕ) (v w : View) (word new : ℕ)
    → Tied p past sees holds v
    → new ≡ past.core.count → PublishesCount p v word new w → Tied p past sees holds w
publish_ties p past sees holds v w word new t val step =
    let h = published p past sees holds v w word new t val step in record {
      own = record {
        core = past.core;
        published = past.core.count;
        loads = step.own.loads;
        touched = step.own.touched;
      };
      owned = h.owned;
      locals = 0;
      ahead = refl;
      loads_is = h.loads_is;
      touched_is = h.touched_is;
      sees_is = ap (λ (x : View). x.seen) step.view ∙ t.sees_is;
      holds_is = ap (λ (x : View). x.held) step.view ∙ t.holds_is;
      wide = t.wide;
      inside = t.inside;
      within = t.within;
      all_polls = ap (λ (x : View). length x.polls) step.view ∙ t.all_polls;
      holding = λ value e. awaits-by p past.core v w (ap (λ (x : View). x.seen) step.view) (t.holding value e);
    }

-- the look was counted
pub see_polls : (p : Plan) (past : Past) (sees : List ℕ) (holds : Option ℕ) (v w : View) (c word found : ℕ)
    → Tied p past sees holds v
    → c < length p.totals → word ≡ p.image.words + c → SeesDone p v word found w
    → slice_index w.polls c ≡ slice_index v.polls c + 1
see_polls p past sees holds v w c word found t inside is step =
    let e : step.core ≡ c = let q = step.word_is in omega arith in
    let polls = t.all_polls in
    ap (λ (x : View). slice_index x.polls c) step.view ∙ ap (λ (i : ℕ). slice_index (polled i v.polls) c) e
    ∙ index_set v.polls c (slice_index v.polls c + 1) (omega arith)

-- what was found is seen
pub see_seen : (p : Plan) (past : Past) (sees : List ℕ) (holds : Option ℕ) (v w : View) (c word found : ℕ)
    → Tied p past sees holds v
    → c < length p.totals → word ≡ p.image.words + c → SeesDone p v word found w → found ≡ seen_of w c
see_seen p past sees holds v w c word found t inside is step =
    let e : step.core ≡ c = let q = step.word_is in omega arith in
    let all : length v.seen ≡ length p.totals = ap (λ (l : List ℕ). length l) t.sees_is ∙ t.wide in
    sym (ap (λ (x : View). slice_index x.seen c) step.view ∙ ap (λ (i : ℕ). slice_index (set v.seen i found) c) e
    ∙ index_set v.seen c found (omega arith))

-- a seat at its core's total holds nothing
pub end_free : (p : Plan) (past : Past) (sees : List ℕ) (holds : Option ℕ) (v : View) → Tied p past sees holds v
    → past.core.count ≡ slice_index p.totals past.core.id → v.held ≡ None
end_free p past sees None v t e = t.holds_is
end_free p past sees (Some value) v t e = let x = (t.holding value refl).due.below in absurd (omega arith)
