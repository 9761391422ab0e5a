-- What each call of the table does to a seat, as far as a turn goes by it.
use Rattle.std.proofs.Common.{◌≡◌, ◌≢◌, ℕ, ◌+◌, ◌<◌, ◌≤◌, eq-eqb, ne_eqb, true, List, [], ◌∷◌, length, refl, sym, ap}
use Rattle.std.proofs.Common.{◌∙◌, subst, arith}
use Rattle.std.specs.Prelude.{slice_index, Some, None, Ok, Err}
use Rattle.rtr_types.specs.declared.pairs.Which.{Which}
use Rattle.image_mem.specs.Contents.{Contents}
use Rattle.rv_core.specs.declared.core_state.Core.{Core}
use Rattle.rv_core.specs.Steps.{need, after, is_done}
use Rattle.rv_core.proofs.LawLemmas.{count_law, number_law}
use Rattle.race_log.specs.declared.recording.Recording.{Recording}
use Rattle.race_log.specs.Validity.{Valid}
use Rattle.replay_core.specs.Plans.{Plan, plan_of}
use Rattle.replay_core.specs.Play.{core_at, played}
use Rattle.replay_table.specs.declared.raced.Raced.{Raced}
use Rattle.replay_table.specs.declared.view.Own.{Own}
use Rattle.replay_table.specs.declared.view.View.{View}
use Rattle.replay_table.specs.Aheads.{Ahead, Due, GoesOn}
use Rattle.replay_table.specs.Rule.{seen_of, Reached}
use Rattle.replay_table.specs.Kinds.{SeesDone, LoadsWord, HoldsWord, StoresWord, PublishesCount, alone_with}
use Rattle.replay_table.specs.Kinds.{exchanged, retired}
use Rattle.replay_table.specs.Told.{ToldPublish}
use Rattle.replay_table.specs.Seats.{Sitting, AtRest, Exchanged}
use Rattle.replay_table.proofs.Aheads.{ahead_adds, ahead_id}
use Rattle.replay_core.specs.Orders.{counts, nought}
use Rattle.replay_threads.specs.Turns.{Continues, Looks, FallsShort, HasRaced, IsReached, Publishes}
use Rattle.replay_audit.specs.Determinate.{IsDeterminate}
use Rattle.replay_threads.proofs.TurnEnds.{goes_then}
use Rattle.replay_threads.proofs.DoneLoads.{sees_polls}
use Rattle.replay_threads.proofs.Shorts.{short_open}

-- the core has gone on, by one instruction or more
pub record Retires (x y : Sitting) : Type 0 where
  pub goes_on : Continues x y
  pub more : x.core.count < y.core.count

-- nothing but the core and what it has done may differ
pub record SameView (v w : View) : Type 0 where
  pub polls : w.polls ≡ v.polls
  pub failed : w.failed ≡ v.failed

retires : (image : Contents) (old : ℕ) (x y : Sitting) → y.table_id ≡ x.table_id → y.core ≡ after image x.core old
    → SameView x.view y.view → Retires x y
retires image old x y table core same =
    let id = ap (λ (k : Core). k.id) core in
    let count = ap (λ (k : Core). k.count) core in
    let n = count_law image x.core old in record {
      goes_on = record {
        table = table;
        core = id ∙ number_law image x.core old;
        count = omega arith;
        polls = λ c. let e = ap (λ (l : List ℕ). slice_index l c) same.polls in omega arith;
        failed = let e = same.failed in omega arith;
      };
      more = omega arith;
    }

-- an access, and local instructions after it in one go
runs-on : (p : Plan) (f : ℕ → ℕ) (image : Contents) (until old : ℕ) (x y : Sitting) → y.table_id ≡ x.table_id
    → GoesOn p f until (after image x.core old) y.core → SameView x.view y.view → Retires x y
runs-on p f image until old x y table on same =
    let more = ahead_adds p f on.locals (after image x.core old) y.core on.ahead in
    let n = count_law image x.core old in record {
      goes_on = record {
        table = table;
        core = ahead_id p f on.locals (after image x.core old) y.core on.ahead ∙ number_law image x.core old;
        count = omega arith;
        polls = λ c. let e = ap (λ (l : List ℕ). slice_index l c) same.polls in omega arith;
        failed = let e = same.failed in omega arith;
      };
      more = omega arith;
    }

stays : (x y : Sitting) → y.table_id ≡ x.table_id → y.core ≡ x.core → SameView x.view y.view → Continues x y
stays x y table core same =
    let count = ap (λ (k : Core). k.count) core in record {
      table = table;
      core = ap (λ (k : Core). k.id) core;
      count = omega arith;
      polls = λ c. let e = ap (λ (l : List ℕ). slice_index l c) same.polls in omega arith;
      failed = let e = same.failed in omega arith;
    }

pub local_retires : (image : Contents) (x y : Sitting) → y.table_id ≡ x.table_id → y.core ≡ after image x.core 0
    → y.view ≡ x.view → Retires x y
local_retires image x y table core view =
    retires image 0 x y table core
    (record { polls = ap (λ (v : View). v.polls) view; failed = ap (λ (v : View). v.failed) view })

-- local instructions in one go
pub locals_go_on : (p : Plan) (f : ℕ → ℕ) (n : ℕ) (x y : Sitting) → y.table_id ≡ x.table_id
    → Ahead p f n x.core y.core → y.view ≡ x.view → Continues x y
locals_go_on p f n x y table ahead view =
    let more = ahead_adds p f n x.core y.core ahead in record {
      table = table;
      core = ahead_id p f n x.core y.core ahead;
      count = omega arith;
      polls = λ c. let e = ap (λ (v : View). slice_index v.polls c) view in omega arith;
      failed = let e = ap (λ (v : View). v.failed) view in omega arith;
    }

pub load_retires : (p : Plan) (f : ℕ → ℕ) (image : Contents) (until word value : ℕ) (x y : Sitting)
    → y.table_id ≡ x.table_id → GoesOn p f until (after image x.core value) y.core
    → LoadsWord p x.view word value y.view → Retires x y
load_retires p f image until word value x y table on step =
    runs-on p f image until value x y table on
    (record { polls = ap (λ (v : View). v.polls) step.view; failed = ap (λ (v : View). v.failed) step.view })

pub store_retires : (p : Plan) (f : ℕ → ℕ) (image : Contents) (until word new : ℕ) (x y : Sitting)
    → y.table_id ≡ x.table_id → GoesOn p f until (after image x.core 0) y.core → StoresWord p x.view word new y.view
    → Retires x y
store_retires p f image until word new x y table on step =
    runs-on p f image until 0 x y table on
    (record { polls = ap (λ (v : View). v.polls) step.view; failed = ap (λ (v : View). v.failed) step.view })

pub hold_stays : (p : Plan) (word value : ℕ) (x y : Sitting) → y.table_id ≡ x.table_id → y.core ≡ x.core
    → HoldsWord p x.view word value y.view →
    Continues x y
hold_stays p word value x y table core step =
    stays x y table core
    (record { polls = ap (λ (v : View). v.polls) step.view; failed = ap (λ (v : View). v.failed) step.view })

-- an exchange that found the held word, and one that found another
pub exchange_retires : (p : Plan) (held : ℕ) (x y : Sitting) → y.table_id ≡ x.table_id → Exchanged p x held (Ok tt) y
    → Retires x y
exchange_retires p held x y table e =
    let hit : exchanged p x.view e.told.step.own e.told.step.at held held ≡
    record (alone_with (retired p e.told.step.own e.told.step.at held) x.view) { held = None } =
    rw (eq-eqb held held refl) refl in
    retires p.image held x y table e.answer (record {
      polls = ap (λ (v : View). v.polls) (e.told.step.view ∙ hit);
      failed = ap (λ (v : View). v.failed) (e.told.step.view ∙ hit);
    })

-- the view has failed once more
pub record Fails (x y : Sitting) : Type 0 where
  pub goes_on : Continues x y
  pub failed : x.view.failed < y.view.failed

pub exchange_fails : (p : Plan) (held : ℕ) (raced : Raced) (x y : Sitting) → y.table_id ≡ x.table_id
    → Exchanged p x held (Err raced) y → Fails x y
exchange_fails p held raced x y table e =
    let ne : raced.found ≢ held = e.answer.1 in
    let miss : exchanged p x.view e.told.step.own e.told.step.at held raced.found ≡ record x.view
    { held = None; failed = x.view.failed + 1 } =
    rw (ne_eqb raced.found held ne) refl in
    let core : y.core ≡ x.core = e.answer.2 in
    let count = ap (λ (k : Core). k.count) core in
    let failed = ap (λ (v : View). v.failed) (e.told.step.view ∙ miss) in
    record {
      goes_on = record {
        table = table;
        core = ap (λ (k : Core). k.id) core;
        count = omega arith;
        polls = λ c. let q = ap (λ (v : View). slice_index v.polls c) (e.told.step.view ∙ miss) in omega arith;
        failed = omega arith;
      };
      failed = omega arith;
    }

-- the word is held before
pub held_retires : (p : Plan) (word value held : ℕ) (x m y : Sitting) → m.table_id ≡ x.table_id → m.core ≡ x.core
    → HoldsWord p x.view word value m.view →
    y.table_id ≡ m.table_id → Exchanged p m held (Ok tt) y → Retires x y
held_retires p word value held x m y table core hold table' e =
    let first = hold_stays p word value x m table core hold in
    let second = exchange_retires p held m y table' e in
    record {
      goes_on = goes_then x m y first second.goes_on;
      more = let c = ap (λ (k : Core). k.count) core in
          let n = second.more in omega arith;
    }

pub held_fails : (which : Which) (r : Recording) (p : Plan) (word value held : ℕ) (raced : Raced) (x m y : Sitting)
    → m.table_id ≡ x.table_id →
    m.core ≡ x.core →
    HoldsWord p x.view word value m.view → y.table_id ≡ m.table_id → Exchanged p m held (Err raced) y
    → (IsDeterminate which r → ⊥) →
    Continues x y × HasRaced which r x y
held_fails which r p word value held raced x m y table core hold table' e undecided =
    let first = hold_stays p word value x m table core hold in
    let second = exchange_fails p held raced m y table' e in (
      goes_then x m y first second.goes_on,
      record {
        failed = let a = first.failed in let b = second.failed in
            omega arith;
        undetermined = undecided;
      },
    )

pub is_held : (p : Plan) (word value : ℕ) (x m : Sitting) → HoldsWord p x.view word value m.view → m.view.held ≡ Some
    value
is_held p word value x m hold = ap (λ (v : View). v.held) hold.view

pub held_due : (p : Plan) (word value : ℕ) (x m : Sitting) → HoldsWord p x.view word value m.view → m.core ≡ x.core
    → Due p (seen_of x.view) x.core → Due p
    (seen_of m.view) m.core
held_due p word value x m hold core due =
    let seen : m.view.seen ≡ x.view.seen = ap (λ (v : View). v.seen) hold.view in
    subst (λ (l : List ℕ). Due p (λ i. slice_index l i) m.core) (sym seen)
    (subst (λ (k : Core). Due p (λ i. slice_index x.view.seen i) k) (sym core) due)

-- ---- done words

pub see_looks : (p : Plan) (word found : ℕ) (x y : Sitting) → y.table_id ≡ x.table_id → y.core ≡ x.core
    → SeesDone p x.view word found y.view → Looks x y
see_looks p word found x y table core step =
    let count = ap (λ (k : Core). k.count) core in record {
      goes_on = record {
        table = table;
        core = ap (λ (k : Core). k.id) core;
        count = omega arith;
        polls = sees_polls p x.view y.view word found step;
        failed = let e = ap (λ (v : View). v.failed) step.view in omega arith;
      };
      core = core;
    }

pub publish_looks : (p : Plan) (word new : ℕ) (x y : Sitting) → y.table_id ≡ x.table_id → y.core ≡ x.core
    → PublishesCount p x.view word new y.view →
    Looks x y
publish_looks p word new x y table core step = record {
  goes_on = stays x y table core
      (record { polls = ap (λ (v : View). v.polls) step.view; failed = ap (λ (v : View). v.failed) step.view });
  core = core;
}

pub publish_same : (p : Plan) (word new : ℕ) (x y : Sitting) → y.core ≡ x.core → PublishesCount p x.view word new
    y.view → Publishes x y
publish_same p word new x y core step = record {
  core = core;
  seen = ap (λ (v : View). v.seen) step.view;
  polls = ap (λ (v : View). v.polls) step.view;
  failed = ap (λ (v : View). v.failed) step.view;
}

own-head : (a b : Own) → a ∷ [] ≡ b ∷ [] → a ≡ b
own-head a b e = cc

pub publish_reached : (which : Which) (r : Recording) (word new : ℕ) (x y : Sitting) → ToldPublish (plan_of which r)
    x.view word new y.view → AtRest y →
    IsReached which r y
publish_reached which r word new x y told rest =
    let p = plan_of which r in
    let step = told.step in
    let o : Own = record step.own { core = step.at; published = new } in
    let same : o ≡ rest.own = own-head o rest.own (sym (ap (λ (v : View). v.owned) step.view) ∙ rest.owned) in
    let seen : y.view.seen ≡ x.view.seen = ap (λ (v : View). v.seen) step.view in
    let there : Reached p (λ i. slice_index y.view.seen i) o = subst
    (λ (l : List ℕ). Reached p (λ i. slice_index l i) o) (sym seen) told.reached in
    record {
      own = rest.own;
      core = rest.core;
      loads = rest.loads;
      touched = rest.touched;
      reached = subst (λ (q : Own). Reached p (λ i. slice_index y.view.seen i) q) same there;
    }

-- ---- a core that is due and done

pub short_ends : (which : Which) (r : Recording) (x y : Sitting) → Valid r → Publishes x y → IsReached which r y
    → x.core.id < length r.totals →
    Due (plan_of which r) (seen_of x.view) x.core → is_done (need (plan_of which r).image x.core) ≡ true
    → FallsShort which r y
short_ends which r x y valid same reached inside due done =
    let p = plan_of which r in
    let core = same.core in
    let at : reached.own.core ≡ x.core = reached.core ∙ core in
    let there : core_at (played p reached.reached.order) x.core.id ≡ x.core =
    subst (λ (k : Core). core_at (played p reached.reached.order) k.id ≡ k) at reached.reached.agrees.core in
    let seen : (i : ℕ) → seen_of x.view i ≤ counts nought reached.reached.order i =
    λ i. let e = ap (λ (l : List ℕ). slice_index l i) same.seen in let m = reached.reached.seen i in omega arith in
    record {
      below = rw core due.below;
      done = ap (λ (k : Core). is_done (need p.image k)) core ∙ done;
      undetermined = short_open which r reached.reached.order (seen_of x.view) x.core valid reached.reached.ordered
          seen inside there due done;
    }
