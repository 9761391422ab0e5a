-- What the rule tells of each kind of step: the words that are there fit, and whichever order stood goes on to one that
-- plays to what the view owns afterwards.
use Rattle.std.proofs.Common.{◌≡◌, ℕ, ap, set, refl}
use Rattle.std.specs.Prelude.{slice_index}
use mathlib.Core.Option.{some}
use lib.ListN.{get_elem?}
use Rattle.atomic_table.specs.Table.{State}
use Rattle.rv_core.specs.declared.core_state.Core.{Core}
use Rattle.rv_core.specs.Steps.{need, wrote}
use Rattle.replay_core.specs.Plans.{Plan}
use Rattle.replay_table.specs.declared.view.Own.{Own}
use Rattle.replay_table.specs.declared.view.View.{View}
use Rattle.replay_table.specs.Accesses.{Changes}
use Rattle.replay_table.specs.Rule.{seen_of, Next, Reached, TableRule}
use Rattle.replay_table.specs.Kinds.{retired, alone_with}
use Rattle.replay_table.specs.Laws.{piece, local_piece}
use Rattle.replay_table.specs.Laws.{SeeTells, LoadTells, HoldTells, StoreTells, ExchangeTells, PublishTells}
use Rattle.replay_table.proofs.Stands.{load_reached, reached_by, store_law, changed_stands, publish_law}
use Rattle.replay_table.proofs.Keeps.{at_order, see_most, held_is}

-- 1
pub see_tells : SeeTells
see_tells p s id v w word sits step =
    record {
      step = step;
      fits = sits.rule.fits word;
      most = see_most p s id v word step.core sits.rule sits.view
          step.word_is;
    }

-- 2
pub load_tells : LoadTells
load_tells p s id v w word sits step =
    let h = sits.rule in record {
      step = step;
      fits = h.fits word;
      reached = load_reached p s id v w h.order.0 word step.own step.at (at_order p s id v h sits.view) step.next
          step.access
          (ap (λ (x : View). x.owned) step.view);
    }

-- 3
pub hold_tells : HoldTells
hold_tells p s id v w word sits step = record { step = step; fits = sits.rule.fits word }

-- 4
pub store_tells : StoreTells
store_tells p s id v w word new sits step =
    let h = sits.rule in
    let at = at_order p s id v h sits.view in record {
      step = step;
      reached = reached_by p s id v w (set s.words word new) h.order.0 (piece step.own step.next.locals)
          (retired p step.own step.at 0) at
          (ap (λ (x : View). x.owned) step.view) (store_law p s id v w h.order.0 word new at step);
    }

-- 5, where the word is the held one: the order that goes on by the exchange stands
exchange-reached : (p : Plan) (s : State ℕ View) (id : ℕ) (v : View) (word old new : ℕ) (o : Own) (at : Core)
    → TableRule p s
    → get_elem? s.views id ≡ some v → Next p v o at → Changes (need p.image at) word → new ≡ wrote p.image at old
    → slice_index s.words word ≡ old → Reached p (seen_of v) (retired p o at old)
exchange-reached p s id v word old new o at h here n a is was =
    let w : View = alone_with (retired p o at old) v in
    let st = changed_stands p s id v w h.order.0 word old new o at (at_order p s id v h here) was n a is refl in
    reached_by p s id v w (set s.words word new) h.order.0 (piece o n.locals) (retired p o at old)
    (at_order p s id v h here) refl st

pub exchange_tells : ExchangeTells
exchange_tells p s id v w word old new sits step =
    let h = sits.rule in record {
      step = step;
      fits = h.fits word;
      sure = held_is p s id v step.own step.at word old h sits.view step.next step.access step.held;
      reached = exchange-reached p s id v word old new step.own step.at h sits.view step.next step.access step.new_is;
    }

-- 6
pub publish_tells : PublishTells
publish_tells p s id v w word new sits step =
    let h = sits.rule in
    let at = at_order p s id v h sits.view in record {
      step = step;
      reached = reached_by p s id v w (set s.words word new) h.order.0 (local_piece step.own step.locals)
          (record step.own { core = step.at; published = new }) at (ap (λ (x : View). x.owned) step.view)
          (publish_law p s id v w h.order.0 word new at step);
    }
