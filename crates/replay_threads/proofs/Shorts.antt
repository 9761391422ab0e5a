-- A core that is done below its total leaves the recording open.
use Rattle.std.proofs.Common.{◌≡◌, ℕ, ◌<◌, ◌≤◌, true, false, List, [], ◌∷◌, ◌++◌, length, ap, sym, ◌∙◌}
use Rattle.std.proofs.lemmas.Bool.{true≢false}
use Rattle.rtr_types.specs.declared.pairs.Which.{Which}
use Rattle.rv_core.specs.declared.core_state.Core.{Core}
use Rattle.rv_core.specs.Steps.{need, is_done}
use Rattle.race_log.specs.declared.recording.Recording.{Recording}
use Rattle.race_log.specs.Validity.{Valid}
use Rattle.replay_core.specs.Plans.{plan_of}
use Rattle.replay_core.specs.Play.{core_at, need_at, start, play, played}
use Rattle.replay_core.specs.Orders.{counts, nought, IsReplayOrder, Ready, low_order}
use Rattle.replay_core.proofs.Lists.{one_more, plays_on}
use Rattle.replay_audit.specs.Laws.{IsDue}
use Rattle.replay_audit.specs.Determinate.{IsDeterminate}
use Rattle.replay_audit.proofs.Ahead.{due_ready}
use Rattle.replay_audit.proofs.OrdersAgree.{every_order_law}

-- an order that plays to a core which is due and done goes on to one that falls short, and in a determinate
-- recording none
-- does
pub short_open : (which : Which) (r : Recording) (order : List ℕ) (f : ℕ → ℕ) (k : Core) → Valid r
    → IsReplayOrder (plan_of which r) order →
    ((i : ℕ) → f i ≤ counts nought order i) → k.id < length r.totals → core_at (played (plan_of which r) order) k.id ≡
    k →
    IsDue (plan_of which r) f k.id k → is_done (need (plan_of which r).image k) ≡ true → IsDeterminate which r → ⊥
short_open which r order f k valid ord le lt at due done det =
    let p = plan_of which r in
    let ready : Ready p (counts nought order) k.id = due_ready p order f k.id k ord le lt at due in
    let longer : IsReplayOrder p (order ++ k.id ∷ []) = (one_more p order k.id ord).1 ready in
    let plays = (every_order_law which r (low_order p) (order ++ k.id ∷ []) valid det longer).plays in
    let last : is_done (need_at p (play p (start p) order) k.id) ≡ false
    = ((plays_on p (start p) order (k.id ∷ [])).0 plays).1.0 in
    true≢false (sym done ∙ ap (λ (x : Core). is_done (need p.image x)) (sym at) ∙ last)
