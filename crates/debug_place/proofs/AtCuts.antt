-- What an index shows at a closed cut stands there.
use Rattle.std.proofs.Common.{◌≡◌, ◌∙◌, ℕ, ◌<◌, length, refl, sym, ap, subst, arith}
use Rattle.rtr_types.specs.declared.cut.Cut.{Cut}
use Rattle.rtr_types.specs.declared.pairs.Which.{Which}
use Rattle.rv_core.specs.declared.outcome.Outcome.{Outcome}
use Rattle.race_log.specs.declared.recording.Recording.{Recording}
use Rattle.race_log.specs.Validity.{Valid}
use Rattle.replay_core.specs.Answers.{UnderWay}
use Rattle.replay_core.specs.Plans.{Plan, plan_of}
use Rattle.replay_audit.specs.Audits.{Findings}
use Rattle.replay_audit.specs.Determinate.{IsDeterminate}
use Rattle.cut_replay.specs.ClosedCuts.{IsClosed}
use Rattle.cut_replay.specs.CutStates.{IsStateAt}
use Rattle.cut_replay.proofs.Unique.{one_state_law}
use Rattle.cut_index.specs.Standings.{reached, standing_at}
use Rattle.cut_index.proofs.AtCuts.{reached_at, reached_cut}
use Rattle.debug_place.specs.Places.{IsReplayAt, Placed, Stands, cut_at}

module _ (which : Which) (r : Recording) (valid : Valid r) (determinate : IsDeterminate which r) (cut : Cut)
    (closed : IsClosed which r cut) where
  pub stands_at : IsReplayAt which r cut (standing_at which r cut)
  stands_at = record { plan_is = refl; closed = closed; state = reached_at which r valid determinate cut closed }

  abbrev here : Placed
  here = record { recording = r; which = which; state = reached which r cut }

  pub cut_is : cut_at (record { recording = r; which = which; state = reached which r cut }) ≡ cut
  cut_is = reached_cut which r valid determinate cut closed

  pub place_stands : Stands (record { recording = r; which = which; state = reached which r cut })
  place_stands = record {
    closed = subst (λ (k : Cut). IsClosed which r k) (sym cut_is) closed;
    state = subst (λ (k : Cut). IsStateAt which r k (reached which r cut)) (sym cut_is)
        (reached_at which r valid determinate cut closed);
  }

  -- what stands at the cut has its state
  pub state_reached : (u : UnderWay) → IsReplayAt which r cut u → reached which r cut ≡ u.state
  state_reached u at = one_state_law which r cut (reached which r cut) u.state
      (reached_at which r valid determinate cut closed) at.state

-- a core of the recording is one of the plan
pub inside_plan : (which : Which) (r : Recording) → Valid r → (u : UnderWay) → u.plan ≡ plan_of which r → (core : ℕ) →
    core < r.params.cores → core < length u.plan.totals
inside_plan which r valid u is core lt =
    subst (λ (p : Plan). core < length p.totals) (sym is) (let all = valid.each_core in omega arith)

-- what an audit's index shows at the cut
module _ (a : Findings) (index : Findings) (cut : Cut) (valid : Valid a.recording)
    (determinate : IsDeterminate a.which a.recording) (index_is : index ≡ a) (closed : IsClosed a.which a.recording cut)
  where
    pub closed_there : IsClosed index.which index.recording cut
    closed_there = subst (λ (f : Findings). IsClosed f.which f.recording cut) (sym index_is) closed

    pub shown : (u : UnderWay) → u ≡ standing_at index.which index.recording cut →
        u ≡ standing_at a.which a.recording cut
    shown u is = is ∙ ap (λ (f : Findings). standing_at f.which f.recording cut) index_is

    pub shows_at : (u : UnderWay) → u ≡ standing_at index.which index.recording cut →
        IsReplayAt a.which a.recording cut u
    shows_at u is = subst (λ (v : UnderWay). IsReplayAt a.which a.recording cut v) (sym (shown u is))
        (stands_at a.which a.recording valid determinate cut closed)

    pub shows_place : (u : UnderWay) → u ≡ standing_at index.which index.recording cut → (place : Placed) →
        record { recording = a.recording; which = a.which; state = reached a.which a.recording cut } ≡ place →
        IsReplayAt place.which place.recording (cut_at place) u × (u.state ≡ place.state)
    shows_place u is place view_is =
        subst (λ (p : Placed). IsReplayAt p.which p.recording (cut_at p) u × (u.state ≡ p.state)) view_is (
          subst (λ (k : Cut). IsReplayAt a.which a.recording k u) (sym
              (cut_is a.which a.recording valid determinate cut closed))
              (shows_at u is),
          ap (λ (v : UnderWay). v.state) (shown u is),
        )
