-- An audit along the low order.
use Rattle.std.proofs.Common.{◌≡◌, ◌∙◌, ℕ, ◌<◌, List, [], length, refl, sym, ap, subst}
use Rattle.std.proofs.Common.{arith}
use Rattle.std.specs.Prelude.{slice_index, Bool, IsTrue, Option, Some, None}
use Rattle.rtr_types.specs.declared.cut.Cut.{Cut}
use Rattle.rtr_types.specs.declared.access.Access.{Access}
use Rattle.rtr_types.specs.declared.pairs.Which.{Which}
use Rattle.rv_core.specs.declared.outcome.Outcome.{Outcome}
use Rattle.race_log.specs.declared.recording.Recording.{Recording}
use Rattle.race_log.specs.Sources.{log_edges}
use Rattle.race_log.specs.Validity.{Valid}
use Rattle.replay_core.specs.Plans.{Plan, plan_of}
use Rattle.replay_core.specs.Play.{no_values, start, accesses_of}
use Rattle.replay_core.specs.Orders.{counts, nought, counts_in, Full, lowest_ready}
use Rattle.replay_core.specs.Answers.{UnderWay, Replays, EndsAt, cut_of}
use Rattle.replay_core.proofs.Lists.{short_law}
use Rattle.replay_core.proofs.Fronts.{Going, going_start, tally}
use Rattle.replay_core.proofs.LowRuns.{ended, whole_at, stuck_at}
use Rattle.replay_audit.specs.declared.unordered.Unordered.{Unordered}
use Rattle.replay_audit.specs.Clocks.{Kept}
use Rattle.clock_entries.specs.Laws.{IsAcyclic}
use Rattle.replay_audit.specs.Determinate.{IsDeterminate, low_order_of, low_accesses, low_outcome}
use Rattle.replay_core.specs.Tallies.{Tallied, count_of}
use Rattle.replay_audit.specs.Trails.{Trailed, IsFinding}
use Rattle.replay_audit.specs.Audits.{AreClocksOf, EveryOrderAgrees, HasFollowed, LeavesOpen}
use Rattle.replay_audit.proofs.Logs.{acyclic_law}
use Rattle.replay_audit.proofs.OrdersAgree.{low_ordered, every_order_law}
use Rattle.replay_audit.proofs.TallyAndTrail.{Followed, IsFresh, followed_start}

-- the tally, the replay and the trail have come along a front of the low order
pub record Along (which : Which) (r : Recording) (order : List ℕ) (t : Tallied) (u : UnderWay) (s : Trailed) : Type 0
  where
    pub followed : Followed which r order (accesses_of (plan_of which r) order) t s
    pub plan_is : u.plan ≡ plan_of which r
    pub going : Going (plan_of which r) order u.state

pub along_start : (which : Which) (r : Recording) (cores : ℕ) (t : Tallied) (u : UnderWay) (s : Trailed) → Valid r →
    IsFresh r (plan_of which r) cores t s → u.plan ≡ plan_of which r → u.state ≡ start (plan_of which r) →
    Along which r [] t u s
along_start which r cores t u s valid fresh plan_is state_is =
    record {
      followed = followed_start which r cores t s valid fresh;
      plan_is = plan_is;
      going =
          going_start (plan_of which r) u.state state_is;
    }

module _ {which : Which} {r : Recording} (valid : Valid r) {order : List ℕ} {t : Tallied} {u : UnderWay} {s : Trailed}
    (along : Along which r order t u s) where
  same_counts : count_of t.counts ≡ counts_in u.state
  same_counts = along.followed.counted.tally ∙ sym (tally (plan_of which r) order u.state along.going)

  lowest_same : lowest_ready u.plan (counts_in u.state) ≡ lowest_ready t.plan (count_of t.counts)
  lowest_same = ap (λ (q : Plan). lowest_ready q (counts_in u.state))
      (along.plan_is ∙ sym along.followed.counted.plan_is)
      ∙ ap (λ (f : ℕ → ℕ). lowest_ready t.plan f) (sym same_counts)

  -- no core is ready any more
  module _ (none : lowest_ready t.plan (count_of t.counts) ≡ None) where
    none_here : lowest_ready u.plan (counts_in u.state) ≡ None
    none_here = lowest_same ∙ none

    pub stuck : (cut : Cut) → (Full u.plan (counts_in u.state) → ⊥) → cut ≡ cut_of u.plan (counts_in u.state) →
        EndsAt (plan_of which r) cut
    stuck cut not_full is = stuck_at no_values (plan_of which r) u along.plan_is order along.going cut none_here
        not_full is

    -- and all are at their totals
    module _ (full : Full u.plan (counts_in u.state)) where
      low_is : low_order_of which r ≡ order
      low_is = ended no_values (plan_of which r) u along.plan_is order along.going none_here

      replays : Replays (plan_of which r) u.state
      replays = whole_at no_values (plan_of which r) u along.plan_is order along.going u.state none_here full refl

      acyclic : IsAcyclic (log_edges which r)
      acyclic = acyclic_law which r (low_order_of which r) valid (low_ordered (plan_of which r)) replays.whole

      finding : IsFinding s.listed (log_edges which r) (low_accesses which r) s.found
      finding = subst (λ (l : List ℕ). IsFinding s.listed (log_edges which r) (accesses_of (plan_of which r) l) s.found)
          (sym low_is)
          (along.followed.trail.finding acyclic)

      pub leaves_open : {pair : Unordered} {found : Option Unordered} → found ≡ s.found → found ≡ Some pair →
          IsTrue s.listed → LeavesOpen which r pair.first pair.second
      leaves_open {pair} {found} is some_pair listed = record {
        plays = replays.plays;
        whole = replays.whole;
        unordered = subst (λ (o : Option Unordered). IsFinding s.listed (log_edges which r) (low_accesses which r) o)
            (sym is ∙ some_pair) finding listed;
      }

      pub passes : {found : Option Unordered} (outcome : Outcome) (list : List Access) (kept : Kept) → found ≡ s.found →
          found ≡ None →
          outcome ≡ u.state → list ≡ s.accesses → kept ≡ s.kept → HasFollowed s.listed which r outcome list kept
      passes {found} outcome list kept is no_pair outcome_is list_is kept_is = record {
        replayed = record { determinate = determinate; outcome_is = ends; every_order = agrees };
        passed = λ listed. record {
          valid = valid;
          passed = record {
            determinate = determinate;
            outcome_is = ends;
            accesses_is = list_is ∙ along.followed.trail.accesses_is listed
                ∙ ap (λ (l : List ℕ). accesses_of (plan_of which r) l) (sym low_is);
            every_order = agrees;
          };
          clocks = subst (λ (k : Kept). AreClocksOf which r k) (sym kept_is) clocks;
        };
      }
        where
          ends : outcome ≡ low_outcome which r
          ends = outcome_is ∙ replays.outcome_is

          determinate : IsDeterminate which r
          determinate = record {
            ordered = low_ordered (plan_of which r);
            whole = replays.whole;
            plays = (short_law (plan_of which r) (start (plan_of which r)) (low_order_of which r)).1 replays.plays;
            suffices = subst (λ (o : Option Unordered). IsFinding s.listed (log_edges which r) (low_accesses which r) o)
                (sym is ∙ no_pair) finding;
          }

          agrees : EveryOrderAgrees which r
          agrees other ordered = every_order_law which r (low_order_of which r) other valid determinate ordered

          total : (c : ℕ) → c < length r.totals → counts nought order c ≡ slice_index r.totals c
          total c lt = ap (λ (l : List ℕ). counts nought l c) (sym low_is) ∙ replays.whole.each c lt

          clocks : AreClocksOf which r s.kept
          clocks at h = along.followed.trail.clocked.exact acyclic at.core at.count
              (let lt = h.core in let e = valid.each_core in omega arith) h.some
              (let e = total at.core h.core in let le = h.most in omega arith)

-- where accesses are listed at the end as at the start
pub followed_by : {listed old : Bool} {which : Which} {r : Recording} {outcome : Outcome} {list : List Access}
    {kept : Kept} → listed ≡ old → HasFollowed listed which r outcome list kept →
    HasFollowed old which r outcome list kept
followed_by {listed} {old} {which} {r} {outcome} {list} {kept} e h =
    subst (λ (b : Bool). HasFollowed b which r outcome list kept) e h

-- what passed, by other names
pub followed_same : {listed : Bool} {which : Which} {r : Recording} {outcome outcome' : Outcome}
    {list list' : List Access} {kept kept' : Kept} →
    outcome ≡ outcome' → list ≡ list' → kept ≡ kept' → HasFollowed listed which r outcome' list' kept' →
    HasFollowed listed which r outcome list kept
followed_same {listed} {which} {r} {outcome} {outcome'} {list} {list'} {kept} {kept'} outcome_is list_is kept_is
    passed =
    subst (λ (x : Outcome). HasFollowed listed which r x list kept) (sym outcome_is)
    (subst (λ (l : List Access). HasFollowed listed which r outcome' l kept) (sym list_is)
    (subst (λ (k : Kept). HasFollowed listed which r outcome' list' k) (sym kept_is) passed))
