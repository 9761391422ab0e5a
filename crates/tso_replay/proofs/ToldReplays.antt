-- A list that was told decides, and so every replay comes to what it came to.
use Rattle.std.proofs.Common.{◌≡◌, ◌∙◌, ◌⊎◌, inl, inr, ℕ, ◌+◌, ◌<◌, List, [], ◌∷◌, ◌++◌, length, refl, sym, ap}
use Rattle.std.proofs.Common.{subst, arith}
use Rattle.std.specs.Prelude.{Some, None, slice_index}
use Rattle.rtr_types.specs.declared.access.Access.{Access}
use Rattle.rtr_types.specs.declared.pairs.Which.TheVariants.{Reduced}
use Rattle.clock_core.proofs.EdgeLists.{contains_among}
use Rattle.clock_core.specs.Order.{Among}
use Rattle.conflict_edge.specs.Conflicts.{ConflictPair}
use Rattle.conflict_edge.specs.Least.{Suffices}
use Rattle.rv_core.specs.declared.outcome.Outcome.{Outcome}
use Rattle.replay_core.specs.declared.answers.ReplayFault.{ReplayFault}
use Rattle.replay_core.specs.declared.answers.ReplayFault.TheVariants as replaying
use Rattle.replay_core.specs.Orders.{bump, counts, nought, Sourced, Ready, IsReplayOrder, IsWhole, low_order}
use Rattle.replay_core.specs.Plans.{Plan}
use Rattle.replay_core.specs.Play.{Given, instr, start, valued_short, valued_played}
use Rattle.replay_core.proofs.Counts.{bump_here, counts_on, counts_more}
use Rattle.replay_core.proofs.Lists.{places_law, valued_short_law}
use Rattle.replay_core.proofs.Low.{low_order_law}
use Rattle.replay_core.proofs.Ready.{sourced_law}
use Rattle.replay_audit.specs.Determinate.{DecidesValued}
use Rattle.replay_audit.specs.Laws.{AgreesValued, GoesOnValued}
use Rattle.replay_audit.proofs.OrdersAgree.{every_valued_law, low_ordered, lowest_stuck}
use Rattle.replay_audit.proofs.Logs.{recorded_log}
use Rattle.tso_codec.specs.Validity.{plain_of}
use Rattle.tso_replay.specs.Laws.{Inside, IsTold, ToldDecidesLaw, ToldReplaysLaw}
use Rattle.tso_replay.specs.Laws.{OrderedAgreeLaw}
use Rattle.tso_replay.specs.Replays.{tso_plan, tso_given, TsoRefuses}

-- ---- a list that was told is a replay order

inside-split : (n : ℕ) (order front rest : List ℕ) (c : ℕ) → Inside n order → order ≡ front ++ c ∷ rest → c < n
inside-split n order front rest c h split = at front (subst (Inside n) split h)
  where
    at : (front : List ℕ) → Inside n (front ++ c ∷ rest) → c < n
    at [] h = h.0
    at (d ∷ front) h = at front h.1

module _ {given : Given} {p : Plan} {order : List ℕ} {list : List Access} {outcome : Outcome}
    (h : IsTold given p order list outcome) where
  ready : (front : List ℕ) (c : ℕ) (rest : List ℕ) → order ≡ front ++ c ∷ rest → Ready p (counts nought front) c
  ready front c rest split = record { inside = inside; below = below; sourced = sourced }
    where
      inside : c < length p.totals
      inside = inside-split (length p.totals) order front rest c h.inside split

      below : counts nought front c < slice_index p.totals c
      below =
          let all = h.whole.each c (inside-split (length p.totals) order front rest c h.inside split) in
          let joined : counts nought order c ≡ counts (bump (counts nought front) c) rest c =
          ap (λ (l : List ℕ). counts nought l c) split ∙ ap (λ (g : ℕ → ℕ). g c) (counts_on nought front (c ∷ rest)) in
          let more = counts_more (bump (counts nought front) c) rest c in
          let here = bump_here (counts nought front) c in
          omega arith

      sourced : Sourced p.edges (counts nought front) c (counts nought front c + 1)
      sourced =
          (sourced_law p.edges (counts nought front) c (counts nought front c + 1)).1
          (λ from has. h.forward from (instr c (counts nought front c + 1))
          (contains_among p.edges from (instr c (counts nought front c + 1)) has)
          front rest split refl)

  pub decides : DecidesValued given p order
  decides = record {
    ordered = (places_law p order).1 ready;
    whole = h.whole;
    plays = h.plays;
    suffices = subst (λ (l : List Access). Suffices l (Among p.edges)) (sym h.accesses) h.suffices;
  }

pub told_decides : ToldDecidesLaw
told_decides given p order list outcome h = decides h

-- ---- what replays come to

pub told_replays : ToldReplaysLaw
told_replays r order list outcome valid h = record {
  every_order = agrees;
  low_whole = low_whole;
  low = low;
  replayed = λ answer is. is.outcome_is ∙ low;
  not_refused = not_refused;
}
  where
    agrees : (other : List ℕ) → IsReplayOrder (tso_plan r) other → AgreesValued (tso_given r) (tso_plan r) order other
    agrees other ordered =
        every_valued_law (tso_given r) (tso_plan r) order other (recorded_log Reduced (plain_of r) valid.plain)
        (told_decides (tso_given r) (tso_plan r) order list outcome h) ordered

    at_low : AgreesValued (tso_given r) (tso_plan r) order (low_order (tso_plan r))
    at_low = agrees (low_order (tso_plan r)) (low_ordered (tso_plan r))

    by : IsWhole (tso_plan r) (low_order (tso_plan r))
        ⊎ GoesOnValued (tso_given r) (tso_plan r) (low_order (tso_plan r)) →
        IsWhole (tso_plan r) (low_order (tso_plan r))
    by (inl whole) = whole
    by (inr more) = absurd (lowest_stuck (tso_plan r) nought (low_order (tso_plan r)) (low_order_law (tso_plan r))
        more.0 more.1)

    low_whole : IsWhole (tso_plan r) (low_order (tso_plan r))
    low_whole = by at_low.further

    low : valued_played (tso_given r) (tso_plan r) (low_order (tso_plan r)) ≡ outcome
    low = at_low.outcome low_whole ∙ h.outcome_is

    plays : valued_short (tso_given r) (tso_plan r) (start (tso_plan r)) (low_order (tso_plan r)) ≡ None
    plays = (valued_short_law (tso_given r) (tso_plan r) (start (tso_plan r)) (low_order (tso_plan r))).0 at_low.plays

    not_refused : (fault : ReplayFault) → TsoRefuses r fault → fault ≡ replaying.OutOfMemory
    not_refused (replaying.Stuck cut) f = absurd (f.not_whole low_whole)
    not_refused (replaying.Short core count) f = absurd (let both : None ≡ Some (core, count) = sym plays ∙ f in cc)
    not_refused replaying.OutOfMemory f = refl

-- ---- where the low order's conflicts are ordered

pub ordered_agree : OrderedAgreeLaw
ordered_agree r outcome valid replays suffices order ordered =
    let p = tso_plan r in
    every_valued_law (tso_given r) p (low_order p) order (recorded_log Reduced (plain_of r) valid.plain)
    (record {
      ordered = low_ordered p;
      whole = replays.whole;
      plays = (valued_short_law (tso_given r) p (start p) (low_order p)).1 replays.plays;
      suffices = suffices;
    }) ordered
