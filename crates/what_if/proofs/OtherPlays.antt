-- What the run comes to in which another core goes first is the play of an order: what is left of the timeline as far
-- as the cut, the core, the rest of the timeline and the rounds, if cores that can't go on are passed over.
use Rattle.std.proofs.Common.{◌≡◌, ℕ, zero, suc, ◌+◌, ◌<◌, ◌≤◌, Bool, true, false, List, [], ◌∷◌, ◌++◌, length}
use Rattle.std.proofs.Common.{refl, sym, ap, subst, ◌∙◌, append_assoc, arith}
use Rattle.std.proofs.lemmas.List.{get_or-replicate}
use Rattle.std.specs.Prelude.{slice_index}
use Rattle.std.specs.List.{range_with_len}
use Rattle.rtr_types.specs.declared.cut.Cut.{Cut}
use Rattle.rtr_types.specs.declared.instr.Edge.{Edge}
use Rattle.rtr_types.specs.declared.pairs.Which.{Which}
use Rattle.race_log.specs.declared.recording.Recording.{Recording}
use Rattle.race_log.specs.Validity.{Valid}
use Rattle.rv_core.specs.declared.core_state.Need.{Need}
use Rattle.rv_core.specs.declared.outcome.Outcome.{Outcome}
use Rattle.rv_core.specs.Steps.{is_done}
use Rattle.replay_core.specs.Laws.{PlayKnown}
use Rattle.replay_core.specs.Plans.{Plan, plan_of}
use Rattle.replay_core.specs.Orders.{Ordered, Sourced, bump, counts_in, is_ready, nought}
use Rattle.replay_core.specs.Play.{Plays, need_at, place, play, start}
use Rattle.replay_core.proofs.Images.{by_image}
use Rattle.replay_core.proofs.Places.{place_known, play_law, start_known}
use Rattle.replay_core.proofs.Ready.{ready_is}
use Rattle.replay_audit.specs.Audits.{IsInstrOf}
use Rattle.replay_audit.specs.Determinate.{IsDeterminate}
use Rattle.cut_replay.specs.ClosedCuts.{IsClosed, count_in}
use Rattle.cut_replay.specs.CutStates.{IsStateAt, PlaysTo}
use Rattle.cut_moves.specs.Rounds.{rounds_of}
use Rattle.cut_moves.specs.Steps.{next_in}
use Rattle.cut_moves.specs.Ways.{way_of}
use Rattle.cut_index.specs.Standings.{reached}
use Rattle.cut_index.proofs.AtCuts.{reached_at}
use Rattle.cut_index.proofs.CoresAlone.{goes_on_law, next_at_law}
use Rattle.what_if.specs.Laws.{OtherPlaysLaw, PlaysOther, taken}
use Rattle.what_if.specs.Others.{free_plan, goes_on, left_by, less, other_places, round, rounds, total_in, tried}
use Rattle.what_if.proofs.Cuts.{cores_are, leads, no_log, ordered, plays_to, ready_free, same_beginning}
use Rattle.what_if.proofs.Fronts.{plays_taken, taken_by}
use Rattle.what_if.proofs.Tries.{going_goes, left_on, left_start, tried_goes}

-- ---- rounds are places

many : Plan → ℕ → List ℕ
many p zero = []
many p (suc n) = range_with_len 0 (length p.totals) ++ many p n

rounds_left : (p : Plan) (s : Outcome) (n : ℕ) → rounds p s n ≡ left_by p s (many p n)
unfolding rounds many
rounds_left p s zero = sym (left_start p s)
rounds_left p s (suc n) =
    rounds_left p (round p s) n ∙ sym (left_on p s (range_with_len 0 (length p.totals)) (many p n))

-- ---- the timeline as far as the cut is kept, and the core behind it

module _ (which : Which) (r : Recording) (valid : Valid r) where
  abbrev p : Plan
  p = plan_of which r

  abbrev q : Plan
  q = free_plan r

  all_taken : (f : ℕ → ℕ) (s : Outcome) (order more : List ℕ) → PlayKnown p f s → Ordered p f order →
      Plays p s order → taken q s (order ++ more) ≡ order ++ taken q (play p s order) more
  all_taken f s [] more known is_ordered plays = refl
  all_taken f s (c ∷ cs) more known is_ordered plays =
      let goes : goes_on q s c ≡ true =
      going_goes q s c (ready_free which r valid f s c known.counts is_ordered.0) plays.0 in
      let there : tried q s c ≡ place p s c =
      tried_goes q s c goes ∙ (by_image q p s (c ∷ []) refl).outcome in
      taken_by q s c (cs ++ more) true goes
      ∙ ap (λ (t : Outcome). c ∷ taken q t (cs ++ more)) there
      ∙ ap (λ (l : List ℕ). c ∷ l)
      (all_taken (bump f c) (place p s c) cs more (place_known p f s c known is_ordered.0) is_ordered.1 plays.1)

  module _ (determinate : IsDeterminate which r) (cut : Cut) (first : ℕ) (closed : IsClosed which r cut)
      (next : IsInstrOf r (next_in cut first)) where
    abbrev state : Outcome
    state = reached which r cut

    is : IsStateAt which r cut (reached which r cut)
    is = reached_at which r valid determinate cut closed

    abbrev front : List ℕ
    front = way_of nought (count_in cut) (rounds_of which r)

    abbrev tail : List ℕ
    tail = less first (way_of (count_in cut) (total_in r) (rounds_of which r))

    abbrev behind : List ℕ
    behind = tail ++ many q r.params.limit

    plays : PlaysTo which r front state
    plays = plays_to which r valid determinate cut closed state is

    in_order : Ordered p nought front
    in_order = ordered which r valid determinate cut closed state is

    inside : first < r.params.cores
    inside = let core = next.core in let all = valid.each_core in omega arith

    below : count_in cut first < slice_index r.totals first
    below = let most = next.most in omega arith

    count : counts_in state first ≡ count_in cut first
    count =
        ap (λ (t : Outcome). counts_in t first) plays.outcome_is
        ∙ ap (λ (f : ℕ → ℕ). f first) (play_law p front in_order).counts
        ∙ leads which r valid determinate cut closed state is first

    ready : is_ready q (counts_in state) first ≡ true
    ready =
        let few = cores_are which r valid in
        let here = inside in
        let room = below in
        let at = count in
        let all = valid.each_core in
        let most : slice_index r.totals first ≤ r.params.limit = valid.totals first 0 next.core in
        let limit : slice_index q.totals first ≡ r.params.limit =
        get_or-replicate r.params.cores first r.params.limit 0 inside in
        ready_is q (counts_in state) first (record {
          inside = omega arith;
          below = omega arith;
          sourced = subst (λ (es : List Edge). Sourced es (counts_in state) first (counts_in state first + 1))
              (sym (no_log r)) tt;
        })

    going : is_done (need_at q state first) ≡ false
    going =
        ap (λ (n : Need). is_done n) (next_at_law which r cut state first valid determinate is inside)
        ∙ goes_on_law which r first (count_in cut first) valid determinate inside below

    begins : taken q (start q) (front ++ first ∷ behind) ≡ front ++ first ∷ taken q (tried q state first) behind
    begins =
        ap (λ (s : Outcome). taken q s (front ++ first ∷ behind)) (same_beginning which r valid)
        ∙ all_taken nought (start p) front (first ∷ behind) (start_known p) in_order plays.plays
        ∙ ap (λ (s : Outcome). front ++ taken q s (first ∷ behind)) (sym plays.outcome_is)
        ∙ ap (λ (l : List ℕ). front ++ l)
        (taken_by q state first behind true (going_goes q state first ready going))

    other : PlaysOther which r cut first (taken q (start q) (front ++ first ∷ behind))
    other = record {
      rest = taken q (tried q state first) behind;
      begins = begins;
      plays = (plays_taken q (start q) (front ++ first ∷ behind)).plays;
      outcome_is =
          rounds_left q (left_by q (start q) (other_places which r cut first)) r.params.limit
          ∙ sym (left_on q (start q) (other_places which r cut first) (many q r.params.limit))
          ∙ ap (λ (l : List ℕ). left_by q (start q) l)
          (append_assoc front (first ∷ tail) (many q r.params.limit))
          ∙ (plays_taken q (start q) (front ++ first ∷ behind)).same;
    }

pub other_plays : OtherPlaysLaw
other_plays which r cut first valid determinate closed next = (
  taken (free_plan r) (start (free_plan r)) (front which r valid determinate cut first closed next
      ++ first ∷ behind which r valid determinate cut first closed next),
  other which r valid determinate cut first closed next,
)
