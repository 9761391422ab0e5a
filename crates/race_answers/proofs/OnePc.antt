-- An instruction has one pc. Two closed cuts with the same count of a core have that count in common, and from what
-- they have in common the way to each has no place of the core, so the core stays where it is.
use Rattle.std.proofs.Common.{◌≡◌, inl, inr, ℕ, List, [], ◌∷◌, ◌++◌, refl, sym, ap, subst, ◌∙◌, arith}
use Rattle.std.proofs.Math.Path.{fun_ext}
use Rattle.std.specs.Prelude.{None}
use native.Mathlib.Decide.{ℕ_discrete}
use Rattle.rtr_types.specs.declared.cut.Cut.{Cut}
use Rattle.rtr_types.specs.declared.pairs.Which.{Which}
use Rattle.rv_core.specs.declared.core_state.Core.{Core}
use Rattle.rv_core.specs.declared.outcome.Outcome.{Outcome}
use Rattle.race_log.specs.declared.recording.Recording.{Recording}
use Rattle.race_log.specs.Validity.{Valid}
use Rattle.replay_core.specs.Orders.{Ordered, bump, counts, nought}
use Rattle.replay_core.specs.Plans.{Plan, plan_of}
use Rattle.replay_core.specs.Play.{core_at, place, play, played, start}
use Rattle.replay_core.proofs.Counts.{bump_else, bump_same, counts_more, counts_on}
use Rattle.replay_core.proofs.Lists.{ordered_join, play_on}
use Rattle.replay_core.proofs.Places.{place_given_law}
use Rattle.replay_audit.specs.Determinate.{IsDeterminate}
use Rattle.cut_replay.specs.ClosedCuts.{IsClosed, IsContained, count_in}
use Rattle.cut_replay.specs.CutStates.{IsStateAt}
use Rattle.cut_moves.proofs.TakenWay.{leading_way, ordered_way}
use Rattle.cut_moves.proofs.Hulls.{empty_cut, none_in}
use Rattle.cut_moves.proofs.Unions.{IsLesser, intersection_closed, lesser}
use Rattle.cut_moves.specs.Rounds.{rounds_of}
use Rattle.cut_moves.specs.Unions.{intersection_of}
use Rattle.cut_moves.specs.Ways.{LeadsTo, way_of}
use Rattle.race_answers.specs.Pcs.{OnePcLaw}

-- a core that takes no place stays
untouched : (p : Plan) (s : Outcome) (f : ℕ → ℕ) (order : List ℕ) (core : ℕ) → counts f order core ≡ f core →
    core_at (play p s order) core ≡ core_at s core
untouched p s f [] core none = refl
untouched p s f (c ∷ order) core none = elim (ℕ_discrete core c) [
  | yes same ↦
      let more = counts_more (bump f c) order core in
      let here = bump_same f c core same in absurd (omega arith)
  | no ne ↦
      untouched p (place p s c) (bump f c) order core (none ∙ sym (bump_else f c core ne))
      ∙ (place_given_law p s c None).other_cores core ne
]

module _ (which : Which) (r : Recording) (valid : Valid r) (determinate : IsDeterminate which r) (low : Cut)
    (low_closed : IsClosed which r low) where
  -- the way to the cut from the beginning
  abbrev front : List ℕ
  front = way_of (count_in (empty_cut r.params.cores)) (count_in low) (rounds_of which r)

  none : count_in (empty_cut r.params.cores) ≡ nought
  none = fun_ext (λ (i : ℕ). none_in r.params.cores i)

  from_nothing : IsContained (empty_cut r.params.cores) low
  from_nothing i = let nothing = none_in r.params.cores i in omega arith

  front_ordered : Ordered (plan_of which r) nought
      (way_of (count_in (empty_cut r.params.cores)) (count_in low) (rounds_of which r))
  front_ordered =
      subst (λ (g : ℕ → ℕ). Ordered (plan_of which r) g front) none
      (ordered_way which r valid determinate (empty_cut r.params.cores) low from_nothing low_closed front refl)

  front_counts : counts nought (way_of (count_in (empty_cut r.params.cores)) (count_in low) (rounds_of which r))
      ≡ count_in low
  front_counts =
      subst (λ (g : ℕ → ℕ). counts g front ≡ count_in low) none
      (fun_ext (λ (i : ℕ).
      leading_way which r valid determinate (empty_cut r.params.cores) low from_nothing low_closed front refl i))

  module _ (core : ℕ) (high : Cut) (high_closed : IsClosed which r high) (within : IsContained low high)
      (same : count_in high core ≡ count_in low core) where
    abbrev rest : List ℕ
    rest = way_of (count_in low) (count_in high) (rounds_of which r)

    rest_ordered : Ordered (plan_of which r) (count_in low) (way_of (count_in low) (count_in high) (rounds_of which r))
    rest_ordered = ordered_way which r valid determinate low high within high_closed rest refl

    rest_leads : LeadsTo (count_in low) (count_in high) (way_of (count_in low) (count_in high) (rounds_of which r))
    rest_leads = leading_way which r valid determinate low high within high_closed rest refl

    -- the core is where it was at the lower cut
    pub stays : (s : Outcome) → IsStateAt which r high s →
        core_at s core ≡ core_at (played (plan_of which r)
        (way_of (count_in (empty_cut r.params.cores)) (count_in low) (rounds_of which r))) core
    stays s is =
        ap (λ (t : Outcome). core_at t core)
        ((is.every_order (front ++ rest) (record {
          ordered = ordered_join (plan_of which r) nought front rest front_ordered
              (subst (λ (g : ℕ → ℕ). Ordered (plan_of which r) g rest) (sym front_counts) rest_ordered);
          counts_are = λ i.
              ap (λ (g : ℕ → ℕ). g i) (counts_on nought front rest)
              ∙ ap (λ (g : ℕ → ℕ). counts g rest i) front_counts ∙ rest_leads i;
        })).outcome_is
        ∙ play_on (plan_of which r) (start (plan_of which r)) front rest)
        ∙ untouched (plan_of which r) (played (plan_of which r) front) (count_in low) rest core
        (rest_leads core ∙ same)

-- a count that two cuts share is that of what they have in common
shared : (a b m n : ℕ) → a ≡ n → b ≡ n → IsLesser a b m → m ≡ n
shared a b m n is other less = elim less.one [ inl e ↦ e ∙ is | inr e ↦ e ∙ other ]

pub one_pc_law : OnePcLaw
one_pc_law which r at pc other valid determinate h k =
    let low = intersection_of h.cut k.cut in
    let closed = intersection_closed which r h.cut k.cut h.closed k.closed in
    let less : (i : ℕ) → IsLesser (count_in h.cut i) (count_in k.cut i) (count_in low i) =
    λ i. lesser r h.cut k.cut h.closed.is_cut k.closed.is_cut i in
    let one : count_in h.cut at.core ≡ count_in k.cut at.core =
    (let a = h.before in let b = k.before in omega arith) in
    let both : count_in low at.core ≡ count_in k.cut at.core =
    shared (count_in h.cut at.core) (count_in k.cut at.core) (count_in low at.core) (count_in k.cut at.core) one refl
    (less at.core) in
    h.pc_is
    ∙ ap (λ (core : Core). core.pc)
    (stays which r valid determinate low closed at.core h.cut h.closed (λ i. (less i).first) (one ∙ sym both) h.state
    h.state_is
    ∙ sym (stays which r valid determinate low closed at.core k.cut k.closed (λ i. (less i).second) (sym both) k.state
    k.state_is))
    ∙ sym k.pc_is
