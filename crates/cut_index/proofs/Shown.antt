-- What an index shows at a closed cut is what a replay shows that has come there.
use Rattle.std.proofs.Common.{◌≡◌, ◌∙◌, ℕ, ◌<◌, ◌≤◌, length, sym, ap, subst, arith}
use Rattle.std.specs.Prelude.{slice_index}
use Rattle.rtr_types.specs.declared.cut.Cut.{Cut}
use Rattle.rv_core.specs.declared.core_state.Core.{Core}
use Rattle.rv_core.specs.declared.outcome.Outcome.{Outcome}
use Rattle.replay_core.specs.Answers.{UnderWay, cut_of}
use Rattle.replay_core.specs.Orders.{counts_in}
use Rattle.replay_core.specs.Play.{core_at, need_at, use_of}
use Rattle.replay_audit.specs.Audits.{Findings}
use Rattle.cut_replay.specs.ClosedCuts.{count_in, IsClosed}
use Rattle.race_queries.specs.Queries.{IsAudited}
use Rattle.cut_index.specs.declared.alone.Next.{Next}
use Rattle.cut_index.specs.Indexes.{IsCoreAt, IsNextAt, IsWordAt}
use Rattle.cut_index.specs.Standings.{reached, standing_at}
use Rattle.cut_index.proofs.AtCuts.{reached_at, reached_count}
use Rattle.cut_index.proofs.AtCuts.{reached_cut}

module _ (f : Findings) (h : IsAudited f) (cut : Cut) (closed : IsClosed f.which f.recording cut) (u : UnderWay)
    (is : standing_at f.which f.recording cut ≡ u) where
  abbrev s : Outcome
  s = reached f.which f.recording cut

  pub shown_cut : cut ≡ cut_of u.plan (counts_in u.state)
  shown_cut = sym (reached_cut f.which f.recording h.valid h.passed.determinate cut closed)
      ∙ ap (λ (v : UnderWay). cut_of v.plan (counts_in v.state)) is

  pub shown_count : (core : ℕ) → slice_index cut.counts core ≡ counts_in u.state core
  shown_count core = sym (reached_count f.which f.recording h.valid h.passed.determinate cut closed core)
      ∙ ap (λ (v : UnderWay). counts_in v.state core) is

  pub shown_cores : f.recording.params.cores ≡ length u.plan.totals
  shown_cores = sym h.valid.each_core ∙ ap (λ (v : UnderWay). length v.plan.totals) is

  pub shown_inside : (core : ℕ) → core < length u.plan.totals → core < f.recording.params.cores
  shown_inside core lt = let all = shown_cores in omega arith

  pub shown_place : (core : ℕ) → core < length u.plan.totals → core < length cut.counts
  shown_place core lt =
      let all = shown_cores in
      let wide = closed.is_cut.places in
      let few = h.valid.params.cores in
      omega arith

  pub shown_total : (core : ℕ) → slice_index f.recording.totals core ≡ slice_index u.plan.totals core
  shown_total core = ap (λ (v : UnderWay). slice_index v.plan.totals core) is

  pub shown_most : (core count : ℕ) → core < length u.plan.totals → count ≡ counts_in u.state core →
      count ≤ slice_index f.recording.totals core
  shown_most core count lt count_is =
      let here = shown_count core in
      let most = closed.is_cut.most core (shown_inside core lt) in
      omega arith

  module _ (core count : ℕ) (count_is : count ≡ counts_in u.state core) where
    there : count_in cut core ≡ count
    there = shown_count core ∙ sym count_is

    pub shown_core : (k : Core) → IsCoreAt f core count k → k ≡ core_at u.state core
    shown_core k at = at cut s (reached_at f.which f.recording h.valid h.passed.determinate cut closed) there
        ∙ ap (λ (v : UnderWay). core_at v.state core) is

    pub shown_pc : (next : Next) → IsNextAt f core count next → next.pc ≡ (core_at u.state core).pc
    shown_pc next at = (at cut s (reached_at f.which f.recording h.valid h.passed.determinate cut closed) there).pc
        ∙ ap (λ (v : UnderWay). (core_at v.state core).pc) is

    pub shown_used : (next : Next) → IsNextAt f core count next → next.used ≡ use_of (need_at u.plan u.state core)
    shown_used next at = (at cut s (reached_at f.which f.recording h.valid h.passed.determinate cut closed) there).used
        ∙ ap (λ (v : UnderWay). use_of (need_at v.plan v.state core)) is

  pub shown_words : (word : ℕ) → word < u.plan.image.words → word < f.recording.params.words
  shown_words word lt = subst (λ (v : UnderWay). word < v.plan.image.words) (sym is) lt

  pub shown_word : (word value : ℕ) → IsWordAt f cut word value → value ≡ slice_index u.state.words word
  shown_word word value at = at s (reached_at f.which f.recording h.valid h.passed.determinate cut closed)
      ∙ ap (λ (v : UnderWay). slice_index v.state.words word) is
