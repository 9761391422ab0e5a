-- A step back by what each core has free of an instruction: the cut without what needs it is the greatest one within.
use Rattle.std.proofs.Common.{inl, inr, ◌≡◌, ◌⊎◌, ℕ, ◌+◌, ◌<◌, ◌≤◌, refl, sym, subst, arith}
use Rattle.std.proofs.lemmas.Bool.{cases_lt}
use Rattle.rtr_types.specs.declared.cut.Cut.{Cut}
use Rattle.rtr_types.specs.declared.instr.Instr.{Instr}
use Rattle.rtr_types.specs.declared.pairs.Which.{Which}
use Rattle.clock_core.specs.Order.{Among, Before}
use Rattle.clock_core.proofs.Paths.{joined, one}
use Rattle.race_log.specs.declared.recording.Recording.{Recording}
use Rattle.race_log.specs.Sources.{EdgeWithin, HasEdge, log_edges}
use Rattle.race_log.specs.Validity.{Valid}
use Rattle.replay_core.specs.Play.{instr}
use Rattle.replay_audit.specs.Audits.{IsInstrOf}
use Rattle.replay_audit.proofs.Logs.{leads_back}
use Rattle.cut_replay.specs.ClosedCuts.{count_in, Holds, IsClosed, IsContained, IsCutOf}
use Rattle.cut_replay.specs.Frees.{IsNeededBy}
use Rattle.cut_replay.proofs.Cuts.{closed_counts, has_within, then_edge}
use Rattle.cut_moves.specs.Steps.{AreFreeOf, AreWithout, IsStepBack}

-- ---- the instructions of one core

-- none of the first n needs it, and each behind the first k does, up to the last one that is asked for
pub record IsAsking (which : Which) (r : Recording) (at : Instr) (core most n k : ℕ) : Type 0 where
  pub order : n ≤ k
  pub within : k ≤ most
  pub free : (count : ℕ) → 1 ≤ count → count ≤ n → IsNeededBy which r at core count → ⊥
  pub need : (count : ℕ) → k < count → count ≤ most → IsNeededBy which r at core count

module _ (which : Which) (r : Recording) (at : Instr) (core : ℕ) where
  -- each instruction after one that needs it does
  later : (m n : ℕ) → m ≤ n → IsNeededBy which r at core m → IsNeededBy which r at core n
  later m n le need = by (cases_lt m n) need
    where
      on : m < n → IsNeededBy which r at core m → IsNeededBy which r at core n
      on lt (inl e) = inr (subst (λ (w : Instr). Before (Among (log_edges which r)) w (instr core n)) (sym e)
          (one (Among (log_edges which r)) (instr core m) (instr core n) (inl (refl, lt))))
      on lt (inr p) = inr (joined (Among (log_edges which r)) at (instr core m) (instr core n) p
          (one (Among (log_edges which r)) (instr core m) (instr core n) (inl (refl, lt))))

      by : (m < n) ⊎ (n ≤ m) → IsNeededBy which r at core m → IsNeededBy which r at core n
      by (inr most) h = let e : m ≡ n = omega arith in subst (λ (k : ℕ). IsNeededBy which r at core k) e h
      by (inl lt) h = on lt h

  pub asking_start : (most : ℕ) → IsAsking which r at core most 0 most
  asking_start most = record {
    order = omega arith;
    within = omega arith;
    free = λ count some le. absurd (omega arith);
    need = λ count more le. absurd (omega arith);
  }

  module _ (most n k m : ℕ) (h : IsAsking which r at core most n k) (above : n < m) (below : m ≤ k) where
    pub asked_need : (j : ℕ) → j + 1 ≡ m → IsNeededBy which r at core m → IsAsking which r at core most n j
    asked_need j e need = record {
      order = omega arith;
      within = let w = h.within in omega arith;
      free = h.free;
      need = λ count more le. later m count (omega arith) need;
    }

    pub asked_free : (IsNeededBy which r at core m → ⊥) → IsAsking which r at core most m k
    asked_free not = record {
      order = below;
      within = h.within;
      free = λ count some le need. not (later count m le need);
      need = h.need;
    }

  pub asked_all : (most n k : ℕ) → IsAsking which r at core most n k → k ≤ n → AreFreeOf which r at core most n
  asked_all most n k h all = record {
    within = let o = h.order in let w = h.within in omega arith;
    free = h.free;
    need = λ count more le. h.need count (omega arith) le;
  }

-- ---- the cut

module _ (which : Which) (r : Recording) (valid : Valid r) (cut : Cut) (at : Instr) (closed : IsClosed which r cut)
    (is_instr : IsInstrOf r at) (to : Cut) (are : AreWithout which r cut at to) where
  inside : at.core < r.params.cores
  inside = let lt = is_instr.core in let e = valid.each_core in omega arith

  within : IsContained to cut
  within core = by (cases_lt core r.params.cores)
    where
      by : (core < r.params.cores) ⊎ (r.params.cores ≤ core) → count_in to core ≤ count_in cut core
      by (inl lt) = (are.each core lt).within
      by (inr past) = let none = are.rest core past in omega arith

  is_cut : IsCutOf r to
  is_cut = record {
    cores = are.cores;
    places = are.places;
    most = λ core lt. let w = within core in let m = closed.is_cut.most core lt in omega arith;
    rest = are.rest;
  }

  sources : (from into : Instr) → HasEdge which r from into → Holds to into → Holds to from
  sources from into has holds = by (cases_lt (count_in to from.core) from.count)
    where
      w : EdgeWithin r from into
      w = has_within which r from into valid has

      by : (count_in to from.core < from.count) ⊎ (from.count ≤ count_in to from.core) → Holds to from
      by (inr most) = most
      by (inl more) =
          let there = within into.core in
          let held : Holds cut from = closed.sources from into has (omega arith) in
          let need = (are.each from.core w.pair.source).need from.count more held in
          absurd ((are.each into.core w.pair.target).free into.count w.some_target holds
          (then_edge which r at from into need has))

  lacks : Holds to at → ⊥
  lacks holds = (are.each at.core inside).free at.count is_instr.some holds (inl refl)

  above : (other : Cut) → IsClosed which r other → IsContained other cut → (Holds other at → ⊥) → IsContained other to
  above other is contained without core =
      by (cases_lt core r.params.cores) (cases_lt (count_in to core) (count_in other core))
    where
      by : (core < r.params.cores) ⊎ (r.params.cores ≤ core) →
          (count_in to core < count_in other core) ⊎ (count_in other core ≤ count_in to core) →
          count_in other core ≤ count_in to core
      by (inr past) x = let none = is.is_cut.rest core past in omega arith
      by (inl lt) (inr most) = most
      by (inl lt) (inl more) =
          let need = (are.each core lt).need (count_in other core) more (contained core) in
          absurd (without (leads_back (log_edges which r) (count_in other) at (instr core (count_in other core))
          (closed_counts which r other is) need (omega arith)))

  pub is_step_back : IsStepBack which r cut at to
  is_step_back = record {
    closed = record { is_cut = is_cut; sources = sources };
    contained = within;
    without = lacks;
    greatest = above;
  }
