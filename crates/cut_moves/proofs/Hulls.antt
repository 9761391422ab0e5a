-- Cuts with nothing, with all, and around given counts.
use Rattle.std.proofs.Common.{inl, inr, ◌≡◌, ◌⊎◌, ℕ, ◌+◌, ◌<◌, ◌≤◌, replicate, sym, subst, arith}
use Rattle.std.proofs.lemmas.Bool.{cases_lt}
use Rattle.std.proofs.lemmas.List.{length-replicate}
use Rattle.std.specs.Prelude.{slice_index}
use native.Mathlib.Decide.{ℕ_discrete}
use Rattle.rtr_types.specs.declared.TheConstants.{CORES_MAX}
use Rattle.rtr_types.specs.declared.cut.Cut.{Cut}
use Rattle.rtr_types.specs.declared.pairs.Which.{Which}
use Rattle.rtr_types.proofs.Ranges.{zero_at}
use Rattle.race_log.specs.declared.recording.Recording.{Recording}
use Rattle.race_log.specs.Validity.{Valid}
use Rattle.replay_core.specs.Play.{instr}
use Rattle.cut_replay.specs.ClosedCuts.{count_in, IsClosed, IsContained, IsCutOf, IsGreatestWithout, IsLeastWith}
use Rattle.cut_replay.proofs.Cuts.{has_within}
use Rattle.cut_moves.specs.Steps.{IsHull, IsWholeCut, next_in}
use Rattle.cut_moves.specs.Unions.{union_of}
use Rattle.cut_moves.proofs.Unions.{union_closed, union_least}

-- the cut with nothing
abbrev pub empty_cut : ℕ → Cut
empty_cut cores = record { cores = cores; counts = replicate CORES_MAX 0 }

pub none_in : (cores i : ℕ) → count_in (empty_cut cores) i ≡ 0
none_in cores i = zero_at CORES_MAX i

pub empty_closed : (which : Which) (r : Recording) (cores : ℕ) → Valid r → cores ≡ r.params.cores →
    IsClosed which r (empty_cut cores)
empty_closed which r cores valid is = record {
  is_cut = record {
    cores = is;
    places = length-replicate {A = ℕ} CORES_MAX 0;
    most = λ core lt. let n = none_in cores core in omega arith;
    rest = λ core le. none_in cores core;
  };
  sources = λ from to has holds.
      let n = none_in cores to.core in let w =
      (has_within which r from to valid has).some_target in absurd (omega arith);
}

pub empty_least : (which : Which) (r : Recording) (cores core count : ℕ) → Valid r → cores ≡ r.params.cores →
    count ≡ 0 →
    IsLeastWith which r (instr core count) (empty_cut cores)
empty_least which r cores core count valid is none = record {
  closed = empty_closed which r cores valid is;
  holds = omega arith;
  least = λ other closed holds i. let n = none_in cores i in omega arith;
}

-- ---- all

-- a cut within the recording is within the cut with all
pub in_whole : (r : Recording) (all cut : Cut) → IsWholeCut r all → IsCutOf r cut → IsContained cut all
in_whole r all cut h k core = by (cases_lt core r.params.cores)
  where
    by : (core < r.params.cores) ⊎ (r.params.cores ≤ core) → count_in cut core ≤ count_in all core
    by (inl lt) = let e = h.all core lt in let m = k.most core lt in omega arith
    by (inr past) = let z = k.rest core past in omega arith

pub whole_closed : (which : Which) (r : Recording) (all : Cut) → Valid r → IsWholeCut r all → IsClosed which r all
whole_closed which r all valid h = record {
  is_cut = h.is_cut;
  sources = λ from to has holds.
      let w = has_within which r from to valid has in
      let e = h.all from.core w.pair.source in
      let m = w.source_most in
      omega arith;
}

-- where the core has no next instruction it is the greatest cut without it
pub whole_greatest : (which : Which) (r : Recording) (all cut : Cut) (core : ℕ) → Valid r → IsWholeCut r all →
    core < r.params.cores → slice_index r.totals core ≤ count_in cut core →
    IsGreatestWithout which r (next_in cut core) all
whole_greatest which r all cut core valid h inside past = record {
  closed = whole_closed which r all valid h;
  without = λ holds. let e = h.all core inside in absurd (omega arith);
  greatest = λ other closed lacks. in_whole r all other h closed.is_cut;
}

-- ---- what stays

pub least_stays : (which : Which) (r : Recording) (cut to : Cut) (core : ℕ) → IsClosed which r cut →
    IsLeastWith which r (instr core (count_in cut core)) to → count_in to core ≡ count_in cut core
least_stays which r cut to core closed h =
    let a = h.holds in let b = h.least cut closed (omega arith) core in omega arith

pub greatest_stays : (which : Which) (r : Recording) (cut to : Cut) (core : ℕ) → IsClosed which r cut →
    IsGreatestWithout which r (next_in cut core) to → count_in to core ≡ count_in cut core
greatest_stays which r cut to core closed h =
    let b = h.greatest cut closed (λ holds. omega arith) core in
    by (cases_lt (count_in to core) (count_in cut core + 1)) b
  where
    by : (count_in to core < count_in cut core + 1) ⊎ (count_in cut core + 1 ≤ count_in to core) →
        count_in cut core ≤ count_in to core → count_in to core ≡ count_in cut core
    by (inl lt) b = omega arith
    by (inr le) b = absurd (h.without le)

-- ---- the hull

-- the least closed cut that contains the counts of the cores below k
pub record IsHullUpTo (which : Which) (r : Recording) (counts : Cut) (k : ℕ) (to : Cut) : Type 0 where
  pub closed : IsClosed which r to
  pub contains : (core : ℕ) → core < k → count_in counts core ≤ count_in to core
  pub least : (other : Cut) → IsClosed which r other →
      ((core : ℕ) → core < k → count_in counts core ≤ count_in other core) → IsContained to other

pub hull_start : (which : Which) (r : Recording) (counts : Cut) (cores : ℕ) → Valid r → cores ≡ r.params.cores →
    IsHullUpTo which r counts 0 (empty_cut cores)
hull_start which r counts cores valid is = record {
  closed = empty_closed which r cores valid is;
  contains = λ core lt. absurd (omega arith);
  least = λ other closed has core. let n = none_in cores core in omega arith;
}

pub hull_on : (which : Which) (r : Recording) (counts : Cut) (k : ℕ) (to least : Cut) → IsHullUpTo which r counts k to →
    IsLeastWith which r (instr k (count_in counts k)) least → IsHullUpTo which r counts (k + 1) (union_of to least)
hull_on which r counts k to least h l =
    let u = union_least r to least h.closed.is_cut l.closed.is_cut in
    record {
      closed = union_closed which r to least h.closed l.closed;
      contains = λ core lt. elim (ℕ_discrete core k) [
        | yes e ↦
            subst (λ (i : ℕ). count_in counts i ≤ count_in (union_of to least) i) (sym e)
            (let a = l.holds in let b = u.second k in omega arith)
        | no ne ↦ let a = h.contains core (omega arith) in let b = u.first core in omega arith
      ];
      least = λ other closed has. u.least other (h.least other closed (λ core lt. has core (omega arith)))
          (l.least other closed (has k (omega arith)));
    }

pub hull_end : (which : Which) (r : Recording) (counts to : Cut) (k : ℕ) → IsCutOf r counts → r.params.cores ≤ k →
    IsHullUpTo which r counts k to → IsHull which r counts to
hull_end which r counts to k is past h = record {
  closed = h.closed;
  contains = λ core. by core (cases_lt core k);
  least = λ other closed has. h.least other closed (λ core lt. has core);
}
  where
    by : (core : ℕ) → (core < k) ⊎ (k ≤ core) → count_in counts core ≤ count_in to core
    by core (inl lt) = h.contains core lt
    by core (inr le) = let z = is.rest core (omega arith) in omega arith
