-- What is kept with one clock more.
use Rattle.std.proofs.Common.{◌≡◌, ℕ, ◌-◌, ◌<◌, List, [], ◌∷◌, ◌++◌, length, sym, ◌∙◌, subst, get_or-set_same}
use Rattle.std.proofs.Common.{get_or-set_other}
use Rattle.std.specs.Prelude.{slice_index, slice_index_or, slice_set}
use native.Mathlib.Decide.{ℕ_discrete}
use Rattle.rtr_types.specs.declared.instr.Instr.{Instr}
use Rattle.replay_audit.specs.Clocks.{AreRising, number_to}
use Rattle.replay_audit.proofs.ClockNumbers.{rising_more}
use Rattle.touch_judge.specs.Runs.{EachRises}

pub each_rises : (clocks : List (List (List ℕ))) (y : Instr) (clock : List ℕ) (list : List (List ℕ)) →
    EachRises clocks → y.core < length clocks → list ≡ slice_index_or clocks y.core [] ++ clock ∷ [] →
    number_to (slice_index_or clocks y.core []) y.core (y.count - 1) ≡ length (slice_index_or clocks y.core []) →
    y.count - 1 < slice_index clock y.core → EachRises (slice_set clocks y.core list)
each_rises clocks y clock list rises lt list_is all later c = by (ℕ_discrete c y.core)
  where
    by : Dec (c ≡ y.core) → AreRising c (slice_index_or (slice_set clocks y.core list) c [])
    by (yes e) = subst (λ (d : ℕ). AreRising d (slice_index_or (slice_set clocks y.core list) d [])) (sym e)
        (subst (λ (l : List (List ℕ)). AreRising y.core l)
        (sym (get_or-set_same clocks y.core list [] lt ∙ list_is))
        (rising_more (slice_index_or clocks y.core []) clock y.core (y.count - 1) (rises y.core) all later))
    by (no ne) = subst (λ (l : List (List ℕ)). AreRising c l)
        (sym (get_or-set_other clocks y.core c list [] ne)) (rises c)
