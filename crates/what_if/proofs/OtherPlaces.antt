-- The places of the run in which another core goes first.
use Rattle.std.proofs.Common.{◌≡◌, ◌⊎◌, inl, inr, ℕ, ◌<◌, ◌≤◌, List, []}
use Rattle.std.proofs.Common.{◌∷◌, ◌++◌, length, sym, ap, subst, ◌∙◌, append_assoc, arith}
use Rattle.std.proofs.Math.Path.{fun_ext}
use Rattle.std.proofs.lemmas.Bool.{cases_lt}
use Rattle.std.proofs.lemmas.List.{get_or_past}
use Rattle.rtr_types.specs.declared.cut.Cut.{Cut}
use Rattle.rtr_types.specs.declared.pairs.Which.{Which}
use Rattle.race_log.specs.declared.recording.Recording.{Recording}
use Rattle.race_log.specs.Validity.{Valid}
use Rattle.replay_core.specs.Orders.{nought}
use Rattle.cut_replay.specs.ClosedCuts.{count_in}
use Rattle.cut_moves.specs.Rounds.{rounds_of}
use Rattle.cut_moves.specs.Steps.{IsWholeCut}
use Rattle.cut_moves.specs.Ways.{way_of}
use Rattle.cut_moves.proofs.Hulls.{empty_cut, none_in}
use Rattle.what_if.specs.Others.{less, other_places, total_in}

pub whole_is : (r : Recording) → Valid r → (all : Cut) → IsWholeCut r all → count_in all ≡ total_in r
whole_is r valid all is = fun_ext (λ core. by core (cases_lt core r.params.cores))
  where
    by : (core : ℕ) → (core < r.params.cores) ⊎ (r.params.cores ≤ core) → count_in all core ≡ total_in r core
    by core (inl lt) = is.all core lt
    by core (inr past) =
        is.is_cut.rest core past ∙ sym (get_or_past r.totals core 0 (let long = valid.each_core in omega arith))

module _ (which : Which) (r : Recording) (valid : Valid r) (cut nothing all : Cut) (first cores : ℕ)
    (is_nothing : nothing ≡ empty_cut cores)
    (is_whole : IsWholeCut r all) (timeline front behind pushed places : List ℕ)
    (rounds_are : timeline ≡ rounds_of which r) (front_is : front ≡ way_of (count_in nothing) (count_in cut) timeline)
    (behind_is : behind ≡ way_of (count_in cut) (count_in all) timeline) (pushed_is : pushed ≡ front ++ first ∷ [])
    (places_are : places ≡ pushed ++ less first behind) where
  nothing_is : count_in nothing ≡ nought
  nothing_is = ap (λ (c : Cut). count_in c) is_nothing ∙ fun_ext (λ core. none_in cores core)

  front_so : front ≡ way_of nought (count_in cut) (rounds_of which r)
  front_so = front_is ∙ ap (λ (f : ℕ → ℕ). way_of f (count_in cut) timeline) nothing_is
      ∙ ap (λ (l : List ℕ). way_of nought (count_in cut) l) rounds_are

  behind_so : behind ≡ way_of (count_in cut) (total_in r) (rounds_of which r)
  behind_so = behind_is ∙ ap (λ (f : ℕ → ℕ). way_of (count_in cut) f timeline) (whole_is r valid all is_whole)
      ∙ ap (λ (l : List ℕ). way_of (count_in cut) (total_in r) l) rounds_are

  pub all_places : places ≡ other_places which r cut first
  all_places =
      places_are ∙ ap (λ (l : List ℕ). l ++ less first behind) pushed_is
      ∙ append_assoc front (first ∷ []) (less first behind)
      ∙ ap (λ (l : List ℕ). l ++ first ∷ less first behind) front_so
      ∙ ap (λ (l : List ℕ). way_of nought (count_in cut) (rounds_of which r) ++ first ∷ less first l) behind_so
