-- The cores that a run ends with, by what was told.
use Rattle.std.proofs.Common.{◌≡◌, ◌∙◌, refl, sym, ap, subst, ℕ, ◌+◌, ◌<◌, ◌≤◌, ◌^◌, true, List, [], ◌∷◌, length}
use Rattle.std.proofs.Common.{arith}
use Rattle.std.specs.Prelude.{All, slice_index}
use Rattle.std.proofs.lemmas.List.{get_or-map, length-map}
use Rattle.std.proofs.lemmas.List.Elements.{All-from_get_or, All-map}
use Rattle.image_mem.specs.Contents.{Contents}
use Rattle.rtr_types.specs.declared.TheConstants.{CORES_MAX}
use Rattle.rtr_types.specs.declared.params.Params.{Params}
use Rattle.rv_core.specs.declared.core_state.Core.{Core}
use Rattle.rv_core.specs.States.{starting}
use Rattle.rv_core.specs.Steps.{after}
use Rattle.rv_core.proofs.LawLemmas.{count_law, limit_law, start_law}
use Rattle.tso_invariant.proofs.StartInvariant.{holds_run}
use Rattle.tso_state.specs.Events.{Told}
use Rattle.tso_state.specs.Runs.{all_told, run, totals}
use Rattle.tso_state.specs.States.{BufferedCore, all_done, buffered_start, core_at}
use Rattle.tso_told.specs.Played.{found_by, told_core, told_of}
use Rattle.tso_told.proofs.ToldRuns.{run_cores, told_whole}

told_count : (image : Contents) (core : Core) (list : List Told) →
    (told_core image core list).count ≡ core.count + length list
told_count image core [] = let same : core.count ≡ core.count + 0 = omega arith in same
told_count image core (e ∷ list) =
    let one = count_law image core (found_by e) in
    let rest = told_count image (after image core (found_by e)) list in
    let whole : (told_core image (after image core (found_by e)) list).count ≡ core.count + length (e ∷ list) =
    omega arith in
    whole

told_limit : (image : Contents) (core : Core) (list : List Told) → (told_core image core list).limit ≡ core.limit
told_limit image core [] = refl
told_limit image core (e ∷ list) =
    told_limit image (after image core (found_by e)) list ∙ limit_law image core (found_by e)

pub all_totals : (image : Contents) (params : Params) (choices : ℕ → ℕ) (t : ℕ) →
    length (totals (run image params choices t)) ≡ params.cores
all_totals image params choices t =
    length-map (run image params choices t).cores (λ (x : BufferedCore). x.core.count)
    ∙ run_cores image params choices t

module _ (image : Contents) (params : Params) (choices : ℕ → ℕ) (t : ℕ) (few : params.cores ≤ CORES_MAX)
    (small : params.limit < 2 ^ 32)
    (done : all_done (run image params choices t) ≡ true) where
  -- a core's total is the number of its instructions that were told
  pub total_at : (c : ℕ) → c < params.cores →
      slice_index (totals (run image params choices t)) c ≡ (core_at (run image params choices t).cores c).core.count
  total_at c lt =
      let n = run_cores image params choices t in
      get_or-map (λ (x : BufferedCore). x.core.count) (run image params choices t).cores c (buffered_start 0 0) 0
      (omega arith)

  pub total_told : (c : ℕ) → c < params.cores →
      slice_index (totals (run image params choices t)) c ≡ length (told_of c (all_told image params choices t))
  total_told c lt =
      let list = told_of c (all_told image params choices t) in
      let counted = told_count image (starting c params.limit) list in
      let none = (start_law c params.limit).2 in
      let sum : (told_core image (starting c params.limit) list).count ≡ length list = omega arith in
      total_at c lt ∙ ap (λ (k : Core). k.count) (sym (told_whole image params choices t c few small lt done)) ∙ sum

  pub totals_fit : All (λ n. n ≤ params.limit) (totals (run image params choices t))
  totals_fit =
      All-map (λ n. n ≤ params.limit) (λ (x : BufferedCore). x.core.count) (run image params choices t).cores
      (All-from_get_or (λ (x : BufferedCore). x.core.count ≤ params.limit) (run image params choices t).cores
      (buffered_start 0 0) (λ c lt.
      let n = run_cores image params choices t in
      let inside : c < params.cores = omega arith in
      let fits = ((holds_run image params choices t few small).cores c lt).fits.count_fits in
      let limit : (core_at (run image params choices t).cores c).core.limit ≡ params.limit =
      ap (λ (k : Core). k.limit) (sym (told_whole image params choices t c few small inside done))
      ∙ told_limit image (starting c params.limit) (told_of c (all_told image params choices t))
      ∙ (start_law c params.limit).1 in
      subst (λ (m : ℕ). (core_at (run image params choices t).cores c).core.count ≤ m) limit fits))
