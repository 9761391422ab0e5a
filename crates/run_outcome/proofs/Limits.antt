-- Each core keeps the limit that it was given.
use Rattle.std.proofs.Common.{◌≡◌, refl, ap, ◌∙◌, ℕ, zero, suc, ◌<◌, List, [], ◌∷◌, Option, Some, None}
use Rattle.std.specs.Prelude.{slice_set}
use Rattle.access_times.specs.Riding.{none_riding, none_carrying}
use Rattle.image_mem.specs.Contents.{Contents}
use Rattle.rtr_types.specs.declared.params.Params.{Params}
use Rattle.rv_core.specs.declared.core_state.Core.{Core}
use Rattle.rv_core.proofs.LawLemmas.{start_law}
use Rattle.msi_state.specs.declared.moves.Move.{Move}
use Rattle.msi_state.specs.Events.{Event}
use Rattle.msi_state.specs.Moves.{core_of}
use Rattle.msi_state.specs.Runs.{chosen, plain_event, run, stepped_by}
use Rattle.msi_state.specs.States.{PlainState, core_at}
use Rattle.machine_invariant.proofs.StartInvariant.{core_start_at}
use Rattle.machine_invariant.proofs.StepFrame.{core_after}
use Rattle.machine_bound.proofs.Capacity.{limit_after}
use Rattle.machine_bound.proofs.Payments.{cores_set}

-- setting a core that keeps its limit
limit_set : (cores : List Core) (c d : ℕ) (core : Core) → core.limit ≡ (core_at cores c).limit →
    (core_at (slice_set cores c core) d).limit ≡ (core_at cores d).limit
limit_set [] c d core same = refl
limit_set (k ∷ ks) zero zero core same = same
limit_set (k ∷ ks) zero (suc d) core same = refl
limit_set (k ∷ ks) (suc c) zero core same = refl
limit_set (k ∷ ks) (suc c) (suc d) core same = limit_set ks c d core same

limit_stepped : (s : PlainState) (taken : Option Move) (d : ℕ) →
    (core_at (stepped_by s taken).cores d).limit ≡ (core_at s.cores d).limit
limit_stepped s None d = refl
limit_stepped s (Some m) d =
    let e : Event = plain_event s m in
    let core : Core = core_at s.cores (core_of m) in
    ap (λ (cores : List Core). (core_at cores d).limit) (cores_set s.image (core_of m) e s.cores)
    ∙ limit_set s.cores (core_of m) d (core_after s.image e core) (limit_after s.image core e)

-- each core's limit is that of the parameters
pub run_limits : (image : Contents) (params : Params) (choices : ℕ → ℕ) (t c : ℕ) → c < params.cores →
    (core_at (run image params choices t).cores c).limit ≡ params.limit
run_limits image params choices zero c within =
    ap (λ (core : Core). core.limit) (core_start_at none_riding none_carrying image params.cores params.limit c within)
    ∙ (start_law c params.limit).1
run_limits image params choices (suc t) c within =
    limit_stepped (run image params choices t) (chosen (run image params choices t) (choices t)) c
    ∙ run_limits image params choices t c within
