-- The clerk has the accesses of the run so far, after each choice and at the end.
use Rattle.std.proofs.Common.{◌≡◌, ◌∙◌, ap, sym, ℕ, suc, List, [], ◌++◌, Some, arith, true, false, append-nil}
use Rattle.std.specs.Prelude.{IsTrue}
use Rattle.std.proofs.lemmas.List.Elements.{All-from_get_or}
use Rattle.access_times.specs.declared.carry.NoCarry.{NoCarry}
use Rattle.access_times.specs.declared.rider.NoRider.{NoRider}
use Rattle.image_mem.specs.Contents.{Contents}
use Rattle.roomy_lists.specs.Lists.{Listed}
use Rattle.rtr_types.specs.Parameters.{Fits}
use Rattle.rtr_types.specs.declared.access.Access.{Access}
use Rattle.rtr_types.specs.declared.instr.Instr.{Instr}
use Rattle.rtr_types.specs.declared.params.Params.{Params}
use Rattle.rv_core.specs.States.{starting}
use Rattle.rv_core.specs.Steps.{is_done, need}
use Rattle.rv_core.specs.declared.core_state.Core.{Core}
use Rattle.schedule_pick.specs.Choices.{Choices, choice_at}
use Rattle.msi_state.specs.Events.{Event, Nothing, Retires, Accesses, Tells, next_instr}
use Rattle.msi_state.specs.Runs.{accesses, accesses_in, chosen, event_by, opening_state, plain_event, run}
use Rattle.msi_state.specs.States.{PlainState, State, all_done}
use Rattle.msi_state.specs.Steps.{AcceptsNext}
use Rattle.msi_state.specs.declared.moves.Move.{Move}
use Rattle.machine_plain.specs.Plain.{plain}
use Rattle.run_outcome.proofs.RunPlaces.{Steps, at_end, runs_next, runs_start}
use Rattle.run_accesses.specs.Accesses.{StandsAt, accesses_of}
use Rattle.run_accesses.specs.Clerks.{ToldNothing, ToldTouch}

-- what the clerk has after what it was told of
pub told_accesses : (e : Event) (carry : NoCarry) (before after : Listed Access) (r q : NoRider) →
    Tells (λ (c : Listed Access) (i : Instr) (k : NoCarry) (d : Listed Access). ToldNothing c d)
    (λ (c : Listed Access) (r : NoRider) (a : Access) (k : NoCarry) (d : Listed Access) (q : NoRider).
    ToldTouch c r a d q) e carry before r after q →
    after.items ≡ before.items ++ accesses_in e
told_accesses Nothing carry before after r q is =
    ap (λ (l : Listed Access). l.items) is ∙ sym (append-nil before.items)
told_accesses (Retires at) carry before after r q is = is ∙ sym (append-nil before.items)
told_accesses (Accesses a) carry before after r q is = is.kept

-- the clerk accepts whichever instruction retires next, while it has room
pub accepts_next : {R K : Type 0} (s : State R K) (c : Listed Access) → IsTrue c.ready →
    AcceptsNext (λ (l : Listed Access) (i : Instr). IsTrue l.ready) c s
accepts_next {R} {K} s c roomy =
    All-from_get_or (λ (core : Core). is_done (need s.image core) ≡ false → IsTrue c.ready) s.cores (starting 0 0)
    (λ k lt going. roomy)

-- before the first choice
pub stands_start : (image : Contents) (params : Params) (schedule : Choices) (s : PlainState) (kept : List Access) →
    s ≡ opening_state image params → kept ≡ [] → StandsAt image params schedule 0 s kept schedule
stands_start image params schedule s kept is none =
    record { runs = runs_start image params schedule s is; kept_are = none }

-- after one more choice
pub stands_next : (image : Contents) (params : Params) (schedule : Choices) (t : ℕ) (s s' : PlainState)
    (kept kept' : List Access) (rest rest' : Choices) (m : Move) →
    all_done s ≡ false → Steps s s' rest rest' m → kept' ≡ kept ++ accesses_in (plain_event s m) →
    StandsAt image params schedule t s kept rest → StandsAt image params schedule (suc t) s' kept' rest'
stands_next image params schedule t s s' kept kept' rest rest' m going steps told stands =
    let choices : ℕ → ℕ = choice_at schedule in
    let here : run image params choices t ≡ s = sym stands.runs.state in
    let number : choice_at rest 0 ≡ choices t = stands.runs.rest_is 0 ∙ ap choices (omega arith) in
    let taken : chosen (run image params choices t) (choices t) ≡ Some m =
    ap (λ (u : PlainState). chosen u (choices t)) here ∙ ap (chosen s) (sym number) ∙ steps.taken in
    record {
      runs = runs_next image params schedule t s s' rest rest' m going steps stands.runs;
      kept_are =
          told ∙ ap (λ (list : List Access). list ++ accesses_in (plain_event s m)) stands.kept_are
          ∙ ap (λ (e : Event). accesses image params choices t ++ accesses_in e)
          (ap (λ (u : PlainState). plain_event u m) (sym here)
          ∙ sym (ap (event_by (run image params choices t)) taken));
    }

-- at the end these are the accesses of the run
pub kept_at_end : {R K : Type 0} (image : Contents) (params : Params) (schedule : Choices) (t : ℕ) (s : State R K)
    (kept : List Access) (rest : Choices) → Fits params → all_done s ≡ true →
    StandsAt image params schedule t (plain s) kept rest → kept ≡ accesses_of image params schedule
kept_at_end image params schedule t s kept rest fits done stands =
    stands.kept_are ∙ ap (accesses image params (choice_at schedule))
    (at_end image params schedule t s rest fits done stands.runs)
