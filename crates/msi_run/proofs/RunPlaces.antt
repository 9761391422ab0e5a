-- Where a machine stands in the run that it makes.
use Rattle.std.proofs.Common.{◌≡◌, ap, ℕ, ◌<◌, List, length, arith, false, sym, subst}
use Rattle.std.specs.Prelude.{All, IsTrue}
use Rattle.std.proofs.lemmas.List.Elements.{All-from_get_or, All-weaker}
use Rattle.std.proofs.lemmas.List.FromFn.{length-map-range_with_len}
use Rattle.access_times.specs.declared.carry.NoCarry.{NoCarry}
use Rattle.access_times.specs.declared.rider.NoRider.{NoRider}
use Rattle.image_mem.specs.Contents.{Contents}
use Rattle.rtr_types.specs.Parameters.{Fits}
use Rattle.rtr_types.specs.declared.access.Access.{Access}
use Rattle.rtr_types.specs.declared.instr.Instr.{Instr}
use Rattle.rtr_types.specs.declared.params.Params.{Params}
use Rattle.rv_core.specs.States.{starting}
use Rattle.rv_core.specs.Steps.{is_done, need}
use Rattle.rv_core.specs.declared.core_state.Core.{Core}
use Rattle.rv_core.specs.declared.outcome.LoadNote.{LoadNote}
use Rattle.schedule_pick.specs.Choices.{Choices, choice_at}
use Rattle.load_lists.specs.Lists.{LoadRooms}
use Rattle.msi_state.specs.Events.{Event, Nothing, Retires, Accesses, Tells, next_instr}
use Rattle.msi_state.specs.Runs.{accesses, loads_of}
use Rattle.msi_state.specs.States.{State}
use Rattle.msi_state.specs.Steps.{AcceptsNext}
use Rattle.machine_plain.specs.Plain.{plain}
use Rattle.run_outcome.proofs.RunPlaces.{numbered}
use Rattle.run_outcome.specs.Loads.{lists_told}
use Rattle.run_outcome.specs.Outcomes.{StandsAt}
use Rattle.run_steps.specs.Clerks.{Accepts, ToldLocal, ToldTouch}

-- the lists after what the clerk was told of
pub told_lists : (e : Event) (carry : NoCarry) (before after : LoadRooms) (r q : NoRider) →
    Tells (λ (c : LoadRooms) (i : Instr) (k : NoCarry) (d : LoadRooms). ToldLocal c d)
    (λ (c : LoadRooms) (r : NoRider) (a : Access) (k : NoCarry) (d : LoadRooms) (q : NoRider). ToldTouch c r a d q) e
    carry before r after q →
    after.lists ≡ lists_told before.lists e
told_lists Nothing carry before after r q is = ap (λ (l : LoadRooms). l.lists) is
told_lists (Retires at) carry before after r q is = is
told_lists (Accesses a) carry before after r q is = is.loads

-- each core's number is that of a list
all_numbered : {R K : Type 0} (image : Contents) (params : Params) (schedule : Choices) (t : ℕ) (s : State R K)
    (loads : List (List LoadNote))
    (rest : Choices) → Fits params → StandsAt image params schedule t (plain s) loads rest →
    All (λ (core : Core). core.id < length loads) s.cores
all_numbered {R} {K} image params schedule t s loads rest fits stands =
    All-from_get_or (λ (core : Core). core.id < length loads) s.cores (starting 0 0) (λ k lt. omega (
      arith,
      numbered image params schedule t s rest fits stands.runs k lt,
      lt,
      stands.runs.cores,
      ap length stands.loads_are,
      length-map-range_with_len (λ (c : ℕ). loads_of c (accesses image params (choice_at schedule) t)) 0 params.cores,
    ))

-- so the clerk accepts whichever instruction retires next, while it has room
pub accepts_next : {R K : Type 0} (image : Contents) (params : Params) (schedule : Choices) (t : ℕ) (s : State R K)
    (loads : List (List LoadNote)) (rest : Choices) (c : LoadRooms) → Fits params →
    StandsAt image params schedule t (plain s) loads rest → c.lists ≡ loads → IsTrue c.roomy →
    AcceptsNext (λ (l : LoadRooms) (i : Instr). Accepts l i) c s
accepts_next {R} {K} image params schedule t s loads rest c fits stands same roomy =
    All-weaker (λ (core : Core). core.id < length loads)
    (λ (core : Core). is_done (need s.image core) ≡ false → Accepts c (next_instr core))
    (λ core low going. record {
      core = subst (λ (lists : List (List LoadNote)). core.id < length lists) (sym same) low;
      roomy = roomy;
    })
    s.cores (all_numbered image params schedule t s loads rest fits stands)
