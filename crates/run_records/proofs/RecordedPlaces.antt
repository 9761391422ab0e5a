-- Where a run that is recorded stands, from its start on.
use Rattle.std.proofs.Common.{◌≡◌, ◌∙◌, refl, sym, ap, subst, ℕ, suc, ◌+◌, ◌<◌, ◌≤◌, false, List, [], ◌∷◌, ◌++◌}
use Rattle.std.proofs.Common.{append-nil, length, Some, None, arith}
use Rattle.std.specs.Prelude.{replicate, All}
use Rattle.std.proofs.lemmas.List.Elements.{All-from_get_or}
use Rattle.access_times.specs.Times.{times_riding}
use Rattle.access_times.specs.declared.times.Times.{Times}
use Rattle.clock_core.specs.declared.clock.Clock.{Clock}
use Rattle.image_mem.specs.Contents.{Contents}
use Rattle.rtr_types.specs.Parameters.{Fits}
use Rattle.rtr_types.specs.Pairs.{pair_count}
use Rattle.rtr_types.specs.declared.TheConstants.{CORES_MAX}
use Rattle.rtr_types.specs.declared.access.Access.{Access}
use Rattle.rtr_types.specs.declared.instr.Edge.{Edge}
use Rattle.rtr_types.specs.declared.instr.Instr.{Instr}
use Rattle.rtr_types.specs.declared.params.Params.{Params}
use Rattle.rv_core.specs.States.{starting}
use Rattle.rv_core.specs.declared.core_state.Core.{Core}
use Rattle.schedule_pick.specs.Choices.{Choices, choice_at}
use Rattle.msi_memory.specs.declared.port.Port.{Port}
use Rattle.msi_state.specs.Events.{Event, Nothing, Retires, Accesses, Tells, next_instr, rider_of_event}
use Rattle.machine_plain.specs.Plain.{plain}
use Rattle.msi_state.specs.Runs.{accesses, accesses_in, chosen, event_by, opening_state, plain_event, run}
use Rattle.msi_state.specs.States.{PlainState, State, all_done, core_at, state_start}
use Rattle.msi_state.specs.Steps.{carry_told, event, retiring, rider_found, step}
use Rattle.msi_state.specs.declared.moves.Move.{Move}
use Rattle.machine_times.proofs.NewMachine.{machine_start}
use Rattle.machine_times.proofs.RiderLaws.{times_fresh}
use Rattle.machine_times.specs.Retirements.{MachineStandsFor, Retirement, with_event}
use Rattle.machine_known.specs.RunHistory.{with_event as noted_event}
use Rattle.machine_times.specs.TimedSteps.{StepFinds, core_of_event, times_parts, with_step}
use Rattle.online_reduce.proofs.Reductions.{begin_law, none_before}
use Rattle.online_reduce.specs.Exact.{AreExactFor}
use Rattle.online_reduce.specs.Reduced.{IsNext, Reduced, clock_of, count_of, counted, edges_of, retired, unreduced}
use Rattle.run_outcome.proofs.RunPlaces.{Steps, numbered, runs_next, runs_start}
use Rattle.exact_reduction.proofs.RetirementReduction.{event_exact}
use Rattle.run_records.proofs.KeptReduction.{reduces_access, reduces_local}
use Rattle.know_history.specs.Knowledge.{known_carrying}
use Rattle.know_history.specs.Notes.{IsNoted, Notes, no_notes, noted_count}
use Rattle.know_history.specs.Rows.{with_note}
use Rattle.know_history.proofs.NotedRetirement.{is_noted}
use Rattle.know_history.specs.declared.known.Known.{Known}
use Rattle.edge_regulate.specs.Seats.{Follows}
use Rattle.machine_known.specs.Events.{happening_at, happening_by, happening_of}
use Rattle.machine_known.specs.Histories.{HistoryTold, KnowsAt}
use Rattle.machine_known.proofs.NotedRuns.{knows_start, knows_step}
use Rattle.machine_known.proofs.KnownRuns.{run_orderly_law, taken_enabled}
use Rattle.run_records.specs.Clerks.{IsAwaited, Noted, ToldLocal, ToldTouch}
use Rattle.run_records.specs.Standing.{NotesAt, Reduces, Regulates}

-- ---- the start

-- before the first choice
pub notes_start : (image : Contents) (params : Params) (schedule : Choices) (s : State Times Known) (r : Reduced)
    (notes : Notes) → Fits params →
    s ≡ state_start times_riding known_carrying image params.cores params.limit →
    plain s ≡ opening_state image params → r ≡ unreduced params.cores → notes ≡ no_notes params.cores →
    NotesAt image params schedule 0 s r notes schedule
notes_start image params schedule s r notes fits is opening unmade unnoted = record {
  run = runs_start image params schedule (plain s) opening;
  list = [];
  edges = [];
  machine = subst (λ (u : State Times Known). MachineStandsFor times_parts known_carrying [] u) (sym is)
      (machine_start times_parts known_carrying times_fresh image params.cores params.limit);
  cores = ap (λ (r : Reduced). r.cores) unmade;
  reduces = subst (λ (r : Reduced). Reduces [] [] r []) (sym unmade) (record {
    accesses_are = refl;
    exact = tt;
    counts = λ core lt. none_before params.cores core;
    reduction = begin_law params.cores fits.cores;
  });
  knows = subst (λ (u : State Times Known). KnowsAt (happening_at image params (choice_at schedule)) 0 u notes) (sym is)
      (knows_start times_riding (happening_at image params (choice_at schedule)) image params.cores params.limit notes
      fits.cores unnoted);
}

-- no edge was told
pub regulates_start : (cores : ℕ) (clerk : Noted) → clerk.reduction.state ≡ unreduced cores → clerk.untold ≡ [] →
    clerk.regulation.regulation.cores ≡ cores → Follows (no_notes cores) (replicate (pair_count cores) [])
    clerk.regulation →
    Regulates (no_notes cores) clerk
regulates_start cores clerk unmade told few begun = record {
  cores = few ∙ ap (λ (r : Reduced). r.cores) (sym unmade);
  all_told = told;
  follows = subst (λ (lists : List (List (ℕ × ℕ))). Follows (no_notes cores) lists clerk.regulation)
      (ap (λ (r : Reduced). r.lists) (sym unmade)) begun;
}

-- ---- what is noted

-- as many retirements are noted of a core as the reduction counts
pub counts_noted : (image : Contents) (params : Params) (schedule : Choices) (t : ℕ) (s : State Times Known)
    (r : Reduced) (notes : Notes)
    (rest : Choices) → NotesAt image params schedule t s r notes rest → (core : ℕ) → core < r.cores →
    count_of r core ≡ noted_count notes core
counts_noted image params schedule t s r notes rest h core lt =
    let few : length s.cores ≡ params.cores = h.run.cores in
    let within : core < length s.cores = omega (arith, lt, few, h.cores) in
    h.reduces.counts core lt ∙ sym (h.machine.counts core within) ∙ h.knows.retired.counts core within
    ∙ sym (h.knows.noted core within)

-- the next retirement of a core can be noted
pub next_noted : (image : Contents) (params : Params) (schedule : Choices) (t : ℕ) (s : State Times Known) (r : Reduced)
    (notes : Notes)
    (rest : Choices) → NotesAt image params schedule t s r notes rest → (at : Instr) (known : Known) → IsNext r at →
    IsNoted notes at known (with_note notes at known)
next_noted image params schedule t s r notes rest h at known next =
    let few : length s.cores ≡ params.cores = h.run.cores in
    is_noted notes at known (with_note notes at known) (omega (arith, next.core, h.cores, few, h.knows.cores))
    (next.count ∙ ap (λ (i : ℕ). i + 1) (counts_noted image params schedule t s r notes rest h at.core next.core)) refl

-- ---- what the clerk was told of

abbrev pub Told : Event → Known → Noted → Times → Noted → Times → Type 0
Told e carry before r after q =
    Tells (λ (c : Noted) (i : Instr) (k : Known) (d : Noted). ToldLocal c i k d)
    (λ (c : Noted) (r : Times) (a : Access) (k : Known) (d : Noted) (q : Times).
    ToldTouch c r a k d q) e carry before r after q

-- the reduction before and after an event was told, whose access found these times
abbrev pub ReducesBy : Event → Reduced → Times → Reduced → Type 0
ReducesBy Nothing r found after = after ≡ r
ReducesBy (Retires at) r found after = IsNext r at × (after ≡ counted r at)
ReducesBy (Accesses a) r found after = IsNext r a.at × (after ≡ retired r a found)

pub told_reduction : (e : Event) (carry : Known) (c d : Noted) (found q : Times) → Told e carry c found d q →
    ReducesBy e c.reduction.state found d.reduction.state
told_reduction Nothing carry c d found q is = ap (λ (x : Noted). x.reduction.state) is
told_reduction (Retires at) carry c d found q is = (is.next, is.reduction)
told_reduction (Accesses a) carry c d found q is = (is.next, is.reduction)

reduced_history : (e : Event) (carry : Known) (r after : Reduced) (found : Times) (notes : Notes) →
    ReducesBy e r found after →
    ((at : Instr) → IsNext r at → IsNoted notes at carry (with_note notes at carry)) →
    HistoryTold e carry notes (noted_event notes e carry)
reduced_history Nothing carry r after found notes is noted = refl
reduced_history (Retires at) carry r after found notes is noted = noted at is.0
reduced_history (Accesses a) carry r after found notes is noted = noted a.at is.0

reduced_cores : (e : Event) (r after : Reduced) (found : Times) → ReducesBy e r found after → after.cores ≡ r.cores
reduced_cores Nothing r after found is = ap (λ (x : Reduced). x.cores) is
reduced_cores (Retires at) r after found is = ap (λ (x : Reduced). x.cores) is.1
reduced_cores (Accesses a) r after found is = ap (λ (x : Reduced). x.cores) is.1

-- the reduction after what the clerk was told of
record ReducedAfter (list : List Retirement) (all : List Access) (r : Reduced) : Type 0 where
  edges : List Edge
  reduces : Reduces list all r edges

told_reduces : (e : Event) (p : Port Times Known) (list : List Retirement) (all : List Access) (edges : List Edge)
    (r after : Reduced) →
    ((a : Access) → e ≡ Accesses a → AreExactFor all a (rider_of_event times_riding e p)) →
    ReducesBy e r (rider_of_event times_riding e p) after → Reduces list all r edges →
    ReducedAfter (with_event e (clock_of after (core_of_event e)) list) (all ++ accesses_in e) after
told_reduces Nothing p list all edges r after finds is h = record {
  edges = edges;
  reduces = subst (λ (x : Reduced). Reduces list (all ++ []) x edges) (sym is)
      (subst (λ (l : List Access). Reduces list l r edges) (sym (append-nil all)) h);
}
told_reduces (Retires at) p list all edges r after finds is h =
    let clock : Clock = clock_of after at.core in
    let longer : List Retirement = list ++ (record { at = at; access = None; clock = clock }) ∷ [] in
    record {
      edges = edges;
      reduces = subst (λ (x : Reduced). Reduces longer (all ++ []) x edges) (sym is.1)
          (subst (λ (l : List Access). Reduces longer l (counted r at) edges) (sym (append-nil all))
          (reduces_local list all r edges at clock is.0 h));
    }
told_reduces (Accesses a) p list all edges r after finds is h =
    let rider : Times = rider_of_event times_riding (Accesses a) p in
    let more : List Edge = edges ++ edges_of r a rider in
    record {
      edges = more;
      reduces = subst (λ (x : Reduced). Reduces (list ++ (record {
        at = a.at;
        access = Some a;
        clock =
            clock_of x a.at.core;
      }) ∷ []) (all ++ a ∷ []) x more)
          (sym is.1)
          (reduces_access list all r edges a rider is.0 (finds a refl) h);
    }

-- ---- one step

-- the step that the next choice takes, and what it does to the reduction
pub record Turned (s s' : State Times Known) (m : Move) (r after : Reduced) (rest rest' : Choices) : Type 0 where
  pub steps : Steps (plain s) (plain s') rest rest' m
  pub event_is : event times_riding known_carrying s m ≡ plain_event (plain s) m
  pub rider : Times
  pub state : s' ≡ step times_riding known_carrying rider s m
  pub told : ReducesBy (event times_riding known_carrying s m) r (rider_found times_riding known_carrying s m) after
  pub stands : (list : List Retirement) → MachineStandsFor times_parts known_carrying list s →
      MachineStandsFor times_parts known_carrying (with_step known_carrying s m (clock_of after) list) s'
  pub finds : (list : List Retirement) → MachineStandsFor times_parts known_carrying list s →
      StepFinds known_carrying s m list

-- the times that its access finds are exact
pub turned_exact : (all : List Access) (s s' : State Times Known) (m : Move) (r after : Reduced) (rest rest' : Choices)
    (list : List Retirement)
    (edges : List Edge) → Turned s s' m r after rest rest' → MachineStandsFor times_parts known_carrying list s →
    Reduces list all r edges → (a : Access) → event times_riding known_carrying s m ≡ Accesses a →
    AreExactFor all a (rider_found times_riding known_carrying s m)
turned_exact all s s' m r after rest rest' list edges turned machine reduces =
    event_exact (event times_riding known_carrying s m) (retiring times_riding known_carrying s m) list all
    reduces.accesses_are reduces.exact
    (turned.finds list machine)

-- what happens in the step
pub turned_happens : (image : Contents) (params : Params) (schedule : Choices) (t : ℕ) (s s' : State Times Known)
    (m : Move) (r after : Reduced)
    (notes : Notes) (rest rest' : Choices) → Turned s s' m r after rest rest' →
    NotesAt image params schedule t s r notes rest →
    happening_at image params (choice_at schedule) t ≡ happening_of (plain s) m
turned_happens image params schedule t s s' m r after notes rest rest' turned h =
    let choices : ℕ → ℕ = choice_at schedule in
    let here : run image params choices t ≡ plain s = sym h.run.state in
    let number : choice_at rest 0 ≡ choices t = h.run.rest_is 0 ∙ ap choices (omega arith) in
    let taken : chosen (run image params choices t) (choices t) ≡ Some m =
    ap (λ (u : PlainState). chosen u (choices t)) here
    ∙ ap (chosen (plain s)) (sym number) ∙ turned.steps.taken in
    ap (happening_by (run image params choices t)) taken ∙ ap (λ (u : PlainState). happening_of u m) here

-- the cores are few
pub few_cores : (image : Contents) (params : Params) (schedule : Choices) (t : ℕ) (s : State Times Known) (r : Reduced)
    (notes : Notes)
    (rest : Choices) → NotesAt image params schedule t s r notes rest → params.cores ≤ CORES_MAX
few_cores image params schedule t s r notes rest h =
    let cores : length s.cores ≡ params.cores = h.run.cores in let most = h.knows.retired.few in omega arith

pub notes_next : (image : Contents) (params : Params) (schedule : Choices) (t : ℕ) (state state' : State Times Known)
    (move : Move)
    (r after : Reduced)
    (notes : Notes) (rest rest' : Choices) → all_done (plain state) ≡ false →
    Turned state state' move r after rest rest' →
    NotesAt image params schedule t state r notes rest →
    NotesAt image params schedule (suc t) state' after
    (noted_event notes (event times_riding known_carrying state move)
    (carry_told times_riding known_carrying state move)) rest'
notes_next image params schedule t state state' move r after notes rest rest' going turned holds =
    let choices : ℕ → ℕ = choice_at schedule in
    let e : Event = event times_riding known_carrying state move in
    let p : Port Times Known = retiring times_riding known_carrying state move in
    let carry : Known = carry_told times_riding known_carrying state move in
    let later : Notes = noted_event notes e carry in
    let all : List Access = accesses image params choices t in
    let reduced : ReducedAfter (with_event e (clock_of after (core_of_event e)) holds.list)
    (all ++ accesses_in e) after =
    told_reduces e p holds.list all holds.edges r after
    (turned_exact all state state' move r after rest rest' holds.list holds.edges turned holds.machine holds.reduces)
    turned.told holds.reduces in
    let here : run image params choices t ≡ plain state = sym holds.run.state in
    let number : choice_at rest 0 ≡ choices t = holds.run.rest_is 0 ∙ ap choices (omega arith) in
    let taken : chosen (run image params choices t) (choices t) ≡ Some move =
    ap (λ (u : PlainState). chosen u (choices t)) here
    ∙ ap (chosen (plain state)) (sym number) ∙ turned.steps.taken in
    let same : e ≡ event_by (run image params choices t) (chosen (run image params choices t) (choices t)) =
    turned.event_is ∙ ap (λ (u : PlainState). plain_event u move) (sym here)
    ∙ sym (ap (event_by (run image params choices t)) taken) in
    record {
      run = runs_next image params schedule t (plain state) (plain state') rest rest' move going turned.steps holds.run;
      list = with_step known_carrying state move (clock_of after) holds.list;
      edges = reduced.edges;
      machine = turned.stands holds.list holds.machine;
      cores = reduced_cores e r after (rider_of_event times_riding e p) turned.told ∙ holds.cores;
      reduces = subst (λ (x : Event).
          Reduces (with_step known_carrying state move (clock_of after) holds.list) (all ++ accesses_in x) after
          reduced.edges) same reduced.reduces;
      knows = subst (λ (u : State Times Known). KnowsAt (happening_at image params choices) (suc t) u later)
          (sym turned.state)
          (knows_step times_riding (happening_at image params choices) t state move turned.rider notes later
          (run_orderly_law image params choices (few_cores image params schedule t state r notes rest holds))
          (taken_enabled times_riding state (choice_at rest 0) move turned.steps.taken)
          (turned_happens image params schedule t state state' move r after notes rest rest' turned holds)
          (reduced_history e carry r after (rider_of_event times_riding e p) notes turned.told
          (λ at. next_noted image params schedule t state r notes rest holds at carry)) holds.knows);
    }

-- the same state and reduction, whatever room there is
pub notes_same : (image : Contents) (params : Params) (schedule : Choices) (t : ℕ) (s u : State Times Known)
    (r x : Reduced) (notes : Notes)
    (rest : Choices) → u ≡ s → x ≡ r → NotesAt image params schedule t s r notes rest →
    NotesAt image params schedule t u x notes rest
notes_same image params schedule t s u r x notes rest state reduction h =
    subst (λ (v : State Times Known). NotesAt image params schedule t v x notes rest) (sym state)
    (subst (λ (y : Reduced). NotesAt image params schedule t s y notes rest) (sym reduction) h)

-- ---- what the clerk awaits

-- the clerk awaits the next instruction of each core
pub all_awaited : (image : Contents) (params : Params) (schedule : Choices) (t : ℕ) (s : State Times Known) (c : Noted)
    (notes : Notes)
    (rest : Choices) → Fits params → NotesAt image params schedule t s c.reduction.state notes rest → c.untold ≡ [] →
    c.regulation.regulation.cores ≡ c.reduction.state.cores → All (λ (core : Core). IsAwaited c (next_instr core))
    s.cores
all_awaited image params schedule t s c notes rest fits h told same =
    All-from_get_or (λ (core : Core). IsAwaited c (next_instr core)) s.cores (starting 0 0) (λ k lt.
    let id : (core_at s.cores k).id ≡ k = numbered image params schedule t s rest fits h.run k lt in
    let few : length s.cores ≡ params.cores = h.run.cores in
    let below : k < c.reduction.state.cores = omega (arith, lt, few, h.cores) in
    let count : (core_at s.cores k).count ≡ count_of c.reduction.state k = h.machine.counts k lt
    ∙ sym (h.reduces.counts k below) in
    record {
      next = record {
        core = omega (arith, id, below);
        count = ap (λ (i : ℕ). i + 1) (count ∙ ap (count_of c.reduction.state) (sym id));
      };
      core = omega (arith, id, below, same);
      all_told = told;
    })
