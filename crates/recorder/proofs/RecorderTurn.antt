-- What one turn of the recorder does: room is made, which leaves machine and clerk as they were; a step is taken and
-- the clerk is told of it; and then the regulator is told of the edges of that step.
use Rattle.std.proofs.Common.{◌≡◌, refl, ap, sym, ◌∙◌, ℕ, suc, List, Some, IsTrue, false}
use Rattle.std.proofs.lemmas.List.Elements.{All-weaker}
use Rattle.access_times.specs.Times.{times_riding}
use Rattle.access_times.specs.declared.times.Times.{Times}
use Rattle.image_mem.specs.Contents.{Contents}
use Rattle.know_history.specs.Knowledge.{known_carrying}
use Rattle.know_history.specs.Notes.{Notes}
use Rattle.know_history.specs.declared.known.Known.{Known}
use Rattle.edge_regulate.specs.Regulated.{AreReady}
use Rattle.edge_regulate.specs.Seats.{Follows}
use Rattle.machine_known.specs.RunHistory.{with_event}
use Rattle.machine_times.specs.Retirements.{MachineStandsFor, Retirement}
use Rattle.machine_times.specs.TimedSteps.{StepFinds, times_parts, with_step}
use Rattle.online_reduce.specs.Reduced.{clock_of}
use Rattle.machine_plain.proofs.Shows.{plain_done}
use Rattle.machine_plain.specs.Plain.{plain}
use Rattle.msi_state.specs.Events.{next_instr}
use Rattle.msi_state.specs.Runs.{chosen, plain_event, plain_step}
use Rattle.msi_state.specs.States.{State, all_done}
use Rattle.msi_state.specs.Steps.{AcceptsNext, carry_told, event, rider_found, step}
use Rattle.msi_state.specs.declared.moves.Move.{Move}
use Rattle.rtr_types.specs.declared.instr.Instr.{Instr}
use Rattle.rtr_types.specs.declared.params.Params.{Params}
use Rattle.run_records.proofs.KeptRegulation.{Untold, can_tell, regulates_same, told_regulates, turned_untold}
use Rattle.run_records.proofs.RecordedPlaces.{Told, Turned, all_awaited, notes_next, notes_same, told_reduction}
use Rattle.run_records.specs.Clerks.{Accepts, CanTell, IsAwaited, IsTold, Noted}
use Rattle.run_records.specs.Standing.{NotesAt, RecordsAt, Regulates}
use Rattle.run_steps.specs.Ways.{IsUnderWay}
use Rattle.rv_core.specs.Steps.{is_done, need}
use Rattle.rv_core.specs.declared.core_state.Core.{Core}
use Rattle.schedule_pick.specs.Choices.{Choices, choice_at, choices_after}

-- ---- room is made

-- machine and clerk before and after room was made for them
pub record Readied (s u : State Times Known) (known c : Noted) : Type 0 where
  pub state : u ≡ s
  pub reduction : c.reduction.state ≡ known.reduction.state
  pub untold : c.untold ≡ known.untold
  pub cores : c.regulation.regulation.cores ≡ known.regulation.regulation.cores
  pub follows : (notes : Notes) (edges : List (List (ℕ × ℕ)))
      → Follows notes edges known.regulation → Follows notes edges c.regulation

pub readied : {s u : State Times Known} {known c : Noted} → u ≡ s → c.reduction.state ≡ known.reduction.state
    → c.untold ≡ known.untold → c.regulation.regulation.cores ≡ known.regulation.regulation.cores
    → ((notes : Notes) (edges : List (List (ℕ × ℕ)))
    → Follows notes edges known.regulation → Follows notes edges c.regulation)
    → Readied s u known c
readied state reduction untold cores follows =
    record { state = state; reduction = reduction; untold = untold; cores = cores; follows = follows }

notes_kept : (image : Contents) (params : Params) (schedule : Choices) (t : ℕ) (s u : State Times Known)
    (known c : Noted) (notes : Notes) (rest : Choices) → Readied s u known c
    → NotesAt image params schedule t s known.reduction.state notes rest
    → NotesAt image params schedule t u c.reduction.state notes rest
notes_kept image params schedule t s u known c notes rest r h =
    notes_same image params schedule t s u known.reduction.state c.reduction.state notes rest r.state r.reduction h

regulates_kept : (s u : State Times Known) (known c : Noted) (notes : Notes) → Readied s u known c
    → Regulates notes known → Regulates notes c
regulates_kept s u known c notes r h = regulates_same notes known c r.reduction r.untold r.cores r.follows h

-- the machine and the clerk stand somewhere in a run
abbrev pub IsRecording : State Times Known → Noted → Choices → Type 0
IsRecording s known rest = IsUnderWay (λ image params schedule t. RecordsAt image params schedule t s known rest)

-- so the clerk accepts whichever instruction retires next
pub accepts_next : (s u : State Times Known) (known c : Noted) (rest : Choices) → Readied s u known c
    → IsRecording s known rest → IsTrue c.reduction.ready
    → AcceptsNext (λ (n : Noted) (i : Instr). Accepts n i) c u
accepts_next s u known c rest r way ready =
    let h = way.stands_so in
    let notes = notes_kept way.image way.params way.schedule way.t s u known c h.history rest r h.notes in
    let regulates = regulates_kept s u known c h.history r h.regulates in
    All-weaker (λ (core : Core). IsAwaited c (next_instr core))
    (λ (core : Core). is_done (need u.image core) ≡ false → Accepts c (next_instr core))
    (λ core awaited going. record { awaited = awaited; ready = ready })
    u.cores
    (all_awaited way.image way.params way.schedule way.t u c h.history rest way.fits notes regulates.all_told
    regulates.cores)

-- ---- a step is taken, and the clerk is told of it

pub turned_by : {u s' : State Times Known} {m : Move} {rest rest' : Choices} {choice : ℕ} (c d : Noted)
    (rider left : Times) → choice ≡ choice_at rest 0 → rest' ≡ choices_after rest → chosen (plain u) choice ≡ Some m
    → plain s' ≡ plain_step (plain u) m → event times_riding known_carrying u m ≡ plain_event (plain u) m
    → s' ≡ step times_riding known_carrying rider u m
    → Told (event times_riding known_carrying u m) (carry_told times_riding known_carrying u m) c
    (rider_found times_riding known_carrying u m) d left
    → ((list : List Retirement) → MachineStandsFor times_parts known_carrying list u
    → MachineStandsFor times_parts known_carrying (with_step known_carrying u m (clock_of d.reduction.state) list) s')
    → ((list : List Retirement) → MachineStandsFor times_parts known_carrying list u
    → StepFinds known_carrying u m list)
    → Turned u s' m c.reduction.state d.reduction.state rest rest'
turned_by {u} {s'} {m} c d rider left choice rest taken state event_is moved told stands finds =
    record {
      steps = record { taken = ap (chosen (plain u)) (sym choice) ∙ taken; state = state; left = rest };
      event_is = event_is;
      rider = rider;
      state = moved;
      told = told_reduction (event times_riding known_carrying u m) (carry_told times_riding known_carrying u m) c d
          (rider_found times_riding known_carrying u m) left told;
      stands = stands;
      finds = finds;
    }

module _ (s u s' : State Times Known) (m : Move) (known c d : Noted) (rest rest' : Choices) (left : Times)
    (r : Readied s u known c) (turned : Turned u s' m c.reduction.state d.reduction.state rest rest')
    (told : Told (event times_riding known_carrying u m) (carry_told times_riding known_carrying u m) c
    (rider_found times_riding known_carrying u m) d left) where
  untold_then : (image : Contents) (params : Params) (schedule : Choices) (t : ℕ)
      (h : RecordsAt image params schedule t s known rest)
      → Untold c.reduction.state.lists (with_event h.history (event times_riding known_carrying u m)
      (carry_told times_riding known_carrying u m)) d
  untold_then image params schedule t h =
      turned_untold image params schedule t u s' m c d left h.history rest rest' turned told
      (notes_kept image params schedule t s u known c h.history rest r h.notes)
      (regulates_kept s u known c h.history r h.regulates)

  -- then the regulator can be told of the step's edges
  pub tells_next : IsRecording s known rest → AreReady c.regulation.regulation → CanTell d
  tells_next way ready =
      can_tell (event times_riding known_carrying u m) (carry_told times_riding known_carrying u m) _ _ c d
      (rider_found times_riding known_carrying u m) left told ready
      (untold_then way.image way.params way.schedule way.t way.stands_so)

  -- and once it is, machine and clerk stand one choice further
  pub records_next : (image : Contents) (params : Params) (schedule : Choices) (t : ℕ) (e : Noted)
      → all_done s ≡ false → IsTold d e → RecordsAt image params schedule t s known rest
      → RecordsAt image params schedule (suc t) s' e rest'
  records_next image params schedule t e going all h =
      let later : Notes = with_event h.history (event times_riding known_carrying u m)
      (carry_told times_riding known_carrying u m) in
      let more : all_done (plain u) ≡ false = sym (plain_done u) ∙ ap all_done r.state ∙ going in
      let notes = notes_kept image params schedule t s u known c h.history rest r h.notes in
      record {
        history = later;
        notes = notes_same image params schedule (suc t) s' s' d.reduction.state e.reduction.state later rest' refl
            all.reduction
            (notes_next image params schedule t u s' m c.reduction.state d.reduction.state h.history rest rest' more
            turned notes);
        regulates = told_regulates c.reduction.state.lists later d e (untold_then image params schedule t h) all;
      }
