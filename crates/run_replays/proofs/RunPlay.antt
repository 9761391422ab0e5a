-- A run is a play: playing the cores of its retirements comes to what the run comes to.
use Rattle.std.proofs.Common.{◌≡◌, ◌∙◌, refl, sym, ap, subst, ℕ, zero, suc, ◌<◌, ◌≤◌, ◌^◌, List, [], ◌++◌, length}
use Rattle.std.specs.Prelude.{map, replicate}
use Rattle.std.specs.List.{range_with_len}
use Rattle.std.proofs.lemmas.List.{map-append}
use Rattle.image_mem.specs.Contents.{Contents, opening_words}
use Rattle.rtr_types.specs.declared.TheConstants.{CORES_MAX}
use Rattle.rtr_types.specs.declared.access.Access.{Access}
use Rattle.rtr_types.specs.declared.instr.Edge.{Edge}
use Rattle.rtr_types.specs.declared.instr.Instr.{Instr}
use Rattle.rtr_types.specs.declared.params.Params.{Params}
use Rattle.rv_core.specs.States.{starting}
use Rattle.rv_core.specs.declared.core_state.Core.{Core}
use Rattle.rv_core.specs.declared.outcome.LoadNote.{LoadNote}
use Rattle.rv_core.specs.declared.outcome.Outcome.{Outcome}
use Rattle.msi_state.specs.Events.{Event, Nothing, Retires, Accesses}
use Rattle.msi_state.specs.Runs.{accesses_in, retired_in, event_at, retirements}
use Rattle.msi_state.specs.Runs as runs
use Rattle.machine_data.specs.LastValues.{EachFindsLast}
use Rattle.machine_data.proofs.Remembers.{each_finds_last}
use Rattle.run_outcome.proofs.RunPlaces.{no_loads}
use Rattle.replay_core.specs.Plans.{Plan}
use Rattle.replay_core.specs.Play.{play, accesses_from, Plays, start}
use Rattle.replay_core.proofs.Lists.{play_on, accesses_on, plays_join}
use Rattle.run_outcome.proofs.RunCores.{cores_at, event_cores}
use Rattle.run_replays.specs.Orders.{cores_of}
use Rattle.run_replays.proofs.Events.{EventPlays, FoundIn, event_plays, outcome_with}

-- playing the order from the start comes to this outcome, by these accesses
pub record PlayedTo (p : Plan) (order : List ℕ) (s : Outcome) (list : List Access) : Type 0 where
  pub state : play p (start p) order ≡ s
  pub plays : Plays p (start p) order
  pub accesses_are : accesses_from p (start p) order ≡ list

played_more : (p : Plan) (order : List ℕ) (s t : Outcome) (list : List Access) (e : Event) → PlayedTo p order s list
    → EventPlays p s t e → PlayedTo p (order ++ cores_of (retired_in e)) t (list ++ accesses_in e)
played_more p order s t list e h next =
    let more : List ℕ = cores_of (retired_in e) in
    record {
      state = play_on p (start p) order more ∙ ap (λ (u : Outcome). play p u more) h.state ∙ next.state;
      plays = plays_join p (start p) order more h.plays (subst (λ (u : Outcome). Plays p u more) (sym h.state)
          next.plays);
      accesses_are =
          accesses_on p (start p) order more
          ∙ ap (λ (u : Outcome). accesses_from p (start p) order ++ accesses_from p u more) h.state
          ∙ ap (λ (l : List Access). accesses_from p (start p) order ++ l) next.accesses_are
          ∙ ap (λ (l : List Access). l ++ accesses_in e) h.accesses_are;
    }

-- what is played where a run of the image with these parameters is: the totals and the log may be any at all
abbrev pub run_plan : Contents → Params → List ℕ → List Edge → Plan
run_plan image params totals edges = record { image = image; limit = params.limit; totals = totals; edges = edges }

-- the cores of the retirements within the first t choices
abbrev pub order_at : Contents → Params → (ℕ → ℕ) → ℕ → List ℕ
order_at image params choices t = cores_of (retirements image params choices t)

-- what the first t choices leave
abbrev pub left_at : Contents → Params → (ℕ → ℕ) → ℕ → Outcome
left_at image params choices t =
    outcome_with image params.cores (cores_at image params choices t) (runs.accesses image params choices t)

start_is : (image : Contents) (params : Params) (choices : ℕ → ℕ) (totals : List ℕ) (edges : List Edge)
    → length totals ≡ params.cores → start (run_plan image params totals edges) ≡ left_at image params choices 0
start_is image params choices totals edges long =
    ap (λ n. made (map (λ c. starting c params.limit) (range_with_len 0 n)) (replicate n [])) long
    ∙ ap (λ (loads : List (List LoadNote)). made (cores_at image params choices 0) loads)
    (sym (no_loads 0 params.cores))
  where
    made : List Core → List (List LoadNote) → Outcome
    made cores loads = record { cores = cores; words = opening_words image; loads = loads }

found_at : (image : Contents) (list : List Access) (e : Event) → EachFindsLast image (list ++ accesses_in e)
    → FoundIn image list e
found_at image list Nothing finds = tt
found_at image list (Retires at) finds = tt
found_at image list (Accesses a) finds = finds list [] a refl

pub played_to : (image : Contents) (params : Params) (choices : ℕ → ℕ) (totals : List ℕ) (edges : List Edge) (t : ℕ)
    → params.cores ≤ CORES_MAX → params.limit < 2 ^ 32 → length totals ≡ params.cores
    → PlayedTo (run_plan image params totals edges) (order_at image params choices t) (left_at image params choices t)
    (runs.accesses image params choices t)
played_to image params choices totals edges zero few small long = record {
  state = start_is image params choices totals edges long;
  plays = tt;
  accesses_are = refl;
}
played_to image params choices totals edges (suc t) few small long =
    let p : Plan = run_plan image params totals edges in
    let e : Event = event_at image params choices t in
    let list : List Access = runs.accesses image params choices t in
    let later : Outcome = left_at image params choices (suc t) in
    let plays = event_plays p params.cores (cores_at image params choices t) (cores_at image params choices (suc t))
    list e
    (event_cores image params choices t few small)
    (found_at image list e (each_finds_last image params choices (suc t) few small)) in
    subst (λ (order : List ℕ). PlayedTo p order later (runs.accesses image params choices (suc t)))
    (sym (map-append (λ (at : Instr). at.core) (retirements image params choices t) (retired_in e)))
    (played_more p (order_at image params choices t) (left_at image params choices t) later list e
    (played_to image params choices totals edges t few small long) plays)
