-- What a run comes to fits its image and its parameters.
use Rattle.std.proofs.Common.{◌≡◌, refl, ap, ◌∙◌, ℕ, zero, suc, ◌+◌, ◌<◌, ◌≤◌, ◌^◌, ◌==◌, ◌&&◌, Bool, true, false, cond}
use Rattle.std.proofs.Common.{List, [], ◌∷◌, length, Option, Some}
use Rattle.std.proofs.Common.{None, arith}
use Rattle.std.specs.Prelude.{All, map}
use Rattle.std.specs.List.{range_with_len}
use Rattle.std.proofs.lemmas.List.Elements.{All-cons, All-from_get_or, All-head, All-nil, All-tail}
use Rattle.std.proofs.lemmas.List.FromFn.{length-map-range_with_len}
use Rattle.access_times.specs.Riding.{none_carrying, none_riding}
use Rattle.image_mem.specs.Contents.{Contents}
use Rattle.rtr_types.specs.Accesses.{is_read}
use Rattle.rtr_types.specs.declared.access.Access.{Access}
use Rattle.rtr_types.specs.declared.params.Params.{Params}
use Rattle.rv_core.specs.declared.core_state.Core.{Core}
use Rattle.rv_core.specs.States.{starting}
use Rattle.schedule_pick.specs.Choices.{choice_at}
use Rattle.machine_bound.specs.Ends.{end_of}
use Rattle.machine_bound.proofs.RunEnds.{run_cores}
use Rattle.machine_data.proofs.Remembers.{each_within}
use Rattle.machine_invariant.proofs.StartInvariant.{holds_run}
use Rattle.msi_state.specs.FinalMemory.{final_word}
use Rattle.msi_state.specs.declared.moves.Move.{Move}
use Rattle.msi_state.specs.States.{PlainState, core_at}
use Rattle.msi_state.specs.Runs.{accesses, chosen, loads_of, run, stepped_by}
use Rattle.run_outcome.specs.Loads.{note_of}
use Rattle.run_outcome.specs.Outcomes.{RunFitsLaw, outcome_of}
use Rattle.run_outcome.proofs.Limits.{run_limits}

image_stepped : (s : PlainState) (taken : Option Move) → (stepped_by s taken).image ≡ s.image
image_stepped s None = refl
image_stepped s (Some m) = refl

-- the image stays
pub run_image : (image : Contents) (params : Params) (choices : ℕ → ℕ) (t : ℕ) →
    (run image params choices t).image ≡ image
run_image image params choices zero = refl
run_image image params choices (suc t) = image_stepped (run image params choices t) (chosen (run image params choices t)
    (choices t))
    ∙ run_image image params choices t

-- a core's loads are of words of the memory where the accesses are
loads_within : (words core : ℕ) (list : List Access) → All (λ a. a.word < words) list →
    All (λ note. note.word < words) (loads_of core list)
loads_within words core [] all = All-nil (λ note. note.word < words)
loads_within words core (a ∷ later) all =
    by_test ((a.at.core == core) && is_read a.kind) (loads_within words core later (All-tail (λ b. b.word < words) a
    later all))
  where
    by_test : (b : Bool) → All (λ note. note.word < words) (loads_of core later) →
        All (λ note. note.word < words) (cond b (note_of a ∷ loads_of core later) (loads_of core later))
    by_test true rest = All-cons (λ note. note.word < words) (note_of a) (loads_of core later)
        (All-head (λ b. b.word < words) a later all) rest
    by_test false rest = rest

-- what holds of each number's value holds of the values of a range
map_all : {X : Type 0} (P : X → Type 0) (f : ℕ → X) (from n : ℕ) → ((k : ℕ) → P (f k)) →
    All P (map f (range_with_len from n))
map_all P f from zero each = All-nil P
map_all P f from (suc n) each = All-cons P (f from) (map f (range_with_len (from + 1) n)) (each from)
    (map_all P f (from + 1) n each)

pub run_fits_law : RunFitsLaw
unfolding outcome_of
run_fits_law image params schedule fits same =
    let choices : ℕ → ℕ = choice_at schedule in
    let t : ℕ = end_of image params choices in
    let small : params.limit < 2 ^ 32 = omega (arith, fits.limit) in
    let s : PlainState = run image params choices t in
    let holds = holds_run image params choices t fits.cores small in
    let count : (c : ℕ) → c < length s.cores → (core_at s.cores c).count ≤ params.limit =
    λ c within. omega (
      arith,
      (holds.cores c within).count_fits,
      run_limits image params choices t c (omega (arith, within, run_cores image params choices t)),
    ) in
    record {
      cores = run_cores image params choices t;
      counts = All-from_get_or (λ (core : Core). core.count ≤ params.limit) s.cores (starting 0 0) count;
      words = length-map-range_with_len (final_word none_riding none_carrying s) 0 s.image.words
          ∙ ap (λ i. i.words) (run_image image params choices t);
      lists = length-map-range_with_len (λ c. loads_of c (accesses image params choices t)) 0 params.cores;
      within = map_all (λ notes. All (λ note. note.word < image.words) notes)
          (λ c. loads_of c (accesses image params choices t)) 0 params.cores
          (λ c. loads_within image.words c (accesses image params choices t) (each_within image params choices t
          fits.cores small));
    }
