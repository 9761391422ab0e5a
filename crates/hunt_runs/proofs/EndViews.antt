-- What is asked of a machine at its end.
use Rattle.std.proofs.Common.{◌≡◌, ◌∙◌, refl, sym, ap, ℕ, ◌<◌, ◌/◌, ◌%◌, List, [], get_or, zero-add, length, arith}
use Rattle.std.specs.Prelude.{slice_index}
use Rattle.std.specs.List.{range_with_len}
use Rattle.std.proofs.lemmas.List.{get_or-map}
use Rattle.std.proofs.lemmas.List.FromFn.{get_or-range_with_len, length-range_with_len}
use Rattle.rtr_types.specs.declared.TheConstants.{BLOCK_WORDS}
use Rattle.end_claims.specs.Ends.{end_of}
use Rattle.image_mem.specs.Contents.{Contents}
use Rattle.run_steps.specs.Ends.{outcome_with, words_in}
use Rattle.rv_core.specs.declared.core_state.Core.{Core}
use Rattle.rv_core.specs.declared.outcome.Outcome.{Outcome}
use Rattle.hunt_runs.specs.Ends.{EndsAs}
use Rattle.rv_core.specs.Steps.{stop_of}
use Rattle.rv_core.specs.declared.core_state.Need.{Need}
use Rattle.rv_core.specs.declared.core_state.Need.TheVariants.{Amo, Done, Load, Local, Store}
use Rattle.rv_core.specs.declared.core_state.Stop.{Stop}
use Rattle.rv_core.specs.declared.core_state.Stop.TheVariants.{Total}

-- a core that isn't done stops at its total
pub stops_total : (need : Need) → ((stop : Stop) → need ≡ Done stop → ⊥) → Total ≡ stop_of need
stops_total Local going = refl
stops_total (Load word) going = refl
stops_total (Store word whole) going = refl
stops_total (Amo word) going = refl
stops_total (Done stop) going = absurd (going stop refl)

-- a word of the memory
pub word_is : (blocks : ℕ → List ℕ) (words word : ℕ) → word < words →
    slice_index (blocks (word / BLOCK_WORDS)) (word % BLOCK_WORDS) ≡ get_or (words_in blocks words) word 0
word_is blocks words word within =
    let f : ℕ → ℕ = λ w. slice_index (blocks (w / BLOCK_WORDS)) (w % BLOCK_WORDS) in
    let long : length (range_with_len 0 words) ≡ words = length-range_with_len 0 words in
    sym (get_or-map f (range_with_len 0 words) word 0 0 (omega (arith, long, within))
    ∙ ap f (get_or-range_with_len 0 words word 0 within ∙ zero-add word))

-- the end that is asked is that of what the run comes to
pub end_is : (image program : Contents) (cores : List Core) (blocks : ℕ → List ℕ) (outcome : Outcome) →
    image ≡ program → EndsAs cores blocks program.words outcome →
    end_of image (outcome_with cores blocks image.words []) ≡ end_of program outcome
end_is image program cores blocks outcome same ends =
    let words_are : words_in blocks image.words ≡ outcome.words =
    ap (λ (x : Contents). words_in blocks x.words) same ∙ ends.words_are in
    λ i. record {
      image = same i;
      cores = ends.cores_are i;
      word = λ word. get_or (words_are i) word 0;
    }
