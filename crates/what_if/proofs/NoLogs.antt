-- A recording without its logs is valid, and has no edge.
use Rattle.std.proofs.Common.{◌≡◌, ℕ, ◌+◌, ◌<◌, ◌≤◌, List, [], ◌∷◌}
use Rattle.std.proofs.Common.{length, get_or, replicate, refl, sym, ap, subst, ◌∙◌, arith}
use Rattle.std.proofs.lemmas.List.{get_or-replicate, get_or_past, length-replicate}
use Rattle.std.specs.Prelude.{slice_index_or, All}
use Rattle.rtr_types.specs.Pairs.{pair_count}
use Rattle.rtr_types.specs.PairEdges.{AreEdges}
use Rattle.stride_vector.specs.declared.StrideVector.{StrideVector}
use Rattle.race_log.specs.declared.recording.Recording.{Recording}
use Rattle.race_log.specs.Validity.{AreVectors, Valid, bound_at}
use Rattle.what_if.specs.Others.{free_of}

no_edges : (n place : ℕ) → place < n → slice_index_or (replicate {A = List (ℕ × ℕ)} n []) place [] ≡ []
no_edges n place lt = get_or-replicate n place [] [] lt

no_vectors : (n place : ℕ) → place < n → slice_index_or (replicate {A = List StrideVector} n []) place [] ≡ []
no_vectors n place lt = get_or-replicate n place [] [] lt

pub free_valid : (r : Recording) → Valid r → Valid (free_of r)
free_valid r valid = record {
  params = valid.params;
  image = valid.image;
  each_core = length-replicate r.params.cores r.params.limit;
  totals = λ i d lt. subst (λ (t : ℕ). t ≤ r.params.limit)
      (sym (get_or-replicate r.params.cores i r.params.limit d
      (let long = length-replicate r.params.cores r.params.limit in omega arith))) (omega arith);
  each_reduced = length-replicate {A = List (ℕ × ℕ)} (pair_count r.params.cores) [];
  reduced = λ place lt. subst (λ (es : List (ℕ × ℕ)). AreEdges (bound_at (free_of r).totals place) es)
      (sym (no_edges (pair_count r.params.cores) place lt)) tt;
  each_regulated = length-replicate {A = List StrideVector} (pair_count r.params.cores) [];
  regulated = λ place lt. subst (λ (vs : List StrideVector). AreVectors (bound_at (free_of r).totals place) vs)
      (sym (no_vectors (pair_count r.params.cores) place lt)) tt;
}
