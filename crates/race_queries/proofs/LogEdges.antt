-- The edges of a log, one pair of cores, one vector and one edge after the other.
use Rattle.std.proofs.Common.{◌≡◌, ℕ, ◌+◌, ◌<◌, List, [], ◌∷◌, ◌++◌, length, map, take, get_or, refl, sym, ap, ◌∙◌}
use Rattle.std.proofs.Common.{append_assoc}
use Rattle.std.proofs.lemmas.List.{map-append, map_push, take_more}
use Rattle.std.proofs.lemmas.List.Concat.{flat_map-append}
use Rattle.std.specs.List.{flat_map, range_with_len}
use Rattle.rtr_types.specs.Pairs.{pair_count, pair_place, source_at, target_at}
use Rattle.rtr_types.specs.declared.instr.Edge.{Edge}
use Rattle.rtr_types.specs.declared.pairs.Which.{Which}
use Rattle.rtr_types.proofs.PairPlaces.{places-paired}
use Rattle.rtr_types.proofs.Ranges.{map_range_more, range_more}
use Rattle.stride_vector.specs.Vectors.{edges_of, position_of}
use Rattle.stride_vector.specs.declared.StrideVector.{StrideVector}
use Rattle.race_log.specs.Sources.{edge_between, edges_at, edges_of_pair}
use Rattle.race_log.specs.declared.recording.Recording.{Recording}

-- what comes behind others
behind : (first middle last list new : List Edge) → list ≡ first ++ middle → new ≡ list ++ last →
    new ≡ first ++ (middle ++ last)
behind first middle last list new so_far added =
    added ∙ ap (λ (l : List Edge). l ++ last) so_far ∙ append_assoc first middle last

append_none : (xs : List Edge) → xs ++ [] ≡ xs
append_none [] = refl
append_none (x ∷ xs) = ap (λ (l : List Edge). x ∷ l) (append_none xs)

-- the edges of the pair of cores at a place, by the pair
pub pair_edges : (which : Which) (r : Recording) (place : ℕ) (pair : ℕ × ℕ) (counts : List (ℕ × ℕ)) →
    place < pair_count r.params.cores → pair ≡ (source_at r.params.cores place, target_at r.params.cores place) →
    counts ≡ edges_of_pair which r (pair_place r.params.cores pair.0 pair.1) →
    map (edge_between pair.0 pair.1) counts ≡ edges_at which r place
pair_edges which r place pair counts inside is are =
    ap (λ (p : ℕ × ℕ). map (edge_between p.0 p.1) counts) is
    ∙ ap (map (edge_between (source_at r.params.cores place) (target_at r.params.cores place)))
    (are ∙ ap (λ (p : ℕ × ℕ). edges_of_pair which r (pair_place r.params.cores p.0 p.1)) is
    ∙ ap (edges_of_pair which r) (places-paired r.params.cores place inside).1)

-- a pair more
pub pairs_more : (f : ℕ → List Edge) (place : ℕ) (list new : List Edge) →
    list ≡ flat_map f (range_with_len 0 place) → new ≡ list ++ f place →
    new ≡ flat_map f (range_with_len 0 (place + 1))
pairs_more f place list new so_far added =
    added ∙ ap (λ (l : List Edge). l ++ f place) so_far
    ∙ ap (λ (l : List Edge). flat_map f (range_with_len 0 place) ++ l) (sym (append_none (f place)))
    ∙ sym (flat_map-append f (range_with_len 0 place) (place ∷ []))
    ∙ ap (flat_map f) (sym (range_more place))

module _ (from to : ℕ) (first list new : List Edge) where
  -- a vector more
  pub vectors_more : (vectors : List StrideVector) (k : ℕ) (d : StrideVector) → k < length vectors →
      list ≡ first ++ map (edge_between from to) (flat_map edges_of (take k vectors)) →
      new ≡ list ++ map (edge_between from to) (edges_of (get_or vectors k d)) →
      new ≡ first ++ map (edge_between from to) (flat_map edges_of (take (k + 1) vectors))
  vectors_more vectors k d inside so_far added =
      behind first (map (edge_between from to) (flat_map edges_of (take k vectors)))
      (map (edge_between from to) (edges_of (get_or vectors k d))) list new so_far added
      ∙ ap (λ (l : List Edge). first ++ l)
      (sym (map-append (edge_between from to) (flat_map edges_of (take k vectors)) (edges_of (get_or vectors k d)))
      ∙ ap (map (edge_between from to))
      (ap (λ (l : List (ℕ × ℕ)). flat_map edges_of (take k vectors) ++ l)
      (sym (one_none (edges_of (get_or vectors k d))))
      ∙ sym (flat_map-append edges_of (take k vectors) (get_or vectors k d ∷ []))
      ∙ ap (flat_map edges_of) (sym (take_more vectors k d inside))))
    where
      one_none : (xs : List (ℕ × ℕ)) → xs ++ [] ≡ xs
      one_none [] = refl
      one_none (x ∷ xs) = ap (λ (l : List (ℕ × ℕ)). x ∷ l) (one_none xs)

  -- an edge of a vector more
  pub positions_more : (v : StrideVector) (k : ℕ) (e : Edge) →
      list ≡ first ++ map (edge_between from to) (map (position_of v) (range_with_len 0 k)) →
      e ≡ edge_between from to (position_of v k) → new ≡ list ++ e ∷ [] →
      new ≡ first ++ map (edge_between from to) (map (position_of v) (range_with_len 0 (k + 1)))
  positions_more v k e so_far is added =
      behind first (map (edge_between from to) (map (position_of v) (range_with_len 0 k))) (e ∷ []) list new so_far
      added
      ∙ ap (λ (l : List Edge). first ++ l)
      (ap (λ (x : Edge). map (edge_between from to) (map (position_of v) (range_with_len 0 k)) ++ x ∷ []) is
      ∙ sym (map_push (edge_between from to) (map (position_of v) (range_with_len 0 k)) (position_of v k))
      ∙ ap (map (edge_between from to)) (sym (map_range_more (position_of v) k)))
