-- Each pair's vectors while edges are told.
use Rattle.std.proofs.Common.{◌≡◌, ◌≢◌, ℕ, ◌<◌, ◌≤◌, ◌⊎◌, Bool, cond, List, [], ◌∷◌, ◌++◌, length, get_or, replicate}
use Rattle.std.proofs.Common.{refl, sym, ap, subst, ◌∙◌, inl, inr}
use Rattle.std.proofs.Common.{arith}
use Rattle.std.specs.Prelude.{slice_set, slice_index_or, nat_le}
use Rattle.std.specs.List.{AllByRecursion, range_with_len}
use Rattle.std.proofs.lemmas.List.{same_lists, length-map, length-set, length-replicate, get_or-set_same}
use Rattle.std.proofs.lemmas.List.{get_or-set_other, get_or-replicate, get_or_default}
use Rattle.std.proofs.lemmas.List.FromFn.{get_or-map-range_with_len, length-range_with_len}
use Rattle.std.proofs.lemmas.Bool.{cases_eq}
use Rattle.rtr_types.specs.Pairs.{IsPair, pair_count, pair_place, source_at, target_at}
use Rattle.rtr_types.proofs.PairPlaces.{pairs-placed, places-paired}
use Rattle.rtr_types.specs.declared.instr.Edge.{Edge}
use Rattle.stride_vector.specs.declared.StrideVector.{StrideVector}
use Rattle.know_history.specs.Notes.{Notes, known_at, noted_count}
use Rattle.edge_regulate.specs.Greedy.{Knows, opened, taking, greedy, told}
use Rattle.rtr_types.specs.PairEdges.{counts, with_edge}
use Rattle.edge_regulate.specs.Regulated.{Knowledge, knows_by, vectors_at, regulated, Regulation, Extends, IsRegulation}
use Rattle.edge_regulate.specs.Laws.{BeginLaw, LaterLaw, NotedLaw, EndLaw, UpToLaw}
use Rattle.edge_regulate.proofs.Online.{greedy_told}
use Rattle.edge_regulate.proofs.Agree.{AgreeUpTo, takes_agree, greedy_agree}

-- ---- all pairs

pub length-regulated : (cores : ℕ) (known : Knowledge) (edges : List (List (ℕ × ℕ))) →
    length (regulated cores known edges) ≡ pair_count cores
unfolding regulated
length-regulated cores known edges = length-map (range_with_len 0 (pair_count cores)) (vectors_at cores known edges)
    ∙ length-range_with_len 0 (pair_count cores)

pub regulated_at : (cores : ℕ) (known : Knowledge) (edges : List (List (ℕ × ℕ))) (place : ℕ) (d : List StrideVector) →
    place < pair_count cores →
    get_or (regulated cores known edges) place d ≡ vectors_at cores known edges place
unfolding regulated
regulated_at cores known edges place d below = get_or-map-range_with_len (vectors_at cores known edges) 0
    (pair_count cores) place place d below (omega arith)

-- lists that are the vectors of each pair are all of them
pub regulated_is : (cores : ℕ) (known : Knowledge) (edges : List (List (ℕ × ℕ))) (vectors : List (List StrideVector)) →
    length vectors ≡ pair_count cores →
    ((place : ℕ) → place < pair_count cores → get_or vectors place [] ≡ vectors_at cores known edges place) →
    vectors ≡ regulated cores known edges
regulated_is cores known edges vectors each at =
    same_lists vectors (regulated cores known edges) (each ∙ sym (length-regulated cores known edges))
    (λ place d below. let within : place < pair_count cores = omega arith in get_or_default vectors place d [] below
    ∙ at place within
    ∙ sym (regulated_at cores known edges place d within))

pub begin_law : BeginLaw
begin_law notes cores ready = record {
  each = length-replicate (pair_count cores) [];
  vectors = λ known later.
      regulated_is cores known (replicate (pair_count cores) []) (replicate (pair_count cores) [])
      (length-replicate (pair_count cores) [])
      (λ place below. get_or-replicate (pair_count cores) place [] [] below
      ∙ sym (ap (λ (es : List (ℕ × ℕ)). greedy (knows_by known (source_at cores place) (target_at cores place)) es)
      (get_or-replicate {A = List (ℕ × ℕ)} (pair_count cores) place [] [] below)));
}

pub later_law : LaterLaw
later_law notes later edges s grows kept = record {
  each = kept.each;
  vectors = λ known extends. kept.vectors known (λ core count of other le. let more = grows.counts core in
      extends core count of other (omega arith)
      ∙ grows.same core count of other le);
}

pub noted_law : NotedLaw
noted_law old new at known next noted = record { counts = λ core. by core (cases_eq core at.core); same = noted.kept }
  where
    by : (core : ℕ) → (core ≡ at.core) ⊎ (core ≢ at.core) → noted_count old core ≤ noted_count new core
    by core (inl same) = let here = noted.count in subst (λ (c : ℕ). noted_count old c ≤ noted_count new c) (sym same)
        (omega arith)
    by core (inr other) = let there = noted.others core other in omega arith

pub end_law : EndLaw
end_law notes edges s kept = kept.vectors (known_at notes) (λ core count of other le. refl)

pub up_to_law : UpToLaw
up_to_law cores known others edges most agree within =
    regulated_is cores others edges (regulated cores known edges) (length-regulated cores known edges)
    (λ place below. let pair = (places-paired cores place below).0 in
    regulated_at cores known edges place [] below
    ∙ greedy_agree (knows_by known (source_at cores place) (target_at cores place))
    (knows_by others (source_at cores place) (target_at cores place))
    (most (target_at cores place)) (slice_index_or edges place [])
    (λ a b le. ap (λ (n : ℕ). nat_le a n) (agree (target_at cores place) b (source_at cores place) pair le))
    (within place below))

-- the vectors of edges that were all noted are a regulation of them
pub regulation_is : (notes : Notes) (edges : List (List (ℕ × ℕ))) (s : Regulation) → length edges ≡ pair_count s.cores →
    ((place : ℕ) → place < pair_count s.cores →
    AllByRecursion (λ (e : ℕ × ℕ). e.1 ≤ noted_count notes (target_at s.cores place)) (slice_index_or edges place [])) →
    s.vectors ≡ regulated s.cores (known_at notes) edges → IsRegulation notes edges s
regulation_is notes edges s each within is = record {
  each = each;
  vectors = λ known extends.
      is ∙ up_to_law s.cores (known_at notes) known edges (noted_count notes)
      (λ core count other pair le. sym (extends core count other pair.differ le)) within;
}

-- ---- one edge more

told_agree : (knows others : Knows) (vs : List StrideVector) (e : ℕ × ℕ) → AgreeUpTo e.1 knows others →
    told knows vs e ≡ told others vs e
told_agree knows others [] e agree = refl
told_agree knows others (v ∷ []) e agree = ap (λ (b : Bool). cond b (taking v e ∷ []) (v ∷ opened e ∷ []))
    (takes_agree knows others v e agree)
told_agree knows others (v ∷ w ∷ vs) e agree =
    ap (λ (us : List StrideVector). v ∷ us) (told_agree knows others (w ∷ vs) e agree)

-- the list of the edges' pair has the edge at its end, and the others are as they were
with_edge_here : (cores : ℕ) (edges : List (List (ℕ × ℕ))) (e : Edge) → pair_place cores e.from.core e.to.core < length
    edges →
    slice_index_or (with_edge cores edges e) (pair_place cores e.from.core e.to.core) [] ≡ slice_index_or edges
    (pair_place cores e.from.core e.to.core) []
    ++ counts e ∷ []
with_edge_here cores edges e within =
    get_or-set_same edges (pair_place cores e.from.core e.to.core)
    (slice_index_or edges (pair_place cores e.from.core e.to.core) [] ++ counts e ∷ []) [] within

-- the vectors of the edge's pair, with the edge told
abbrev pub told_of : Notes → Regulation → Edge → List StrideVector
told_of notes s e = told (knows_by (known_at notes) e.from.core e.to.core) (slice_index_or s.vectors
    (pair_place s.cores e.from.core e.to.core) []) (counts e)

tell_at : (notes : Notes) (edges : List (List (ℕ × ℕ))) (s : Regulation) (e : Edge) (known : Knowledge) →
    length edges ≡ pair_count s.cores →
    IsPair s.cores e.from.core e.to.core → e.to.count ≤ noted_count notes e.to.core → Extends notes known →
    s.vectors ≡ regulated s.cores known edges →
    told_of notes s e ≡ vectors_at s.cores known (with_edge s.cores edges e) (pair_place s.cores e.from.core e.to.core)
tell_at notes edges s e known each pair noted extends is =
    let place = pair_place s.cores e.from.core e.to.core in
    let placed = pairs-placed s.cores e.from.core e.to.core pair in
    let within : place < length edges = omega (arith, placed.0) in
    let knows = knows_by known e.from.core e.to.core in
    let old = slice_index_or edges place [] in
    told_agree (knows_by (known_at notes) e.from.core e.to.core) knows (slice_index_or s.vectors place []) (counts e)
    (λ a b le. ap (λ (n : ℕ). nat_le a n) (sym (extends e.to.core b e.from.core pair.differ
    (omega (arith, le, noted)))))
    ∙ ap (λ (vs : List StrideVector). told knows vs (counts e))
    (ap (λ (ls : List (List StrideVector)). slice_index_or ls place []) is
    ∙ regulated_at s.cores known edges place [] placed.0)
    ∙ ap (λ (i : ℕ). told knows (greedy (knows_by known i (target_at s.cores place)) old) (counts e)) placed.1
    ∙ ap (λ (j : ℕ). told knows (greedy (knows_by known e.from.core j) old) (counts e)) placed.2
    ∙ sym (greedy_told knows old (counts e))
    ∙ ap (λ (es : List (ℕ × ℕ)). greedy knows es) (sym (with_edge_here s.cores edges e within))
    ∙ sym (ap (λ (i : ℕ). greedy (knows_by known i (target_at s.cores place))
    (slice_index_or (with_edge s.cores edges e) place [])) placed.1
    ∙ ap (λ (j : ℕ). greedy (knows_by known e.from.core j) (slice_index_or (with_edge s.cores edges e) place []))
    placed.2)

-- an edge that is told is one more of those told
pub tell : (notes : Notes) (edges : List (List (ℕ × ℕ))) (s t : Regulation) (e : Edge) → IsRegulation notes edges s →
    IsPair s.cores e.from.core e.to.core →
    e.to.count ≤ noted_count notes e.to.core →
    t.cores ≡ s.cores → t.vectors ≡ slice_set s.vectors (pair_place s.cores e.from.core e.to.core) (told_of notes s e) →
    IsRegulation notes (with_edge s.cores edges e) t
tell notes edges s t e kept pair noted cores vectors = record {
  each = length-set edges place (slice_index_or edges place [] ++ counts e ∷ []) ∙ kept.each
      ∙ ap pair_count (sym cores);
  vectors = λ known extends.
      vectors
      ∙ regulated_is s.cores known (with_edge s.cores edges e) (slice_set s.vectors place (told_of notes s e))
      (length-set s.vectors place (told_of notes s e)
      ∙ long known extends)
      (λ k below. at known extends k below (cases_eq k place))
      ∙ ap (λ (n : ℕ). regulated n known (with_edge s.cores edges e)) (sym cores);
}
  where
    place : ℕ
    place = pair_place s.cores e.from.core e.to.core

    long : (known : Knowledge) → Extends notes known → length s.vectors ≡ pair_count s.cores
    long known extends = ap length (kept.vectors known extends) ∙ length-regulated s.cores known edges

    at : (known : Knowledge) → Extends notes known → (k : ℕ) → k < pair_count s.cores →
        (k ≡ pair_place s.cores e.from.core e.to.core)
        ⊎ (k ≢ pair_place s.cores e.from.core e.to.core) →
        get_or (slice_set s.vectors (pair_place s.cores e.from.core e.to.core) (told_of notes s e)) k []
        ≡ vectors_at s.cores known (with_edge s.cores edges e) k
    at known extends k below (inl f) =
        ap (λ (i : ℕ). get_or (slice_set s.vectors place (told_of notes s e)) i []) f
        ∙ get_or-set_same s.vectors place (told_of notes s e) [] (omega (
          arith,
          long known extends,
          (pairs-placed s.cores e.from.core e.to.core pair).0,
        ))
        ∙ tell_at notes edges s e known kept.each pair noted extends (kept.vectors known extends)
        ∙ ap (λ (i : ℕ). vectors_at s.cores known (with_edge s.cores edges e) i) (sym f)
    at known extends k below (inr f) =
        get_or-set_other s.vectors place k (told_of notes s e) [] f
        ∙ ap (λ (ls : List (List StrideVector)). get_or ls k []) (kept.vectors known extends)
        ∙ regulated_at s.cores known edges k [] below
        ∙ ap (λ (es : List (ℕ × ℕ)). greedy (knows_by known (source_at s.cores k) (target_at s.cores k)) es)
        (sym (get_or-set_other edges place k (slice_index_or edges place [] ++ counts e ∷ []) [] f))
