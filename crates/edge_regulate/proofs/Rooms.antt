-- The pairs' lists of vectors while edges are told.
use Rattle.std.proofs.Common.{◌≡◌, ℕ, ◌-◌, ◌<◌, ◌≤◌, Bool, true, List, [], ◌∷◌, ◌++◌, length, get_or, replicate, zero}
use Rattle.std.proofs.Common.{suc, sym, ap, subst}
use Rattle.std.proofs.Common.{◌∙◌, arith, IsTrue}
use Rattle.std.specs.Prelude.{All, slice_set}
use Rattle.std.proofs.lemmas.List.{length-map, length-set}
use Rattle.std.proofs.lemmas.List.Elements.{All-push, All-set}
use Rattle.rtr_types.specs.Pairs.{pair_count, pair_place}
use Rattle.rtr_types.specs.declared.instr.Edge.{Edge}
use Rattle.stride_vector.specs.declared.StrideVector.{StrideVector}
use Rattle.roomy_lists.specs.Lists.{Listed, are_ready, is_ready_at, items_at, items_in, with_item, with_newest}
use Rattle.roomy_lists.proofs.Rooms.{ready_each}
use Rattle.know_history.specs.Notes.{Notes, core_count, known_at, noted_count}
use Rattle.edge_regulate.specs.Greedy.{told}
use Rattle.rtr_types.specs.PairEdges.{counts}
use Rattle.edge_regulate.specs.Regulated.{knows_by, IsGrowing, Regulation, IsRegulation, regulated}
use Rattle.edge_regulate.proofs.Regulations.{told_of, begin_law}

-- a core whose retirements were noted is among the cores
pub core_within : (notes : Notes) (core count : ℕ) → 1 ≤ count → count ≤ noted_count notes core →
    core < core_count notes
core_within [] core count some noted = absurd (omega arith)
core_within (n ∷ notes) zero count some noted = omega arith
core_within (n ∷ notes) (suc core) count some noted = let rest = core_within notes core count some noted in omega arith

abbrev pub AreGrowing : List (List StrideVector) → Type 0
AreGrowing lists = All (λ vectors. All IsGrowing vectors) lists

pub length-items : (all : List (Listed StrideVector)) → length (items_in all) ≡ length all
length-items all = length-map all (λ (l : Listed StrideVector). l.items)

-- the vectors of one pair may go on
pub growing_at : (all : List (Listed StrideVector)) (place : ℕ) → place < length all → AreGrowing (items_in all) →
    All IsGrowing (items_at all place)
growing_at all place within growing = growing place [] (omega (arith, length-items all))

-- a pair gets one vector more, or its last one goes on
pub growing_more : (all more : List (Listed StrideVector)) (place : ℕ) (v : StrideVector) → place < length all →
    IsGrowing v →
    items_in more ≡ with_item (items_in all) place v → AreGrowing (items_in all) → AreGrowing (items_in more)
growing_more all more place v within new is growing =
    subst AreGrowing (sym is)
    (All-set (λ (vs : List StrideVector). All IsGrowing vs) (items_in all) place (items_at all place ++ v ∷ [])
    (All-push IsGrowing (items_at all place) v (growing_at all place within growing) new) growing)

pub growing_on : (all more : List (Listed StrideVector)) (place : ℕ) (v : StrideVector) → place < length all →
    IsGrowing v →
    items_in more ≡ with_newest (items_in all) place v → AreGrowing (items_in all) → AreGrowing (items_in more)
growing_on all more place v within new is growing =
    subst AreGrowing (sym is)
    (All-set (λ (vs : List StrideVector). All IsGrowing vs) (items_in all) place (slice_set (items_at all place)
    (length (items_at all place) - 1) v)
    (All-set IsGrowing (items_at all place) (length (items_at all place) - 1) v new
    (growing_at all place within growing)) growing)

-- as many pairs as before
pub long_more : (all more : List (Listed StrideVector)) (place : ℕ) (list : List StrideVector) →
    items_in more ≡ slice_set (items_in all) place list →
    length more ≡ length all
long_more all more place list is = sym (length-items more) ∙ ap length is ∙ length-set (items_in all) place list
    ∙ length-items all

-- once room was made each pair has it
pub all_ready : (all more : List (Listed StrideVector)) (pair : ℕ) → items_in more ≡ items_in all →
    IsTrue (are_ready more) → pair < length all →
    is_ready_at more pair ≡ true
all_ready all more pair same ready within =
    (let each = ready_each more pair ready (let long = ap length same in let a = length-items more in let b =
    length-items all in omega arith) in
    is_true (is_ready_at more pair) each)
  where
    is_true : (b : Bool) → IsTrue b → b ≡ true
    is_true b t = grind arith

-- an edge was told: the list of its pair is what the edge makes of it
pub edge_told : (notes : Notes) (s : Regulation) (e : Edge) (all more : List (Listed StrideVector)) (place : ℕ)
    (list made : List StrideVector) →
    items_in all ≡ s.vectors → place ≡ pair_place s.cores e.from.core e.to.core → list ≡ items_at all place →
    told (knows_by (known_at notes) e.from.core e.to.core) list (counts e) ≡ made →
    items_in more ≡ slice_set (items_in all) place made →
    items_in more ≡ slice_set s.vectors (pair_place s.cores e.from.core e.to.core) (told_of notes s e)
edge_told notes s e all more place list made is at list_is told_is new =
    let knows = knows_by (known_at notes) e.from.core e.to.core in
    new
    ∙ ap (λ (vs : List StrideVector). slice_set (items_in all) place vs) (sym told_is
    ∙ ap (λ (vs : List StrideVector). told knows vs (counts e)) list_is)
    ∙ ap (λ (ls : List (List StrideVector)). slice_set ls place (told knows (get_or ls place []) (counts e))) is
    ∙ ap (λ (p : ℕ). slice_set s.vectors p (told knows (get_or s.vectors p []) (counts e))) at

-- no vectors yet
pub begun : (notes : Notes) (s : Regulation) (cores : ℕ) → s.cores ≡ cores →
    s.vectors ≡ replicate (pair_count cores) [] →
    IsRegulation notes (replicate (pair_count cores) []) s
begun notes s cores cores_is vectors_is =
    subst (λ (t : Regulation). IsRegulation notes (replicate (pair_count cores) []) t) same
    (begin_law notes cores s.ready)
  where
    of : ℕ → List (List StrideVector) → Regulation
    of n vs = record { cores = n; vectors = vs; ready = s.ready }

    same : of cores (replicate (pair_count cores) []) ≡ s
    same = ap (λ (n : ℕ). of n (replicate (pair_count cores) [])) (sym cores_is)
        ∙ ap (λ (vs : List (List StrideVector)). of s.cores vs) (sym vectors_is)

-- the regulation is that of the vectors
pub same_regulation : (notes : Notes) (edges : List (List (ℕ × ℕ))) (s t : Regulation) → t.cores ≡ s.cores →
    t.vectors ≡ s.vectors →
    IsRegulation notes edges s → IsRegulation notes edges t
same_regulation notes edges s t cores vectors kept = record {
  each = kept.each ∙ ap pair_count (sym cores);
  vectors = λ known extends. vectors ∙ kept.vectors known extends ∙ ap (λ (n : ℕ). regulated n known edges) (sym cores);
}
