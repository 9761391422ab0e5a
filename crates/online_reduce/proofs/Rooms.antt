-- The pairs' lists get edges, each list one at most.
use Rattle.std.proofs.Common.{◌≡◌, ◌≢◌, ℕ, ◌+◌, ◌<◌, ◌≤◌, IsTrue, List, [], ◌∷◌, ◌++◌, length, get_or, refl, sym, ap}
use Rattle.std.proofs.Common.{subst, ◌∙◌, arith}
use Rattle.std.specs.Prelude.{All, slice_index_or}
use Rattle.std.proofs.lemmas.List.{get_or_default, length-map, length-set}
use Rattle.std.proofs.lemmas.List.Elements.{All-get_or}
use Rattle.std.proofs.lemmas.List.Sums.{fold-append}
use Rattle.roomy_lists.specs.Lists.{Listed, are_ready, is_ready_at, items_in, with_item}
use Rattle.roomy_lists.proofs.Rooms.{ready_each}
use Rattle.rtr_types.specs.Pairs.{IsPair, pair_count, pair_place}
use Rattle.rtr_types.proofs.PairPlaces.{pairs-placed, sources-rise}
use Rattle.rtr_types.specs.declared.instr.Instr.{Instr}
use Rattle.rtr_types.specs.declared.instr.Edge.{Edge}
use Rattle.rtr_types.specs.PairEdges.{counts, with_edge, with_edges}
use Rattle.online_reduce.specs.declared.source.Source.{Source}

-- one more edge is put at the end of its pair's list
pub added : (cores : ℕ) (lists was now : List (List (ℕ × ℕ))) (edges : List Edge) (place : ℕ) (e : Edge) →
    place ≡ pair_place cores e.from.core e.to.core → now ≡ with_item was place (counts e) → was ≡ with_edges cores
    lists edges →
    now ≡ with_edges cores lists (edges ++ e ∷ [])
unfolding with_edges
added cores lists was now edges place e at new is =
    new
    ∙ ap (λ (p : ℕ). with_item was p (counts e)) at
    ∙ ap (λ (ls : List (List (ℕ × ℕ))). with_edge cores ls e) is
    ∙ sym (fold-append (with_edge cores) lists edges (e ∷ []))

length-added : (cores : ℕ) (lists : List (List (ℕ × ℕ))) (edges : List Edge) → length (with_edges cores lists edges) ≡
    length lists
unfolding with_edges
length-added cores lists [] = refl
length-added cores lists (e ∷ edges) = length-added cores (with_edge cores lists e) edges
    ∙ length-set lists (pair_place cores e.from.core e.to.core)
    (slice_index_or lists (pair_place cores e.from.core e.to.core) [] ++ counts e ∷ [])

length-items : (all : List (Listed (ℕ × ℕ))) → length (items_in all) ≡ length all
length-items all = length-map all (λ (l : Listed (ℕ × ℕ)). l.items)

-- as many lists as before
pub length-after : (cores : ℕ) (all more : List (Listed (ℕ × ℕ))) (edges : List Edge) → items_in more ≡ with_edges
    cores (items_in all) edges →
    length more ≡ length all
length-after cores all more edges is = sym (length-items more) ∙ ap length is ∙ length-added cores (items_in all)
    edges ∙ length-items all

-- ---- room

-- the lists of the candidates from the one at i on have room
abbrev pub HaveRoom : (cores : ℕ) → Instr → List Source → List (Listed (ℕ × ℕ)) → ℕ → Type 0
HaveRoom cores at found all i = (k : ℕ) (d : Source) → i ≤ k → k < length found →
    IsTrue (is_ready_at all (pair_place cores (get_or found k d).at.core at.core))

pub have_room : (cores : ℕ) (at : Instr) (found : List Source) (all : List (Listed (ℕ × ℕ))) → length all ≡ pair_count
    cores →
    All (λ (s : Source). IsPair cores s.at.core at.core) found → IsTrue (are_ready all) → HaveRoom cores at found all 0
have_room cores at found all long pairs ready k d le lt =
    let pair = All-get_or (λ (s : Source). IsPair cores s.at.core at.core) found k d lt pairs in
    let placed = pairs-placed cores (get_or found k d).at.core at.core pair in
    ready_each all (pair_place cores (get_or found k d).at.core at.core) ready (omega (arith, placed.0))

-- the candidates after this one are of later cores, so their lists are others
pub room_left : (cores : ℕ) (at : Instr) (found : List Source) (all more : List (Listed (ℕ × ℕ))) (i place : ℕ)
    (s : Source) → i < length found →
    s ≡ get_or found i s → place ≡ pair_place cores s.at.core at.core
    → All (λ (s : Source). IsPair cores s.at.core at.core) found →
    ((i j : ℕ) (d : Source) → i < j → j < length found → (get_or found i d).at.core < (get_or found j d).at.core) →
    ((other : ℕ) → other ≢ place → is_ready_at more other ≡ is_ready_at all other) → HaveRoom cores at found all i
    → HaveRoom cores at found more (i + 1)
room_left cores at found all more i place s within is placed pairs apart others had k d le lt =
    subst IsTrue (sym (others (pair_place cores (get_or found k d).at.core at.core) differ)) (had k d (omega arith) lt)
  where
    own : IsPair cores s.at.core at.core
    own = subst (λ (v : Source). IsPair cores v.at.core at.core) (sym is)
        (All-get_or (λ (s : Source). IsPair cores s.at.core at.core) found i s within pairs)

    later : IsPair cores (get_or found k d).at.core at.core
    later = All-get_or (λ (s : Source). IsPair cores s.at.core at.core) found k d lt pairs

    rises : s.at.core < (get_or found k d).at.core
    rises =
        let up = apart i k d (omega arith) lt in
        let same : (get_or found i d).at.core ≡ s.at.core = ap (λ (v : Source). v.at.core)
        (get_or_default found i d s within ∙ sym is) in
        omega arith

    differ : pair_place cores (get_or found k d).at.core at.core ≢ place
    differ e =
        let up = sources-rise cores s.at.core at.core (get_or found k d).at.core at.core own later rises in
        omega arith

-- a candidate that is not kept leaves the lists as they were
pub room_same : (cores : ℕ) (at : Instr) (found : List Source) (all : List (Listed (ℕ × ℕ))) (i : ℕ)
    → HaveRoom cores at found all i →
    HaveRoom cores at found all (i + 1)
room_same cores at found all i had k d le lt = had k d (omega arith) lt

-- the next candidate's list has room
pub room_next : (cores : ℕ) (at : Instr) (found : List Source) (all : List (Listed (ℕ × ℕ))) (i place : ℕ)
    (s : Source) → i < length found →
    s ≡ get_or found i s → place ≡ pair_place cores s.at.core at.core → HaveRoom cores at found all i
    → IsTrue (is_ready_at all place)
room_next cores at found all i place s within is placed had =
    subst (λ (p : ℕ). IsTrue (is_ready_at all p))
    (sym (placed ∙ ap (λ (v : Source). pair_place cores v.at.core at.core) is))
    (had i s (omega arith) within)
