-- Edges by pair: adding edges to the pairs' lists is the same as cutting the longer list of edges into pairs.
use Rattle.std.proofs.Common.{◌≡◌, ◌≢◌, ℕ, ◌+◌, ◌<◌, ◌⊎◌, List, [], ◌∷◌, ◌++◌, length, replicate, refl, sym, ◌∙◌, ap}
use Rattle.std.proofs.Common.{inl, inr, arith, true, false, Bool, cond}
use Rattle.std.proofs.Common.{nat_eq, get_or}
use Rattle.std.proofs.lemmas.Bool.{and_parts, cases_Bool}
use Rattle.std.specs.Prelude.{map, slice_set, slice_index_or}
use Rattle.std.specs.List.{filter, fold, range_with_len, AllByRecursion}
use Rattle.std.proofs.lemmas.List.{map-append, append-nil, append_assoc, same_lists, length-map, length-set}
use Rattle.std.proofs.lemmas.List.{length-replicate, get_or-set_same}
use Rattle.std.proofs.lemmas.List.{get_or-set_other, get_or-replicate, get_or_default}
use Rattle.std.proofs.lemmas.List.Elements.{filter-append}
use Rattle.std.proofs.lemmas.List.FromFn.{get_or-map-range_with_len, length-range_with_len}
use Rattle.std.proofs.lemmas.Bool.Decides.{nat_tests}
use Rattle.rtr_types.specs.Pairs.{IsPair, pair_count, pair_place, source_at, target_at}
use Rattle.rtr_types.proofs.PairPlaces.{pairs-placed, places-paired}
use Rattle.rtr_types.specs.declared.instr.Instr.{Instr}
use Rattle.rtr_types.specs.declared.instr.Edge.{Edge}
use Rattle.clock_core.specs.Order.{Among}
use Rattle.online_reduce.specs.Exact.{SourcesRise}
use Rattle.rtr_types.specs.PairEdges.{counts, with_edge, with_edges, is_between, pair_edges, by_pair}

-- ---- the edges of one pair

pub pair_append : (from to : ℕ) (xs ys : List Edge) → pair_edges from to (xs ++ ys) ≡ pair_edges from to xs
    ++ pair_edges from to ys
unfolding pair_edges
pair_append from to xs ys = ap (map counts) (filter-append (is_between from to) xs ys)
    ∙ map-append counts (filter (is_between from to) xs) (filter (is_between from to) ys)

pair_yes : (from to : ℕ) (e : Edge) → is_between from to e ≡ true → pair_edges from to (e ∷ []) ≡ counts e ∷ []
unfolding pair_edges
pair_yes from to e t = ap (λ (b : Bool). map counts (cond b (e ∷ []) [])) t

pair_no : (from to : ℕ) (e : Edge) (edges : List Edge) → is_between from to e ≡ false → pair_edges from to (e ∷ edges)
    ≡ pair_edges from to edges
unfolding pair_edges
pair_no from to e edges t =
    ap (λ (b : Bool). map counts (cond b (e ∷ filter (is_between from to) edges) (filter (is_between from to) edges)))
    t

pair_first : (from to : ℕ) (e : Edge) (edges : List Edge) → is_between from to e ≡ true → pair_edges from to
    (e ∷ edges) ≡ counts e ∷ pair_edges from to edges
unfolding pair_edges
pair_first from to e edges t =
    ap (λ (b : Bool). map counts (cond b (e ∷ filter (is_between from to) edges) (filter (is_between from to) edges)))
    t

pair_nil : (from to : ℕ) → pair_edges from to [] ≡ []
unfolding pair_edges
pair_nil from to = refl

pub between_is : (from to : ℕ) (e : Edge) → is_between from to e ≡ true → (e.from.core ≡ from) × (e.to.core ≡ to)
between_is from to e t =
    let both = and_parts (nat_eq e.from.core from) (nat_eq e.to.core to) t in
    let one : nat_eq e.from.core from ≡ true = both.0 in
    let two : nat_eq e.to.core to ≡ true = both.1 in
    (grind (arith, nat_tests), grind (arith, nat_tests))

-- what holds of each edge between the two holds of each of the pair's
pub each_pair : (P : ℕ × ℕ → Type 0) (from to : ℕ) (edges : List Edge) →
    ((x y : Instr) → Among edges x y → x.core ≡ from → y.core ≡ to → P (x.count, y.count))
    → AllByRecursion P (pair_edges from to edges)
unfolding pair_edges
each_pair P from to [] f = tt
each_pair P from to (e ∷ edges) f = by (is_between from to e) refl (each_pair P from to edges (λ x y s. f x y (inr s)))
  where
    by : (b : Bool) → is_between from to e ≡ b → AllByRecursion P (pair_edges from to edges) →
        AllByRecursion P
        (map counts (cond b (e ∷ filter (is_between from to) edges) (filter (is_between from to) edges)))
    by true t rest = let cores = between_is from to e t in (f e.from e.to (inl (refl, refl)) cores.0 cores.1, rest)
    by false t rest = rest

-- where source cores rise, a pair has at most one edge
pair_none : (low from to : ℕ) (edges : List Edge) → SourcesRise low edges → from < low → pair_edges from to edges ≡ []
unfolding pair_edges
pair_none low from to [] rise lt = refl
pair_none low from to (e ∷ edges) rise lt =
    let le = rise.0 in
    let t : is_between from to e ≡ false = grind (arith, nat_tests) in
    pair_no from to e edges t ∙ pair_none (e.from.core + 1) from to edges rise.1 (omega arith)

pub record OneEdge (from to : ℕ) (edges : List Edge) : Type 0 where
  pub edge : Edge
  pub among : Among edges edge.from edge.to
  pub from_is : edge.from.core ≡ from
  pub to_is : edge.to.core ≡ to
  pub only : pair_edges from to edges ≡ counts edge ∷ []

pub pair_one : (low from to : ℕ) (edges : List Edge) → SourcesRise low edges → (pair_edges from to edges ≡ [])
    ⊎ OneEdge from to edges
unfolding pair_edges
pair_one low from to [] rise = inl refl
pair_one low from to (e ∷ edges) rise = by (cases_Bool (is_between from to e))
    (pair_one (e.from.core + 1) from to edges rise.1)
  where
    by : (is_between from to e ≡ true) ⊎ (is_between from to e ≡ false) → (pair_edges from to edges ≡ [])
        ⊎ OneEdge from to edges →
        (pair_edges from to (e ∷ edges) ≡ []) ⊎ OneEdge from to (e ∷ edges)
    by (inl t) _ =
        let cores = between_is from to e t in
        let core = cores.0 in
        inr (record {
          edge = e;
          among = inl (refl, refl);
          from_is = cores.0;
          to_is = cores.1;
          only = pair_first from to e edges t ∙ ap (λ (es : List (ℕ × ℕ)). counts e ∷ es)
              (pair_none (e.from.core + 1) from to edges rise.1 (omega arith));
        })
    by (inr t) (inl none) = inl (pair_no from to e edges t ∙ none)
    by (inr t) (inr o) = inr
        (record {
          edge = o.edge;
          among = inr o.among;
          from_is = o.from_is;
          to_is = o.to_is;
          only = pair_no from to e
              edges t ∙ o.only;
        })

-- ---- all pairs

pub by_pair_at : (cores : ℕ) (edges : List Edge) (place : ℕ) (d : List (ℕ × ℕ)) → place < pair_count cores
    → slice_index_or (by_pair cores edges) place d
    ≡ pair_edges (source_at cores place) (target_at cores place) edges
unfolding by_pair
by_pair_at cores edges place d lt =
    get_or-map-range_with_len (λ (p : ℕ). pair_edges (source_at cores p) (target_at cores p) edges) 0
    (pair_count cores) place place d lt (omega arith)

pub length-by_pair : (cores : ℕ) (edges : List Edge) → length (by_pair cores edges) ≡ pair_count cores
unfolding by_pair
length-by_pair cores edges = length-map (range_with_len 0 (pair_count cores))
    (λ (p : ℕ). pair_edges (source_at cores p) (target_at cores p) edges)
    ∙ long 0 (pair_count cores)
  where
    long : (a n : ℕ) → length (range_with_len a n) ≡ n
    long a n = length-range_with_len a n

pub by_pair_none : (cores : ℕ) → replicate (pair_count cores) [] ≡ by_pair cores []
unfolding pair_edges
by_pair_none cores =
    same_lists (replicate (pair_count cores) []) (by_pair cores [])
    (length-replicate (pair_count cores) [] ∙ sym (length-by_pair cores []))
    (λ k d lt. let below : k < pair_count cores = omega
    (arith, lt, length-replicate {A = List (ℕ × ℕ)} (pair_count cores) []) in
    get_or-replicate (pair_count cores) k [] d below ∙ sym (by_pair_at cores [] k d below))

by_pair_push : (cores : ℕ) (edges : List Edge) (e : Edge) → IsPair cores e.from.core e.to.core
    → with_edge cores (by_pair cores edges) e
    ≡ by_pair cores (edges ++ e ∷ [])
by_pair_push cores edges e pair =
    same_lists (with_edge cores (by_pair cores edges) e) (by_pair cores (edges ++ e ∷ []))
    (length-set (by_pair cores edges) place new ∙ length-by_pair cores edges
    ∙ sym (length-by_pair cores (edges ++ e ∷ [])))
    (λ k d lt. at k d (omega (arith, lt, length-set (by_pair cores edges) place new, length-by_pair cores edges))
    (split k place))
  where
    place : ℕ
    place = pair_place cores e.from.core e.to.core

    new : List (ℕ × ℕ)
    new = slice_index_or (by_pair cores edges) (pair_place cores e.from.core e.to.core) [] ++ counts e ∷ []

    split : (i j : ℕ) → (i ≡ j) ⊎ (i ≢ j)
    split i j = grind arith

    placed : (pair_place cores e.from.core e.to.core < pair_count cores)
        × (source_at cores (pair_place cores e.from.core e.to.core) ≡ e.from.core)
        × (target_at cores (pair_place cores e.from.core e.to.core) ≡ e.to.core)
    placed = pairs-placed cores e.from.core e.to.core pair

    here : slice_index_or (by_pair cores edges) place [] ≡ pair_edges e.from.core e.to.core edges
    here = by_pair_at cores edges place [] placed.0 ∙ ap (λ (i : ℕ). pair_edges i (target_at cores place) edges)
        placed.1
        ∙ ap (λ (j : ℕ). pair_edges e.from.core j edges) placed.2

    itself : is_between e.from.core e.to.core e ≡ true
    itself = grind (arith, nat_tests)

    there : slice_index_or (by_pair cores (edges ++ e ∷ [])) place [] ≡ new
    there =
        by_pair_at cores (edges ++ e ∷ []) place [] placed.0
        ∙ ap (λ (i : ℕ). pair_edges i (target_at cores place) (edges ++ e ∷ [])) placed.1
        ∙ ap (λ (j : ℕ). pair_edges e.from.core j (edges ++ e ∷ [])) placed.2
        ∙ pair_append e.from.core e.to.core edges (e ∷ [])
        ∙ ap (λ (es : List (ℕ × ℕ)). pair_edges e.from.core e.to.core edges ++ es)
        (pair_yes e.from.core e.to.core e itself)
        ∙ ap (λ (es : List (ℕ × ℕ)). es ++ counts e ∷ []) (sym here)

    elsewhere : (k : ℕ) → k < pair_count cores → k ≢ place → is_between (source_at cores k) (target_at cores k) e ≡
        false
    elsewhere k lt d = by (cases_Bool (is_between (source_at cores k) (target_at cores k) e))
      where
        by : (is_between (source_at cores k) (target_at cores k) e ≡ true)
            ⊎ (is_between (source_at cores k) (target_at cores k) e ≡ false) →
            is_between (source_at cores k) (target_at cores k) e ≡ false
        by (inl t) =
            let cores_are = between_is (source_at cores k) (target_at cores k) e t in
            absurd (d (sym (places-paired cores k lt).1 ∙ ap (λ (i : ℕ). pair_place cores i (target_at cores k))
            (sym cores_are.0)
            ∙ ap (λ (j : ℕ). pair_place cores e.from.core j) (sym cores_are.1)))
        by (inr t) = t

    at : (k : ℕ) (d : List (ℕ × ℕ)) → k < pair_count cores → (k ≡ place) ⊎ (k ≢ place)
        → get_or (with_edge cores (by_pair cores edges) e) k d
        ≡ get_or (by_pair cores (edges ++ e ∷ [])) k d
    at k d lt (inl f) =
        ap (λ (i : ℕ). get_or (slice_set (by_pair cores edges) place new) i d) f
        ∙ get_or-set_same (by_pair cores edges) place new d (omega (arith, placed.0, length-by_pair cores edges))
        ∙ sym there
        ∙ get_or_default (by_pair cores (edges ++ e ∷ [])) place [] d
        (omega (arith, placed.0, length-by_pair cores (edges ++ e ∷ [])))
        ∙ ap (λ (i : ℕ). get_or (by_pair cores (edges ++ e ∷ [])) i d) (sym f)
    at k d lt (inr f) =
        get_or-set_other (by_pair cores edges) place k new d f
        ∙ by_pair_at cores edges k d lt
        ∙ sym (append-nil (pair_edges (source_at cores k) (target_at cores k) edges))
        ∙ ap (λ (es : List (ℕ × ℕ)). pair_edges (source_at cores k) (target_at cores k) edges ++ es)
        (sym (pair_no (source_at cores k) (target_at cores k) e [] (elsewhere k lt f) ∙ pair_nil (source_at cores k)
        (target_at cores k)))
        ∙ sym (pair_append (source_at cores k) (target_at cores k) edges (e ∷ []))
        ∙ sym (by_pair_at cores (edges ++ e ∷ []) k d lt)

pub by_pair_add : (cores : ℕ) (edges new : List Edge)
    → AllByRecursion (λ (e : Edge). IsPair cores e.from.core e.to.core) new →
    with_edges cores (by_pair cores edges) new ≡ by_pair cores (edges ++ new)
unfolding with_edges
by_pair_add cores edges [] pairs = ap (by_pair cores) (sym (append-nil edges))
by_pair_add cores edges (e ∷ new) pairs =
    ap (λ (ls : List (List (ℕ × ℕ))). fold (with_edge cores) ls new) (by_pair_push cores edges e pairs.0)
    ∙ by_pair_add cores (edges ++ e ∷ []) new pairs.1
    ∙ ap (by_pair cores) (append_assoc edges (e ∷ []) new)
