-- A table counts the edges between each two sites, one edge after the other, and what it says are the decisions.
use Rattle.std.proofs.Common.{◌≡◌, ℕ, ◌+◌, ◌-◌, ◌<◌, ◌≤◌, Bool, true, false, cond, List, [], ◌∷◌, ◌++◌, length, map}
use Rattle.std.proofs.Common.{take, get_or, refl, sym, ap, subst, ◌∙◌, arith, slice_get}
use Rattle.std.proofs.lemmas.List.{length-take-le, length_push, map_push, take_more}
use Rattle.std.proofs.lemmas.List.Elements.{filter-append, filter_passes}
use Rattle.std.proofs.lemmas.List.Sums.{count_by-le-length, length-filter}
use Rattle.std.proofs.lemmas.Map.Entries.{hash_map_get_place}
use Rattle.std.proofs.lemmas.Option.{MatchOption-at_some, get_or_from_slice_get, slice_get-get_or, slice_get_within}
use Rattle.std.specs.Map.{lookup}
use Rattle.std.specs.Option.{option_map}
use Rattle.std.specs.Prelude.{MatchOption, Option, Some, None, unwrap_or, if◌then◌else◌}
use Rattle.indexmap.specs.IndexMap.{IndexMap, IsUnique, Updates}
use Rattle.race_queries.specs.declared.ends.Ends.{Ends}
use Rattle.race_answers.proofs.SameSites.{pair_equivalence, same_pair}
use Rattle.race_answers.specs.Decisions.{CountsEdges, IsDecisionAmong, IsTallyOf, between, decision_by, tally_in}
use Rattle.race_answers.specs.Decisions.{times_in, times_turned}
use Rattle.race_answers.specs.Sites.{is_same_pair, pair_of, turned}
use Rattle.race_answers.specs.declared.decisions.Decision.{Decision}
use Rattle.race_answers.specs.declared.decisions.Tally.{Tally}
use Rattle.race_answers.specs.declared.sites.Pair.{Pair}

-- ---- one edge more

at_end : (xs : List Ends) (x : Ends) → slice_get (xs ++ x ∷ []) (length xs) ≡ Some x
at_end [] x = refl
at_end (y ∷ ys) x = at_end ys x

tally_more : (list : List Ends) (x : Ends) (n : ℕ) → n ≡ length list →
    IsTallyOf (list ++ x ∷ []) (record { times = n + 1; last = x })
tally_more list x n is = record {
  some = omega arith;
  times = let long = length_push list x in omega arith;
  last = ap (slice_get (list ++ x ∷ [])) (let e : n + 1 - 1 ≡ length list = omega arith in e) ∙ at_end list x;
}

-- how many edges a tally says
pub counted : (list : List Ends) (tally : Option Tally) → MatchOption tally (list ≡ []) (IsTallyOf list) →
    unwrap_or (option_map (λ t. t.times) tally) 0 ≡ length list
counted list None none = sym (ap (λ (l : List Ends). length l) none)
counted list (Some tally) is = is.times

-- the edges between two sites behind one more edge, by whether it is between them
tally_step : (same : Bool) (list longer : List Ends) (old new : Option Tally) (x : Ends) (n : ℕ) →
    longer ≡ list ++ cond same (x ∷ []) [] → new ≡ cond same (Some (record { times = n + 1; last = x })) old →
    MatchOption old (list ≡ []) (IsTallyOf list) → (same ≡ true → n ≡ length list) →
    MatchOption new (longer ≡ []) (IsTallyOf longer)
tally_step true list longer old new x n long is so_far number =
    subst (λ (o : Option Tally). MatchOption o (longer ≡ []) (IsTallyOf longer)) (sym is)
    (subst (λ (l : List Ends). IsTallyOf l (record { times = n + 1; last = x })) (sym long)
    (tally_more list x n (number refl)))
tally_step false list longer old new x n long is so_far number =
    let whole : longer ≡ list = long ∙ append_nil list in
    subst (λ (o : Option Tally). MatchOption o (longer ≡ []) (IsTallyOf longer)) (sym is)
    (subst (λ (l : List Ends). MatchOption old (l ≡ []) (IsTallyOf l)) (sym whole) so_far)
  where
    append_nil : (xs : List Ends) → xs ++ [] ≡ xs
    append_nil [] = refl
    append_nil (y ∷ ys) = ap (λ (l : List Ends). y ∷ l) (append_nil ys)

module _ (pcs : List (List ℕ)) where
  between_more : (all : List Ends) (k : ℕ) (d : Ends) (pair : Pair) → k < length all →
      between pcs pair (take (k + 1) all)
      ≡ between pcs pair (take k all)
      ++ cond (is_same_pair (pair_of pcs (get_or all k d)) pair) (get_or all k d ∷ []) []
  between_more all k d pair inside =
      ap (between pcs pair) (take_more all k d inside)
      ∙ filter-append (λ (e : Ends). is_same_pair (pair_of pcs e) pair) (take k all) (get_or all k d ∷ [])

  -- the table says how many there are
  times_are : {S : Type 0} (table : IndexMap Pair Tally S) (all : List Ends) → CountsEdges pcs all table →
      (pair : Pair) → times_in table pair ≡ length (between pcs pair all)
  times_are table all counts pair = counted (between pcs pair all) (tally_in table pair) (counts.each pair)

  module _ {S : Type 0} (old new : IndexMap Pair Tally S) (all : List Ends) (k : ℕ) (d : Ends)
      (inside : k < length all) (so_far : CountsEdges pcs (take k all) old) (its : Pair)
      (pair_is : its ≡ pair_of pcs (get_or all k d)) where
    -- no more were counted than there are
    pub few_so_far : times_in old its ≤ k
    few_so_far =
        let times = times_are old (take k all) so_far its in
        let same = length-filter (λ (e : Ends). is_same_pair (pair_of pcs e) its) (take k all) in
        let few = count_by-le-length (λ (e : Ends). is_same_pair (pair_of pcs e) its) (take k all) in
        let long = length-take-le k all (let le : k ≤ length all = omega arith in le) in
        omega arith

    pub counts_more : Updates is_same_pair old new its
        (Some (record { times = times_in old its + 1; last = get_or all k d })) → CountsEdges pcs (take (k + 1) all) new
    counts_more updated = record {
      each = λ pair.
          tally_step (is_same_pair its pair) (between pcs pair (take k all)) (between pcs pair (take (k + 1) all))
          (tally_in old pair) (tally_in new pair) (get_or all k d) (times_in old its)
          (between_more all k d pair inside
          ∙ ap (λ (p : Pair). between pcs pair (take k all) ++ cond (is_same_pair p pair) (get_or all k d ∷ []) [])
          (sym pair_is))
          (updated.0 pair) (so_far.each pair)
          (λ same. ap (λ (p : Pair). times_in old p) (same_pair its pair same)
          ∙ times_are old (take k all) so_far pair);
    }

  pub none_counted : {S : Type 0} (table : IndexMap Pair Tally S) → table.entries ≡ [] → CountsEdges pcs [] table
  none_counted table none = record {
    each = λ pair.
        let nothing : List Ends = [] in
        subst (λ (es : List (Pair × Tally)).
        MatchOption (lookup (is_same_pair pair) es) (nothing ≡ []) (IsTallyOf nothing)) (sym none) refl;
  }

  -- ---- what the table says

  its_pair : (all : List Ends) (pair : Pair) (tally : Tally) → IsTallyOf (between pcs pair all) tally →
      pair_of pcs tally.last ≡ pair
  its_pair all pair tally is =
      same_pair (pair_of pcs tally.last) pair
      (subst (λ (e : Ends). is_same_pair (pair_of pcs e) pair ≡ true)
      (get_or_from_slice_get (between pcs pair all) (tally.times - 1) tally.last tally.last is.last)
      (filter_passes (λ (e : Ends). is_same_pair (pair_of pcs e) pair) all (tally.times - 1) tally.last
      (slice_get_within (between pcs pair all) (tally.times - 1) tally.last is.last)))

  module _ {S : Type 0} (all : List Ends) (table : IndexMap Pair Tally S) (counts : CountsEdges pcs all table) where
    turned_times : (same : Bool) (pair : Pair) →
        (if same then 0 else times_in table pair) ≡ (if same then 0 else length (between pcs pair all))
    turned_times true pair = refl
    turned_times false pair = counted (between pcs pair all) (tally_in table pair) (counts.each pair)

    module _ (unique : IsUnique is_same_pair table) where
      entry_counts : (k : ℕ) (d : Pair × Tally) → k < length table.entries →
          IsTallyOf (between pcs (get_or table.entries k d).0 all) (get_or table.entries k d).1
      entry_counts k d inside =
          let e = get_or table.entries k d in
          MatchOption-at_some (between pcs e.0 all ≡ []) (IsTallyOf (between pcs e.0 all)) e.1
          (hash_map_get_place pair_equivalence table k e.0 e.1 unique (slice_get-get_or table.entries k d inside))
          (counts.each e.0)

      pub row_decides : (k : ℕ) (d : Pair × Tally) → k < length table.entries →
          IsDecisionAmong pcs all (decision_by table (get_or table.entries k d))
      row_decides k d inside =
          let e = get_or table.entries k d in
          let is : IsTallyOf (between pcs e.0 all) e.1 = entry_counts k d inside in
          let its : e.0 ≡ pair_of pcs e.1.last = sym (its_pair all e.0 e.1 is) in
          record {
            times = is.times ∙ ap (λ (p : Pair). length (between pcs p all)) its;
            last = ap (λ (p : Pair). slice_get (between pcs p all) (e.1.times - 1)) (sym its) ∙ is.last;
            turned = turned_times (is_same_pair e.0 (turned e.0)) (turned e.0)
                ∙ ap (λ (p : Pair). times_turned pcs p all) its;
          }

      pub row_key : (k : ℕ) (d : Pair × Tally) → k < length table.entries →
          pair_of pcs (decision_by table (get_or table.entries k d)).last ≡ (get_or table.entries k d).0
      row_key k d inside = its_pair all _ _ (entry_counts k d inside)

-- ---- one row more

pub rows_more : {S : Type 0} (table : IndexMap Pair Tally S) (k : ℕ) (list new : List Decision) (entry : Pair × Tally)
    (d : Decision) → list ≡ map (decision_by table) (take k table.entries) → slice_get table.entries k ≡ Some entry →
    d ≡ decision_by table entry → new ≡ list ++ d ∷ [] → new ≡ map (decision_by table) (take (k + 1) table.entries)
rows_more table k list new entry d so_far at is added =
    added ∙ ap (λ (l : List Decision). l ++ d ∷ []) so_far
    ∙ ap (λ (x : Decision). map (decision_by table) (take k table.entries) ++ x ∷ []) is
    ∙ sym (map_push (decision_by table) (take k table.entries) entry)
    ∙ ap (map (decision_by table))
    (ap (λ (e : Pair × Tally). take k table.entries ++ e ∷ [])
    (sym (get_or_from_slice_get table.entries k entry entry at))
    ∙ sym (take_more table.entries k entry (slice_get_within table.entries k entry at)))
