-- What a table says, in the order of a sort, are the decisions of the edges that it counts.
use Rattle.std.proofs.Common.{◌≡◌, ℕ, zero, suc, ◌+◌, ◌<◌, Bool, true, false, cond, List, [], ◌∷◌, length, map}
use Rattle.std.proofs.Common.{filter, get_or, refl, sym, ap, subst, ◌∙◌, arith, All, Contains, IsPermutation, is_some}
use Rattle.std.proofs.lemmas.List.Elements.{All-head, All-map, All-tail}
use Rattle.std.proofs.lemmas.List.Sorted.{All-permutation, IsPermutation-map, list_any-IsPermutation}
use Rattle.std.proofs.lemmas.Map.Keys.{IsDistinct-IsPermutation}
use Rattle.std.proofs.lemmas.Map.Made.{is_some-lookup}
use Rattle.std.specs.List.{IsDistinct, list_any}
use Rattle.std.specs.List.Sorted.{IsSortedBy, IsSortedByKey}
use Rattle.std.specs.Map.{keys_of}
use Rattle.std.specs.Ordering.{bool_cmp, is_lt, nat_cmp, ordering_then}
use Rattle.std.specs.Prelude.{MatchOption, Option, Some, None, nat_eq, nat_lt, not, ◌&&◌, ◌||◌, ◌==◌}
use Rattle.std.specs.Prelude.{if◌then◌else◌}
use Rattle.indexmap.specs.IndexMap.{IndexMap}
use Rattle.race_queries.specs.declared.ends.Ends.{Ends}
use Rattle.race_answers.proofs.SameSites.{one_pair, pair_equivalence}
use Rattle.race_answers.proofs.TableCounts.{row_decides, row_key}
use Rattle.race_answers.specs.Decisions.{AreDecisions, AreListed, CountsEdges, IsDecisionAmong, IsTallyOf, between}
use Rattle.race_answers.specs.Decisions.{comes_first, decision_by, tally_in}
use Rattle.race_answers.specs.Sites.{is_same_pair, pair_of}
use Rattle.race_answers.specs.declared.decisions.Decision.{Decision}
use Rattle.race_answers.specs.declared.decisions.Tally.{Tally}
use Rattle.race_answers.specs.declared.sites.Pair.{Pair}

-- ---- the order

lower : (m n : ℕ) (less same : Bool) → nat_lt m n ≡ less → (m == n) ≡ same → nat_lt m n ≡ is_lt (nat_cmp m n)
lower m n true same is other = grind (arith, is, other)
lower m n false true is other = grind (arith, is, other)
lower m n false false is other = grind (arith, is, other)

lower_is : (m n : ℕ) → nat_lt m n ≡ is_lt (nat_cmp m n)
lower_is m n = lower m n (nat_lt m n) (m == n) refl refl

order_is : (a b : Bool) (m n : ℕ) →
    (if not a && not b then nat_lt m n else if not a then true else if not b then false else nat_lt m n)
    ≡ is_lt (ordering_then (bool_cmp a b) (nat_cmp m n))
order_is false false m n = lower_is m n
order_is false true m n = refl
order_is true false m n = refl
order_is true true m n = lower_is m n

abbrev pub rank_of : Decision → Bool × ℕ
rank_of d = (nat_eq d.turned 0, d.times)

in_order : (list : List Decision) →
    IsSortedByKey rank_of (λ x y. ordering_then (bool_cmp x.0 y.0) (nat_cmp x.1 y.1)) list →
    IsSortedBy comes_first list
in_order list sorted k d low high =
    order_is (nat_eq (get_or list (k + 1) d).turned 0) (nat_eq (get_or list k d).turned 0) (get_or list (k + 1) d).times
    (get_or list k d).times
    ∙ sorted k d low high

-- ---- what is there isn't left out

kept_or : {X : Type 0} (b : Bool) (x : X) (rest : List X) → cond b (x ∷ rest) rest ≡ [] → b ≡ false
kept_or true x rest none = absurd cc
kept_or false x rest none = refl

module _ {X : Type 0} (test : X → Bool) where
  no_pass : (xs : List X) (k : ℕ) (d : X) → k < length xs → filter test xs ≡ [] → test (get_or xs k d) ≡ false
  no_pass [] k d inside none = absurd (omega arith)
  no_pass (x ∷ xs) zero d inside none = kept_or (test x) x (filter test xs) none
  no_pass (x ∷ xs) (suc k) d inside none =
      no_pass xs k d (omega arith)
      (sym (ap (λ (b : Bool). cond b (x ∷ filter test xs) (filter test xs))
      (kept_or (test x) x (filter test xs) none))
      ∙ none)

any_mapped : {X Y : Type 0} (test : Y → Bool) (f : X → Y) (xs : List X) →
    list_any (λ x. test (f x)) xs ≡ list_any test (map f xs)
any_mapped test f [] = refl
any_mapped test f (x ∷ xs) = ap (λ (b : Bool). test (f x) || b) (any_mapped test f xs)

-- ---- a table's decisions

module _ (pcs : List (List ℕ)) {S : Type 0} (all : List Ends) (table : IndexMap Pair Tally S)
    (counts : CountsEdges pcs all table) (list : List Decision) (listed : AreListed table list) where
  each_decides : All (IsDecisionAmong pcs all) list
  each_decides =
      subst (λ (l : List Decision). All (IsDecisionAmong pcs all) l) (sym listed.rows)
      (All-map (IsDecisionAmong pcs all) (decision_by table) table.entries
      (λ k d inside. row_decides pcs all table counts listed.unique k d inside))

  keys_by : (es : List (Pair × Tally)) → All (λ (e : Pair × Tally). pair_of pcs (decision_by table e).last ≡ e.0) es →
      map (λ (d : Decision). pair_of pcs d.last) (map (decision_by table) es) ≡ keys_of es
  keys_by [] each = refl
  keys_by (e ∷ es) each =
      let here = All-head (λ (x : Pair × Tally). pair_of pcs (decision_by table x).last ≡ x.0) e es each in
      let later = keys_by es (All-tail (λ (x : Pair × Tally). pair_of pcs (decision_by table x).last ≡ x.0) e es each)
      in
      λ i. here i ∷ later i

  keys_are : map (λ (d : Decision). pair_of pcs d.last) list ≡ keys_of table.entries
  keys_are =
      ap (λ (l : List Decision). map (λ (d : Decision). pair_of pcs d.last) l) listed.rows
      ∙ keys_by table.entries (λ k d inside. row_key pcs all table counts listed.unique k d inside)

  some_between : (e : Ends) → Contains all e → between pcs (pair_of pcs e) all ≡ [] → ⊥
  some_between e has none =
      let passes : is_same_pair (pair_of pcs (get_or all has.0 e)) (pair_of pcs e) ≡ false =
      no_pass (λ (x : Ends). is_same_pair (pair_of pcs x) (pair_of pcs e)) all has.0 e has.1 none in
      let is : is_same_pair (pair_of pcs (get_or all has.0 e)) (pair_of pcs e) ≡ true =
      ap (λ (x : Ends). is_same_pair (pair_of pcs x) (pair_of pcs e)) has.2 ∙ one_pair (pair_of pcs e) in
      let no : true ≡ false = sym is ∙ passes in
      absurd cc

  is_tallied : (e : Ends) → Contains all e → (tally : Option Tally) → tally_in table (pair_of pcs e) ≡ tally →
      is_some (tally_in table (pair_of pcs e)) ≡ true
  is_tallied e has None is =
      absurd (some_between e has
      (subst (λ (o : Option Tally). MatchOption o (between pcs (pair_of pcs e) all ≡ [])
      (IsTallyOf (between pcs (pair_of pcs e) all))) is (counts.each (pair_of pcs e))))
  is_tallied e has (Some tally) is = ap is_some is

  every_edge : (e : Ends) → Contains all e →
      list_any (λ (d : Decision). is_same_pair (pair_of pcs e) (pair_of pcs d.last)) list ≡ true
  every_edge e has =
      any_mapped (is_same_pair (pair_of pcs e)) (λ (d : Decision). pair_of pcs d.last) list
      ∙ ap (λ (l : List Pair). list_any (is_same_pair (pair_of pcs e)) l) keys_are
      ∙ sym (is_some-lookup (is_same_pair (pair_of pcs e)) table.entries)
      ∙ is_tallied e has (tally_in table (pair_of pcs e)) refl

  pub all_decisions : (sorted : List Decision) → IsPermutation list sorted →
      IsSortedByKey rank_of (λ x y. ordering_then (bool_cmp x.0 y.0) (nat_cmp x.1 y.1)) sorted →
      AreDecisions pcs all sorted
  all_decisions sorted moved by_rank = record {
    each = All-permutation (IsDecisionAmong pcs all) list sorted moved each_decides;
    every = λ e has.
        sym (list_any-IsPermutation (λ (d : Decision). is_same_pair (pair_of pcs e) (pair_of pcs d.last)) list sorted
        moved)
        ∙ every_edge e has;
    once = IsDistinct-IsPermutation is_same_pair pair_equivalence.symm (map (λ (d : Decision). pair_of pcs d.last) list)
        (map (λ (d : Decision). pair_of pcs d.last) sorted)
        (IsPermutation-map (λ (d : Decision). pair_of pcs d.last) list sorted moved)
        (subst (λ (l : List Pair). IsDistinct is_same_pair l) (sym keys_are) listed.unique);
    order = in_order sorted by_rank;
  }
