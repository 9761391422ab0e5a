-- The lists of all cores, while what is known at one retirement is put down.
use Rattle.std.proofs.Common.{◌≡◌, ◌≢◌, ◌∙◌, ap, refl, sym, subst, ℕ, ◌+◌, ◌*◌, ◌<◌, ◌≤◌, ◌⊎◌, inl, inr, true, false}
use Rattle.std.proofs.Common.{List, [], ◌∷◌, ◌++◌, length}
use Rattle.std.proofs.Common.{IsTrue, arith}
use Rattle.std.specs.Prelude.{slice_index}
use Rattle.std.proofs.lemmas.Bool.{cond-true, cond-false}
use Rattle.std.proofs.lemmas.List.{get_or-set_same, get_or-set_other, length-map, length-set}
use Rattle.rtr_types.specs.declared.TheConstants.{CORES_MAX}
use Rattle.rtr_types.specs.declared.instr.Instr.{Instr}
use Rattle.clock_core.specs.declared.clock.Clock.{Clock}
use Rattle.roomy_lists.specs.Lists.{Listed, are_ready, is_ready_at, items_in, with_item}
use Rattle.roomy_lists.proofs.Rooms.{ready_each}
use Rattle.know_history.specs.declared.changes.Change.{Change}
use Rattle.know_history.specs.Changes.{AreChanged, changed_count, changed_list, changes_at, is_news, list_place}
use Rattle.know_history.proofs.OneList.{with_change}

pub place_within : (n core of : ℕ) → core < n → «of» < CORES_MAX → list_place core «of» < n * CORES_MAX
place_within n core «of» lt within = omega arith

pub place_below : (core of : ℕ) → «of» < CORES_MAX → list_place core «of» < list_place core CORES_MAX
place_below core «of» lt = omega arith

-- different lists have different places
pub core_apart : (core other of and : ℕ) → core ≢ other → «of» < CORES_MAX → and < CORES_MAX →
    list_place core «of» ≢ list_place other and
core_apart core other «of» and apart one two same = omega arith

pub of_apart : (core of and : ℕ) → «of» ≢ and → list_place core «of» ≢ list_place core and
of_apart core «of» and apart same = omega arith

-- what the retirement brings for the first i cores was put down
pub record PutDown (at : Instr) (counts : Clock) (old : List (List Change)) (newest : Clock)
    (all : List (Listed Change)) (newer : Clock) (i : ℕ) : Type 0 where
  pub long : length all ≡ length old
  pub lists : (of : ℕ) → «of» < i → «of» < CORES_MAX → changes_at (items_in all) at.core «of»
      ≡ changed_list at «of» (slice_index counts «of») (slice_index newest «of») (changes_at old at.core «of»)
  pub known : (of : ℕ) → «of» < i → «of» < CORES_MAX → slice_index newer «of» ≡ changed_count at «of»
      (slice_index counts «of») (slice_index newest «of»)
  pub left_lists : (of : ℕ) → i ≤ «of» → «of» < CORES_MAX → changes_at (items_in all) at.core «of» ≡ changes_at old
      at.core «of»
  pub left_known : (of : ℕ) → i ≤ «of» → slice_index newer «of» ≡ slice_index newest «of»
  pub left_ready : (of : ℕ) → i ≤ «of» → «of» < CORES_MAX → IsTrue (is_ready_at all (list_place at.core «of»))
  pub others : (core of : ℕ) → core ≢ at.core → «of» < CORES_MAX → changes_at (items_in all) core «of» ≡ changes_at old
      core «of»

pub length-items : (all : List (Listed Change)) → length (items_in all) ≡ length all
length-items all = length-map all (λ (l : Listed Change). l.items)

pub put_start : (at : Instr) (counts newest : Clock) (all : List (Listed Change)) →
    list_place at.core CORES_MAX ≤ length all → IsTrue (are_ready all) →
    PutDown at counts (items_in all) newest all newest 0
put_start at counts newest all within ready =
    record {
      long = sym (length-items all);
      lists = λ «of» lt. absurd (omega arith);
      known = λ «of» lt. absurd (omega arith);
      left_lists = λ «of» le within. refl;
      left_known = λ «of» le. refl;
      left_ready = λ «of» le lt. ready_each all (list_place at.core «of») ready (omega arith);
      others = λ core «of» apart lt. refl;
    }

below_next : (of i : ℕ) → «of» < i + 1 → («of» < i) ⊎ («of» ≡ i)
below_next «of» i lt = grind arith

-- nothing new of core i
pub put_none : (at : Instr) (counts : Clock) (old : List (List Change)) (newest : Clock) (all : List (Listed Change))
    (newer : Clock) (i : ℕ) →
    is_news at i (slice_index counts i) (slice_index newer i) ≡ false → PutDown at counts old newest all newer i →
    PutDown at counts old newest all newer (i + 1)
put_none at counts old newest all newer i none before =
    record {
      long = before.long;
      lists = λ «of» lt within. lists «of» within (below_next «of» i lt);
      known = λ «of» lt within. known «of» within (below_next «of» i lt);
      left_lists = λ «of» le within. before.left_lists «of» (omega arith) within;
      left_known = λ «of» le. before.left_known «of» (omega arith);
      left_ready = λ «of» le within. before.left_ready «of» (omega arith) within;
      others = before.others;
    }
  where
    no_news : is_news at i (slice_index counts i) (slice_index newest i) ≡ false
    no_news = ap (λ (n : ℕ). is_news at i (slice_index counts i) n) (sym (before.left_known i (omega arith))) ∙ none

    lists : (of : ℕ) → «of» < CORES_MAX → («of» < i) ⊎ («of» ≡ i) → changes_at (items_in all) at.core «of»
        ≡ changed_list at «of» (slice_index counts «of») (slice_index newest «of») (changes_at old at.core «of»)
    lists «of» within (inl lt) = before.lists «of» lt within
    lists «of» within (inr e) =
        subst (λ (n : ℕ). changes_at (items_in all) at.core n ≡ changed_list at n (slice_index counts n)
        (slice_index newest n) (changes_at old at.core n))
        (sym e)
        (before.left_lists i (omega arith) (omega arith)
        ∙ sym (cond-false (is_news at i (slice_index counts i) (slice_index newest i))
        (with_change (changes_at old at.core i) at.count (slice_index counts i)) (changes_at old at.core i) no_news))

    known : (of : ℕ) → «of» < CORES_MAX → («of» < i) ⊎ («of» ≡ i) →
        slice_index newer «of» ≡ changed_count at «of» (slice_index counts «of») (slice_index newest «of»)
    known «of» within (inl lt) = before.known «of» lt within
    known «of» within (inr e) = subst (λ (n : ℕ). slice_index newer n ≡ changed_count at n (slice_index counts n)
        (slice_index newest n)) (sym e)
        (before.left_known i (omega arith)
        ∙ sym (cond-false (is_news at i (slice_index counts i) (slice_index newest i)) (slice_index counts i)
        (slice_index newest i) no_news))

-- what is new of core i is put down
pub put_one : (at : Instr) (counts : Clock) (old : List (List Change)) (newest : Clock)
    (all more : List (Listed Change)) (newer newest_yet : Clock) (i : ℕ) →
    i < CORES_MAX → is_news at i (slice_index counts i) (slice_index newer i) ≡ true →
    list_place at.core CORES_MAX ≤ length old →
    items_in more ≡ with_item (items_in all) (list_place at.core i) (record {
      count = at.count;
      known =
          slice_index counts i;
    }) →
    ((other : ℕ) → other ≢ list_place at.core i → is_ready_at more other ≡ is_ready_at all other) →
    slice_index newest_yet i ≡ slice_index counts i →
    ((k : ℕ) → k ≢ i → slice_index newest_yet k ≡ slice_index newer k) →
    PutDown at counts old newest all newer i → PutDown at counts old newest more newest_yet (i + 1)
put_one at counts old newest all more newer newest_yet i within_i news room is ready here elsewhere before =
    record {
      long = sym (length-items more) ∙ ap length is
          ∙ length-set (items_in all) place (changes_at (items_in all) at.core i ++ change ∷ []) ∙ length-items all
          ∙ before.long;
      lists = λ «of» lt within. lists «of» within (below_next «of» i lt);
      known = λ «of» lt within. known «of» within (below_next «of» i lt);
      left_lists = λ «of» le within. not_here at.core «of» (of_apart at.core «of» i (λ e. omega arith))
          ∙ before.left_lists «of» (omega arith) within;
      left_known = λ «of» le. elsewhere «of» (λ e. omega arith) ∙ before.left_known «of» (omega arith);
      left_ready = λ «of» le within. subst IsTrue
          (sym (ready (list_place at.core «of») (of_apart at.core «of» i (λ e. omega arith))))
          (before.left_ready «of» (omega arith) within);
      others = λ core «of» apart within. not_here core «of» (core_apart core at.core «of» i apart within within_i)
          ∙ before.others core «of» apart within;
    }
  where
    place : ℕ
    place = list_place at.core i

    change : Change
    change = record { count = at.count; known = slice_index counts i }

    is_new : is_news at i (slice_index counts i) (slice_index newest i) ≡ true
    is_new = ap (λ (n : ℕ). is_news at i (slice_index counts i) n) (sym (before.left_known i (omega arith))) ∙ news

    not_here : (core of : ℕ) → list_place core «of» ≢ place → changes_at (items_in more) core «of» ≡ changes_at
        (items_in all) core «of»
    not_here core «of» other = ap (λ (ls : List (List Change)). changes_at ls core «of») is
        ∙ get_or-set_other (items_in all) place (list_place core «of») (changes_at (items_in all) at.core i
        ++ change ∷ []) [] other

    this : changes_at (items_in more) at.core i ≡ with_change (changes_at old at.core i) at.count (slice_index counts i)
    this =
        ap (λ (ls : List (List Change)). changes_at ls at.core i) is
        ∙ get_or-set_same (items_in all) place (changes_at (items_in all) at.core i ++ change ∷ []) [] (let long =
        before.long in let l = length-items all in
        let b = place_below at.core i within_i in omega arith)
        ∙ ap (λ (cs : List Change). cs ++ change ∷ []) (before.left_lists i (omega arith) within_i)

    lists : (of : ℕ) → «of» < CORES_MAX → («of» < i) ⊎ («of» ≡ i) → changes_at (items_in more) at.core «of»
        ≡ changed_list at «of» (slice_index counts «of») (slice_index newest «of») (changes_at old at.core «of»)
    lists «of» within (inl lt) = not_here at.core «of» (of_apart at.core «of» i (λ e. omega arith))
        ∙ before.lists «of» lt within
    lists «of» within (inr e) =
        subst (λ (n : ℕ). changes_at (items_in more) at.core n ≡ changed_list at n (slice_index counts n)
        (slice_index newest n) (changes_at old at.core n))
        (sym e)
        (this ∙ sym (cond-true (is_news at i (slice_index counts i) (slice_index newest i))
        (with_change (changes_at old at.core i) at.count (slice_index counts i)) (changes_at old at.core i) is_new))

    known : (of : ℕ) → «of» < CORES_MAX → («of» < i) ⊎ («of» ≡ i) → slice_index newest_yet «of»
        ≡ changed_count at «of» (slice_index counts «of») (slice_index newest «of»)
    known «of» within (inl lt) = elsewhere «of» (λ e. omega arith) ∙ before.known «of» lt within
    known «of» within (inr e) = subst (λ (n : ℕ). slice_index newest_yet n ≡ changed_count at n (slice_index counts n)
        (slice_index newest n)) (sym e)
        (here ∙ sym (cond-true (is_news at i (slice_index counts i) (slice_index newest i)) (slice_index counts i)
        (slice_index newest i) is_new))

-- all was
pub put_all : (at : Instr) (counts : Clock) (old : List (List Change)) (newest : Clock) (all : List (Listed Change))
    (newer : Clock) (i : ℕ) → CORES_MAX ≤ i →
    PutDown at counts old newest all newer i → AreChanged at counts old newest (items_in all) newer
put_all at counts old newest all newer i whole before =
    record {
      long = length-items all ∙ before.long;
      lists = λ «of» lt. before.lists «of» (omega arith) lt;
      known = λ «of» lt. before.known «of» (omega arith) lt;
      others = before.others;
    }
