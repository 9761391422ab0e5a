-- What a history's lists say of its notes, before and after a retirement is noted.
use Rattle.std.proofs.Common.{◌≡◌, ◌≢◌, ◌∙◌, ap, refl, sym, subst, ℕ, zero, suc, ◌+◌, ◌-◌, ◌*◌, ◌<◌, ◌≤◌, ◌⊎◌, inl, inr}
use Rattle.std.proofs.Common.{true, false, List, [], ◌∷◌}
use Rattle.std.proofs.Common.{length, get_or, max, arith}
use Rattle.std.specs.Prelude.{map, replicate, slice_index, slice_index_or, slice_set}
use Rattle.std.specs.List.{range_with_len}
use Rattle.std.proofs.lemmas.Bool.{cases_Bool, cases_eq, cond-true, cond-false, cases_lt}
use Rattle.std.proofs.lemmas.Bool.Decides.{nat_tests}
use Rattle.std.proofs.lemmas.List.{get_or_default, get_or_past, get_or-replicate, get_or-set_other, get_or-set_same}
use Rattle.std.proofs.lemmas.List.{length-replicate, length-set}
use Rattle.std.proofs.lemmas.List.FromFn.{fill_by_all, get_or-map-range_with_len, length-map-range_with_len}
use Rattle.rtr_types.specs.declared.TheConstants.{CORES_MAX}
use Rattle.rtr_types.specs.declared.instr.Instr.{Instr}
use Rattle.rtr_types.proofs.Ranges.{replicate_at}
use Rattle.clock_core.specs.Counts.{no_counts}
use Rattle.clock_core.specs.declared.clock.Clock.{Clock}
use Rattle.know_history.specs.declared.changes.Change.{Change}
use Rattle.know_history.specs.declared.history.Newest.{Newest}
use Rattle.know_history.specs.declared.known.Known.{Known}
use Rattle.know_history.specs.Knowledge.{count_in}
use Rattle.know_history.specs.Changes.{AreChanged, AreChanges, HoldNotes, changed_count, changed_list, changes_at}
use Rattle.know_history.specs.Changes.{is_news, known_by, list_place, newest_at}
use Rattle.know_history.specs.Changes.{no_newest, notes_of, row_at, rows_at}
use Rattle.know_history.specs.Notes.{IsNoted, Notes, change_count, core_count, known_at, no_notes, noted_count, rises}
use Rattle.roomy_lists.specs.Lists.{Listed, items_in}
use Rattle.know_history.proofs.Places.{length-items, place_within}
use Rattle.know_history.proofs.OneList.{Noted, known_none, noted_more, noted_same, rises_few, rises_same, with_change}

-- ---- what the lists say

pub cores_are : (newest : List Newest) (lists : List (List Change)) → core_count (notes_of newest lists) ≡ length newest
cores_are newest lists = length-map-range_with_len (rows_at newest lists) 0 (length newest)

rows_are : (newest : List Newest) (lists : List (List Change)) (core : ℕ) → core < length newest →
    slice_index_or (notes_of newest lists) core []
    ≡ rows_at newest lists core
rows_are newest lists core within = get_or-map-range_with_len (rows_at newest lists) 0 (length newest) core core []
    within (omega arith)

no_rows : (newest : List Newest) (lists : List (List Change)) (core : ℕ) → length newest ≤ core →
    slice_index_or (notes_of newest lists) core [] ≡ []
no_rows newest lists core past = get_or_past (notes_of newest lists) core [] (let e = cores_are newest lists in
    omega arith)

pub count_is : (newest : List Newest) (lists : List (List Change)) (core : ℕ) → core < length newest →
    noted_count (notes_of newest lists) core
    ≡ (newest_at newest core).count
count_is newest lists core within =
    ap length (rows_are newest lists core within) ∙ length-map-range_with_len (row_at lists core) 1
    (newest_at newest core).count

-- the row at a count: none before the first, and then what was known
row_is : (newest : List Newest) (lists : List (List Change)) (core b : ℕ) → core < length newest →
    b < (newest_at newest core).count →
    slice_index_or (no_counts ∷ slice_index_or (notes_of newest lists) core []) (suc b) no_counts ≡ row_at lists core
    (suc b)
row_is newest lists core b within le =
    ap (λ (rows : List Clock). slice_index_or (no_counts ∷ rows) (suc b) no_counts) (rows_are newest lists core within)
    ∙ get_or-map-range_with_len (row_at lists core) 1 (newest_at newest core).count b (suc b) no_counts le (omega arith)

pub known_is : (newest : List Newest) (lists : List (List Change)) (core b of : ℕ) → HoldNotes newest lists →
    core < length newest →
    b ≤ (newest_at newest core).count → «of» < CORES_MAX → known_at (notes_of newest lists) core b «of» ≡ known_by 0
    (changes_at lists core «of») b
known_is newest lists core zero «of» holds within le place =
    get_or-replicate CORES_MAX «of» 0 0 place
    ∙ sym (known_none 0 (newest_at newest core).count (changes_at lists core «of») 0
    (holds.changes core «of» within place).rising (omega arith))
known_is newest lists core (suc b) «of» holds within le place =
    ap (λ (row : Clock). slice_index row «of») (row_is newest lists core b within (omega arith))
    ∙ get_or-map-range_with_len (λ (of : ℕ). known_by 0 (changes_at lists core «of») (suc b)) 0 CORES_MAX «of» «of» 0
    place (omega arith)

known_past : (newest : List Newest) (lists : List (List Change)) (core b of : ℕ) → core < length newest →
    b ≤ (newest_at newest core).count →
    CORES_MAX ≤ «of» → known_at (notes_of newest lists) core b «of» ≡ 0
known_past newest lists core zero «of» within le place = get_or_past no_counts «of» 0 place
known_past newest lists core (suc b) «of» within le place =
    ap (λ (row : Clock). slice_index row «of») (row_is newest lists core b within (omega arith))
    ∙ get_or_past (row_at lists core (suc b)) «of» 0 (let e =
    length-map-range_with_len (λ (of : ℕ). known_by 0 (changes_at lists core «of») (suc b)) 0 CORES_MAX in omega arith)

pub changes_are : (newest : List Newest) (lists : List (List Change)) (core of : ℕ) → HoldNotes newest lists →
    core < length newest → «of» < CORES_MAX →
    length (changes_at lists core «of») ≡ change_count (notes_of newest lists) core «of»
changes_are newest lists core «of» holds within place =
    sym (holds.changes core «of» within place).each
    ∙ rises_same (known_by 0 (changes_at lists core «of»)) (λ (count : ℕ). known_at (notes_of newest lists) core count
    «of») (newest_at newest core).count
    (λ b le. sym (known_is newest lists core b «of» holds within le place))
    ∙ ap (rises (λ (count : ℕ). known_at (notes_of newest lists) core count «of»))
    (sym (count_is newest lists core within))

pub changes_few : (newest : List Newest) (lists : List (List Change)) (core of : ℕ) → HoldNotes newest lists →
    core < length newest → «of» < CORES_MAX →
    length (changes_at lists core «of») ≤ (newest_at newest core).count
changes_few newest lists core «of» holds within place =
    let few = rises_few (known_by 0 (changes_at lists core «of»)) (newest_at newest core).count in
    let each = (holds.changes core «of» within place).each in
    omega arith

-- a core of the notes has its lists
pub core_within : (newest : List Newest) (lists : List (List Change)) (notes : Notes) (core : ℕ) →
    notes_of newest lists ≡ notes → core < core_count notes →
    core < length newest
core_within newest lists notes core is within = let e = cores_are newest lists in let f = ap core_count is in
    omega arith

pub list_within : (newest : List Newest) (all : List (Listed Change)) (core of : ℕ) → HoldNotes newest (items_in all) →
    core < length newest →
    «of» < CORES_MAX → list_place core «of» < length all
list_within newest all core «of» holds within place = let a = holds.places in let b = length-items all in
    let d = place_within (length newest) core «of» within place in omega arith

-- so each of them is there, by its place
pub list_there : (newest : List Newest) (all : List (Listed Change)) (notes : Notes) (core of place : ℕ) →
    HoldNotes newest (items_in all) → notes_of newest (items_in all) ≡ notes → core < core_count notes →
    «of» < CORES_MAX → place ≡ list_place core «of» → place < length all
list_there newest all notes core «of» place holds is within lt at =
    rw at (list_within newest all core «of» holds (core_within newest (items_in all) notes core is within) lt)

-- ---- none is noted

none_at : (newest : List Newest) (cores core : ℕ) → newest ≡ replicate cores no_newest →
    newest_at newest core ≡ no_newest
none_at newest cores core is = ap (λ (all : List Newest). newest_at all core) is ∙ replicate_at cores core no_newest

no_changes : (lists : List (List Change)) (places core of : ℕ) → lists ≡ replicate places [] →
    changes_at lists core «of» ≡ []
no_changes lists places core «of» is = ap (λ (all : List (List Change)). changes_at all core «of») is
    ∙ replicate_at places (list_place core «of») []

pub holds_none : (newest : List Newest) (lists : List (List Change)) (cores : ℕ) → newest ≡ replicate cores no_newest →
    lists ≡ replicate (cores * CORES_MAX) [] → HoldNotes newest lists
holds_none newest lists cores newest_is lists_are =
    record {
      places = ap length lists_are ∙ length-replicate (cores * CORES_MAX) []
          ∙ ap (λ (n : ℕ). n * CORES_MAX) (sym (ap length newest_is ∙ length-replicate cores no_newest));
      changes = λ core «of» lt place. changes core «of» place;
    }
  where
    changes : (core of : ℕ) → «of» < CORES_MAX →
        AreChanges (newest_at newest core).count (slice_index (newest_at newest core).known «of»)
        (changes_at lists core «of»)
    changes core «of» place =
        subst (λ (n : Newest). AreChanges n.count (slice_index n.known «of») (changes_at lists core «of»))
        (sym (none_at newest cores core newest_is))
        (subst (λ (cs : List Change). AreChanges 0 (slice_index no_counts «of») cs)
        (sym (no_changes lists (cores * CORES_MAX) core «of» lists_are))
        (record { rising = refl; last = sym (get_or-replicate CORES_MAX «of» 0 0 place); each = refl }))

pub notes_none : (newest : List Newest) (lists : List (List Change)) (cores : ℕ) → newest ≡ replicate cores no_newest →
    notes_of newest lists ≡ no_notes cores
notes_none newest lists cores is =
    ap (λ (n : ℕ). map (rows_at newest lists) (range_with_len 0 n)) (ap length is ∙ length-replicate cores no_newest)
    ∙ sym (fill_by_all (rows_at newest lists) (no_notes cores) cores [] (length-replicate cores [])
    (λ core lt. get_or-replicate cores core [] [] lt
    ∙ none core))
  where
    none : (core : ℕ) → [] ≡ rows_at newest lists core
    none core = sym (ap (λ (n : Newest). map (row_at lists core) (range_with_len 1 n.count))
        (none_at newest cores core is))

-- ---- one more is noted

news_parts : (at : Instr) (of known newest : ℕ) → is_news at «of» known newest ≡ true → newest < known
news_parts at «of» known newest t = grind (arith, nat_tests)

-- the greater of the two counts is noted of another core
greater_is : (at : Instr) (of known newest : ℕ) → «of» ≢ at.core → changed_count at «of» known newest ≡ max newest known
greater_is at «of» known newest other = by (cases_Bool (is_news at «of» known newest))
  where
    by : (is_news at «of» known newest ≡ true) ⊎ (is_news at «of» known newest ≡ false) →
        changed_count at «of» known newest ≡ max newest known
    by (inl t) = cond-true (is_news at «of» known newest) known newest t
        ∙ (let lt = news_parts at «of» known newest t in grind arith)
    by (inr f) = cond-false (is_news at «of» known newest) known newest f ∙ grind (arith, nat_tests)

-- one core's list before and after
one_noted : (at : Instr) (of known noted newest : ℕ) (old new : List Change) → at.count ≡ noted + 1 →
    new ≡ changed_list at «of» known newest old →
    AreChanges noted newest old → Noted noted (changed_count at «of» known newest) at.count old new
one_noted at «of» known noted newest old new next is before = by (cases_Bool (is_news at «of» known newest))
  where
    by : (is_news at «of» known newest ≡ true) ⊎ (is_news at «of» known newest ≡ false) →
        Noted noted (changed_count at «of» known newest) at.count old new
    by (inl t) =
        subst (λ (n : ℕ). Noted noted n at.count old new) (sym (cond-true (is_news at «of» known newest) known newest
        t))
        (subst (λ (cs : List Change). Noted noted known at.count old cs)
        (sym (is ∙ cond-true (is_news at «of» known newest) (with_change old at.count known) old t))
        (noted_more noted newest at.count known old next (news_parts at «of» known newest t) before))
    by (inr f) =
        subst (λ (n : ℕ). Noted noted n at.count old new) (sym (cond-false (is_news at «of» known newest) known newest
        f))
        (subst (λ (cs : List Change). Noted noted newest at.count old cs)
        (sym (is ∙ cond-false (is_news at «of» known newest) (with_change old at.count known) old f))
        (noted_same noted newest at.count old next before))

-- the lists before and after
pub record OneMore (at : Instr) (known : Known) (newest : List Newest) (lists : List (List Change)) (more : List Newest)
    (new : List (List Change)) : Type 0 where
  pub newer : Clock
  pub holds : HoldNotes newest lists
  pub core : at.core < length newest
  pub next : at.count ≡ (newest_at newest at.core).count + 1
  pub places : length known.counts ≡ CORES_MAX
  pub newest_is : more ≡ slice_set newest at.core (record { count = at.count; known = newer })
  pub changed : AreChanged at known.counts lists (newest_at newest at.core).known new newer

-- what a note leaves, in the words of the code
pub one_more : (at : Instr) (known : Known) (newest : List Newest) (lists new : List (List Change)) (notes : Notes)
    (found : Newest) (counts newer : Clock) →
    notes_of newest lists ≡ notes → HoldNotes newest lists → at.core < core_count notes →
    at.count ≡ noted_count notes at.core + 1 → length known.counts ≡ CORES_MAX → counts ≡ known.counts →
    found ≡ get_or newest at.core found →
    AreChanged at counts lists found.known new newer →
    OneMore at known newest lists (slice_set newest at.core (record { count = at.count; known = newer })) new
one_more at known newest lists new notes found counts newer is holds core next places counts_are found_is changed =
    record {
      newer = newer;
      holds = holds;
      core = within;
      next = next ∙ ap (λ (h : Notes). noted_count h at.core + 1) (sym is)
          ∙ ap (λ (n : ℕ). n + 1) (count_is newest lists at.core within);
      places = places;
      newest_is = refl;
      changed = subst (λ (n : Newest). AreChanged at known.counts lists n.known new newer) there
          (subst (λ (cs : Clock). AreChanged at cs lists found.known new newer) counts_are changed);
    }
  where
    within : at.core < length newest
    within = core_within newest lists notes at.core is core

    there : found ≡ newest_at newest at.core
    there = found_is ∙ get_or_default newest at.core found no_newest within

module _ (at : Instr) (known : Known) (newest : List Newest) (lists : List (List Change)) (more : List Newest)
    (new : List (List Change))
    (o : OneMore at known newest lists more new) where
  abbrev last : Newest
  last = newest_at newest at.core

  here : newest_at more at.core ≡ record { count = at.count; known = o.newer }
  here = ap (λ (all : List Newest). newest_at all at.core) o.newest_is
      ∙ get_or-set_same newest at.core (record { count = at.count; known = o.newer }) no_newest o.core

  there : (core : ℕ) → core ≢ at.core → newest_at more core ≡ newest_at newest core
  there core apart = ap (λ (all : List Newest). newest_at all core) o.newest_is
      ∙ get_or-set_other newest at.core core (record { count = at.count; known = o.newer }) no_newest apart

  as_many : length more ≡ length newest
  as_many = ap length o.newest_is ∙ length-set newest at.core (record { count = at.count; known = o.newer })

  noted : (of : ℕ) → «of» < CORES_MAX →
      Noted last.count (changed_count at «of» (slice_index known.counts «of») (slice_index last.known «of»)) at.count
      (changes_at lists at.core «of»)
      (changes_at new at.core «of»)
  noted «of» place = one_noted at «of» (slice_index known.counts «of») last.count (slice_index last.known «of»)
      (changes_at lists at.core «of»)
      (changes_at new at.core «of») o.next (o.changed.lists «of» place) (o.holds.changes at.core «of» o.core place)

  pub holds_more : HoldNotes more new
  holds_more = record {
    places = places;
    changes = λ core «of» within place. changes core «of» within place
        (cases_eq core at.core);
  }
    where
      places : length new ≡ length more * CORES_MAX
      places = let a = o.changed.long in let b = o.holds.places in let c = as_many in omega arith

      changes : (core of : ℕ) → core < length more → «of» < CORES_MAX → (core ≡ at.core) ⊎ (core ≢ at.core) →
          AreChanges (newest_at more core).count (slice_index (newest_at more core).known «of»)
          (changes_at new core «of»)
      changes core «of» within place (inl e) =
          subst (λ (c : ℕ). AreChanges (newest_at more c).count (slice_index (newest_at more c).known «of»)
          (changes_at new c «of»)) (sym e)
          (subst (λ (n : Newest). AreChanges n.count (slice_index n.known «of») (changes_at new at.core «of»))
          (sym here)
          (subst (λ (n : ℕ). AreChanges at.count n (changes_at new at.core «of»)) (sym (o.changed.known «of» place))
          (noted «of» place).changes))
      changes core «of» within place (inr apart) =
          subst (λ (n : Newest). AreChanges n.count (slice_index n.known «of») (changes_at new core «of»))
          (sym (there core apart))
          (subst (λ (cs : List Change). AreChanges (newest_at newest core).count
          (slice_index (newest_at newest core).known «of») cs)
          (sym (o.changed.others core «of» apart place)) (o.holds.changes core «of» (let e = as_many in
          omega arith) place))

  pub is_noted : IsNoted (notes_of newest lists) at known (notes_of more new)
  is_noted =
      record {
        cores = cores_are more new ∙ as_many ∙ sym (cores_are newest lists);
        count = count_is more new at.core within_more ∙ ap (λ (n : Newest). n.count) here;
        others = λ core apart. others core apart (cases_lt core (length newest));
        greater = λ «of» other. greater «of» other (cases_lt «of» CORES_MAX);
        kept = λ core count «of» other le. kept core count «of» le (cases_lt core (length newest))
            (cases_lt «of» CORES_MAX);
      }
    where
      within_more : at.core < length more
      within_more = let a = o.core in let e = as_many in omega arith

      here_count : (newest_at more at.core).count ≡ at.count
      here_count = ap (λ (n : Newest). n.count) here

      others : (core : ℕ) → core ≢ at.core → (core < length newest) ⊎ (length newest ≤ core) →
          noted_count (notes_of more new) core
          ≡ noted_count (notes_of newest lists) core
      others core apart (inl lt) = count_is more new core (let e = as_many in omega arith)
          ∙ ap (λ (n : Newest). n.count) (there core apart)
          ∙ sym (count_is newest lists core lt)
      others core apart (inr past) = ap length (no_rows more new core (let e = as_many in omega arith)
          ∙ sym (no_rows newest lists core past))

      before_is : (of : ℕ) → «of» < CORES_MAX → known_at (notes_of newest lists) at.core (at.count - 1)
          «of» ≡ slice_index last.known «of»
      before_is «of» place =
          known_is newest lists at.core (at.count - 1) «of» o.holds o.core (let e = o.next in omega arith) place
          ∙ ap (known_by 0 (changes_at lists at.core «of»)) (let e = o.next in omega arith)
          ∙ (o.holds.changes at.core «of» o.core place).last

      greater : (of : ℕ) → «of» ≢ at.core → («of» < CORES_MAX) ⊎ (CORES_MAX ≤ «of») →
          known_at (notes_of more new) at.core at.count «of»
          ≡ max (known_at (notes_of newest lists) at.core (at.count - 1) «of») (count_in known «of»)
      greater «of» other (inl place) =
          known_is more new at.core at.count «of» holds_more within_more (let e = here_count in omega arith) place
          ∙ (noted «of» place).here
          ∙ greater_is at «of» (slice_index known.counts «of») (slice_index last.known «of») other
          ∙ ap (λ (n : ℕ). max n (count_in known «of»)) (sym (before_is «of» place))
      greater «of» other (inr past) =
          let a = known_past more new at.core at.count «of» within_more (let e = here_count in omega arith) past in
          let b = known_past newest lists at.core (at.count - 1) «of» o.core (let e = o.next in omega arith) past in
          let d = get_or_past known.counts «of» 0 (let e = o.places in omega arith) in
          a ∙ (let none : 0 ≡ max 0 0 = refl in none) ∙ ap (λ (n : ℕ). max n 0) (sym b)
          ∙ ap (max (known_at (notes_of newest lists) at.core (at.count - 1) «of»)) (sym d)

      still : (core count of : ℕ) → core < length newest → count ≤ (newest_at newest core).count → «of» < CORES_MAX →
          (core ≡ at.core) ⊎ (core ≢ at.core) →
          known_by 0 (changes_at new core «of») count ≡ known_by 0 (changes_at lists core «of») count
      still core count «of» lt le place (inl e) =
          let le2 : count ≤ last.count = (let f = ap (λ (c : ℕ). (newest_at newest c).count) e in omega arith) in
          ap (λ (c : ℕ). known_by 0 (changes_at new c «of») count) e ∙ (noted «of» place).before count le2
          ∙ ap (λ (c : ℕ). known_by 0 (changes_at lists c «of») count) (sym e)
      still core count «of» lt le place (inr apart) =
          ap (λ (cs : List Change). known_by 0 cs count) (o.changed.others core «of» apart place)

      longer : (core : ℕ) → (core ≡ at.core) ⊎ (core ≢ at.core) →
          (newest_at newest core).count ≤ (newest_at more core).count
      longer core (inl e) =
          subst (λ (c : ℕ). (newest_at newest c).count ≤ (newest_at more c).count) (sym e) (let a = here_count in
          let b = o.next in omega arith)
      longer core (inr apart) = let f = ap (λ (n : Newest). n.count) (there core apart) in omega arith

      kept : (core count of : ℕ) → count ≤ noted_count (notes_of newest lists) core →
          (core < length newest) ⊎ (length newest ≤ core) → («of» < CORES_MAX)
          ⊎ (CORES_MAX ≤ «of») → known_at (notes_of more new) core count «of» ≡ known_at (notes_of newest lists) core
          count «of»
      kept core count «of» le (inr past) place =
          ap (λ (rows : List Clock). slice_index (slice_index_or (no_counts ∷ rows) count no_counts) «of»)
          (no_rows more new core (let e = as_many in omega arith) ∙ sym (no_rows newest lists core past))
      kept core count «of» le (inl lt) (inl place) =
          let c = count_is newest lists core lt in
          let more_le = longer core (cases_eq core at.core) in
          known_is more new core count «of» holds_more (let e = as_many in omega arith) (omega arith) place
          ∙ still core count «of» lt (omega arith) place (cases_eq core at.core)
          ∙ sym (known_is newest lists core count «of» o.holds lt (omega arith) place)
      kept core count «of» le (inl lt) (inr past) =
          let c = count_is newest lists core lt in
          let more_le = longer core (cases_eq core at.core) in
          known_past more new core count «of» (let e = as_many in omega arith) (omega arith) past
          ∙ sym (known_past newest lists core count «of» lt (omega arith) past)

-- the same of the notes that are seen
pub is_noted_as : (at : Instr) (known : Known) (newest : List Newest) (lists : List (List Change)) (more : List Newest)
    (new : List (List Change))
    (notes : Notes) → notes_of newest lists ≡ notes → OneMore at known newest lists more new →
    IsNoted notes at known (notes_of more new)
is_noted_as at known newest lists more new notes is o =
    subst (λ (h : Notes). IsNoted h at known (notes_of more new)) is (is_noted at known newest lists more new o)
