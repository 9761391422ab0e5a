-- A block gets an entry: the marks are those that they were, and its place is noted with the others.
use Rattle.std.proofs.Common.{◌≡◌, ◌≢◌, ◌∙◌, ◌⊎◌, inl, inr, refl, sym, ap, subst, ℕ, zero, suc, ◌+◌, ◌-◌, ◌*◌}
use Rattle.std.proofs.Common.{◌<◌, ◌≤◌, ◌==◌, Bool, true, false, List, [], ◌∷◌, ◌++◌, length, arith, get_or, Some}
use Rattle.std.proofs.Common.{None}
use Rattle.std.specs.Prelude.{◌&&◌, ◌||◌, nat_lt, not, slice_set}
use Rattle.std.specs.List.{list_any}
use Rattle.std.proofs.lemmas.Bool.{cases_eq, cases_lt}
use Rattle.std.proofs.lemmas.Bool.Decides.{nat_tests}
use Rattle.std.proofs.lemmas.List.{get_or-set_other, get_or-set_same, get_or_default, length-append, length-map}
use Rattle.std.proofs.lemmas.Map.Keys.{IsDistinct-from_apart}
use Rattle.std.proofs.lemmas.Map.Steps.{length-le_from_distinct_below}
use Rattle.link_order.specs.Queue.{is_nil}
use Rattle.rtr_types.proofs.Lists.{some_same}
use Rattle.rtr_types.proofs.Members.{has-no_cores}
use Rattle.rtr_types.specs.CoreSets.{has}
use Rattle.image_mem.specs.Contents.{Contents}
use Rattle.rtr_types.specs.declared.TheConstants.{BLOCK_WORDS}
use Rattle.msi_directory.specs.Blocks.{block_count}
use Rattle.move_marks.specs.declared.marks.MoveMarks.{MoveMarks}
use Rattle.move_marks.proofs.AnswerMarks.{ne_is}
use Rattle.msi_state.specs.States.{PlainState}
use Rattle.flat_state.specs.declared.block.HomeBlock.{HomeBlock}
use Rattle.flat_state.specs.declared.flat.Flat.{Flat}
use Rattle.flat_state.specs.declared.node.Node.{Node}
use Rattle.flat_state.specs.Shows.{Stands, block_at, blocks_of, home_at, node_at}
use Rattle.flat_state.proofs.HomeBlocks.{block_is, place_within}
use Rattle.flat_start.specs.Starts.{block_start}
use Rattle.flat_laws.specs.Marks.{own_mark, request_mark}
use Rattle.flat_marks.specs.Kept.{IsMarked, is_free_held}
use Rattle.flat_marks.proofs.AskMarks.{asked_place}
use Rattle.flat_marks.proofs.NodeMarks.{request_is, there_by}
use Rattle.flat_machine.specs.Machines.{PlacesKept, noted, place_in}

-- ---- no block has two entries, so there are no more entries than blocks

member_at : (xs : List ℕ) (q : ℕ) → list_any (λ x. q == x) xs ≡ true → (i : ℕ) × (i < length xs) × (get_or xs i 0 ≡ q)
member_at [] q e = absurd (cc)
member_at (x ∷ xs) q e = by (q == x) refl e (λ f. member_at xs q f)
  where
    same : (q == x) ≡ true → x ≡ q
    same is = grind (arith, nat_tests)

    by : (t : Bool) → (q == x) ≡ t → (t || list_any (λ y. q == y) xs) ≡ true →
        (list_any (λ y. q == y) xs ≡ true → (i : ℕ) × (i < length xs) × (get_or xs i 0 ≡ q)) →
        (i : ℕ) × (i < length (x ∷ xs)) × (get_or (x ∷ xs) i 0 ≡ q)
    by true is f rest = (0, omega arith, same is)
    by false is f rest =
        let found = rest f in
        let within = found.1 in
        (suc found.0, omega (arith, within), found.2)

pub few_entries : (f : Flat) (s : PlainState) (memory : ℕ → List ℕ) → Stands f s memory →
    length f.home.items ≤ block_count f.program.words
few_entries f s memory stands =
    subst (λ (n : ℕ). n ≤ block_count f.program.words) (length-map f.home.items (λ (b : HomeBlock). b.block))
    (length-le_from_distinct_below (blocks_of f.home.items) (block_count f.program.words)
    (IsDistinct-from_apart (λ (a b : ℕ). a == b) (blocks_of f.home.items) apart) below)
  where
    here : (i d : ℕ) → i < length (blocks_of f.home.items) → get_or (blocks_of f.home.items) i d
        ≡ (home_at f.home.items i).block
    here i d lies = get_or_default (blocks_of f.home.items) i d 0 lies ∙ block_is f.home.items i

    differ : (a b : ℕ) → a ≢ b → (a == b) ≡ false
    differ a b other = ne_is a b other

    apart : (i j : ℕ) (d : ℕ) → i < j → j < length (blocks_of f.home.items) →
        (get_or (blocks_of f.home.items) i d == get_or (blocks_of f.home.items) j d) ≡ false
    apart i j d before lies =
        let lies_i : i < length (blocks_of f.home.items) = omega (arith, before, lies) in
        differ _ _ (λ same. let e : i ≡ j = stands.shows.home.once i j (place_within f.home.items i lies_i)
        (place_within f.home.items j lies)
        (sym (here i d lies_i) ∙ (same ∙ here j d lies)) in absurd (omega (arith, before, e)))

    below : (q : ℕ) → list_any (λ x. q == x) (blocks_of f.home.items) ≡ true → q < block_count f.program.words
    below q e =
        let found = member_at (blocks_of f.home.items) q e in
        let lies = place_within f.home.items found.0 found.1 in
        subst (λ (n : ℕ). q < n) (stands.holds.blocks_there
        ∙ ap (λ (image : Contents). block_count image.words) (sym stands.shows.image))
        (subst (λ (b : ℕ). b < length s.memory.home) (sym (here found.0 0 found.1) ∙ found.2)
        (stands.shows.home.within found.0 lies))

-- ---- what is noted

pub noted_some : (x : ℕ) → 0 < x → noted x ≡ Some (x - 1)
noted_some zero lies = absurd (omega (arith, lies))
noted_some (suc x) lies = ap Some (omega arith)

pub noted_none : (x : ℕ) → x ≤ 0 → noted x ≡ None
noted_none zero none = refl
noted_none (suc x) none = absurd (omega (arith, none))

-- what is read of a place within
pub slot_read : (slots : List ℕ) (block x : ℕ) → block < length slots → x ≡ get_or slots block x →
    place_in slots block ≡ noted x
slot_read slots block x lies is = ap noted (sym (is ∙ get_or_default slots block x 0 lies))

pub block_lies : (block words n : ℕ) → n ≡ block_count words → block * BLOCK_WORDS < words → block < n
block_lies block words n long within = omega (arith, long, within)

-- a block of which nothing is noted has no entry
pub none_there : (home : List HomeBlock) (slots : List ℕ) (block : ℕ) → PlacesKept home slots →
    place_in slots block ≡ None → (i : ℕ) → i < length home → (home_at home i).block ≢ block
none_there home slots block kept none i lies same =
    let e : Some i ≡ None = sym (kept.here i lies) ∙ (ap (place_in slots) same ∙ none) in absurd (cc)

module _ (home home' : List HomeBlock) (slots : List ℕ) (block : ℕ) (kept : PlacesKept home slots)
    (none : place_in slots block ≡ None) (lies : block < length slots)
    (blocks : blocks_of home' ≡ blocks_of home ++ block ∷ []) where
  pub long_more : length home' ≡ length home + 1
  long_more = sym (length-map home' (λ (b : HomeBlock). b.block))
      ∙ (ap length blocks ∙ (length-append (blocks_of home) (block ∷ [])
      ∙ ap (λ (n : ℕ). n + 1) (length-map home (λ (b : HomeBlock). b.block))))

  last_block : (home_at home' (length home)).block ≡ block
  last_block = sym (block_is home' (length home)) ∙ (ap (λ (bs : List ℕ). block_at bs (length home)) blocks
      ∙ behind (blocks_of home) (length home) (length-map home (λ (b : HomeBlock). b.block)))
    where
      behind : (bs : List ℕ) (n : ℕ) → length bs ≡ n → block_at (bs ++ block ∷ []) n ≡ block
      behind [] zero is = refl
      behind [] (suc n) is = absurd (omega (arith, is))
      behind (b ∷ bs) zero is = absurd (omega (arith, is))
      behind (b ∷ bs) (suc n) is = behind bs n (omega (arith, is))

  first_block : (i : ℕ) → i < length home → (home_at home' i).block ≡ (home_at home i).block
  first_block i within = sym (block_is home' i) ∙ (ap (λ (bs : List ℕ). block_at bs i) blocks
      ∙ (before (blocks_of home) i (subst (λ (n : ℕ). i < n) (sym (length-map home (λ (b : HomeBlock). b.block))) within)
      ∙ block_is home i))
    where
      before : (bs : List ℕ) (i : ℕ) → i < length bs → block_at (bs ++ block ∷ []) i ≡ block_at bs i
      before [] i within = absurd (omega (arith, within))
      before (b ∷ bs) zero within = refl
      before (b ∷ bs) (suc i) within = before bs i (omega (arith, within))

  abbrev slots_now : List ℕ
  slots_now = slice_set slots block (length home + 1)

  at_block : place_in slots_now block ≡ Some (length home)
  at_block = ap noted (get_or-set_same slots block (length home + 1) 0 lies) ∙ (noted_some (length home + 1) (omega arith)
      ∙ ap Some (omega arith))

  elsewhere : (b : ℕ) → b ≢ block → place_in slots_now b ≡ place_in slots b
  elsewhere b apart = ap noted (get_or-set_other slots block b (length home + 1) 0 apart)

  pub places_more : PlacesKept home' (slice_set slots block (length home + 1))
  places_more =
      record {
        here = λ i within. here_at i (cases_lt i (length home)) within;
        there = λ b i is. subst (λ (n : ℕ). i < n) (sym long_more) (there_at b i is (cases_eq b block));
        block = λ b i is. block_of b i is (cases_eq b block);
      }
    where
      here_at : (i : ℕ) → (i < length home) ⊎ (length home ≤ i) → i < length home' →
          place_in slots_now (home_at home' i).block ≡ Some i
      here_at i (inl before) within =
          ap (place_in slots_now) (first_block i before)
          ∙ (elsewhere (home_at home i).block (none_there home slots block kept none i before) ∙ kept.here i before)
      here_at i (inr past) within =
          let last : i ≡ length home = omega (arith, past, within, long_more) in
          ap (λ (k : ℕ). place_in slots_now (home_at home' k).block) last
          ∙ (ap (place_in slots_now) last_block ∙ (at_block ∙ ap Some (sym last)))

      there_at : (b i : ℕ) → place_in slots_now b ≡ Some i → (b ≡ block) ⊎ (b ≢ block) → i < length home + 1
      there_at b i is (inl same) =
          let last : length home ≡ i = some_same _ _ (sym at_block ∙ (ap (place_in slots_now) (sym same) ∙ is)) in
          omega (arith, last)
      there_at b i is (inr apart) =
          let within = kept.there b i (sym (elsewhere b apart) ∙ is) in omega (arith, within)

      block_of : (b i : ℕ) → place_in slots_now b ≡ Some i → (b ≡ block) ⊎ (b ≢ block) → (home_at home' i).block ≡ b
      block_of b i is (inl same) =
          let last : length home ≡ i = some_same _ _ (sym at_block ∙ (ap (place_in slots_now) (sym same) ∙ is)) in
          ap (λ (k : ℕ). (home_at home' k).block) (sym last) ∙ (last_block ∙ sym same)
      block_of b i is (inr apart) =
          let old = sym (elsewhere b apart) ∙ is in
          first_block i (kept.there b i old) ∙ kept.block b i old

-- ---- the marks

pub marked_more : (f f' : Flat) (marks : MoveMarks) (block : ℕ) (s : PlainState) (memory : ℕ → List ℕ) →
    Stands f s memory → f'.nodes.items ≡ f.nodes.items → length f'.home.items ≡ length f.home.items + 1 →
    home_at f'.home.items (length f.home.items) ≡ block_start f.program block →
    ((i : ℕ) → i < length f.home.items → home_at f'.home.items i ≡ home_at f.home.items i) → IsMarked f marks →
    IsMarked f' marks
marked_more f f' marks block s memory stands nodes more entry others kept =
    record {
      own = λ c. kept.own c ∙ ap (λ (l : List Node). nat_lt c (length l) && own_mark (node_at l c)) (sym nodes);
      requests = λ c. kept.requests c ∙ (request_same (node_at f.nodes.items c).asks c refl
          ∙ ap (λ (l : List Node). request_mark f'.home.items (node_at l c)) (sym nodes));
      responses = λ c. kept.responses c ∙ ap (λ (l : List Node). not (is_nil (node_at l c).replies)) (sym nodes);
      messages = λ c. kept.messages c ∙ ap (λ (l : List Node). not (is_nil (node_at l c).messages)) (sym nodes);
      askers = λ i c lies. asker i c (cases_lt i (length f.home.items)) lies
          ∙ ap (λ (l : List Node). (node_at l c).asks && ((node_at l c).place == i)) (sym nodes);
    }
  where
    place_lies : (c : ℕ) → (node_at f.nodes.items c).asks ≡ true →
        (node_at f.nodes.items c).place < length f.home.items
    place_lies c asks = asked_place f s memory c stands
        (there_by (λ (n : Node). n.asks) f.nodes.items c refl asks) asks

    request_same : (asks : Bool) (c : ℕ) → (node_at f.nodes.items c).asks ≡ asks →
        request_mark f.home.items (node_at f.nodes.items c) ≡ request_mark f'.home.items (node_at f.nodes.items c)
    request_same true c is =
        request_is f.home.items (node_at f.nodes.items c)
        ∙ (ap (λ (b : HomeBlock). (node_at f.nodes.items c).asks && is_free_held b.held)
        (sym (others (node_at f.nodes.items c).place (place_lies c is)))
        ∙ sym (request_is f'.home.items (node_at f.nodes.items c)))
    request_same false c is =
        request_is f.home.items (node_at f.nodes.items c)
        ∙ (ap (λ (t : Bool). t && is_free_held (home_at f.home.items (node_at f.nodes.items c).place).held) is
        ∙ (sym (ap (λ (t : Bool). t && is_free_held (home_at f'.home.items (node_at f.nodes.items c).place).held) is)
        ∙ sym (request_is f'.home.items (node_at f.nodes.items c))))

    none_asks : (asks : Bool) (c : ℕ) → (node_at f.nodes.items c).asks ≡ asks →
        false ≡ ((node_at f.nodes.items c).asks && ((node_at f.nodes.items c).place == length f.home.items))
    none_asks true c is =
        let lies = place_lies c is in
        sym (ap (λ (t : Bool). t && ((node_at f.nodes.items c).place == length f.home.items)) is
        ∙ ne_is (node_at f.nodes.items c).place (length f.home.items) (λ e. absurd (omega (arith, lies, e))))
    none_asks false c is =
        sym (ap (λ (t : Bool). t && ((node_at f.nodes.items c).place == length f.home.items)) is)

    asker : (i c : ℕ) → (i < length f.home.items) ⊎ (length f.home.items ≤ i) → i < length f'.home.items →
        has (home_at f'.home.items i).askers c
        ≡ ((node_at f.nodes.items c).asks && ((node_at f.nodes.items c).place == i))
    asker i c (inl before) lies = ap (λ (b : HomeBlock). has b.askers c) (others i before) ∙ kept.askers i c before
    asker i c (inr past) lies =
        let last : i ≡ length f.home.items = omega (arith, past, lies, more) in
        ap (λ (k : ℕ). has (home_at f'.home.items k).askers c) last
        ∙ (ap (λ (b : HomeBlock). has b.askers c) entry ∙ (has-no_cores c
        ∙ (none_asks (node_at f.nodes.items c).asks c refl
        ∙ ap (λ (k : ℕ). (node_at f.nodes.items c).asks && ((node_at f.nodes.items c).place == k)) (sym last))))

-- the same nodes and entries have the same marks
pub marked_still : (f f' : Flat) (marks : MoveMarks) → f'.nodes.items ≡ f.nodes.items → f'.home.items ≡ f.home.items →
    IsMarked f marks → IsMarked f' marks
marked_still f f' marks nodes home kept =
    record {
      own = λ c. kept.own c ∙ ap (λ (l : List Node). nat_lt c (length l) && own_mark (node_at l c)) (sym nodes);
      requests = λ c. kept.requests c
          ∙ (ap (λ (l : List HomeBlock). request_mark l (node_at f.nodes.items c)) (sym home)
          ∙ ap (λ (l : List Node). request_mark f'.home.items (node_at l c)) (sym nodes));
      responses = λ c. kept.responses c ∙ ap (λ (l : List Node). not (is_nil (node_at l c).replies)) (sym nodes);
      messages = λ c. kept.messages c ∙ ap (λ (l : List Node). not (is_nil (node_at l c).messages)) (sym nodes);
      askers = λ i c lies. ap (λ (l : List HomeBlock). has (home_at l i).askers c) home
          ∙ (kept.askers i c (subst (λ (l : List HomeBlock). i < length l) home lies)
          ∙ ap (λ (l : List Node). (node_at l c).asks && ((node_at l c).place == i)) (sym nodes));
    }
