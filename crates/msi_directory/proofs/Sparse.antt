-- What a sparse home is to contracts: how it reads, and what it is once an entry was changed or added.
use Rattle.std.proofs.Common.{◌≡◌, ◌∙◌, ◌⊎◌, inl, inr, ℕ, ◌+◌, ◌<◌, ◌≤◌, ◌^◌, arith, Bool, true, false, cond, not, eqb}
use Rattle.std.proofs.Common.{eq-eqb, nat_lt, IsTrue}
use Rattle.std.proofs.Common.{List, [], ◌∷◌, ◌++◌, Option, Some, None, is_some, refl, sym, true≢false, ap, subst}
use Rattle.std.proofs.Common.{position, get_or, zero-add}
use Rattle.std.specs.Prelude.{All, IsSome, if◌then◌else◌, length, map, nat_eq, slice_index_or, slice_set}
use Rattle.std.specs.List.{position_or_len, range_with_len}
use Rattle.std.proofs.lemmas.Option.{cond_some, none-some}
use Rattle.std.proofs.lemmas.Bool.{cases_eq, cases_lt, le-ltb, lt-ltb}
use Rattle.std.proofs.lemmas.Bool.Decides.{nat_tests}
use Rattle.std.proofs.lemmas.List.{get_or-set_other, get_or-set_same, get_or_append_left, get_or_push, length-set}
use Rattle.std.proofs.lemmas.List.{length_push, same_lists, set-get_or}
use Rattle.std.proofs.lemmas.List.Folds.{prefix_len-append}
use Rattle.std.proofs.lemmas.List.FromFn.{get_or-map-range_with_len, length-map-range_with_len}
use Rattle.std.proofs.lemmas.List.Quantifiers.{position-Some}
use Rattle.std.proofs.lemmas.List.Sums.{count_by-le-length, prefix_len-le-length, sum_by-set}
use Rattle.image_mem.specs.Contents.{Contents}
use Rattle.msi_directory.specs.Blocks.{Blocks, block_count, has_room, opening_entry, touched}
use Rattle.msi_directory.specs.Fitting.{stage_fits}
use Rattle.msi_directory.specs.Kept.{HomeFits, IsEven, Sparse, all_blocks, blocks_in, copy_of, entry_in, home_of}
use Rattle.msi_directory.specs.Kept.{is_kept, kept_at, kept_more, kept_or, kept_with, nothing_kept, place_of}
use Rattle.msi_directory.specs.declared.entry.Entry.{Entry}
use Rattle.msi_directory.specs.declared.entry.Stage.{Stage}
use Rattle.msi_directory.specs.declared.entry.Stage.TheVariants.{Unshared}
use Rattle.msi_directory.proofs.Openings.{openings_fit}

-- a function of the numbers below n, changed at one of them
module _ {X : Type 0} (f g : ℕ → X) (n k : ℕ) (y : X)
    (elsewhere : (b : ℕ) → (b ≡ k → ⊥) → g b ≡ f b) (here : g k ≡ y) where
  old_list : List X
  old_list = map f (range_with_len 0 n)

  new_list : List X
  new_list = map g (range_with_len 0 n)

  at_each : (b : ℕ) (d : X) → b < n → (b ≡ k) ⊎ (b ≡ k → ⊥) → get_or new_list b d ≡ get_or (slice_set old_list k y) b d
  unfolding old_list new_list
  at_each b d within (inl same) =
      let counted = subst (λ m. m < length old_list) same (rw (length-map-range_with_len f 0 n) within) in
      rw (get_or-map-range_with_len g 0 n b b d within (zero-add b), same, get_or-set_same old_list k y d counted) here
  at_each b d within (inr other) =
      rw (
        get_or-map-range_with_len g 0 n b b d within (zero-add b),
        get_or-set_other old_list k b y d other,
        get_or-map-range_with_len f 0 n b b d within (zero-add b),
      ) (elsewhere b other)

  pub map_changed : map g (range_with_len 0 n) ≡ slice_set (map f (range_with_len 0 n)) k y
  unfolding old_list new_list
  map_changed =
      same_lists new_list (slice_set old_list k y)
      (rw (length-set old_list k y, length-map-range_with_len f 0 n, length-map-range_with_len g 0 n))
      (λ b d within. at_each b d (rw (length-map-range_with_len g 0 n) at within) (cases_eq b k))

-- the first index at which a test passes, by its number
stands : (test : ℕ → Bool) (xs : List ℕ) (n : ℕ) → position_or_len test xs ≡ n → n < length xs →
    position test xs ≡ Some n
stands test xs n is within =
    ap (λ k. cond (nat_lt k (length xs)) (Some k) None) is
    ∙ ap (λ t. cond t (Some n) None) (lt-ltb n (length xs) within)

nowhere : (test : ℕ → Bool) (xs : List ℕ) (n : ℕ) → position_or_len test xs ≡ n → length xs ≤ n →
    position test xs ≡ None
nowhere test xs n is past =
    ap (λ k. cond (nat_lt k (length xs)) (Some k) None) is ∙ ap (λ t. cond t (Some n) None) (le-ltb n (length xs) past)

-- where a block stands, or that it stands nowhere
module _ (blocks : List ℕ) (b : ℕ) where
  found : (place : ℕ) → place_of blocks b ≡ Some place →
      (position_or_len (nat_eq b) blocks ≡ place) × (place < length blocks)
  found place is =
      let first = position_or_len (nat_eq b) blocks in
      ((cond_some (nat_lt first (length blocks)) first place is).1, (position-Some (nat_eq b) blocks place 0 is).0)

  absent : place_of blocks b ≡ None → position_or_len (nat_eq b) blocks ≡ length blocks
  absent is =
      let first = position_or_len (nat_eq b) blocks in
      elim (cases_lt first (length blocks)) [
        | inl within ↦ absurd (none-some first (sym is ∙ stands (nat_eq b) blocks first refl within))
        | inr past ↦ omega (arith, prefix_len-le-length (λ (x : ℕ). not (nat_eq b x)) blocks)
      ]

-- where a block stands once one more was put last
module _ (blocks : List ℕ) (block b : ℕ) where
  first_of_more : position_or_len (nat_eq b) (blocks ++ block ∷ []) ≡
      (let first = position_or_len (nat_eq b) blocks in
      cond (eqb first (length blocks)) (length blocks + cond (not (nat_eq b block)) 1 0) first)
  first_of_more = prefix_len-append (λ x. not (nat_eq b x)) blocks (block ∷ [])

  place_kept : (place : ℕ) → place_of blocks b ≡ Some place → place_of (blocks ++ block ∷ []) b ≡ Some place
  place_kept place is =
      let there = found blocks b place is in
      let other : eqb place (length blocks) ≡ false = grind (arith, nat_tests) in
      stands (nat_eq b) (blocks ++ block ∷ []) place (rw (first_of_more, there.0, other))
      (omega (arith, length_push blocks block))

  place_new : b ≡ block → place_of blocks b ≡ None → place_of (blocks ++ block ∷ []) b ≡ Some (length blocks)
  place_new same is =
      stands (nat_eq b) (blocks ++ block ∷ []) (length blocks)
      (rw (first_of_more, absent blocks b is, eq-eqb (length blocks) (length blocks) refl, eq-eqb b block same)
      (omega arith))
      (omega (arith, length_push blocks block))

  place_none : (b ≡ block → ⊥) → place_of blocks b ≡ None → place_of (blocks ++ block ∷ []) b ≡ None
  place_none other is =
      let apart : nat_eq b block ≡ false = grind (arith, nat_tests) in
      nowhere (nat_eq b) (blocks ++ block ∷ []) (length blocks + 1)
      (rw (first_of_more, absent blocks b is, eq-eqb (length blocks) (length blocks) refl, apart))
      (omega (arith, length_push blocks block))

-- a place is none or some
by_place : {P : Type 0} (o : Option ℕ) → (o ≡ None → P) → ((place : ℕ) → o ≡ Some place → P) → P
by_place None none some = none refl
by_place (Some place) none some = some place refl

pub none_is : (o : Option ℕ) → is_some o ≡ false → o ≡ None
none_is None e = refl
none_is (Some place) e = absurd (true≢false e)

-- how many blocks have room
none_touched : (test : ℕ → Bool) (blocks : List ℕ) → ((b : ℕ) → test b ≡ false) → touched (map test blocks) ≡ 0
none_touched test [] never = refl
none_touched test (b ∷ blocks) never = rw (never b, none_touched test blocks never)

touched_more : (rooms : List Bool) (block : ℕ) → block < length rooms
    → touched (slice_set rooms block true) ≡ touched rooms + (if has_room rooms block then 0 else 1)
touched_more rooms block within = by (has_room rooms block) refl
  where
    by : (roomy : Bool) → has_room rooms block ≡ roomy → touched (slice_set rooms block true) ≡ touched rooms +
        (if roomy then 0 else 1)
    by true is = let counted = rw is at (sum_by-set {X = Bool} (λ room. cond room 1 0) rooms block true false within) in
        omega arith
    by false is = let counted = rw is at (sum_by-set {X = Bool} (λ room. cond room 1 0) rooms block true false
        within) in omega arith

-- a room that is there already changes nothing
pub same_rooms : {R : Type 0} (now : Blocks R) (block : ℕ) → has_room now.rooms block ≡ true →
    now ≡ record now { rooms = slice_set now.rooms block true }
same_rooms now block roomy =
    ap (λ rooms. record now { rooms = rooms }) (sym (ap (slice_set now.rooms block) (sym roomy)
    ∙ set-get_or now.rooms block false))

module _ {R : Type 0} (home : Sparse R) where
  -- how many entries and rooms the home has
  pub entries_counted : length (blocks_in home).entries ≡ block_count home.opening.words
  entries_counted = length-map-range_with_len (entry_in home) 0 (block_count home.opening.words)

  pub rooms_counted : length (blocks_in home).rooms ≡ block_count home.opening.words
  rooms_counted = length-map-range_with_len (is_kept home.kept.blocks) 0 (block_count home.opening.words)

  -- few enough blocks have room that a 32-bit number counts them
  pub few_kept : HomeFits home → length home.kept.blocks < 2 ^ 32
  few_kept fits = omega (
    arith,
    fits.counted,
    fits.words,
    rooms_counted,
    count_by-le-length (λ (room : Bool). room)
        (blocks_in home).rooms,
  )

  -- a block of the memory reads as it is kept, or else as the image has it
  module _ (b : ℕ) (within : b < length (blocks_in home).entries) where
    pub reads : (past : Entry R) → slice_index_or (blocks_in home).entries b past ≡ entry_in home b
    reads past = get_or-map-range_with_len (entry_in home) 0 (block_count home.opening.words) b b past
        (rw (← entries_counted) within) (zero-add b)

    pub reads_kept : (past : Entry R) (place : ℕ) → place_of home.kept.blocks b ≡ Some place
        → slice_index_or (blocks_in home).entries b past ≡ kept_at home.kept place
        (opening_entry home.fresh home.opening b)
    reads_kept past place is = reads past ∙ ap (λ o. kept_or home.kept o (opening_entry home.fresh home.opening b)) is

    pub reads_opening : (past : Entry R) → place_of home.kept.blocks b ≡ None
        → slice_index_or (blocks_in home).entries b past ≡ opening_entry home.fresh home.opening b
    reads_opening past is = reads past ∙ ap (λ o. kept_or home.kept o (opening_entry home.fresh home.opening b)) is

    pub room_reads : has_room (blocks_in home).rooms b ≡ is_kept home.kept.blocks b
    room_reads =
        get_or-map-range_with_len (is_kept home.kept.blocks) 0 (block_count home.opening.words) b b false
        (rw (← entries_counted) within) (zero-add b)

    -- a block in a stage that isn't the opening one is kept
    pub stage_kept : (past : Entry R) (test : Stage → Bool) → test Unshared ≡ false →
        IsTrue (test (slice_index_or (blocks_in home).entries b past).stage)
        → IsSome (place_of home.kept.blocks b)
    stage_kept past test refused passes =
        by_place (place_of home.kept.blocks b)
        (λ none. absurd (true≢false (sym (rw (reads_opening past none) at passes) ∙ refused)))
        (λ place is. rw is refl)

-- a home that keeps nothing
module _ {R : Type 0} (opening : Contents) (fresh : R) where
  pub untouched : touched (blocks_in (home_of opening fresh nothing_kept)).rooms ≡ 0
  untouched = none_touched (is_kept []) (all_blocks opening) (λ b. refl)

  pub fits_new : opening.words < 2 ^ 32 → HomeFits (home_of opening fresh nothing_kept)
  fits_new words = record {
    stages = openings_fit fresh opening (block_count opening.words);
    counted =
        untouched;
    words = words;
  }

-- one more block's entry is kept, as the image has it
module _ {R : Type 0} (home : Sparse R) (block : ℕ) (none : place_of home.kept.blocks block ≡ None)
    (even : IsEven home.kept) where
  abbrev pub home_more : Sparse R
  home_more = record home { kept = kept_more home.kept block (opening_entry home.fresh home.opening block) }

  all_stand : (b : ℕ) → entry_in home_more b ≡ entry_in home b
  all_stand b =
      let opens = opening_entry home.fresh home.opening block in
      let wanted = opening_entry home.fresh home.opening b in
      by_place (place_of home.kept.blocks b)
      (λ absent. elim (cases_eq b block) [
        | inl same ↦
            rw (
              place_new home.kept.blocks block b same absent,
              absent,
              same,
              get_or_push home.kept.stages Unshared Unshared (length home.kept.blocks) even.stages,
              get_or_push home.kept.copies (copy_of opens) (copy_of opens) (length home.kept.blocks) even.copies,
            )
        | inr other ↦ rw (place_none home.kept.blocks block b other absent, absent)
      ])
      (λ there at.
      let within = (found home.kept.blocks b there at).1 in
      rw (
        place_kept home.kept.blocks block b there at,
        at,
        get_or_append_left home.kept.stages (Unshared ∷ []) wanted.stage there (rw even.stages within),
        get_or_append_left home.kept.copies (copy_of opens ∷ []) (copy_of wanted) there (rw even.copies within),
      ))

  entries_more : (blocks_in home_more).entries ≡ (blocks_in home).entries
  entries_more = ap (λ f. map f (all_blocks home.opening)) (λ i b. all_stand b i)

  rooms_more : (blocks_in home_more).rooms ≡ slice_set (blocks_in home).rooms block true
  rooms_more =
      map_changed (is_kept home.kept.blocks) (is_kept (home.kept.blocks ++ block ∷ [])) (block_count home.opening.words)
      block true
      (λ b other. by_place (place_of home.kept.blocks b)
      (λ absent. rw (place_none home.kept.blocks block b other absent, absent))
      (λ there at. rw (place_kept home.kept.blocks block b there at, at)))
      (ap is_some (place_new home.kept.blocks block block refl none))

  pub blocks_more : blocks_in home_more ≡ record (blocks_in home) {
    rooms =
        slice_set (blocks_in home).rooms block true;
  }
  blocks_more = λ i. record { entries = entries_more i; rooms = rooms_more i }

  module _ (within : block < length (blocks_in home).entries) where
    room_within : block < length (blocks_in home).rooms
    room_within = rw (rooms_counted home, ← entries_counted home) within

    pub room_more : has_room (blocks_in home_more).rooms block ≡ true
    room_more = rw rooms_more (get_or-set_same (blocks_in home).rooms block true false room_within)

    pub more_touched : touched (blocks_in home_more).rooms
        ≡ touched (blocks_in home).rooms + (if has_room (blocks_in home).rooms block then 0 else 1)
    more_touched = rw rooms_more (touched_more (blocks_in home).rooms block room_within)

    pub fits_more : HomeFits home → HomeFits home_more
    fits_more fits =
        let here = room_reads home block within ∙ ap is_some none in
        record {
          stages = rw entries_more fits.stages;
          counted = rw (
            rooms_more,
            touched_more (blocks_in home).rooms block room_within,
            here,
            fits.counted,
            length_push home.kept.blocks block,
          );
          words = fits.words;
        }

-- the entry that is kept at a place is changed
module _ {R : Type 0} (home : Sparse R) (block place : ℕ) (is : place_of home.kept.blocks block ≡ Some place)
    (stage : place < length home.kept.stages) (copy : place < length home.kept.copies) (e : Entry R) where
  abbrev pub home_with : Sparse R
  home_with = record home { kept = kept_with home.kept place e }

  others_stand : (b : ℕ) → (b ≡ block → ⊥) → entry_in home_with b ≡ entry_in home b
  others_stand b other =
      let opens = opening_entry home.fresh home.opening b in
      let blocks = home.kept.blocks in
      by_place (place_of blocks b)
      (λ none. rw none)
      (λ there at.
      let mine = position-Some (nat_eq block) blocks place 0 is in
      let its = position-Some (nat_eq b) blocks there 0 at in
      let mine_is : block ≡ get_or blocks place 0 = grind (arith, nat_tests) in
      let its_is : b ≡ get_or blocks there 0 = grind (arith, nat_tests) in
      let apart : there ≡ place → ⊥ = λ same. other (its_is ∙ ap (λ p. get_or blocks p 0) same ∙ sym mine_is) in
      rw (
        at,
        get_or-set_other home.kept.stages place there e.stage opens.stage apart,
        get_or-set_other home.kept.copies place there (copy_of e) (copy_of opens) apart,
      ))

  it_stands : entry_in home_with block ≡ e
  it_stands =
      let opens = opening_entry home.fresh home.opening block in
      rw (
        is,
        get_or-set_same home.kept.stages place e.stage opens.stage stage,
        get_or-set_same home.kept.copies place
            (copy_of e) (copy_of opens) copy,
      )

  pub entries_with : (blocks_in home_with).entries ≡ slice_set (blocks_in home).entries block e
  entries_with = map_changed (entry_in home) (entry_in home_with) (block_count home.opening.words) block e others_stand
      it_stands

  pub fits_with : All (λ (o : Entry R). IsTrue (stage_fits o.stage)) (slice_set (blocks_in home).entries block e) →
      HomeFits home → HomeFits home_with
  fits_with stages fits = record { stages = rw entries_with stages; counted = fits.counted; words = fits.words }
