-- What a ring of places holds, as items are written behind the newest and dropped at the oldest.
use Rattle.std.proofs.Common.{rules, arith, ◌≡◌, ◌≢◌, ◌∙◌, refl, sym, subst, ap, ℕ, zero, suc, nat_eq, ◌+◌, ◌-◌, ◌<◌}
use Rattle.std.proofs.Common.{◌≤◌, ◌⊎◌, inl, inr}
use Rattle.std.proofs.Common.{List, [], ◌∷◌, ◌++◌, length}
use Rattle.std.proofs.Common.{get_or, set, take, drop, length-append, length-drop}
use Rattle.std.proofs.lemmas.List.{length-take-le, length-take, length-set, get_or-take, get_or-drop, get_or_default}
use Rattle.std.proofs.lemmas.List.{same_lists}
use Rattle.std.proofs.Math.ListN.{get_or-append}
use Rattle.std.proofs.lemmas.List.{get_or-append_right, get_or-set_same, get_or-set_other}
use Rattle.std.proofs.lemmas.Bool.{cases_lt}
use Rattle.link_order.specs.Queue.{Queue, around, is_nil}

-- `place` is the place that lies `ahead` places behind `first` in a ring of `room` places
pub record IsPlace (first ahead room place : ℕ) : Type 0 where
  pub within : place < room
  pub round : (place ≡ first + ahead) ⊎ (place + room ≡ first + ahead)

-- so many places behind the first there is a place
a_place : (first ahead room : ℕ) → first < room → ahead ≤ room → (place : ℕ) × IsPlace first ahead room place
a_place first ahead room starts fits =
    elim (cases_lt ahead (room - first)) [
      | inl h ↦ (first + ahead, record { within = omega arith; round = inl refl })
      | inr h ↦ (ahead - (room - first), record { within = omega arith; round = inr (omega arith) })
    ]

-- two places that lie less than a whole ring apart are two
apart : (first i j room p q : ℕ) → i < j → j < room → IsPlace first i room p → IsPlace first j room q → p ≢ q
apart first i j room p q less fits a b e =
    elim a.round [
      | inl u ↦ elim b.round [ inl v ↦ omega arith | inr v ↦ omega arith ]
      | inr u ↦ elim b.round [ inl v ↦ omega arith | inr v ↦ omega arith ]
    ]

-- `k` places behind the next place is one further behind the first
one_further : (first next k room place : ℕ) → first < room → k < room → IsPlace first 1 room next →
    IsPlace next k room place → IsPlace first (suc k) room place
one_further first next k room place starts fits a b =
    let lies : place < room = b.within in
    record {
      within = lies;
      round = elim a.round [
        | inl u ↦ elim b.round [ inl v ↦ inl (omega arith) | inr v ↦ inr (omega arith) ]
        | inr u ↦ elim b.round [ inl v ↦ inr (omega arith) | inr v ↦ absurd (omega arith) ]
      ];
    }

-- the place behind the newest item, once one more came
next_further : (first count room next behind : ℕ) → first ≤ room - 1 → count < room →
    (next ≡ first + count) ⊎ (next + room ≡ first + count) → (behind ≡ next + 1) ⊎ (behind + room ≡ next + 1) →
    (behind ≡ first + (count + 1)) ⊎ (behind + room ≡ first + (count + 1))
next_further first count room next behind starts fits was is =
    elim was [
      | inl u ↦ elim is [ inl v ↦ inl (omega arith) | inr v ↦ inr (omega arith) ]
      | inr u ↦ elim is [ inl v ↦ inr (omega arith) | inr v ↦ absurd (omega arith) ]
    ]

-- whether a list has no element is whether its length is 0
pub nil_length : {X : Type 0} (xs : List X) → is_nil xs ≡ nat_eq (length xs) 0
nil_length [] = refl
nil_length (x ∷ xs) = search rules

module _ {X : Type 0} where
  -- a ring holds as many items as it says
  pub length_around : (list : List X) (first count : ℕ) → count ≤ length list → length (around list first count) ≡ count
  unfolding around
  length_around list first count fits =
      let whole : length (drop first list ++ take first list) ≡ length list =
      rw (
        length-append (drop first list) (take first list),
        length-drop first list,
        length-take first list,
      )
      (omega arith) in
      let enough : count ≤ length (drop first list ++ take first list) = omega (arith, whole) in
      length-take-le count (drop first list ++ take first list) enough

  -- a ring of no items is the empty list
  pub around_none : (list : List X) (first : ℕ) → around list first 0 ≡ []
  unfolding around
  around_none list first = refl

  -- what lies `i` places behind the oldest item, where that is no further than the last place
  at_once : (list : List X) (first count i place : ℕ) (d : X) → i < count → first < length list → place < length list →
      place ≡ first + i → get_or (around list first count) i d ≡ get_or list place d
  unfolding around
  at_once list first count i place d h starts lies e =
      let near : i < length (drop first list) = rw (length-drop first list) (omega arith) in
      rw (
        get_or-take count (drop first list ++ take first list) i d h,
        get_or-append (drop first list) (take first list) d i near,
        get_or-drop first list i d,
        e,
      ) refl

  -- what lies there where it is further
  come_round : (list : List X) (first count i place : ℕ) (d : X) → i < count → count ≤ length list →
      first < length list → place + length list ≡ first + i →
      get_or (around list first count) i d ≡ get_or list place d
  unfolding around
  come_round list first count i place d h fits starts e =
      let far : length list - first ≤ i = omega arith in
      let near : i - (length list - first) < first = omega arith in
      let same : i - (length list - first) ≡ place = omega arith in
      rw (
        get_or-take count (drop first list ++ take first list) i d h,
        get_or-append_right (drop first list) (take first list) (length list - first) i d (length-drop first list) far,
        get_or-take first list (i - (length list - first)) d near,
        same,
      ) refl

  -- what lies `i` places behind the oldest item, wherever that is
  get_or_around : (list : List X) (room first count i place : ℕ) (d : X) → length list ≡ room → i < count →
      count ≤ room → first < room → IsPlace first i room place →
      get_or (around list first count) i d ≡ get_or list place d
  get_or_around list room first count i place d whole h fits starts is =
      let within : place < room = is.within in
      elim is.round [
        | inl e ↦ at_once list first count i place d h (omega (arith, whole)) (omega (arith, whole, within)) e
        | inr e ↦
            come_round list first count i place d h (omega (arith, whole)) (omega (arith, whole))
            (omega (arith, whole, e))
      ]

  -- each item of a ring that was written to is where the list with the new item behind it has it
  written_at : (list : List X) (first count place k : ℕ) (x d : X) → count < length list → first < length list →
      IsPlace first count (length list) place → k < count + 1 →
      get_or (around (set list place x) first (count + 1)) k d ≡ get_or (around list first count ++ x ∷ []) k d
  written_at list first count place k x d fits starts is h =
      let whole : length (set list place x) ≡ length list = length-set list place x in
      let here : length (around list first count) ≡ count = length_around list first count (omega arith) in
      elim (cases_lt k count) [
        | inl lt ↦
            let p : (p : ℕ) × IsPlace first k (length list) p = a_place first k (length list) starts (omega arith) in
            let other : p.0 ≢ place = apart first k count (length list) p.0 place lt fits p.1 is in
            let near : k < length (around list first count) = omega (arith, here) in
            let left : get_or (around (set list place x) first (count + 1)) k d ≡ get_or (set list place x) p.0 d =
            get_or_around (set list place x) (length list) first (count + 1) k p.0 d whole h (omega arith) starts p.1 in
            let right : get_or (around list first count) k d ≡ get_or list p.0 d =
            get_or_around list (length list) first count k p.0 d refl lt (omega arith) starts p.1 in
            rw (
              left,
              get_or-set_other list place p.0 x d other,
              get_or-append (around list first count) (x ∷ []) d k near,
              right,
            ) refl
        | inr ge ↦
            let e : k ≡ count = omega arith in
            let left : get_or (around (set list place x) first (count + 1)) k d ≡ get_or (set list place x) place d =
            get_or_around (set list place x) (length list) first (count + 1) k place d whole h (omega arith)
            starts (rw e is) in
            let at_end : k - count ≡ 0 = omega arith in
            rw (
              left,
              get_or-set_same list place x d is.within,
              get_or-append_right (around list first count) (x ∷ []) count k d here ge,
              at_end,
            ) refl
      ]

  -- an item that is written behind the newest is the newest
  pub around_write : (list : List X) (first count place : ℕ) (x : X) → count < length list → first < length list →
      place < length list → (place ≡ first + count) ⊎ (place + length list ≡ first + count) →
      around (set list place x) first (count + 1) ≡ around list first count ++ x ∷ []
  around_write list first count place x fits starts within round =
      let whole : length (set list place x) ≡ length list = length-set list place x in
      let here : length (around list first count) ≡ count = length_around list first count (omega arith) in
      let there : length (around (set list place x) first (count + 1)) ≡ count + 1 =
      length_around (set list place x) first (count + 1) (omega (arith, whole)) in
      same_lists _ _ (rw (there, length-append (around list first count) (x ∷ []), here) refl)
      (λ k d h. written_at list first count place k x d fits starts (record { within = within; round = round })
      (rw there at h))

  -- each item lies in the first place, or one place nearer behind the next one
  next_at : (list : List X) (first count next k : ℕ) (x d : X) → count < length list → first < length list →
      IsPlace first 1 (length list) next → k < count + 1 →
      get_or (around list first (count + 1)) k d ≡ get_or (get_or list first x ∷ around list next count) k d
  next_at list first count next zero x d fits starts is h =
      let here : IsPlace first 0 (length list) first = record { within = starts; round = inl (omega arith) } in
      get_or_around list (length list) first (count + 1) 0 first d refl h (omega arith) starts here
      ∙ get_or_default list first d x starts
  next_at list first count next (suc k) x d fits starts is h =
      let p : (p : ℕ) × IsPlace next k (length list) p = a_place next k (length list) is.within (omega arith) in
      let further : IsPlace first (suc k) (length list) p.0 =
      one_further first next k (length list) p.0 starts (omega arith) is p.1 in
      get_or_around list (length list) first (count + 1) (suc k) p.0 d refl h (omega arith) starts further
      ∙ sym (get_or_around list (length list) next count k p.0 d refl (omega arith) (omega arith) is.within p.1)

  -- the first place has the oldest item, and the others are those from the next place on
  around_more : (list : List X) (first count next : ℕ) (x : X) → count < length list → first < length list →
      IsPlace first 1 (length list) next → around list first (count + 1) ≡ get_or list first x ∷ around list next count
  around_more list first count next x fits starts is =
      let here : length (around list first (count + 1)) ≡ count + 1 =
      length_around list first (count + 1) (omega arith) in
      let there : length (around list next count) ≡ count = length_around list next count (omega arith) in
      same_lists _ _ (rw (here, there) (omega arith))
      (λ k d h. next_at list first count next k x d fits starts is (rw here at h))

  pub around_next : (list : List X) (first count next : ℕ) (x : X) → 0 < count → count ≤ length list →
      first < length list → next < length list → (next ≡ first + 1) ⊎ (next + length list ≡ first + 1) →
      around list first count ≡ get_or list first x ∷ around list next (count - 1)
  around_next list first count next x some fits starts within round =
      let e : count - 1 + 1 ≡ count = omega arith in
      rw e at
      (around_more list first (count - 1) next x (omega arith) starts (record { within = within; round = round }))

  taken_at : (list : List X) (first count next k : ℕ) (y d : X) → count < length list → first < length list →
      IsPlace first 1 (length list) next → k < count →
      get_or (around (set list first y) next count) k d ≡ get_or (around list next count) k d
  taken_at list first count next k y d fits starts is h =
      let p : (p : ℕ) × IsPlace next k (length list) p = a_place next k (length list) is.within (omega arith) in
      let further : IsPlace first (suc k) (length list) p.0 =
      one_further first next k (length list) p.0 starts (omega arith) is p.1 in
      let here : IsPlace first 0 (length list) first = record { within = starts; round = inl (omega arith) } in
      let other : first ≢ p.0 =
      apart first 0 (suc k) (length list) first p.0 (omega arith) (omega arith) here further in
      get_or_around (set list first y) (length list) next count k p.0 d (length-set list first y) h (omega arith)
      is.within p.1
      ∙ get_or-set_other list first p.0 y d (λ e. other (sym e))
      ∙ sym (get_or_around list (length list) next count k p.0 d refl h (omega arith) is.within p.1)

  -- whatever is left in the place of the oldest item, the others are as they were
  pub around_taken : (list : List X) (first count next : ℕ) (x y : X) → 0 < count → count ≤ length list →
      first < length list → next < length list → (next ≡ first + 1) ⊎ (next + length list ≡ first + 1) →
      around list first count ≡ get_or list first x ∷ around (set list first y) next (count - 1)
  around_taken list first count next x y some fits starts within round =
      let whole : length (set list first y) ≡ length list = length-set list first y in
      let there : length (around list next (count - 1)) ≡ count - 1 =
      length_around list next (count - 1) (omega arith) in
      let left : length (around (set list first y) next (count - 1)) ≡ count - 1 =
      length_around (set list first y) next (count - 1) (omega (arith, whole)) in
      let same : around (set list first y) next (count - 1) ≡ around list next (count - 1) =
      same_lists _ _ (rw (left, there) refl)
      (λ k d h. taken_at list first (count - 1) next k y d (omega arith) starts
      (record { within = within; round = round }) (rw left at h)) in
      around_next list first count next x some fits starts within round
      ∙ ap (λ rest. get_or list first x ∷ rest) (sym same)

  -- an item that is written where the oldest lay is the oldest
  pub around_renewed : (list : List X) (first count : ℕ) (y : X) → 0 < count → count ≤ length list →
      first < length list → around (set list first y) first count ≡ y ∷ drop 1 (around list first count)
  around_renewed list first count y some fits starts =
      let whole : length (set list first y) ≡ length list = length-set list first y in
      let p : (p : ℕ) × IsPlace first 1 (length list) p = a_place first 1 (length list) starts (omega arith) in
      let written : around (set list first y) first count
      ≡ get_or (set list first y) first y ∷ around (set list first y) p.0 (count - 1) =
      around_next (set list first y) first count p.0 y some (rw whole fits) (rw whole starts)
      (subst (λ n. p.0 < n) (sym whole) p.1.within)
      (subst (λ n. (p.0 ≡ first + 1) ⊎ (p.0 + n ≡ first + 1)) (sym whole) p.1.round) in
      let others : drop 1 (around list first count) ≡ around (set list first y) p.0 (count - 1) =
      ap (drop 1) (around_taken list first count p.0 y y some fits starts p.1.within p.1.round) in
      rw (written, get_or-set_same list first y y starts, others)

  -- what is left where the oldest item is dropped
  pub around_dropped : (list : List X) (first count next : ℕ) → 0 < count → count ≤ length list → first < length list →
      next < length list → (next ≡ first + 1) ⊎ (next + length list ≡ first + 1) →
      around list next (count - 1) ≡ drop 1 (around list first count)
  around_dropped [] first count next some fits starts within round = absurd (omega (arith, starts))
  around_dropped (x ∷ xs) first count next some fits starts within round =
      ap (drop 1) (sym (around_next (x ∷ xs) first count next x some fits starts within round))

  -- where there is no item nothing is dropped
  pub none_dropped : (list : List X) (first count : ℕ) → count ≤ 0 →
      around list first count ≡ drop 1 (around list first count)
  none_dropped list first count none =
      let e : count ≡ 0 = omega arith in
      rw (e, around_none list first) refl

  -- a link that holds something holds first what lies in its ring's first place
  pub oldest : (queue : Queue X) (list : List X) (room first count : ℕ) (x : X) →
      record { room = room; items = around list first count } ≡ queue → length list ≡ room → count ≤ room →
      first ≤ room - 1 → count ≢ 0 → x ≡ get_or list first x →
      (rest : List X) × (queue.items ≡ x ∷ rest)
  oldest queue list room first count x view whole fits starts some read =
      let begins : first < length list = omega (arith, whole) in
      let p : (p : ℕ) × IsPlace first 1 (length list) p = a_place first 1 (length list) begins (omega arith) in
      let next : around list first count ≡ get_or list first x ∷ around list p.0 (count - 1) =
      around_next list first count p.0 x (omega arith) (omega (arith, whole)) begins p.1.within p.1.round in (
        around list p.0 (count - 1),
        ap (λ (q : Queue X). q.items) (sym view) ∙ next
            ∙ ap (λ y. y ∷ around list p.0 (count - 1)) (sym read),
      )

  -- and what lies behind it is all but the first
  pub all_but_oldest : (queue : Queue X) (list : List X) (room first count : ℕ) (x : X) →
      record { room = room; items = around list first count } ≡ queue → length list ≡ room → count ≤ room →
      first ≤ room - 1 → count ≢ 0 → x ≡ get_or list first x →
      queue.items ≡ x ∷ drop 1 queue.items
  all_but_oldest queue list room first count x view whole fits starts some read =
      let held : (rest : List X) × (queue.items ≡ x ∷ rest) =
      oldest queue list room first count x view whole fits starts some read in
      held.1 ∙ ap (λ rest. x ∷ rest) (sym (ap (drop 1) held.1))

  -- a lent place leaves a ring as a ring is to be, whatever is left in it
  pub lent_fits : (queue : Queue X) (list : List X) (place room first count behind : ℕ) →
      record { room = room; items = around list first count } ≡ queue → length list ≡ room → count ≤ room →
      first ≤ room - 1 → (place ≡ first + count) ⊎ (place + room ≡ first + count) →
      length queue.items < queue.room → behind < room → (behind ≡ place + 1) ⊎ (behind + room ≡ place + 1) → (w : X) →
      (length (set list place w) ≡ room) × (count + 1 ≤ room) × (first ≤ room - 1) × (behind ≤ room - 1)
      × ((behind ≡ first + (count + 1)) ⊎ (behind + room ≡ first + (count + 1)))
  lent_fits queue list place room first count behind view whole fits starts at roomy within round w =
      let rooms : room ≡ queue.room = ap (λ (q : Queue X). q.room) view in
      let items : length (around list first count) ≡ length queue.items = ap (λ (q : Queue X). length q.items) view in
      let held : length (around list first count) ≡ count = length_around list first count (omega (arith, whole)) in
      let one_more : count < room = omega (arith, rooms, items, held, roomy) in (
        length-set list place w ∙ whole,
        omega (arith, one_more),
        starts,
        omega (arith, within),
        next_further first count room place behind starts one_more at round,
      )

  -- a link that holds something has a count of its own
  some_held : (queue : Queue X) (list : List X) (room first count : ℕ) →
      record { room = room; items = around list first count } ≡ queue → length list ≡ room → count ≤ room →
      0 < length queue.items → 0 < count
  some_held queue list room first count view whole fits some =
      let items : length (around list first count) ≡ length queue.items = ap (λ (q : Queue X). length q.items) view in
      let held : length (around list first count) ≡ count = length_around list first count (omega (arith, whole)) in
      omega (arith, items, held)

  -- whatever is left where the oldest item lay is the oldest
  pub head_lent : (queue : Queue X) (list : List X) (room first count : ℕ) →
      record { room = room; items = around list first count } ≡ queue → length list ≡ room → count ≤ room →
      first ≤ room - 1 → 0 < length queue.items → (w : X) →
      ◌≡◌ {A = Queue X} (record { room = room; items = around (set list first w) first count })
      (record { room = queue.room; items = w ∷ drop 1 queue.items })
  head_lent queue list room first count view whole fits starts some w =
      let held : 0 < count = some_held queue list room first count view whole fits some in
      let renewed : around (set list first w) first count ≡ w ∷ drop 1 (around list first count) =
      around_renewed list first count w held (omega (arith, whole)) (omega (arith, whole)) in
      let written : Queue X = record { room = room; items = around (set list first w) first count } in
      subst (λ (q : Queue X). written ≡ record { room = q.room; items = w ∷ drop 1 q.items }) view
      (ap (λ (xs : List X). record { room = room; items = xs }) renewed)

  -- and it is the oldest that is lent
  pub head_read : (queue : Queue X) (list : List X) (room first count : ℕ) (x : X) →
      record { room = room; items = around list first count } ≡ queue → length list ≡ room → count ≤ room →
      first ≤ room - 1 → 0 < length queue.items → x ≡ get_or list first x →
      queue.items ≡ x ∷ drop 1 queue.items
  head_read queue list room first count x view whole fits starts some read =
      let held : 0 < count = some_held queue list room first count view whole fits some in
      all_but_oldest queue list room first count x view whole fits starts (omega (arith, held)) read
