-- Which list of turns has a number: how the search for it goes on.
use Rattle.std.proofs.Common.{◌≡◌, ◌∙◌, refl, sym, ap, subst, ℕ, zero, suc, ◌<◌, ◌≤◌, ◌⊎◌, inl, inr, ◌+◌, ◌-◌, ◌*◌}
use Rattle.std.proofs.Common.{◌/◌, ◌%◌}
use Rattle.std.proofs.Common.{◌^◌, min, true, false, List, [], ◌∷◌, ◌++◌, arith, length, get_or, drop, Option, Some}
use Rattle.std.proofs.Common.{None}
use Rattle.std.specs.Prelude.{flat_map}
use Rattle.std.specs.List.{range_with_len}
use Rattle.std.proofs.Math.Nat.{div-eq_of_lt, div-lt_iff_lt-mul, mod-add-div, mod-eq_of_lt, mod-lt, mul-le-mul_left}
use Rattle.std.proofs.lemmas.List.{append-nil, append_assoc, at_drop_all, at_drop_more, get_or_append_left}
use Rattle.std.proofs.lemmas.List.{length-append}
use Rattle.turn_lists.specs.declared.actor.Actor.{Actor}
use Rattle.turn_lists.specs.declared.actor.Turn.{Turn}
use Rattle.turn_lists.specs.declared.few.TheConstants.{TURNS_MAX}
use Rattle.turn_lists.specs.Counts.{many_of}
use Rattle.turn_lists.specs.Few.{begun_by, few, few_lists, had_last, lists_of}
use Rattle.turn_lists.proofs.Blocks.{begun_at, begun_long, past_first}
use Rattle.turn_lists.proofs.ListCounts.{block, block_begun, block_had, lists_none, lists_step}

cases_le : (a b : ℕ) → (a ≤ b) ⊎ (b < a)
cases_le a b = grind arith

-- ---- numbers

-- as many as are counted, where the number lies past them
past_many : (k l each left c : ℕ) → each ≡ min l c → left < c → k * each ≤ left → k * l ≡ k * each
past_many k l each left c is small past = by k (cases_le l c) past
  where
    by : (j : ℕ) → (l ≤ c) ⊎ (c < l) → j * each ≤ left → j * l ≡ j * each
    by j (inl low) over = ap (λ (n : ℕ). j * n) (let same : l ≡ each = omega (arith, is) in same)
    by zero (inr high) over = omega arith
    by (suc j) (inr high) over = let same : each ≡ c = omega (arith, is) in absurd (omega (arith, same))

record Cut (left k l each : ℕ) : Type 0 where
  pub whole : left ≡ left / each * l + left % each
  pub rest : left % each < l
  pub first : left / each < k

cut_up : (k l each left c : ℕ) → each ≡ min l c → left < c → left < k * each → Cut left k l each
cut_up k l each left c is small within = by (cases_le l c)
  where
    some : 0 < each
    some = positive k each within
      where
        positive : (j e : ℕ) → left < j * e → 0 < e
        positive j zero h = absurd (omega arith)
        positive j (suc e) h = omega arith

    by : (l ≤ c) ⊎ (c < l) → Cut left k l each
    by (inl low) =
        let same : each ≡ l = omega (arith, is) in
        let all = mod-add-div left each in
        let below : left % each < each = mod-lt left some in
        let first : left / each < k = (div-lt_iff_lt-mul some).1 within in
        let whole : left ≡ left / each * each + left % each = omega (arith, all) in
        record {
          whole = subst (λ (n : ℕ). left ≡ left / each * n + left % each) same whole;
          rest = omega (arith, below, same);
          first = first;
        }
    by (inr high) =
        let same : each ≡ c = omega (arith, is) in
        let below : left < each = omega (arith, same) in
        let none : left / each ≡ 0 = div-eq_of_lt below in
        let whole : left % each ≡ left = mod-eq_of_lt below in
        record {
          whole = rw (none, whole) (omega arith);
          rest = omega (arith, whole);
          first = (div-lt_iff_lt-mul some).1 within;
        }

below_all : (left q r k l : ℕ) → left ≡ q * l + r → r < l → q < k → left < k * l
below_all left q r k l whole rest first =
    let most : l * (q + 1) ≤ l * k = mul-le-mul_left l (omega arith) in
    omega (arith, whole, rest, most)

cut_within : {left k l each : ℕ} → Cut left k l each → left < k * l
cut_within {left = left} {k = k} {l = l} {each = each} cut =
    below_all left (left / each) (left % each) k l cut.whole cut.rest cut.first

rest_small : (left front rest : ℕ) → left ≡ front + rest → left < 2 ^ 64 → rest < 2 ^ 64
rest_small left front rest is small = omega arith

-- ---- the first turn

-- the list stands so far on among those that the actors from place i on begin
pub record Seeks (greatest : List Turn) (after : ℕ) (last : Option Actor) (number left i : ℕ) : Type 0 where
  pub small : left < 2 ^ 64
  pub within : left < length (flat_map (block greatest after last) (drop i greatest))
  pub same :
      get_or (flat_map (block greatest after last) (drop i greatest)) left []
      ≡ get_or (lists_of greatest (suc after) last) number []

pub seeks_first : (greatest : List Turn) (after : ℕ) (last : Option Actor) (number : ℕ) → number < 2 ^ 64 →
    number < length (lists_of greatest (suc after) last) →
    Seeks greatest after last number number 0
seeks_first greatest after last number small within = record {
  small = small;
  within = subst (λ (ls : List (List Turn)). number < length ls) (lists_step greatest after last) within;
  same = ap (λ (ls : List (List Turn)). get_or ls number []) (sym (lists_step greatest after last));
}

module _ (greatest : List Turn) (after : ℕ) (last : Option Actor) (number left i : ℕ) (d : Turn)
    (here : i < length greatest) (s : Seeks greatest after last number left i) where
  pub seeks_had : had_last last (get_or greatest i d).actor ≡ true → Seeks greatest after last number left (i + 1)
  seeks_had had =
      let gone : flat_map (block greatest after last) (drop i greatest)
      ≡ flat_map (block greatest after last) (drop (i + 1) greatest) =
      at_drop_more (flat_map (block greatest after last)) greatest i d here
      ∙ ap (λ (ls : List (List Turn)). ls ++ flat_map (block greatest after last) (drop (i + 1) greatest))
      (block_had greatest after last (get_or greatest i d) had) in
      record {
        small = s.small;
        within = subst (λ (ls : List (List Turn)). left < length ls) gone s.within;
        same = ap (λ (ls : List (List Turn)). get_or ls left []) (sym gone) ∙ s.same;
      }

  begun : had_last last (get_or greatest i d).actor ≡ false →
      flat_map (block greatest after last) (drop i greatest)
      ≡ begun_by (get_or greatest i d) (lists_of greatest after (Some (get_or greatest i d).actor))
      ++ flat_map (block greatest after last) (drop (i + 1) greatest)
  begun had =
      at_drop_more (flat_map (block greatest after last)) greatest i d here
      ∙ ap (λ (ls : List (List Turn)). ls ++ flat_map (block greatest after last) (drop (i + 1) greatest))
      (block_begun greatest after last (get_or greatest i d) had)

  pub seeks_past : (each : ℕ) → had_last last (get_or greatest i d).actor ≡ false →
      each ≡ many_of greatest after (Some (get_or greatest i d).actor) →
      (get_or greatest i d).count * each ≤ left →
      Seeks greatest after last number (left - (get_or greatest i d).count * each) (i + 1)
  seeks_past each had is past =
      let rests = lists_of greatest after (Some (get_or greatest i d).actor) in
      let gone = begun had in
      let many : (get_or greatest i d).count * length rests ≡ (get_or greatest i d).count * each =
      past_many (get_or greatest i d).count (length rests) each left (2 ^ 64) is s.small past in
      let long : length (begun_by (get_or greatest i d) rests) ≡ (get_or greatest i d).count * each =
      begun_long (get_or greatest i d) rests ∙ many in
      let within : left < length (begun_by (get_or greatest i d) rests ++ flat_map (block greatest after last)
      (drop (i + 1) greatest)) =
      subst (λ (ls : List (List Turn)). left < length ls) gone s.within in
      let both = length-append (begun_by (get_or greatest i d) rests) (flat_map (block greatest after last)
      (drop (i + 1) greatest)) in
      record {
        small = (let small = s.small in omega (arith, small));
        within = omega (arith, within, both, long, past);
        same = sym (past_first (begun_by (get_or greatest i d) rests)
            (flat_map (block greatest after last) (drop (i + 1) greatest)) left
            ((get_or greatest i d).count * each) [] long past)
            ∙ ap (λ (ls : List (List Turn)). get_or ls left []) (sym gone) ∙ s.same;
      }

  -- the list is among those that this actor begins
  pub record Found (each : ℕ) : Type 0 where
    pub small : left % each < 2 ^ 64
    pub within : left % each < length (lists_of greatest after (Some (get_or greatest i d).actor))
    pub list :
        get_or (lists_of greatest (suc after) last) number []
        ≡ record (get_or greatest i d) { count = left / each + 1 }
        ∷ get_or (lists_of greatest after (Some (get_or greatest i d).actor)) (left % each) []

  pub found : (each : ℕ) → had_last last (get_or greatest i d).actor ≡ false →
      each ≡ many_of greatest after (Some (get_or greatest i d).actor) →
      left < (get_or greatest i d).count * each → Found each
  found each had is here_it =
      let rests = lists_of greatest after (Some (get_or greatest i d).actor) in
      let cut = cut_up (get_or greatest i d).count (length rests) each left (2 ^ 64) is s.small here_it in
      let long = begun_long (get_or greatest i d) rests in
      let row = begun_at (get_or greatest i d) rests (left / each) (left % each) cut.first cut.rest in
      let near : left < length (begun_by (get_or greatest i d) rests) = (let small = cut_within cut in
      omega (arith, long, small)) in
      record {
        small = (let whole = cut.whole in let small = s.small in rest_small left (left / each * length rests)
            (left % each) whole small);
        within = cut.rest;
        list = sym s.same ∙ ap (λ (ls : List (List Turn)). get_or ls left []) (begun had)
            ∙ get_or_append_left (begun_by (get_or greatest i d) rests)
            (flat_map (block greatest after last) (drop (i + 1) greatest)) [] left near
            ∙ ap (λ (n : ℕ). get_or (begun_by (get_or greatest i d) rests) n []) cut.whole ∙ row;
      }

-- past the last actor there is none to seek
pub seeks_end : (greatest : List Turn) (after : ℕ) (last : Option Actor) (number left i : ℕ) →
    Seeks greatest after last number left i → length greatest ≤ i → ⊥
seeks_end greatest after last number left i s past =
    let none = at_drop_all (flat_map (block greatest after last)) greatest i past in
    let within : left < 0 = subst (λ (ls : List (List Turn)). left < length ls) none s.within in
    absurd (omega arith)

-- ---- a list, turn by turn

-- the turns that were made, and where the rest stands among those that may follow
pub record Builds (greatest : List Turn) (turns number : ℕ) (list : List Turn) (last : Option Actor) (left rest : ℕ)
    : Type 0 where
  pub small : left < 2 ^ 64
  pub within : left < length (lists_of greatest rest last)
  pub whole :
      list ++ get_or (lists_of greatest rest last) left [] ≡ get_or (lists_of greatest turns None) number []

pub builds_first : (greatest : List Turn) (turns number : ℕ) → number < 2 ^ 64 →
    number < length (lists_of greatest turns None) →
    Builds greatest turns number [] None number turns
builds_first greatest turns number small within = record { small = small; within = within; whole = refl }

pub builds_more : (greatest : List Turn) (turns number : ℕ) (list : List Turn) (last : Option Actor)
    (left rest after : ℕ) (turn : Turn) (next : ℕ) → Builds greatest turns number list last left rest →
    rest ≡ suc after → next < 2 ^ 64 → next < length (lists_of greatest after (Some turn.actor)) →
    get_or (lists_of greatest (suc after) last) left []
    ≡ turn ∷ get_or (lists_of greatest after (Some turn.actor)) next [] →
    Builds greatest turns number (list ++ turn ∷ []) (Some turn.actor) next after
builds_more greatest turns number list last left rest after turn next b is small within found = record {
  small = small;
  within = within;
  whole = append_assoc list (turn ∷ []) (get_or (lists_of greatest after (Some turn.actor)) next [])
      ∙ ap (λ (us : List Turn). list ++ us)
      (sym found ∙ ap (λ (k : ℕ). get_or (lists_of greatest k last) left []) (sym is))
      ∙ b.whole;
}

pub builds_last : (greatest : List Turn) (turns number : ℕ) (list : List Turn) (last : Option Actor) (left rest : ℕ) →
    Builds greatest turns number list last left rest → rest ≡ 0 →
    list ≡ get_or (lists_of greatest turns None) number []
builds_last greatest turns number list last left rest b is =
    let none : lists_of greatest rest last ≡ [] ∷ [] =
    ap (λ (k : ℕ). lists_of greatest k last) is ∙ lists_none greatest last in
    let within : left < 1 = subst (λ (ls : List (List Turn)). left < length ls) none b.within in
    let zero_is : left ≡ 0 = omega arith in
    sym (append-nil list)
    ∙ ap (λ (us : List Turn). list ++ us) (sym (ap (λ (ls : List (List Turn)). get_or ls left []) none
    ∙ ap (λ (n : ℕ). get_or ([] ∷ []) n []) zero_is)) ∙ b.whole

-- ---- the number of turns

-- the list is among those of so many turns or more
pub record Counts (greatest : List Turn) (number left turns : ℕ) : Type 0 where
  pub small : left < 2 ^ 64
  pub few_turns : turns ≤ suc TURNS_MAX
  pub same :
      get_or (flat_map (λ (t : ℕ). lists_of greatest t None) (range_with_len turns (suc TURNS_MAX - turns))) left []
      ≡ few greatest number

pub counts_first : (greatest : List Turn) (number : ℕ) → number < 2 ^ 64 → Counts greatest number number 0
unfolding few_lists
counts_first greatest number small = record { small = small; few_turns = omega arith; same = refl }

range_step : (turns : ℕ) → turns < suc TURNS_MAX →
    range_with_len turns (suc TURNS_MAX - turns) ≡ turns ∷ range_with_len (turns + 1) (suc TURNS_MAX - (turns + 1))
range_step turns within =
    ap (range_with_len turns) (let is : suc TURNS_MAX - turns ≡ suc (suc TURNS_MAX - (turns + 1)) = omega arith in is)

-- it is one of so many turns
pub counts_here : (greatest : List Turn) (number left turns : ℕ) → Counts greatest number left turns →
    turns < suc TURNS_MAX → left < many_of greatest turns None →
    (left < length (lists_of greatest turns None))
    × (get_or (lists_of greatest turns None) left [] ≡ few greatest number)
counts_here greatest number left turns s within here =
    let near : left < length (lists_of greatest turns None) = omega arith in (
      near,
      sym (get_or_append_left (lists_of greatest turns None) (flat_map (λ (t : ℕ). lists_of greatest t None)
          (range_with_len (turns + 1) (suc TURNS_MAX - (turns + 1)))) [] left near)
          ∙ sym (ap (λ (ts : List ℕ). get_or (flat_map (λ (t : ℕ). lists_of greatest t None) ts) left [])
          (range_step turns within)) ∙ s.same,
    )

-- it is one of more turns
pub counts_past : (greatest : List Turn) (number left turns : ℕ) → Counts greatest number left turns →
    turns < suc TURNS_MAX → many_of greatest turns None ≤ left →
    Counts greatest number (left - many_of greatest turns None) (turns + 1)
counts_past greatest number left turns s within past =
    let small = s.small in
    let all : length (lists_of greatest turns None) ≡ many_of greatest turns None = omega (arith, small) in
    record {
      small = omega (arith, small);
      few_turns = omega arith;
      same = sym (past_first (lists_of greatest turns None) (flat_map (λ (t : ℕ). lists_of greatest t None)
          (range_with_len (turns + 1) (suc TURNS_MAX - (turns + 1)))) left (many_of greatest turns None) [] all past)
          ∙ sym (ap (λ (ts : List ℕ). get_or (flat_map (λ (t : ℕ). lists_of greatest t None) ts) left [])
          (range_step turns within)) ∙ s.same;
    }

pub counts_end : (greatest : List Turn) (number left turns : ℕ) → Counts greatest number left turns →
    suc TURNS_MAX ≤ turns → [] ≡ few greatest number
counts_end greatest number left turns s past =
    let none : suc TURNS_MAX - turns ≡ 0 = omega arith in
    sym (ap (λ (k : ℕ). get_or (flat_map (λ (t : ℕ). lists_of greatest t None) (range_with_len turns k)) left []) none)
    ∙ s.same
