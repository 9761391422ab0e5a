-- A text is read as turns exactly where it is the text of these turns.
use Rattle.std.proofs.Common.{◌≡◌, ◌≢◌, ◌∙◌, refl, sym, ap, subst, ℕ, zero, suc, ◌+◌, ◌<◌, ◌≤◌, ◌^◌, List, [], ◌∷◌}
use Rattle.std.proofs.Common.{◌++◌, arith, Bool, true, false, cond, eqb, length, get_or, map, MatchOption, Option, Some}
use Rattle.std.proofs.Common.{None, decimal, IfOk, IfSome, Result, Ok, Err}
use Rattle.std.specs.Prelude.{◌-◌, codes, not, nat_le, nat_lt, drop, take, ◌&&◌}
use Rattle.std.specs.Char.{is_ascii_digit}
use Rattle.std.specs.List.{All, after_first, before_first, join_with_byte, list_all, position_or_len, slice_split}
use Rattle.std.specs.Option.{option_map, option_or}
use Rattle.std.specs.Str.{bytes_eq}
use Rattle.std.specs.Str.Parse.{digits_value}
use Rattle.std.proofs.lemmas.Bool.{and_from, eq-eqb, eqb-true, le-leb, lt-ltb}
use Rattle.std.proofs.lemmas.Bool.Decides.{nat_tests}
use Rattle.std.proofs.lemmas.Fmt.{decimal-digits_value}
use Rattle.std.proofs.lemmas.List.{append-nil, length-append}
use Rattle.std.proofs.Math.Seq.{drop-append-add, take-append_seam}
use Rattle.std.proofs.lemmas.List.Splits.{join_with_byte-slice_split, length-slice_split, slice_split_at}
use Rattle.std.proofs.lemmas.List.Splits.{slice_split_none}
use Rattle.std.proofs.lemmas.List.Sums.{passes_at_first, split_at_first}
use Rattle.std.proofs.lemmas.Slice.Eq.{bytes_eq-Decides}
use Rattle.rtr_types.specs.declared.TheConstants.{CORES_MAX}
use Rattle.tool_words.specs.Numerals.{is_numeral, number_between}
use Rattle.tool_words.proofs.Chains.{if-some}
use Rattle.turn_lists.specs.Actors.{core_of as core_number, is_actor}
use Rattle.turn_lists.specs.declared.actor.Actor.{Actor}
use Rattle.turn_lists.specs.declared.actor.Actor.TheVariants.{Buffer, Core}
use Rattle.turn_lists.specs.declared.actor.TheConstants.{COUNT_MAX}
use Rattle.turn_lists.specs.declared.actor.Turn.{Turn}
use Rattle.turn_lists.specs.Texts.{are_turns, is_turn, spelled_actor, spelled_more, spelled_turn, spelled_turns}
use Rattle.turn_lists.proofs.NumeralLemmas.{own}
use Rattle.turn_lists.proofs.ReadingPlaces.{and_left, and_right}
use Rattle.turn_lists.proofs.SpelledOnce.{spelled_once}
use Rattle.turn_lists.proofs.TextLemmas.{actor_lacks, decimal_lacks, is_turn_core, lacks, turn_lacks}
use Rattle.end_claims.specs.Numbers.{◌>>=◌, behind, parted}
use Rattle.end_claims.specs.Reading.{core_of, each}
use Rattle.hunt_words.specs.TurnTexts.{actor_named, buffer_named, turn_named, turns_named}
use Rattle.hunt_words.proofs.NumberLines.{between-decimal}

-- ---- numbers

digits-of : (text : List ℕ) → is_numeral text ≡ true → list_all is_ascii_digit text ≡ true
digits-of text h = grind (arith, nat_tests)

some-digit : (text : List ℕ) → is_numeral text ≡ true → 0 < length text
some-digit text h = grind (arith, nat_tests)

plain-digits : (text : List ℕ) → is_numeral text ≡ true → get_or text 0 0 ≡ 48 → length text ≡ 1
plain-digits text h = λ e. grind (arith, nat_tests)

-- a text that is read as a number is the number's text
pub record IsNumber (least most n : ℕ) (text : List ℕ) : Type 0 where
  pub low : least ≤ n
  pub high : n ≤ most
  pub text_is : text ≡ decimal n

pub number-is : (least most n : ℕ) (text : List ℕ) → most < 2 ^ 64 → number_between least most text ≡ Some n
    → IsNumber least most n text
unfolding number_between
number-is least most n text small h =
    let v : ℕ = digits_value 10 text in
    let parts = if-some (is_numeral text && nat_le least v && nat_le v most) (Some v) n h in
    let numeral : is_numeral text ≡ true = grind (arith, nat_tests, parts.0) in
    let low : least ≤ v = grind (arith, nat_tests, parts.0) in
    let high : v ≤ most = grind (arith, nat_tests, parts.0) in
    let value : v ≡ n = cc in
    record {
      low = omega arith;
      high = omega arith;
      text_is = sym (decimal-digits_value own text (digits-of text numeral) (some-digit text numeral)
          (plain-digits text numeral) (omega arith)) ∙ ap decimal value;
    }

-- ---- what stands around a byte

position-lacks : (c : ℕ) (front back : List ℕ) → lacks c front ≡ true
    → position_or_len (λ b. eqb b c) (front ++ c ∷ back) ≡ length front
position-lacks c [] back h = ap (λ (yes : Bool). cond (not yes) (1 + position_or_len (λ b. eqb b c) back) 0)
    (eq-eqb c c refl)
position-lacks c (x ∷ front) back h =
    let rest = position-lacks c front back (grind (arith, nat_tests)) in
    let other : eqb x c ≡ false = grind (arith, nat_tests) in
    let one-more : 1 + length front ≡ length (x ∷ front) = omega arith in
    ap (λ (yes : Bool). cond (not yes) (1 + position_or_len (λ b. eqb b c) (front ++ c ∷ back)) 0) other
    ∙ ap (λ (n : ℕ). 1 + n) rest ∙ one-more

parted-at : (c : ℕ) (front back : List ℕ) → lacks c front ≡ true → parted c (front ++ c ∷ back) ≡ Some (front, back)
parted-at c front back h =
    let text : List ℕ = front ++ c ∷ back in
    let place : ℕ = position_or_len (λ b. eqb b c) text in
    let at : place ≡ length front = position-lacks c front back h in
    let long : length text ≡ length front + length (c ∷ back) = length-append front (c ∷ back) in
    let within : nat_lt place (length text) ≡ true = lt-ltb place (length text) (omega (arith, at, long)) in
    let before : take place text ≡ front = ap (λ (n : ℕ). take n text) at ∙ take-append_seam front (c ∷ back) in
    let after : drop (place + 1) text ≡ back =
    ap (λ (n : ℕ). drop (n + 1) text) at ∙ drop-append-add front (c ∷ back) 1 in
    ap (λ (yes : Bool). cond yes (Some (take place text, drop (place + 1) text)) None) within
    ∙ (λ i. Some (before i, after i))

position-none : (c : ℕ) (text : List ℕ) → lacks c text ≡ true → position_or_len (λ b. eqb b c) text ≡ length text
position-none c [] h = refl
position-none c (x ∷ text) h =
    let rest = position-none c text (grind (arith, nat_tests)) in
    let other : eqb x c ≡ false = grind (arith, nat_tests) in
    let one-more : 1 + length text ≡ length (x ∷ text) = omega arith in
    ap (λ (yes : Bool). cond (not yes) (1 + position_or_len (λ b. eqb b c) text) 0) other
    ∙ ap (λ (n : ℕ). 1 + n) rest ∙ one-more

parted-none : (c : ℕ) (text : List ℕ) → lacks c text ≡ true → parted c text ≡ None
parted-none c text h =
    let p : ℕ → Bool = λ b. eqb b c in
    let at : position_or_len p text ≡ length text = position-none c text h in
    let past : nat_lt (position_or_len p text) (length text) ≡ false = grind (arith, nat_tests, at) in
    ap (λ (yes : Bool). cond yes (Some (before_first p text, after_first p text)) None) past

parted-is : (c : ℕ) (text front back : List ℕ) → parted c text ≡ Some (front, back) → text ≡ front ++ c ∷ back
parted-is c text front back h =
    let p : ℕ → Bool = λ b. eqb b c in
    let place : ℕ = position_or_len p text in
    let parts = if-some (nat_lt place (length text)) (Some (before_first p text, after_first p text)) (front, back) h in
    let within : place < length text = grind (arith, nat_tests, parts.0) in
    let here : get_or text place 0 ≡ c = eqb-true (get_or text place 0) c (passes_at_first p text 0 within) in
    let both : (before_first p text, after_first p text) ≡ (front, back) = cc in
    let front-is : before_first p text ≡ front =
    ap (λ (x : List ℕ × List ℕ). x.0) {x = (before_first p text, after_first p text)} {y = (front, back)} both in
    let back-is : after_first p text ≡ back =
    ap (λ (x : List ℕ × List ℕ). x.1) {x = (before_first p text, after_first p text)} {y = (front, back)} both in
    split_at_first p text 0 within ∙ (λ i. front-is i ++ here i ∷ back-is i)

-- what stands behind a byte that the text begins with
behind-is : (c : ℕ) (text rest : List ℕ) → behind [] c text ≡ Some rest → text ≡ c ∷ rest
unfolding behind
behind-is c text rest h = by (parted c text) refl h
  where
    by : (o : Option (List ℕ × List ℕ)) → parted c text ≡ o
        → (o >>= λ parts. cond (bytes_eq parts.0 []) (Some parts.1) None) ≡ Some rest → text ≡ c ∷ rest
    by None e k = absurd (cc)
    by (Some parts) e k =
        let both = if-some (bytes_eq parts.0 []) (Some parts.1) rest k in
        let front : parts.0 ≡ [] = (bytes_eq-Decides parts.0 []).0 both.0 in
        let back : parts.1 ≡ rest = cc in
        parted-is c text parts.0 parts.1 e ∙ (λ i. front i ++ c ∷ back i)

-- ---- actors

core-is : (digits : List ℕ) (c : ℕ) → core_of digits ≡ Some c → (c < CORES_MAX) × (digits ≡ decimal c)
core-is digits c h =
    let n = number-is 0 (CORES_MAX - 1) c digits (omega arith) h in
    (omega (arith, n.high), n.text_is)

core-read : (c : ℕ) → c < CORES_MAX → core_of (decimal c) ≡ Some c
core-read c h = between-decimal 0 (CORES_MAX - 1) c (omega arith) (omega arith) (omega arith)

-- the text is that of this actor, which there may be
abbrev IsActorText : (text : List ℕ) → Actor → Type 0
IsActorText text a = (is_actor a ≡ true) × (text ≡ spelled_actor a)

buffer-is : (text : List ℕ) (a : Actor) → buffer_named text ≡ Some a → IsActorText text a
unfolding buffer_named
buffer-is text a h = by (behind [] 119 text) refl h
  where
    at : (digits : List ℕ) (o : Option ℕ) → text ≡ 119 ∷ digits → core_of digits ≡ o
        → (o >>= λ core. Some (Buffer core)) ≡ Some a → IsActorText text a
    at digits None cut e k = absurd (cc)
    at digits (Some c) cut e k =
        let core = core-is digits c e in
        let same : Buffer c ≡ a = cc in
        subst (IsActorText text) same (lt-ltb c CORES_MAX core.0, cut ∙ ap (λ (ds : List ℕ). 119 ∷ ds) core.1)

    by : (o : Option (List ℕ)) → behind [] 119 text ≡ o
        → (o >>= λ digits. core_of digits >>= λ core. Some (Buffer core)) ≡ Some a → IsActorText text a
    by None e k = absurd (cc)
    by (Some digits) e k = at digits (core_of digits) (behind-is 119 text digits e) refl k

actor-is : (text : List ℕ) (a : Actor) → actor_named text ≡ Some a → IsActorText text a
actor-is text a h = by (buffer_named text) refl h
  where
    at : (o : Option ℕ) → core_of text ≡ o → option_map (λ core. Core core) o ≡ Some a → IsActorText text a
    at None e k = absurd (cc)
    at (Some c) e k =
        let core = core-is text c e in
        let same : Core c ≡ a = cc in
        subst (IsActorText text) same (lt-ltb c CORES_MAX core.0, core.1)

    by : (o : Option Actor) → buffer_named text ≡ o
        → option_or o (option_map (λ core. Core core) (core_of text)) ≡ Some a → IsActorText text a
    by None e k = at (core_of text) refl k
    by (Some b) e k = let same : b ≡ a = cc in subst (IsActorText text) same (buffer-is text b e)

no-buffer-read : (c : ℕ) → c < CORES_MAX → buffer_named (decimal c) ≡ None
unfolding buffer_named behind
no-buffer-read c h = rw (parted-none 119 (decimal c) (decimal_lacks 119 c refl (omega arith))) refl

buffer-read : (c : ℕ) → c < CORES_MAX → buffer_named (119 ∷ decimal c) ≡ Some (Buffer c)
unfolding buffer_named behind
buffer-read c h = rw (parted-at 119 [] (decimal c) refl, core-read c h) refl

actor-read : (a : Actor) → core_number a < CORES_MAX → actor_named (spelled_actor a) ≡ Some a
actor-read (Core c) h = rw (no-buffer-read c h, core-read c h) refl
actor-read (Buffer c) h = rw (buffer-read c h) refl

-- ---- turns

-- the text is that of this turn, which there may be
abbrev IsTurnText : (text : List ℕ) → Turn → Type 0
IsTurnText text t = (is_turn t ≡ true) × (text ≡ spelled_turn t)

turn-is : (text : List ℕ) (t : Turn) → turn_named text ≡ Some t → IsTurnText text t
unfolding turn_named
turn-is text t h = by (parted 42 text) refl h
  where
    made : (back : List ℕ) (a : Actor) (o : Option ℕ) (front : List ℕ) → text ≡ front ++ 42 ∷ back
        → IsActorText front a → number_between 1 COUNT_MAX back ≡ o
        → (o >>= λ count. Some (record { actor = a; count = count })) ≡ Some t → IsTurnText text t
    made back a None front cut are e k = absurd (cc)
    made back a (Some n) front cut are e k =
        let number = number-is 1 COUNT_MAX n back (omega arith) e in
        let turn : Turn = record { actor = a; count = n } in
        let same : turn ≡ t = cc in
        let fits : is_turn turn ≡ true =
        and_from _ _ (and_from _ _ are.0 (le-leb 1 n number.low)) (le-leb n COUNT_MAX number.high) in
        let front-is = are.1 in
        let back-is = number.text_is in
        subst (IsTurnText text) same (fits, cut ∙ (λ i. front-is i ++ 42 ∷ back-is i))

    at : (front back : List ℕ) (o : Option Actor) → text ≡ front ++ 42 ∷ back → actor_named front ≡ o
        → (o >>= λ actor. number_between 1 COUNT_MAX back >>= λ count. Some (record { actor = actor; count = count }))
        ≡ Some t → IsTurnText text t
    at front back None cut e k = absurd (cc)
    at front back (Some a) cut e k = made back a (number_between 1 COUNT_MAX back) front cut (actor-is front a e) refl k

    by : (o : Option (List ℕ × List ℕ)) → parted 42 text ≡ o
        → (o >>= λ parts. actor_named parts.0 >>= λ actor. number_between 1 COUNT_MAX parts.1 >>= λ count.
        Some (record { actor = actor; count = count })) ≡ Some t → IsTurnText text t
    by None e k = absurd (cc)
    by (Some parts) e k =
        at parts.0 parts.1 (actor_named parts.0) (parted-is 42 text parts.0 parts.1 e) refl k

turn-read : (t : Turn) → is_turn t ≡ true → turn_named (spelled_turn t) ≡ Some t
unfolding turn_named
turn-read t h =
    let some : 1 ≤ t.count = grind (arith, nat_tests) in
    let few : t.count ≤ COUNT_MAX = grind (arith, nat_tests) in
    rw (
      parted-at 42 (spelled_actor t.actor) (decimal t.count) (actor_lacks 42 t.actor (omega arith) (is_turn_core t h)),
      actor-read t.actor (is_turn_core t h),
      between-decimal 1 COUNT_MAX t.count some few (omega arith),
    ) refl

-- the texts are those of these turns
abbrev AreTurnTexts : (texts : List (List ℕ)) → List Turn → Type 0
AreTurnTexts texts ts = (are_turns ts ≡ true) × (texts ≡ map spelled_turn ts)

each-is : (texts : List (List ℕ)) (ts : List Turn) → each turn_named texts ≡ Some ts → AreTurnTexts texts ts
each-is [] ts h = let none : [] ≡ ts = cc in subst (AreTurnTexts []) none (refl, refl)
each-is (text ∷ texts) ts h = by (turn_named text) (λ more e. each-is texts more e) refl h
  where
    Rest : Type 0
    Rest = (more : List Turn) → each turn_named texts ≡ Some more → AreTurnTexts texts more

    made : (t : Turn) (o : Option (List Turn)) → Rest → IsTurnText text t → each turn_named texts ≡ o
        → option_map (λ more. t ∷ more) o ≡ Some ts → AreTurnTexts (text ∷ texts) ts
    made t None rests is e k = absurd (cc)
    made t (Some more) rests is e k =
        let rest = rests more e in
        let same : t ∷ more ≡ ts = cc in
        let first-is = is.1 in
        let rest-are = rest.1 in
        subst (AreTurnTexts (text ∷ texts)) same (and_from _ _ is.0 rest.0, λ i. first-is i ∷ rest-are i)

    by : (o : Option Turn) → Rest → turn_named text ≡ o
        → (o >>= λ t. option_map (λ more. t ∷ more) (each turn_named texts)) ≡ Some ts → AreTurnTexts (text ∷ texts) ts
    by None rests e k = absurd (cc)
    by (Some t) rests e k = made t (each turn_named texts) rests (turn-is text t e) refl k

each-read : (ts : List Turn) → are_turns ts ≡ true → each turn_named (map spelled_turn ts) ≡ Some ts
each-read [] h = refl
each-read (t ∷ ts) h =
    rw (turn-read t (and_left (is_turn t) (are_turns ts) h), each-read ts (and_right (is_turn t) (are_turns ts) h)) refl

-- ---- lists of turns

all-lack : (c : ℕ) (bs : List ℕ) → lacks c bs ≡ true → (k d : ℕ) → k < length bs → eqb (get_or bs k d) c ≡ false
all-lack c [] h k d within = absurd (omega arith)
all-lack c (b ∷ bs) h zero d within = grind (arith, nat_tests)
all-lack c (b ∷ bs) h (suc k) d within = all-lack c bs (grind (arith, nat_tests)) k d (omega arith)

no-comma : (t : Turn) → is_turn t ≡ true → All (λ b. eqb b 44 ≡ false) (spelled_turn t)
no-comma t h = all-lack 44 (spelled_turn t) (turn_lacks 44 t (omega arith) (omega arith) h)

split-spelled : (t : Turn) (ts : List Turn) → is_turn t ≡ true → are_turns ts ≡ true →
    slice_split (λ b. eqb b 44) (spelled_turn t ++ spelled_more ts) ≡ map spelled_turn (t ∷ ts)
split-spelled t [] fits fit =
    ap (slice_split (λ b. eqb b 44)) (append-nil (spelled_turn t))
    ∙ slice_split_none (λ b. eqb b 44) (spelled_turn t) (no-comma t fits)
split-spelled t (u ∷ us) fits fit =
    slice_split_at (λ b. eqb b 44) (spelled_turn t) 44 (spelled_turn u ++ spelled_more us) (no-comma t fits) refl
    ∙ ap (λ (more : List (List ℕ)). spelled_turn t ∷ more)
    (split-spelled u us (and_left (is_turn u) (are_turns us) fit) (and_right (is_turn u) (are_turns us) fit))

join-spelled : (t : Turn) (ts : List Turn)
    → join_with_byte 44 (map spelled_turn (t ∷ ts)) ≡ spelled_turn t ++ spelled_more ts
join-spelled t [] = sym (append-nil (spelled_turn t))
join-spelled t (u ∷ us) = ap (λ (more : List ℕ). spelled_turn t ++ 44 ∷ more) (join-spelled u us)

-- the turns that a text is read as have the text
abbrev AreTurnsOf : (text : List ℕ) → List Turn → Type 0
AreTurnsOf text ts = (are_turns ts ≡ true) × (text ≡ spelled_turns ts)

pieces-are : (text : List ℕ) (ts : List Turn) → AreTurnTexts (slice_split (λ b. eqb b 44) text) ts → AreTurnsOf text ts
unfolding spelled_turns
pieces-are text [] are =
    let some = length-slice_split (λ b. eqb b 44) text in
    let none : length (slice_split (λ b. eqb b 44) text) ≡ 0 = ap length are.1 in
    absurd (omega (arith, some, none))
pieces-are text (t ∷ ts) are =
    (are.0, sym (join_with_byte-slice_split 44 text) ∙ ap (join_with_byte 44) are.1 ∙ join-spelled t ts)

turns-are : (text : List ℕ) (ts : List Turn) → turns_named text ≡ Some ts → AreTurnsOf text ts
unfolding turns_named spelled_turns
turns-are text ts h = by (bytes_eq text (codes "-")) refl h
  where
    by : (b : Bool) → bytes_eq text (codes "-") ≡ b
        → cond b (Some []) (each turn_named (slice_split (λ b. eqb b 44) text)) ≡ Some ts → AreTurnsOf text ts
    by true e k =
        let none : [] ≡ ts = cc in
        subst (AreTurnsOf text) none (refl, (bytes_eq-Decides text (codes "-")).0 e)
    by false e k = pieces-are text ts (each-is (slice_split (λ b. eqb b 44) text) ts k)

turns-read : (ts : List Turn) → are_turns ts ≡ true → turns_named (spelled_turns ts) ≡ Some ts
unfolding turns_named spelled_turns
turns-read [] h = refl
turns-read (t ∷ ts) h = by (bytes_eq text (codes "-")) refl
  where
    text : List ℕ
    text = spelled_turn t ++ spelled_more ts

    by : (b : Bool) → bytes_eq text (codes "-") ≡ b
        → cond b (Some []) (each turn_named (slice_split (λ b. eqb b 44) text)) ≡ Some (t ∷ ts)
    by true e =
        let dash : text ≡ codes "-" = (bytes_eq-Decides text (codes "-")).0 e in
        let none : length (t ∷ ts) ≡ 0 = ap length (spelled_once (t ∷ ts) [] h refl dash) in
        absurd (omega (arith, none))
    by false e =
        ap (each turn_named) (split-spelled t ts (and_left (is_turn t) (are_turns ts) h)
        (and_right (is_turn t) (are_turns ts) h)) ∙ each-read (t ∷ ts) h

-- who answers the turns whose text it is, and none where it is no turns' text, answers what is read
pub turns-are-read : (text : List ℕ) (r : Option (List Turn)) →
    MatchOption r ((ts : List Turn) → are_turns ts ≡ true → text ≢ spelled_turns ts)
    (λ ts. (are_turns ts ≡ true) × (text ≡ spelled_turns ts)) → r ≡ turns_named text
turns-are-read text None none = by (turns_named text) refl
  where
    by : (o : Option (List Turn)) → turns_named text ≡ o → None ≡ turns_named text
    by None e = sym e
    by (Some ts) e = let are = turns-are text ts e in absurd (none ts are.0 are.1)
turns-are-read text (Some ts) some = sym (ap turns_named some.1 ∙ turns-read ts some.0)

-- the same of an answer that want of memory may take the place of
abbrev pub ReadsTurns : (text : List ℕ) → Option (List Turn) → Type 0
ReadsTurns text r =
    MatchOption r ((ts : List Turn) → are_turns ts ≡ true → text ≢ spelled_turns ts)
    (λ ts. (are_turns ts ≡ true) × (text ≡ spelled_turns ts))

pub turns-of-read : {E : Type 0} (text : List ℕ) (r : Result (Option (List Turn)) E) → IfOk r (ReadsTurns text) →
    IfOk r (λ turns. turns ≡ turns_named text)
turns-of-read text (Ok read) h = turns-are-read text read h
turns-of-read text (Err e) h = tt

pub turns-of-fit : {E : Type 0} (text : List ℕ) (r : Result (Option (List Turn)) E) → IfOk r (ReadsTurns text) →
    IfOk r (λ turns. IfSome turns (λ ts. are_turns ts ≡ true))
turns-of-fit text (Ok None) h = tt
turns-of-fit text (Ok (Some ts)) h = h.0
turns-of-fit text (Err e) h = tt
