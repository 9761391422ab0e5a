-- Whom a policy picks may act.
use Rattle.std.proofs.Common.{◌≡◌, ◌∙◌, ◌⊎◌, inl, inr, refl, ap, ℕ, zero, suc, ◌<◌, ◌≤◌, ◌-◌, Bool, true, false, arith}
use Rattle.std.proofs.Common.{List, [], ◌∷◌, length, get_or, Option, Some, None}
use Rattle.std.specs.Prelude.{◌&&◌, ◌==◌, find, if◌then◌else◌, map, nat_lt, not, unwrap_or}
use Rattle.std.proofs.Math.Nat.{mod-lt}
use Rattle.std.proofs.lemmas.Bool.{cases_lt}
use Rattle.std.proofs.lemmas.List.{get_or-append_right, get_or-map, get_or_append_left, length-append, length-map}
use Rattle.rand_pcg.specs.Pcg.{pcg32}
use Rattle.move_marks.specs.Members.{members}
use Rattle.turn_lists.specs.Actors.{is_same}
use Rattle.turn_lists.specs.declared.actor.Actor.{Actor}
use Rattle.turn_lists.specs.declared.actor.Actor.TheVariants.{Buffer, Core}
use Rattle.turn_lists.specs.declared.actor.Turn.{Turn}
use Rattle.turn_policies.specs.Listed.{first_of, is_listed, is_nobody, listed}
use Rattle.turn_policies.specs.Policies.{PicksWhoMay}
use Rattle.turn_policies.specs.Ranked.{order_at_pick, ranked_policy}
use Rattle.turn_policies.specs.Straight.{going_on}
use Rattle.turn_policies.specs.TurnByTurn.{TurnsLeft, after_turns, other_than, turn_pick, turns_going, turns_policy}
use Rattle.turn_policies.specs.Walks.{drawn, walk_policy}
use Rattle.turn_policies.specs.declared.actor_set.ActorSet.{ActorSet}
use Rattle.turn_policies.proofs.SetMembers.{member_has}

-- each actor in the list may act
listed_at : (set : ActorSet) (n : ℕ) (d : Actor) → n < length (listed set) →
    is_listed set (get_or (listed set) n d) ≡ true
listed_at set n d within = by (cases_lt n (length cores))
  where
    cores : List Actor
    cores = map Core (members set.cores)

    buffers : List Actor
    buffers = map Buffer (members set.buffers)

    by : (n < length cores) ⊎ (length cores ≤ n) → is_listed set (get_or (listed set) n d) ≡ true
    by (inl less) =
        let few : n < length (members set.cores) = omega (arith, less, length-map (members set.cores) Core) in
        ap (is_listed set) (get_or_append_left cores buffers d n less
        ∙ get_or-map {X = ℕ} {Y = Actor} Core (members set.cores) n 0 d few)
        ∙ member_has set.cores n 0 few
    by (inr past) =
        let few : n - length cores < length (members set.buffers) =
        omega (arith, past, within, length-append cores buffers, length-map (members set.buffers) Buffer) in
        ap (is_listed set) (get_or-append_right cores buffers (length cores) n d refl past
        ∙ get_or-map {X = ℕ} {Y = Actor} Buffer (members set.buffers) (n - length cores) 0 d few)
        ∙ member_has set.buffers (n - length cores) 0 few

some_long : (n : ℕ) → (n == 0) ≡ false → 0 < n
some_long zero none = absurd cc
some_long (suc n) some = omega arith

some_listed : (set : ActorSet) → is_nobody set ≡ false → 0 < length (listed set)
some_listed set some = some_long (length (listed set)) some

first_listed : (set : ActorSet) → is_nobody set ≡ false → is_listed set (first_of set) ≡ true
first_listed set some = listed_at set 0 (Core 0) (some_listed set some)

-- ---- what is found

find_first : {X : Type 0} (q : X → Bool) (x : X) (xs : List X) → q x ≡ true → find q (x ∷ xs) ≡ Some x
find_first q x xs is = rw is refl

find_later : {X : Type 0} (q : X → Bool) (x : X) (xs : List X) → q x ≡ false → find q (x ∷ xs) ≡ find q xs
find_later q x xs is = rw is refl

-- what is found in a list passes that test
found_passes : {X : Type 0} (p : X → Bool) (xs : List X) (d : X) → p d ≡ true → p (unwrap_or (find p xs) d) ≡ true
found_passes p [] d other = other
found_passes {X = X} p (x ∷ xs) d other = by (p x) refl (found_passes p xs d other)
  where
    by : (b : Bool) → p x ≡ b → p (unwrap_or (find p xs) d) ≡ true → p (unwrap_or (find p (x ∷ xs)) d) ≡ true
    by true is rest = ap (λ (o : Option X). p (unwrap_or o d)) (find_first p x xs is) ∙ is
    by false is rest = ap (λ (o : Option X). p (unwrap_or o d)) (find_later p x xs is) ∙ rest

-- and what all items pass
found_one_of : {X : Type 0} (p q : X → Bool) (xs : List X) (d e : X) →
    ((n : ℕ) → n < length xs → p (get_or xs n e) ≡ true) → p d ≡ true → p (unwrap_or (find q xs) d) ≡ true
found_one_of p q [] d e each other = other
found_one_of {X = X} p q (x ∷ xs) d e each other =
    by (q x) refl (found_one_of p q xs d e (λ n less. each (suc n) (omega (arith, less))) other)
  where
    by : (b : Bool) → q x ≡ b → p (unwrap_or (find q xs) d) ≡ true → p (unwrap_or (find q (x ∷ xs)) d) ≡ true
    by true is rest = ap (λ (o : Option X). p (unwrap_or o d)) (find_first q x xs is) ∙ each 0 (omega arith)
    by false is rest = ap (λ (o : Option X). p (unwrap_or o d)) (find_later q x xs is) ∙ rest

-- ---- policies

pub walk_listed : PicksWhoMay walk_policy
walk_listed = λ words set some.
    listed_at set (drawn (length (listed set)) words) (Core 0) (mod-lt (pcg32 words).0 (some_listed set some))

pub ranked_listed : PicksWhoMay ranked_policy
ranked_listed = λ s set some.
    found_passes (is_listed set) (order_at_pick s set) (first_of set) (first_listed set some)

going_on_listed : (last : Actor) (set : ActorSet) → is_nobody set ≡ false →
    is_listed set (going_on (Some last) set) ≡ true
going_on_listed last set some = by (is_listed set last) refl
  where
    by : (b : Bool) → is_listed set last ≡ b → is_listed set (going_on (Some last) set) ≡ true
    by true is = ap (λ (b : Bool). is_listed set (if b then last else first_of set)) is ∙ is
    by false is = ap (λ (b : Bool). is_listed set (if b then last else first_of set)) is ∙ first_listed set some

other_listed : (final : Option Actor) (set : ActorSet) → is_nobody set ≡ false →
    is_listed set (other_than final set) ≡ true
other_listed None set some = first_listed set some
other_listed (Some final) set some =
    found_one_of (is_listed set) (λ a. not (is_same a final)) (listed set) (first_of set) (Core 0)
    (λ n less. listed_at set n (Core 0) less) (first_listed set some)

after_listed : (final last : Option Actor) (set : ActorSet) → is_nobody set ≡ false →
    is_listed set (after_turns final last set) ≡ true
after_listed final None set some = other_listed final set some
after_listed final (Some last) set some = going_on_listed last set some

second_test : (p q : Bool) → (p && q) ≡ true → q ≡ true
second_test true q both = both
second_test false q both = absurd cc

going_listed : (s : TurnsLeft) (set : ActorSet) (ts : List Turn) → is_nobody set ≡ false →
    is_listed set (turn_pick s set (turns_going set ts)) ≡ true
going_listed s set [] some = after_listed s.final s.last set some
going_listed s set (t ∷ ts) some =
    by (nat_lt 0 t.count && is_listed set t.actor) refl (going_listed s set ts some)
  where
    by : (b : Bool) → (nat_lt 0 t.count && is_listed set t.actor) ≡ b →
        is_listed set (turn_pick s set (turns_going set ts)) ≡ true →
        is_listed set (turn_pick s set (turns_going set (t ∷ ts))) ≡ true
    by true is rest =
        ap (λ (b : Bool). is_listed set (turn_pick s set (if b then t ∷ ts else turns_going set ts))) is
        ∙ second_test (nat_lt 0 t.count) (is_listed set t.actor) is
    by false is rest =
        ap (λ (b : Bool). is_listed set (turn_pick s set (if b then t ∷ ts else turns_going set ts))) is ∙ rest

pub turns_listed : PicksWhoMay turns_policy
turns_listed = λ s set some. going_listed s set s.turns some
