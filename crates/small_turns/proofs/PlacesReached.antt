-- Acts in lines and before places: one place on, and one act more.
use Rattle.std.proofs.Common.{◌≡◌, ◌∙◌, refl, sym, ap, ℕ, zero, suc, ◌+◌, ◌*◌, ◌-◌, ◌<◌, ◌≤◌, Bool, true, false}
use Rattle.std.proofs.Common.{List, [], ◌∷◌, ◌++◌, cond, arith, length, get_or, set, take}
use Rattle.std.specs.Prelude.{replicate, sum_by}
use Rattle.std.proofs.lemmas.List.{take_more}
use Rattle.std.proofs.lemmas.List.Folds.{sum_by-replicate}
use Rattle.std.proofs.lemmas.List.Sums.{sum_by-append, sum_by_push}
use Rattle.turn_lists.specs.Actors.{is_same}
use Rattle.turn_lists.specs.declared.actor.Actor.{Actor}
use Rattle.turn_lists.specs.declared.actor.Turn.{Turn}
use Rattle.small_turns.specs.Acts.{acts_of, made_by, single_turn}
use Rattle.small_turns.specs.Orders.{held, reached}
use Rattle.small_turns.specs.declared.acts.Act.{Act}
use Rattle.small_turns.specs.declared.lines.Line.{Line}

-- a number where the test holds, else none
abbrev if_so : Bool → ℕ → ℕ
if_so b n = cond b n 0

-- no act is before the first places
pub none_reached : (a : Actor) (lines : List Line) (n : ℕ) → reached a lines (replicate n 0) ≡ 0
none_reached a [] n = refl
none_reached a (line ∷ lines) zero = refl
none_reached a (line ∷ lines) (suc n) = by (is_same a line.actor) (none_reached a lines n)
  where
    by : (b : Bool) → reached a lines (replicate n 0) ≡ 0 → if_so b 0 + reached a lines (replicate n 0) ≡ 0
    by true none = omega (arith, none)
    by false none = omega (arith, none)

-- one place on
reached_set : (a : Actor) (lines : List Line) (places : List ℕ) (k to : ℕ) (d : Line) → k < length lines →
    length places ≡ length lines → get_or places k 0 ≤ to →
    reached a lines (set places k to)
    ≡ reached a lines places + if_so (is_same a (get_or lines k d).actor) (to - get_or places k 0)
reached_set a [] places k to d h long up = absurd (omega arith)
reached_set a (line ∷ lines) [] k to d h long up = absurd (omega arith)
reached_set a (line ∷ lines) (place ∷ places) zero to d h long up = by (is_same a line.actor)
  where
    by : (b : Bool) →
        if_so b to + reached a lines places ≡ if_so b place + reached a lines places + if_so b (to - place)
    by true = omega arith
    by false = omega arith
reached_set a (line ∷ lines) (place ∷ places) (suc k) to d h long up =
    omega (arith, reached_set a lines places k to d (omega arith) (omega arith) up)

-- one act more in a line
held_set : (a : Actor) (lines : List Line) (k : ℕ) (d new : Line) → k < length lines →
    new.actor ≡ (get_or lines k d).actor → length new.waits ≡ length (get_or lines k d).waits + 1 →
    held a (set lines k new) ≡ held a lines + if_so (is_same a new.actor) 1
held_set a [] k d new h same long = absurd (omega arith)
held_set a (line ∷ lines) zero d new h same long =
    by (is_same a new.actor)
    ∙ ap (λ (b : Actor). if_so (is_same a b) (length line.waits) + held a lines + if_so (is_same a new.actor) 1) same
  where
    by : (b : Bool) → if_so b (length new.waits) + held a lines ≡ if_so b (length line.waits) + held a lines + if_so b 1
    by true = omega (arith, long)
    by false = omega arith
held_set a (line ∷ lines) (suc k) d new h same long =
    omega (arith, held_set a lines k d new (omega arith) same long)

-- a line without acts behind the others
pub held_push : (a : Actor) (lines : List Line) (new : Line) → length new.waits ≡ 0 →
    held a (lines ++ new ∷ []) ≡ held a lines
held_push a [] new none = by (is_same a new.actor)
  where
    by : (b : Bool) → if_so b (length new.waits) + 0 ≡ 0
    by true = omega (arith, none)
    by false = omega arith
held_push a (line ∷ lines) new none = omega (arith, held_push a lines new none)

-- acts of one actor put behind an order
count_acts : (a b : Actor) (order : List Turn) (n : ℕ) →
    made_by a (order ++ replicate n (single_turn b))
    ≡ made_by a order + if_so (is_same a b) n
count_acts a b order n =
    sum_by-append one order (replicate n (single_turn b))
    ∙ ap (λ (m : ℕ). sum_by one order + m) (sum_by-replicate one n (single_turn b) ∙ times (is_same a b))
  where
    one : Turn → ℕ
    one t = cond (is_same a t.actor) t.count 0

    times : (c : Bool) → n * cond c 1 0 ≡ if_so c n
    times true = omega arith
    times false = omega arith

-- one act more of those so far, which a line takes
pub one_act : (a : Actor) (old lines : List Line) (k : ℕ) (d new : Line) (acts : List Act) (i : ℕ) (e : Act) →
    k < length lines → i < length acts → new.actor ≡ (get_or lines k d).actor →
    length new.waits ≡ length (get_or lines k d).waits + 1 → held a lines ≡ held a old →
    (get_or lines k d).actor ≡ (get_or acts i e).actor → held a old ≡ acts_of a (take i acts) →
    held a (set lines k new) ≡ acts_of a (take (i + 1) acts)
one_act a old lines k d new acts i e h within same long keeps is so =
    held_set a lines k d new h same long ∙ ap (λ (n : ℕ). n + if_so (is_same a new.actor) 1) (keeps ∙ so)
    ∙ ap (λ (b : Actor). acts_of a (take i acts) + if_so (is_same a b) 1) (same ∙ is)
    ∙ sym (ap (acts_of a) (take_more acts i e within)
    ∙ sum_by_push (λ (act : Act). cond (is_same a act.actor) 1 0) (take i acts) (get_or acts i e))

-- an order goes on by a line's acts up to a later place
pub order_more : (a : Actor) (lines : List Line) (places : List ℕ) (k to : ℕ) (d : Line) (order more : List Turn) →
    k < length lines → length places ≡ length lines → get_or places k 0 ≤ to →
    more ≡ order ++ replicate (to - get_or places k 0) (single_turn (get_or lines k d).actor) →
    made_by a order ≡ reached a lines places → made_by a more ≡ reached a lines (set places k to)
order_more a lines places k to d order more h long up is so =
    ap (made_by a) is
    ∙ count_acts a (get_or lines k d).actor order (to - get_or places k 0)
    ∙ ap (λ (n : ℕ). n + if_so (is_same a (get_or lines k d).actor) (to - get_or places k 0)) so
    ∙ sym (reached_set a lines places k to d h long up)
