-- The first of the actions from a place on that names a core.
use Rattle.std.proofs.Common.{◌≡◌, ℕ, ◌+◌, ◌<◌, ◌≤◌, Bool, true, false, cond, List, ◌∷◌, length, drop, get_or, sym}
use Rattle.std.proofs.Common.{ap, ◌∙◌, add-one}
use Rattle.std.specs.Prelude.{Option, Some, None}
use Rattle.std.specs.Option.{option_or}
use Rattle.std.proofs.Math.Seq.{drop-cons}
use Rattle.std.proofs.lemmas.List.{drop_all}
use Rattle.gdb_packets.specs.declared.asks.Action.{Action}
use Rattle.gdb_session.specs.Orders.{asked_of, named, names}
use Rattle.gdb_session.specs.Wishes.{core_of}

-- what is left of a list from a place on
left : {A : Type 0} (xs : List A) (i : ℕ) (d : A) → i < length xs → drop i xs ≡ get_or xs i d ∷ drop (i + 1) xs
left xs i d inside = drop-cons xs i d inside ∙ ap (λ (k : ℕ). get_or xs i d ∷ drop k xs) (sym (add-one i))

asked_at : (actions : List Action) (core i : ℕ) (d : Action) → i < length actions →
    asked_of (drop i actions) core
    ≡ cond (names (get_or actions i d).who core) (Some (get_or actions i d).step) (asked_of (drop (i + 1) actions) core)
unfolding asked_of
asked_at actions core i d inside = ap (λ (l : List Action). asked_of l core) (left actions i d inside)

pub asked_here : (actions : List Action) (core i : ℕ) (d : Action) → i < length actions →
    names (get_or actions i d).who core ≡ true → asked_of (drop i actions) core ≡ Some (get_or actions i d).step
asked_here actions core i d inside so =
    asked_at actions core i d inside
    ∙ ap (λ (b : Bool). cond b (Some (get_or actions i d).step) (asked_of (drop (i + 1) actions) core)) so

pub asked_on : (actions : List Action) (core i : ℕ) (d : Action) → i < length actions →
    names (get_or actions i d).who core ≡ false →
    asked_of (drop i actions) core ≡ asked_of (drop (i + 1) actions) core
asked_on actions core i d inside so =
    asked_at actions core i d inside
    ∙ ap (λ (b : Bool). cond b (Some (get_or actions i d).step) (asked_of (drop (i + 1) actions) core)) so

pub asked_nowhere : (actions : List Action) (core i : ℕ) → length actions ≤ i → asked_of (drop i actions) core ≡ None
unfolding asked_of
asked_nowhere actions core i past = ap (λ (l : List Action). asked_of l core) (drop_all i actions past)

named_at : (actions : List Action) (cores i : ℕ) (d : Action) → i < length actions →
    named (drop i actions) cores
    ≡ option_or (core_of (get_or actions i d).who cores) (named (drop (i + 1) actions) cores)
unfolding named
named_at actions cores i d inside = ap (λ (l : List Action). named l cores) (left actions i d inside)

pub named_here : (actions : List Action) (cores i core : ℕ) (d : Action) → i < length actions →
    core_of (get_or actions i d).who cores ≡ Some core → named (drop i actions) cores ≡ Some core
named_here actions cores i core d inside so =
    named_at actions cores i d inside
    ∙ ap (λ (o : Option ℕ). option_or o (named (drop (i + 1) actions) cores)) so

pub named_on : (actions : List Action) (cores i : ℕ) (d : Action) → i < length actions →
    core_of (get_or actions i d).who cores ≡ None →
    named (drop i actions) cores ≡ named (drop (i + 1) actions) cores
named_on actions cores i d inside so =
    named_at actions cores i d inside
    ∙ ap (λ (o : Option ℕ). option_or o (named (drop (i + 1) actions) cores)) so

pub named_nowhere : (actions : List Action) (cores i : ℕ) → length actions ≤ i → named (drop i actions) cores ≡ None
unfolding named
named_nowhere actions cores i past = ap (λ (l : List Action). named l cores) (drop_all i actions past)
