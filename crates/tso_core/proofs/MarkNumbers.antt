-- The numbers of cores' moves, and of those that order their oldest pending accesses, among the marked ones.
use Rattle.std.proofs.Common.{◌≡◌, ◌∙◌, refl, sym, ap, subst, ℕ, ◌+◌, ◌-◌, ◌<◌, ◌≤◌, ◌==◌, Bool, true}
use Rattle.std.proofs.Common.{false, List, length, get_or, arith, Some}
use Rattle.std.specs.Prelude.{Option, None, if◌then◌else◌, map, slice_index_or}
use Rattle.std.proofs.lemmas.Bool.Decides.{nat_tests}
use Rattle.std.proofs.lemmas.List.{length-append, length-map}
use Rattle.rtr_types.specs.declared.core_set.CoreSet.{CoreSet}
use Rattle.move_marks.specs.declared.marks.MoveKind.TheVariants.{Own}
use Rattle.move_marks.specs.Kinds.{marked as marked_in, marked_at_ports, set_of}
use Rattle.move_marks.specs.Members.{members}
use Rattle.move_marks.proofs.Picks.{found_here, found_past}
use Rattle.tso_state.specs.declared.moves.Move.{Move}
use Rattle.tso_state.specs.declared.moves.Move.TheVariants.{Core as CoreMove, Order as OrderMove}
use Rattle.tso_core.specs.declared.marks.Marks.{Marks}
use Rattle.tso_core.specs.Marks.{marked, marked_past_own, move_of}
use Rattle.tso_core.proofs.MarkCounts.{past_own_long}

-- the moves so numbered is this
abbrev pub IsNumber : Marks → (number : ℕ) → Move → Type 0
IsNumber marks number m =
    (number < length (marked marks)) × ((d : Move) → slice_index_or (marked marks) number d ≡ m)

-- how many moves are marked, the cores' own and the others
both_long : (marks : Marks) →
    length (marked marks) ≡ length (members (set_of Own marks.moves)) + length (marked_past_own marks)
both_long marks =
    length-append (map (λ (c : ℕ). CoreMove c) (members (set_of Own marks.moves))) (marked_past_own marks)
    ∙ ap (λ (n : ℕ). n + length (marked_past_own marks))
    (length-map {B = Move} (members (set_of Own marks.moves)) (λ (c : ℕ). CoreMove c))

-- a core's own move has the core's number among the cores that may move
pub own_numbered : (marks : Marks) (set : CoreSet) (core number : ℕ) → set ≡ set_of Own marks.moves →
    number < length (members set) → ((d : ℕ) → slice_index_or (members set) number d ≡ core) →
    IsNumber marks number (CoreMove core)
own_numbered marks set core number is within value =
    let low : number < length (members (set_of Own marks.moves)) =
    subst (λ (s : CoreSet). number < length (members s)) is within in
    let found : (e : ℕ) → core ≡ get_or (members (set_of Own marks.moves)) number e =
    λ e. sym (value e) ∙ ap (λ (s : CoreSet). get_or (members s) number e) is in (
      omega (arith, low, both_long marks),
      λ d. sym (found_here (λ (c : ℕ). CoreMove c) (members (set_of Own marks.moves)) (marked_past_own marks) number
          core d low found),
    )

-- one that orders counts on from them
pub order_numbered : (marks : Marks) (set : CoreSet) (core number many : ℕ) → set ≡ set_of Own marks.moves →
    many ≡ length (members set) → number < length (members marks.orders) →
    ((d : ℕ) → slice_index_or (members marks.orders) number d ≡ core) →
    IsNumber marks (many + number) (OrderMove core)
order_numbered marks set core number many is long within value =
    let own : many ≡ length (members (set_of Own marks.moves)) =
    long ∙ ap (λ (s : CoreSet). length (members s)) is in
    let here : (many + number) - many ≡ number = omega arith in
    let ordered : (d : Move) → OrderMove core ≡ get_or (marked_past_own marks) number d =
    λ d. found_here (λ (c : ℕ). OrderMove c) (members marks.orders) (map move_of (marked_at_ports marks.moves)) number
    core d within (λ e. sym (value e)) in (
      omega (arith, own, within, both_long marks, past_own_long marks),
      λ d. sym (found_past (λ (c : ℕ). CoreMove c) (members (set_of Own marks.moves)) (marked_past_own marks)
          (many + number) many (OrderMove core) d own (omega arith)
          (ordered d ∙ ap (λ (n : ℕ). get_or (marked_past_own marks) n d) (sym here))),
    )

-- what is last of so many, where so many of them are at ports
abbrev last_of : (ports all : ℕ) → Option ℕ
last_of ports all = if ports == 0 then None else Some (all - 1)

none_last : (t : Bool) (a b : ℕ) → None ≡ (if t then None else Some a) → None ≡ (if t then None else Some b)
none_last true a b is = refl
none_last false a b is = absurd (cc)

some_last : (t : Bool) (a b last : ℕ) → Some last ≡ (if t then None else Some a) →
    Some b ≡ (if t then None else Some b)
some_last true a b last is = absurd (cc)
some_last false a b last is = refl

-- no message is marked, whatever is ordered
pub none_at_port : (ports few all : ℕ) → None ≡ last_of ports few → None ≡ last_of ports all
none_at_port ports few all is = none_last (ports == 0) (few - 1) (all - 1) is

-- or the last of all is one
pub some_at_port : (ports few all last : ℕ) → Some last ≡ last_of ports few → Some (all - 1) ≡ last_of ports all
some_at_port ports few all last is = some_last (ports == 0) (few - 1) (all - 1) last is

-- and then there is one
there_is : (t : Bool) (ports a last : ℕ) → (ports == 0) ≡ t → Some last ≡ (if t then None else Some a) → 0 < ports
there_is true ports a last same is = absurd (cc)
there_is false ports a last same is = grind (arith, nat_tests)

pub some_there : (marks : Marks) (last : ℕ) →
    Some last ≡ last_of (length (marked_at_ports marks.moves)) (length (marked_in marks.moves)) →
    0 < length (marked marks)
some_there marks last is =
    let there : 0 < length (marked_at_ports marks.moves) =
    there_is (length (marked_at_ports marks.moves) == 0) (length (marked_at_ports marks.moves))
    (length (marked_in marks.moves) - 1) last refl is in
    omega (arith, there, both_long marks, past_own_long marks)
