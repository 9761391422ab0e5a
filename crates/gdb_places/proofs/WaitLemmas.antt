-- The source that a look-up answers is the first edge's: at most one edge leads from a core to an instruction.
use Rattle.std.proofs.Common.{◌≡◌, ℕ, inl, inr, Bool, true, false, cond, ◌&&◌, List, [], ◌∷◌, refl, ap, arith}
use Rattle.std.specs.Prelude.{nat_eq, Option, Some, None, IfSome}
use Rattle.std.specs.List.{Contains}
use Rattle.std.proofs.lemmas.Bool.Decides.{nat_tests}
use Rattle.rtr_types.specs.Accesses.{is_same}
use Rattle.rtr_types.specs.declared.instr.Edge.{Edge}
use Rattle.rtr_types.specs.declared.instr.Instr.{Instr}
use Rattle.rtr_types.proofs.Instrs.{instr_eq}
use Rattle.clock_core.specs.Order.{Among}
use Rattle.clock_core.proofs.EdgeLists.{among_contains, contains_among}
use Rattle.replay_core.specs.Play.{instr}
use Rattle.gdb_places.specs.Waits.{source_in}

abbrev leads : Edge → ℕ → Instr → Bool
leads e core at = is_same e.to at && nat_eq e.from.core core

leads_core : (e : Edge) (core : ℕ) (at : Instr) → leads e core at ≡ true → e.from.core ≡ core
leads_core e core at so = grind (arith, nat_tests)

leads_to_core : (e : Edge) (core : ℕ) (at : Instr) → leads e core at ≡ true → e.to.core ≡ at.core
leads_to_core e core at so = grind (arith, nat_tests)

leads_to_count : (e : Edge) (core : ℕ) (at : Instr) → leads e core at ≡ true → e.to.count ≡ at.count
leads_to_count e core at so = grind (arith, nat_tests)

leads_so : (e : Edge) (core a : ℕ) (at : Instr) → e.from ≡ instr core a → e.to ≡ at → leads e core at ≡ true
leads_so e core a at from to =
    let p : e.from.core ≡ core = ap (λ (i : Instr). i.core) from in
    let q : e.to.core ≡ at.core = ap (λ (i : Instr). i.core) to in
    let s : e.to.count ≡ at.count = ap (λ (i : Instr). i.count) to in
    grind (arith, nat_tests)

-- an edge of which the test is true
there_by : (e : Edge) (edges : List Edge) (core : ℕ) (at : Instr) (a : ℕ) (rest : Option ℕ) →
    (rest ≡ Some a → Among edges (instr core a) at) → (b : Bool) → leads e core at ≡ b →
    cond b (Some e.from.count) rest ≡ Some a → Among (e ∷ edges) (instr core a) at
there_by e edges core at a rest later true so is =
    let count : e.from.count ≡ a = cc in
    inl (
      instr_eq e.from (instr core a) (leads_core e core at so) count,
      instr_eq e.to at (leads_to_core e core at so) (leads_to_count e core at so),
    )
there_by e edges core at a rest later false so is = inr (later is)

source_there : (edges : List Edge) (core : ℕ) (at : Instr) (a : ℕ) → source_in edges core at ≡ Some a →
    Among edges (instr core a) at
unfolding source_in
source_there [] core at a is = cc
source_there (e ∷ edges) core at a is =
    there_by e edges core at a (source_in edges core at) (λ later. source_there edges core at a later)
    (leads e core at) refl is

not_by : (e : Edge) (edges : List Edge) (core : ℕ) (at : Instr) (a : ℕ) (rest : Option ℕ) →
    (rest ≡ None → Among edges (instr core a) at → ⊥) → (b : Bool) → leads e core at ≡ b →
    cond b (Some e.from.count) rest ≡ None → Among (e ∷ edges) (instr core a) at → ⊥
not_by e edges core at a rest later true so is among = cc
not_by e edges core at a rest later false so is (inl here) =
    let yes_so : leads e core at ≡ true = leads_so e core a at here.0 here.1 in
    cc
not_by e edges core at a rest later false so is (inr among) = later is among

source_not : (edges : List Edge) (core : ℕ) (at : Instr) (a : ℕ) → source_in edges core at ≡ None →
    Among edges (instr core a) at → ⊥
unfolding source_in
source_not [] core at a is among = among
source_not (e ∷ edges) core at a is among =
    not_by e edges core at a (source_in edges core at) (λ none. source_not edges core at a none)
    (leads e core at) refl is among

none_there : (edges : List Edge) (core : ℕ) (at : Instr) → source_in edges core at ≡ None → (answer : Option ℕ) →
    IfSome answer (λ a. Contains edges (record { from = instr core a; to = at })) → answer ≡ None
none_there edges core at is None found = refl
none_there edges core at is (Some a) found =
    absurd (source_not edges core at a is (contains_among edges (instr core a) at found))

by_source : (edges : List Edge) (core : ℕ) (at : Instr) (answer : Option ℕ) →
    IfSome answer (λ a. Contains edges (record { from = instr core a; to = at })) →
    ((a : ℕ) → Contains edges (record { from = instr core a; to = at }) → answer ≡ Some a) →
    (found : Option ℕ) → source_in edges core at ≡ found → answer ≡ found
by_source edges core at answer found only (Some a) is =
    only a (among_contains edges (instr core a) at (source_there edges core at a is))
by_source edges core at answer found only None is = none_there edges core at is answer found

-- what was looked up is the first edge's source
pub looked_up : (edges : List Edge) (core : ℕ) (at : Instr) (answer : Option ℕ) →
    IfSome answer (λ a. Contains edges (record { from = instr core a; to = at })) →
    ((a : ℕ) → Contains edges (record { from = instr core a; to = at }) → answer ≡ Some a) →
    answer ≡ source_in edges core at
looked_up edges core at answer found only = by_source edges core at answer found only (source_in edges core at) refl
