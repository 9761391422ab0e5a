-- Rule: what comes before by a log (happens-before): Before
-- The order of instructions: program order, paths of edges, and what comes before what.
use Rattle.std.specs.Prelude.{◌≡◌, ℕ, zero, suc, ◌-◌, ◌<◌, ◌⊎◌, ◌↔◌, List, [], ◌∷◌}
use Rattle.std.specs.List.{Contains}
use Rattle.rtr_types.specs.declared.instr.Instr.{Instr}
use Rattle.rtr_types.specs.declared.instr.Edge.{Edge}

-- a set of pairs of instructions
abbrev pub Relation : Type 1
Relation = Instr → Instr → Type 0

-- each pair of the one is a pair of the other
abbrev pub Within : Relation → Relation → Type 0
Within E F = (x y : Instr) → E x y → F x y

-- x is an earlier instruction of y's core
abbrev pub ProgramOrder : Relation
ProgramOrder x y = (x.core ≡ y.core) × (x.count < y.count)

-- a pair of program order, or a pair of E
abbrev pub Step : Relation → Relation
Step E x y = ProgramOrder x y ⊎ E x y

-- a path of one step and n more
abbrev pub Path : Relation → ℕ → Relation
Path E zero x y = Step E x y
Path E (suc n) x y = (z : Instr) × Step E x z × Path E n z y

-- a nonempty path leads from x to y, whose steps are pairs of program order and of E
abbrev pub Before : Relation → Relation
Before E x y = (n : ℕ) × Path E n x y

-- x is y or leads to it
abbrev pub IsOrLeads : Relation → Relation
IsOrLeads E x y = (x ≡ y) ⊎ Before E x y

-- the edge from x to y is one of these
abbrev pub Among : List Edge → Relation
Among [] x y = ⊥
Among (e ∷ edges) x y = ((e.from ≡ x) × (e.to ≡ y)) ⊎ Among edges x y

-- An edge is one of these exactly where the list contains it.
abbrev pub AmongLaw : Type 0
AmongLaw = (edges : List Edge) (x y : Instr) → Among edges x y ↔ Contains edges (record { from = x; to = y })

-- the instruction before y on its core, or the place before the first
abbrev pub previous : Instr → Instr
previous y = record { core = y.core; count = y.count - 1 }
