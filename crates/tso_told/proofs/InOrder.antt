-- What is told of a core is in the order of its counts.
use Rattle.std.proofs.Common.{◌≡◌, ◌≢◌, refl, ap, subst, ℕ, ◌+◌, List, [], ◌∷◌, ◌++◌, length, eq-eqb, ne_eqb}
use Rattle.std.proofs.Common.{arith}
use Rattle.image_mem.specs.Contents.{Contents}
use Rattle.rtr_types.specs.declared.instr.Instr.{Instr}
use Rattle.rv_core.specs.declared.core_state.Core.{Core}
use Rattle.rv_core.specs.Steps.{after}
use Rattle.rv_core.proofs.LawLemmas.{count_law}
use Rattle.msi_state.specs.Events.{next_instr}
use Rattle.tso_state.specs.Events.{Told, Alone, Ordered, Logged, instr_told}
use Rattle.tso_told.specs.Played.{AreNext, IsNext, found_by, told_of}

-- what is told first is of its own core
pub first_own : (e : Told) (list : List Told) →
    told_of (instr_told e).core (e ∷ list) ≡ e ∷ told_of (instr_told e).core list
first_own e list = rw (eq-eqb (instr_told e).core (instr_told e).core refl) refl

-- and of no other
pub first_else : (c : ℕ) (e : Told) (list : List Told) → (instr_told e).core ≢ c → told_of c (e ∷ list) ≡ told_of c list
first_else c e list ne = rw (ne_eqb (instr_told e).core c ne) refl

pub next_told : (image : Contents) (core : Core) (e : Told) → IsNext image core e → instr_told e ≡ next_instr core
next_told image core (Alone at) h = h.0
next_told image core (Ordered a) h = h.0
next_told image core (Logged at word value) h = h.0

-- the counts go on from this one
abbrev pub CountFrom : ℕ → List Told → Type 0
CountFrom n [] = Unit {0}
CountFrom n (e ∷ list) = ((instr_told e).count ≡ n + 1) × CountFrom (n + 1) list

pub counts_from : (image : Contents) (core : Core) (list : List Told) → AreNext image core list →
    CountFrom core.count list
counts_from image core [] h = tt
counts_from image core (e ∷ list) h = (
  ap (λ (at : Instr). at.count) (next_told image core e h.0),
  subst (λ (n : ℕ). CountFrom n list) (count_law image core (found_by e))
      (counts_from image (after image core (found_by e)) list h.1),
)

-- and behind the first of them from theirs
pub counts_behind : (n : ℕ) (xs ys : List Told) → CountFrom n (xs ++ ys) → CountFrom (n + length xs) ys
counts_behind n [] ys h = subst (λ (m : ℕ). CountFrom m ys) (let same : n ≡ n + 0 = omega arith in same) h
counts_behind n (x ∷ xs) ys h =
    let same : n + 1 + length xs ≡ n + length (x ∷ xs) = omega arith in
    subst (λ (m : ℕ). CountFrom m ys) same (counts_behind (n + 1) xs ys h.1)
