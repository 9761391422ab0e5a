-- The first edge and the first entry that fail.
use Rattle.std.specs.Prelude.{◌≡◌, ℕ, ◌<◌, List, ◌∷◌, ◌++◌, length, Option, Some, None}
use Rattle.rtr_types.specs.declared.instr.Instr.{Instr}
use Rattle.rtr_types.specs.declared.instr.Edge.{Edge}
use Rattle.clock_core.specs.Order.{Among}
use Rattle.clock_entries.specs.Ends.{instr, IsEnd, ends_to}
use Rattle.certificate_codec.specs.declared.certificate.Certificate.{Certificate}
use Rattle.certificate_codec.specs.Ends.{reduced_edges}
use Rattle.min_certificate.specs.Places.{IsGoodIn}

-- the first edge of which Q holds: P holds of all before it
pub record IsFirst (P Q : Instr → Instr → Type 0) (edges : List Edge) (e : Edge) : Type 0 where
  pub front : List Edge
  pub rest : List Edge
  pub split : edges ≡ front ++ e ∷ rest
  pub before : (x y : Instr) → Among front x y → P x y
  pub here : Q e.from e.to

abbrev pub FailsFirst : (Instr → Instr → Type 0) → List Edge → Edge → Type 0
FailsFirst P edges e = IsFirst P (λ x y. P x y → ⊥) edges e

-- the first edge of which P doesn't hold, or none where it holds of all
abbrev pub FirstWithout : (Instr → Instr → Type 0) → List Edge → Option Edge → Type 0
FirstWithout P edges None = (x y : Instr) → Among edges x y → P x y
FirstWithout P edges (Some e) = FailsFirst P edges e

-- the core's entry with this number isn't good, and those of the core before it are
pub record IsFirstBadOf (c : Certificate) (core number : ℕ) : Type 0 where
  pub count : ℕ
  pub is_end : IsEnd (reduced_edges c.recording) (instr core count)
  pub number_is : length (ends_to (reduced_edges c.recording) core count) ≡ number
  pub bad : IsGoodIn c (instr core count) → ⊥
  pub before : (n : ℕ) → n < count → IsEnd (reduced_edges c.recording) (instr core n) → IsGoodIn c (instr core n)

abbrev pub AreGoodOf : Certificate → ℕ → Type 0
AreGoodOf c core = (n : ℕ) → IsEnd (reduced_edges c.recording) (instr core n) → IsGoodIn c (instr core n)

abbrev pub FirstBadOf : Certificate → ℕ → Option ℕ → Type 0
FirstBadOf c core None = AreGoodOf c core
FirstBadOf c core (Some number) = IsFirstBadOf c core number

-- the first entry that isn't good, by core and by its number in the core, counted from 1; or none where all are
pub record IsFirstBad (c : Certificate) (core number : ℕ) : Type 0 where
  pub of_core : IsFirstBadOf c core number
  pub before : (k : ℕ) → k < core → AreGoodOf c k

abbrev pub FirstBad : Certificate → Option (ℕ × ℕ) → Type 0
FirstBad c None = (x : Instr) → IsEnd (reduced_edges c.recording) x → IsGoodIn c x
FirstBad c (Some at) = IsFirstBad c at.0 at.1
