-- What a certificate's clocks have for the instructions of its recording.
use Rattle.std.specs.Prelude.{◌≡◌, ◌≢◌, ℕ, ◌<◌, ◌≤◌, List, slice_index, Option, Some, None, IfSome}
use Rattle.rtr_types.specs.declared.instr.Instr.{Instr}
use Rattle.clock_core.specs.Order.{Among}
use Rattle.clock_entries.specs.Ends.{entry_of, instr}
use Rattle.clock_entries.specs.Entries.{IsGoodAt, IsNeeded, IsKnownOtherwise, AreGood, AreExact}
use Rattle.race_log.specs.declared.recording.Recording.{Recording}
use Rattle.certificate_codec.specs.declared.certificate.Certificate.{Certificate}
use Rattle.certificate_codec.specs.Ends.{reduced_edges, IsWithin}

-- the last entry of the instruction's core at or before it, at each place
abbrev pub entry_in : Certificate → Instr → ℕ → ℕ
entry_in c = entry_of (reduced_edges c.recording) c.clocks

abbrev pub IsGoodIn : Certificate → Instr → Type 0
IsGoodIn c x = IsGoodAt (reduced_edges c.recording) (entry_in c) x

abbrev pub AreGoodIn : Certificate → Type 0
AreGoodIn c = AreGood (reduced_edges c.recording) (entry_in c)

abbrev pub AreExactIn : Certificate → Type 0
AreExactIn c = AreExact (reduced_edges c.recording) (entry_in c)

abbrev pub IsNeededIn : Certificate → Instr → Instr → Type 0
IsNeededIn c x y = IsNeeded (reduced_edges c.recording) (entry_in c) x y

abbrev pub IsKnownOtherwiseIn : Certificate → Instr → Instr → Type 0
IsKnownOtherwiseIn c x y = IsKnownOtherwise (reduced_edges c.recording) (entry_in c) x y

-- an edge of the reduced log leads from x to y, an instruction of the recording
pub record LeadsTo (r : Recording) (x y : Instr) : Type 0 where
  pub edge : Among (reduced_edges r) x y
  pub within : IsWithin r y
  pub some : 1 ≤ y.count

-- ---- core by core

-- the instruction of a core with a count, if there is one
abbrev pub on_core : (core : ℕ) → Option ℕ → Option Instr
on_core core (Some count) = Some (instr core count)
on_core core None = None

-- the logged source of y on a core, if there is one
pub record IsSourceOn (c : Certificate) (core : ℕ) (y : Instr) (found : Option Instr) : Type 0 where
  pub some : IfSome found (λ z. Among (reduced_edges c.recording) z y × (z.core ≡ core) × IsWithin c.recording z)
  pub only : (z : Instr) → Among (reduced_edges c.recording) z y → z.core ≡ core → found ≡ Some z

-- no place has more there than here
abbrev pub IsBelow : List ℕ → List ℕ → Type 0
IsBelow there here = (i : ℕ) → slice_index there i ≤ slice_index here i

-- but for one place
abbrev pub IsBelowBut : ℕ → List ℕ → List ℕ → Type 0
IsBelowBut core there here = (i : ℕ) → i ≢ core → slice_index there i ≤ slice_index here i

-- the entry of a logged source of y on this core is nowhere above this one
abbrev pub IsSourceBelow : Certificate → Instr → (core : ℕ) → List ℕ → Type 0
IsSourceBelow c y core here =
    (z : Instr) → Among (reduced_edges c.recording) z y → z.core ≡ core → (i : ℕ) → entry_in c z i ≤ slice_index here i

abbrev pub AreSourcesBelow : Certificate → Instr → List ℕ → Type 0
AreSourcesBelow c y here =
    (z : Instr) → Among (reduced_edges c.recording) z y → (i : ℕ) → entry_in c z i ≤ slice_index here i

-- the entry of no edge's source is above that of its target
abbrev pub AreAllBelow : Certificate → Type 0
AreAllBelow c = (x y : Instr) → Among (reduced_edges c.recording) x y → (i : ℕ) → entry_in c x i ≤ entry_in c y i

-- the entry of another logged source of y on this core doesn't know x
abbrev pub IsUnknownThere : Certificate → Instr → Instr → (core : ℕ) → Type 0
IsUnknownThere c x y core =
    (z : Instr) → Among (reduced_edges c.recording) z y → z.core ≡ core → z ≢ x → entry_in c z x.core < x.count

abbrev pub IsUnknownByOthers : Certificate → Instr → Instr → Type 0
IsUnknownByOthers c x y =
    (z : Instr) → Among (reduced_edges c.recording) z y → z ≢ x → entry_in c z x.core < x.count
