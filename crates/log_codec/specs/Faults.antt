-- Readings that name the part in which they fail.
use Rattle.std.specs.Prelude.{◌≡◌, ℕ, List, length, Result, Ok, Err, IfOk, ◌==◌, if◌then◌else◌}
use Rattle.log_codec.specs.declared.codec_fault.CodecFault.{CodecFault}
use Rattle.log_codec.specs.declared.codec_fault.CodecFault.TheVariants as faults

infixl 10 ◌>>=◌
abbrev pub ◌>>=◌ : {A B : Type 0} → Result A ℕ → (A → Result B ℕ) → Result B ℕ
(Ok x) >>= f = f x
(Err part) >>= f = Err part

-- the reading of all bytes: that of a front of them, where no byte stands after it, or else this part fails
abbrev pub read_all : {A : Type 0} → (List ℕ → Result (A × List ℕ) ℕ) → ℕ → List ℕ → Result A ℕ
read_all front last bytes = do
  parts ← front bytes
  if length parts.1 == 0 then Ok parts.0 else Err last

-- the fault is that of the reading, or want of memory
abbrev pub Fails : {Y : Type 0} → CodecFault → Result Y ℕ → Type 0
Fails (faults.Bad part) read = read ≡ Err part
Fails faults.OutOfMemory read = Unit {0}

-- what a call returned, seen by view, is the reading, unless memory ran out
abbrev pub Gives : {X Y : Type 0} → (X → Y) → Result X CodecFault → Result Y ℕ → Type 0
Gives view (Ok x) read = read ≡ Ok (view x)
Gives view (Err e) read = Fails e read

-- what a reader of all bytes returned, of which this is the reading
pub record Reads {A : Type 0} (InForm Spells : A → Type 0) (read : Result A ℕ)
    (result : Result A CodecFault) : Type 0 where
  -- what is read is in form, and is spelled by the bytes
  pub found : IfOk result (λ a. InForm a × Spells a)
  -- what is in form and is spelled by the bytes is read, unless memory runs out
  pub only : (a : A) → InForm a → Spells a → Gives (λ x. x) result (Ok a)
  -- which part it is that has no reading
  pub exact : Gives (λ x. x) result read
