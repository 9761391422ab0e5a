-- Rule: what a flat memory is told: ToldFlat
-- What a flat memory is told of an instruction.
use Rattle.std.proofs.Common.{◌∙◌, ap, refl}
use Rattle.std.specs.Prelude.{◌≡◌, ℕ, Bool, true, false, List, Some, None, if◌then◌else◌, length, slice_index, slice_set}
use Rattle.std.proofs.lemmas.List.{length-set}
use Rattle.rtr_types.specs.declared.instr.Instr.{Instr}
use Rattle.rtr_types.specs.Accesses.{is_write}
use Rattle.core_runs.specs.Runs.{Use}

-- the value that an instruction finds, or 0 without an access
abbrev pub found_in : Use → List ℕ → ℕ
found_in None words = 0
found_in (Some used) words = slice_index words used.1

-- the words after it left a value
abbrev pub left_in : Use → List ℕ → (value : ℕ) → List ℕ
left_in None words value = words
left_in (Some used) words value = if is_write used.0 then slice_set words used.1 value else words

-- the memory and the watch before and after
pub record ToldFlat {W : Type 0} (words : List ℕ) (watch : W) (used : Use) (old new : ℕ) (words' : List ℕ) (watch' : W)
    : Type 0 where
  pub found : old ≡ found_in used words
  pub left : words' ≡ left_in used words new
  pub same : watch' ≡ watch

-- ---- it keeps how many words it has

long_by : (test : Bool) (words : List ℕ) (word value : ℕ)
    → length (if test then slice_set words word value else words) ≡ length words
long_by true words word value = length-set words word value
long_by false words word value = refl

left_long : (used : Use) (words : List ℕ) (value : ℕ) → length (left_in used words value) ≡ length words
left_long None words value = refl
left_long (Some used) words value = long_by (is_write used.0) words used.1 value

pub flat_keeps_words : {W : Type 0} (r : List ℕ) (w : W) (at : Instr) (used : Use) (old new : ℕ) (s : List ℕ) (v : W)
    → ToldFlat r w used old new s v → length s ≡ length r
flat_keeps_words r w at used old new s v told =
    ap (λ (l : List ℕ). length l) told.left ∙ left_long used r new
