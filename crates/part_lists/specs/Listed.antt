-- Reading a recording at the front of the bytes, and then a list that goes with it.
use Rattle.std.specs.Prelude.{ℕ, List, Result, Ok}
use Rattle.race_log.specs.declared.recording.Recording.{Recording}
use Rattle.log_codec.specs.Faults.{◌>>=◌}

-- what is made of the two, and the bytes after them
abbrev pub with_list : {X A : Type 0} → (front : List ℕ → Result (Recording × List ℕ) ℕ) →
    (list : Recording → List ℕ → Result (List X × List ℕ) ℕ) → (made : Recording → List X → A) → List ℕ →
    Result (A × List ℕ) ℕ
with_list front list made bytes = do
  first ← front bytes
  items ← list first.0 first.1
  Ok (made first.0 items.0, items.1)
