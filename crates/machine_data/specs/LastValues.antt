-- What accesses made one after the other leave in a word, that each of them finds it, and that it is so in runs.
use Rattle.std.specs.Prelude.{◌≡◌, ◌<◌, ◌≤◌, ◌^◌, ℕ, ◌==◌, Bool, true, All, List, [], ◌∷◌, ◌++◌, map, if◌then◌else◌}
use Rattle.std.specs.List.{range_with_len}
use Rattle.image_mem.specs.Contents.{Contents, opening_word}
use Rattle.rtr_types.specs.declared.TheConstants.{CORES_MAX}
use Rattle.rtr_types.specs.declared.access.Access.{Access}
use Rattle.rtr_types.specs.declared.params.Params.{Params}

-- the value after of the last of the accesses to the word; where none is to the word, the opening value
abbrev pub last_value : (opening word : ℕ) → List Access → ℕ
last_value opening word [] = opening
last_value opening word (a ∷ later) = last_value (if a.word == word then a.after else opening) word later

-- the value before of each access is the value after of the last earlier access to its word, or what the
-- image has there
abbrev pub EachFindsLast : Contents → List Access → Type 0
EachFindsLast image accesses =
    (earlier later : List Access) (a : Access) → accesses ≡ earlier ++ a ∷ later
    → a.before ≡ last_value (opening_word image a.word) a.word earlier

-- the memory that the accesses leave
abbrev pub memory_left : Contents → List Access → List ℕ
memory_left image accesses =
    map (λ word. last_value (opening_word image word) word accesses) (range_with_len 0 image.words)

-- each access of a machine's runs finds the last value of its word, which is one of the memory's
pub record RunsFindLast (accesses : Contents → Params → (choices : ℕ → ℕ) → (t : ℕ) → List Access) : Type 0 where
  pub finds : (image : Contents) (params : Params) (choices : ℕ → ℕ) (t : ℕ)
      → params.cores ≤ CORES_MAX → params.limit < 2 ^ 32
      → EachFindsLast image (accesses image params choices t)
  pub within : (image : Contents) (params : Params) (choices : ℕ → ℕ) (t : ℕ)
      → params.cores ≤ CORES_MAX → params.limit < 2 ^ 32
      → All (λ a. a.word < image.words) (accesses image params choices t)

-- what a machine's run leaves in the memory, once each core has ended, is what its accesses leave: word by word, and
-- in all
pub record RunsLeaveLast {S : Type 0} (run : Contents → Params → (choices : ℕ → ℕ) → (t : ℕ) → S)
    (all_done : S → Bool) (final_word : S → (word : ℕ) → ℕ) (final_memory : S → List ℕ)
    (accesses : Contents → Params → (choices : ℕ → ℕ) → (t : ℕ) → List Access) : Type 0 where
  pub word : (image : Contents) (params : Params) (choices : ℕ → ℕ) (t : ℕ)
      → params.cores ≤ CORES_MAX → params.limit < 2 ^ 32
      → all_done (run image params choices t) ≡ true → (word : ℕ) → word < image.words
      → final_word (run image params choices t) word
      ≡ last_value (opening_word image word) word (accesses image params choices t)
  pub memory : (image : Contents) (params : Params) (choices : ℕ → ℕ) (t : ℕ)
      → params.cores ≤ CORES_MAX → params.limit < 2 ^ 32
      → all_done (run image params choices t) ≡ true
      → final_memory (run image params choices t) ≡ memory_left image (accesses image params choices t)
