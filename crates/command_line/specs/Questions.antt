-- What words may ask of any program beside its work.
use Rattle.std.specs.Prelude.{ℕ, List, [], ◌∷◌, Option, Some, None, codes}
use Rattle.tool_words.specs.Names.{named_by}
use Rattle.command_line.specs.declared.questions.Question.{Question}
use Rattle.command_line.specs.declared.questions.Question.TheVariants.{Help, Version}

-- what a word asks for
abbrev pub question_in : (word : List ℕ) → Option Question
question_in word = named_by ((codes "--help", Help) ∷ (codes "--version", Version) ∷ []) word

-- what words ask for, where they are one word that asks so
abbrev pub asked : List (List ℕ) → Option Question
asked (word ∷ []) = question_in word
asked words = None
