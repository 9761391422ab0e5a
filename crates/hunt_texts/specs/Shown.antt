-- Rule: how a run is shown: shown_text
-- The lines of a run that is shown.
use Rattle.std.specs.Prelude.{ℕ, Bool, List, [], ◌∷◌, ◌++◌, Option, Some, None, codes, decimal}
use Rattle.turn_lists.specs.declared.actor.Turn.{Turn}
use Rattle.turn_lists.specs.Texts.{spelled_turns}
use Rattle.tool_words.specs.declared.command.RunWords.{RunWords}
use Rattle.end_claims.specs.declared.claim.Place.{Place}
use Rattle.end_claims.specs.Answers.{answer}
use Rattle.hunt_words.specs.Lines.{line}

-- a run: its turns where these are told, the values of places at its end, and how `rtr` records it
pub record Shown : Type 0 where
  pub turns : Option (List Turn)
  pub places : List Place
  pub values : List ℕ
  pub tso : Bool
  pub run : RunWords

-- no run of the range breaks the claim
abbrev pub none_text : (first last : ℕ) → List ℕ
none_text first last = codes "none " ++ decimal first ++ codes ".." ++ decimal last ++ codes "\n"

abbrev pub run_line : (number : ℕ) → List ℕ
run_line number = codes "run " ++ decimal number ++ codes "\n"

abbrev pub turns_line : Option (List Turn) → List ℕ
turns_line None = []
turns_line (Some turns) = codes "turns " ++ spelled_turns turns ++ codes "\n"

-- the places with their values, each after a space
abbrev pub answers : List Place → (values : List ℕ) → List ℕ
answers [] values = []
answers (place ∷ places) [] = []
answers (place ∷ places) (value ∷ values) = codes " " ++ answer place value ++ answers places values

abbrev pub ends_line : List Place → (values : List ℕ) → List ℕ
ends_line places values = codes "ends" ++ answers places values ++ codes "\n"

abbrev pub words_line : (tso : Bool) → RunWords → List ℕ
words_line tso run = line tso run ++ codes "\n"

-- the lines of a run that is shown
abbrev pub shown_text : Shown → List ℕ
shown_text s = turns_line s.turns ++ ends_line s.places s.values ++ words_line s.tso s.run
