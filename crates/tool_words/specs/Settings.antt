-- What the options have been set to.
use Rattle.std.specs.Prelude.{ℕ, Bool, List, Option}
use Rattle.std.specs.Option.{option_map}
use Rattle.rtr_types.specs.declared.pairs.Which.{Which}
use Rattle.trace_gen.specs.declared.shape.Shape.{Shape}
use Rattle.tool_words.specs.declared.options.Settings.{Settings as Held}

-- each option's value, where it is set; of the choices the text, and of a flag whether it is set
pub record Settings : Type 0 where
  pub cores : Option ℕ
  pub limit : Option ℕ
  pub words : Option ℕ
  pub choices : Option (List ℕ)
  pub seed : Option ℕ
  pub log : Option Which
  pub shape : Option Shape
  pub number : Option ℕ
  pub core : Option ℕ
  pub count : Option ℕ
  pub threads : Option ℕ
  pub loads : Bool
  pub elf : Bool
  pub latest : Bool
  pub certify : Bool

-- the settings as the code holds them, with the choices' text borrowed from the words
abbrev pub seen : Held → Settings
seen s =
    record {
      cores = s.cores;
      limit = s.limit;
      words = s.words;
      choices = option_map (λ text. text.now) s.choices;
      seed = s.seed;
      log = s.log;
      shape = s.shape;
      number = s.number;
      core = s.core;
      count = s.count;
      threads = s.threads;
      loads = s.loads;
      elf = s.elf;
      latest = s.latest;
      certify = s.certify;
    }
