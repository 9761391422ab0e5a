-- The options, and what their settings come to.
use Rattle.std.specs.Prelude.{ℕ, ◌*◌, ◌%◌, ◌-◌, ◌^◌, ◌==◌, nat_le, Bool}
use Rattle.std.specs.Prelude.{true, false, List, [], ◌∷◌, Option, Some, None, is_some, codes}
use Rattle.std.specs.Prelude.{unwrap_or, if◌then◌else◌}
use Rattle.std.specs.Option.{option_and_then, option_map}
use Rattle.rtr_types.specs.declared.params.Params.{Params}
use Rattle.rtr_types.specs.declared.pairs.Which.{Which}
use Rattle.rtr_types.specs.declared.pairs.Which.TheVariants.{Reduced, Regulated}
use Rattle.rtr_types.specs.declared.TheConstants.{BLOCK_WORDS, CORES_MAX}
use Rattle.rtr_types.specs.declared.params.TheConstants.{INSTRUCTIONS_MAX, LIMIT_MAX, WORDS_MIN, WORDS_MAX}
use Rattle.trace_gen.specs.declared.shape.Shape as shapes
use Rattle.trace_gen.specs.declared.shape.Shape.TheVariants.{Mix, Lock}
use Rattle.tool_words.specs.declared.command.Verb.{Verb}
use Rattle.tool_words.specs.declared.command.Verb.TheVariants.{Record, Run, Replay, Gen, Soak, At, Thin, TsoRecord}
use Rattle.tool_words.specs.declared.command.Verb.TheVariants.{TsoRun}
use Rattle.tool_words.specs.declared.command.Verb.TheVariants.{TsoReplay}
use Rattle.tool_words.specs.declared.options.Name.{Name}
use Rattle.tool_words.specs.declared.options.Name.TheVariants.{Cores, Limit, Words, Choices, Seed}
use Rattle.tool_words.specs.declared.options.Name.TheVariants.{Log, Loads, Elf, Shape, Number}
use Rattle.tool_words.specs.declared.options.Name.TheVariants.{Core, Count, Latest, Certified, Threads}
use Rattle.tool_words.specs.Names.{named_by}
use Rattle.tool_words.specs.Settings.{Settings}
use Rattle.tool_words.specs.Choices.{are_choices}
use Rattle.tool_words.specs.Numerals.{number_between}

-- the options by their words
abbrev pub options : List (List ℕ × Name)
options =
    (codes "--cores", Cores) ∷ (codes "--limit", Limit) ∷ (codes "--words", Words)
    ∷ (codes "--choices", Choices) ∷ (codes "--seed", Seed)
    ∷ (codes "--elf", Elf) ∷ (codes "--shape", Shape) ∷ (codes "--number", Number)
    ∷ (codes "--log", Log) ∷ (codes "--loads", Loads) ∷ (codes "--certify", Certified) ∷ (codes "--threads", Threads)
    ∷ (codes "--core", Core) ∷ (codes "--count", Count) ∷ (codes "--latest", Latest) ∷ []

-- the option that a word names
abbrev pub option_named : List ℕ → Option Name
option_named word = named_by options word

-- the command takes the option, where it stands here
abbrev pub takes : Verb → Name → Bool
takes Record Cores = true
takes Record Limit = true
takes Record Words = true
takes Record Choices = true
takes Record Seed = true
takes Record Elf = true
takes Run Cores = true
takes Run Limit = true
takes Run Words = true
takes Run Choices = true
takes Run Seed = true
takes Run Elf = true
takes Run Loads = true
takes Replay Log = true
takes Replay Loads = true
takes Replay Threads = true
takes Gen Shape = true
takes Gen Number = true
takes Soak Shape = true
takes Soak Number = true
takes Soak Cores = true
takes Soak Limit = true
takes Soak Words = true
takes Soak Seed = true
takes At Core = true
takes At Count = true
takes At Log = true
takes At Latest = true
takes At Loads = true
takes Thin Certified = true
takes TsoRecord Cores = true
takes TsoRecord Limit = true
takes TsoRecord Words = true
takes TsoRecord Choices = true
takes TsoRecord Seed = true
takes TsoRun Cores = true
takes TsoRun Limit = true
takes TsoRun Words = true
takes TsoRun Choices = true
takes TsoRun Seed = true
takes TsoRun Loads = true
takes TsoReplay Loads = true
takes verb name = false

-- the option that a word names, where the command takes it
abbrev pub option_of : Verb → List ℕ → Option Name
option_of verb word = option_and_then (λ name. if takes verb name then Some name else None) (option_named word)

-- a value follows the name; a flag has none
abbrev pub takes_value : Name → Bool
takes_value Loads = false
takes_value Elf = false
takes_value Latest = false
takes_value Certified = false
takes_value name = true

-- what holds where an option isn't set
abbrev pub cores_default : ℕ
cores_default = 1

abbrev pub limit_default : ℕ
limit_default = 10000

abbrev pub words_default : ℕ
words_default = 16384

-- the most threads of a replay
abbrev pub threads_max : ℕ
threads_max = 8

-- no option is set
abbrev pub no_settings : Settings
no_settings = record {
  cores = None;
  limit = None;
  words = None;
  choices = None;
  seed = None;
  log = None;
  shape = None;
  number = None;
  core = None;
  count = None;
  threads = None;
  loads = false;
  elf = false;
  latest = false;
  certify = false;
}

-- the number of words of a memory: in range, and of whole blocks
abbrev pub whole_blocks : List ℕ → Option ℕ
whole_blocks text = option_and_then (λ n. if n % BLOCK_WORDS == 0 then Some n else None)
    (number_between WORDS_MIN WORDS_MAX text)

-- the log that a word names, exactly
abbrev pub log_named : List ℕ → Option Which
log_named word = named_by ((codes "reduced", Reduced) ∷ (codes "regulated", Regulated) ∷ []) word

-- the shape that a word names, exactly
abbrev pub shape_named : List ℕ → Option shapes.Shape
shape_named word = named_by ((codes "mix", Mix) ∷ (codes "lock", Lock) ∷ []) word

-- the option is set
abbrev pub is_set : Settings → Name → Bool
is_set s Cores = is_some s.cores
is_set s Limit = is_some s.limit
is_set s Words = is_some s.words
is_set s Choices = is_some s.choices
is_set s Seed = is_some s.seed
is_set s Log = is_some s.log
is_set s Shape = is_some s.shape
is_set s Number = is_some s.number
is_set s Core = is_some s.core
is_set s Count = is_some s.count
is_set s Threads = is_some s.threads
is_set s Loads = s.loads
is_set s Elf = s.elf
is_set s Latest = s.latest
is_set s Certified = s.certify

-- the settings with this one; none where the text is no value of it
abbrev pub put_new : Settings → Name → List ℕ → Option Settings
put_new s Cores text = option_map (λ n. record s { cores = Some n }) (number_between 1 CORES_MAX text)
put_new s Limit text = option_map (λ n. record s { limit = Some n }) (number_between 1 LIMIT_MAX text)
put_new s Words text = option_map (λ n. record s { words = Some n }) (whole_blocks text)
put_new s Choices text = if are_choices text then Some (record s { choices = Some text }) else None
put_new s Seed text = option_map (λ n. record s { seed = Some n }) (number_between 0 (2 ^ 64 - 1) text)
put_new s Log text = option_map (λ w. record s { log = Some w }) (log_named text)
put_new s Shape text = option_map (λ shape. record s { shape = Some shape }) (shape_named text)
put_new s Number text = option_map (λ n. record s { number = Some n }) (number_between 0 (2 ^ 64 - 1) text)
put_new s Core text = option_map (λ n. record s { core = Some n }) (number_between 0 (CORES_MAX - 1) text)
put_new s Count text = option_map (λ n. record s { count = Some n }) (number_between 1 LIMIT_MAX text)
put_new s Threads text = option_map (λ n. record s { threads = Some n }) (number_between 1 threads_max text)
put_new s Loads text = Some (record s { loads = true })
put_new s Elf text = Some (record s { elf = true })
put_new s Latest text = Some (record s { latest = true })
put_new s Certified text = Some (record s { certify = true })

-- the settings with one more; none where that option was set before
abbrev pub put : Settings → Name → List ℕ → Option Settings
put s name text = if is_set s name then None else put_new s name text

-- the parameters of a run with these settings
abbrev pub params_of : Settings → Params
params_of s = record {
  cores = unwrap_or s.cores cores_default;
  limit = unwrap_or s.limit limit_default;
  words = unwrap_or s.words words_default;
}

-- the log of a replay with these settings
abbrev pub which_of : Settings → Which
which_of s = unwrap_or s.log Reduced

-- the cores together are given no more instructions than a run may have, set or by default
abbrev pub are_together_few : Settings → Bool
are_together_few s = nat_le ((params_of s).cores * (params_of s).limit) INSTRUCTIONS_MAX
