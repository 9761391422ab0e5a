-- What `rtr`'s reader makes of a line's words.
use Rattle.std.proofs.Common.{◌≡◌, ℕ, ◌%◌, ◌^◌, ◌<◌, ◌≤◌, Bool, true, false, cond, eqb, List, [], ◌∷◌, ◌++◌, Option}
use Rattle.std.proofs.Common.{Some, None, arith, refl, sym, ap, ◌∙◌}
use Rattle.std.specs.Prelude.{codes, decimal, slice_index, unwrap_or}
use Rattle.std.specs.Option.{option_and_then, option_map}
use Rattle.std.specs.Prelude.{◌*◌, ◌-◌, nat_le}
use Rattle.std.proofs.lemmas.Bool.{eq-eqb, eqb-true, le-leb, true≢false}
use Rattle.hex.specs.Hex.{encode_lower}
use Rattle.rtr_types.specs.Parameters.{Fits}
use Rattle.rtr_types.specs.declared.TheConstants.{BLOCK_WORDS, CORES_MAX}
use Rattle.rtr_types.specs.declared.params.TheConstants.{INSTRUCTIONS_MAX, LIMIT_MAX, WORDS_MAX, WORDS_MIN}
use Rattle.tool_words.specs.declared.command.RunWords.{RunWords}
use Rattle.rtr_types.specs.declared.params.Params.{Params}
use Rattle.tool_words.specs.declared.command.Command.TheVariants.{Record as RecordRun, TsoRecord as RecordBuffered}
use Rattle.tool_words.specs.declared.command.Verb.{Verb}
use Rattle.tool_words.specs.declared.command.Verb.TheVariants.{Record, TsoRecord}
use Rattle.tool_words.specs.declared.options.Name.{Name}
use Rattle.tool_words.specs.declared.options.Name.TheVariants.{Cores, Limit, Words, Choices, Seed, Elf}
use Rattle.tool_words.specs.Choices.{are_choices, bytes_of}
use Rattle.tool_words.specs.Commands.{command_of, run_of}
use Rattle.tool_words.specs.Numerals.{number_between}
use Rattle.tool_words.specs.Options.{are_together_few, no_settings, params_of, put, whole_blocks}
use Rattle.tool_words.specs.Options.{cores_default, limit_default, words_default}
use Rattle.tool_words.specs.Reading.{alone, few_together, settings, settled_by, valued}
use Rattle.tool_words.specs.Settings.{Settings}
use Rattle.tool_words.proofs.ReadingLemmas.{settled_by-alone, settled_by-pair}
use Rattle.hunt_words.specs.Lines.{LineMeansTheRun, choice_words, flag_words, number_words, option_words}
use Rattle.hunt_words.proofs.HexLines.{are-choices, read-back}
use Rattle.hunt_words.proofs.NumberLines.{between-decimal}

-- what an option is set to by its words
abbrev set-at : (value default : ℕ) → Option ℕ
set-at value default = cond (eqb value default) None (Some value)

-- the settings with these options
abbrev at : Bool → (cores limit words seed : Option ℕ) → Option (List ℕ) → Settings
at elf cores limit words seed choices =
    record no_settings { elf = elf; cores = cores; limit = limit; words = words; seed = seed; choices = choices }

abbrev valued-so : Verb → (name : List ℕ) → Name → Type 0
valued-so verb name option = (text : List ℕ) → valued verb name text ≡ Some (record { name = option; text = text })

-- an option with a value: its name alone sets nothing, and with a text it is set to that
abbrev Takes : Verb → (name : List ℕ) → Name → Type 0
Takes verb name option = (alone verb name ≡ None) × valued-so verb name option

-- the command reads the options of a line
record Reads (verb : Verb) : Type 0 where
  cores : Takes verb (codes "--cores") Cores
  limit : Takes verb (codes "--limit") Limit
  words : Takes verb (codes "--words") Words
  seed : Takes verb (codes "--seed") Seed
  choices : Takes verb (codes "--choices") Choices

reads-record : Reads Record
reads-record = record {
  cores = (refl, λ text. refl);
  limit = (refl, λ text. refl);
  words = (refl, λ text. refl);
  seed = (refl, λ text. refl);
  choices = (refl, λ text. refl);
}

reads-tso : Reads TsoRecord
reads-tso = record {
  cores = (refl, λ text. refl);
  limit = (refl, λ text. refl);
  words = (refl, λ text. refl);
  seed = (refl, λ text. refl);
  choices = (refl, λ text. refl);
}

-- a name and its number, or nothing where that is the default
number-by : (same : Bool) (verb : Verb) (name : List ℕ) (option : Name) (value : ℕ) (rest : List (List ℕ))
    (after : Option ℕ → Settings) → Takes verb name option
    → put (after None) option (decimal value) ≡ Some (after (Some value))
    → settled_by verb (after None) (cond same [] (name ∷ decimal value ∷ []) ++ rest)
    ≡ settled_by verb (after (cond same None (Some value))) rest
number-by true verb name option value rest after takes puts = refl
number-by false verb name option value rest after takes puts =
    settled_by-pair verb (after None) name (decimal value) rest (record { name = option; text = decimal value })
    takes.0 (takes.1 (decimal value)) ∙ ap (option_and_then (λ (t : Settings). settled_by verb t rest)) puts

-- a number that is in its option's range is put in
puts-number : (least most value : ℕ) (after : ℕ → Settings) → least ≤ value → value ≤ most → value < 2 ^ 64
    → option_map after (number_between least most (decimal value)) ≡ Some (after value)
puts-number least most value after low high small =
    ap (option_map after) (between-decimal least most value low high small)

puts-words : (value : ℕ) (after : ℕ → Settings) → WORDS_MIN ≤ value → value ≤ WORDS_MAX → value % BLOCK_WORDS ≡ 0
    → option_map after (whole_blocks (decimal value)) ≡ Some (after value)
puts-words value after low high whole =
    let Whole : ℕ → Option ℕ = λ n. cond (eqb (n % BLOCK_WORDS) 0) (Some n) None in
    ap (λ (o : Option ℕ). option_map after (option_and_then Whole o))
    (between-decimal WORDS_MIN WORDS_MAX value low high (omega arith))
    ∙ ap (λ (yes : Bool). option_map after (cond yes (Some value) None)) (eq-eqb (value % BLOCK_WORDS) 0 whole)

-- what the choices are set to by their words
abbrev choices-at : List ℕ → Option (List ℕ)
choices-at [] = None
choices-at (byte ∷ bytes) = Some (encode_lower (byte ∷ bytes))

choices-read : (verb : Verb) (bytes : List ℕ) (after : Option (List ℕ) → Settings) → Reads verb
    → ((k : ℕ) → slice_index bytes k < 256)
    → ((text : List ℕ) → are_choices text ≡ true → put (after None) Choices text ≡ Some (after (Some text)))
    → settled_by verb (after None) (choice_words bytes) ≡ Some (after (choices-at bytes))
unfolding settled_by settings
choices-read verb [] after reads small puts = refl
choices-read verb (byte ∷ bytes) after reads small puts =
    let text : List ℕ = encode_lower (byte ∷ bytes) in
    settled_by-pair verb (after None) (codes "--choices") text [] (record { name = Choices; text = text })
    reads.choices.0 (reads.choices.1 text)
    ∙ ap (option_and_then (λ (t : Settings). settled_by verb t [])) (puts text (are-choices byte bytes small))

-- the settings that a line's words come to
abbrev all-set : RunWords → Settings
all-set run = at run.elf (set-at run.params.cores cores_default) (set-at run.params.limit limit_default)
    (set-at run.params.words words_default) (set-at run.seed 0) (choices-at run.choices)

-- the flag alone, or nothing
flag-by : (on : Bool) (verb : Verb) (rest : List (List ℕ))
    → (on ≡ true → alone verb (codes "--elf") ≡ Some (record { name = Elf; text = [] }))
    → settled_by verb no_settings (flag_words (codes "--elf") on ++ rest)
    ≡ settled_by verb (at on None None None None None) rest
flag-by true verb rest reads =
    settled_by-alone verb no_settings (codes "--elf") rest (record { name = Elf; text = [] }) (reads refl)
flag-by false verb rest reads = refl

-- what the options of a line come to
settled-all : (verb : Verb) (run : RunWords) → Reads verb → Fits run.params → run.seed < 2 ^ 64
    → ((k : ℕ) → slice_index run.choices k < 256)
    → (run.elf ≡ true → alone verb (codes "--elf") ≡ Some (record { name = Elf; text = [] }))
    → settled_by verb no_settings (option_words run) ≡ Some (all-set run)
settled-all verb run reads fits small bytes elf-reads =
    let p = run.params in
    let cores : Option ℕ = set-at p.cores cores_default in
    let limit : Option ℕ = set-at p.limit limit_default in
    let words : Option ℕ = set-at p.words words_default in
    let seed : Option ℕ = set-at run.seed 0 in
    let seed-on : List (List ℕ) = number_words (codes "--seed") run.seed 0 ++ choice_words run.choices in
    let words-on : List (List ℕ) = number_words (codes "--words") p.words words_default ++ seed-on in
    let limit-on : List (List ℕ) = number_words (codes "--limit") p.limit limit_default ++ words-on in
    let cores-on : List (List ℕ) = number_words (codes "--cores") p.cores cores_default ++ limit-on in
    flag-by run.elf verb cores-on elf-reads
    ∙ number-by (eqb p.cores cores_default) verb (codes "--cores") Cores p.cores limit-on
    (λ o. at run.elf o None None None None) reads.cores
    (puts-number 1 CORES_MAX p.cores (λ n. at run.elf (Some n) None None None None) fits.some_core fits.cores
    (omega (arith, fits.cores)))
    ∙ number-by (eqb p.limit limit_default) verb (codes "--limit") Limit p.limit words-on
    (λ o. at run.elf cores o None None None) reads.limit
    (puts-number 1 LIMIT_MAX p.limit (λ n. at run.elf cores (Some n) None None None) fits.some_instruction fits.limit
    (omega (arith, fits.limit)))
    ∙ number-by (eqb p.words words_default) verb (codes "--words") Words p.words seed-on
    (λ o. at run.elf cores limit o None None) reads.words
    (puts-words p.words (λ n. at run.elf cores limit (Some n) None None) fits.some_block fits.words fits.whole_blocks)
    ∙ number-by (eqb run.seed 0) verb (codes "--seed") Seed run.seed (choice_words run.choices)
    (λ o. at run.elf cores limit words o None) reads.seed
    (puts-number 0 (2 ^ 64 - 1) run.seed (λ n. at run.elf cores limit words (Some n) None) (omega arith)
    (omega (arith, small)) small)
    ∙ choices-read verb run.choices (λ o. at run.elf cores limit words seed o) reads bytes
    (λ text h. ap (λ (yes : Bool). cond yes (Some (at run.elf cores limit words seed (Some text))) None) h)

-- an option that is set only where it isn't its default comes to its value
comes-by : (same : Bool) (value default : ℕ) → eqb value default ≡ same
    → unwrap_or (cond same None (Some value)) default ≡ value
comes-by true value default e = sym (eqb-true value default e)
comes-by false value default e = refl

comes-to : (value default : ℕ) → unwrap_or (set-at value default) default ≡ value
comes-to value default = comes-by (eqb value default) value default refl

abbrev params-from : (cores limit words : ℕ) → Params
params-from cores limit words = record { cores = cores; limit = limit; words = words }

params-are : (run : RunWords) → params_of (all-set run) ≡ run.params
params-are run =
    let p = run.params in
    let limit : ℕ = unwrap_or (set-at p.limit limit_default) limit_default in
    let words : ℕ = unwrap_or (set-at p.words words_default) words_default in
    ap (λ (c : ℕ). params-from c limit words) (comes-to p.cores cores_default)
    ∙ ap (λ (l : ℕ). params-from p.cores l words) (comes-to p.limit limit_default)
    ∙ ap (λ (w : ℕ). params-from p.cores p.limit w) (comes-to p.words words_default)

choices-are : (bytes : List ℕ) → ((k : ℕ) → slice_index bytes k < 256) → bytes_of (choices-at bytes) ≡ bytes
choices-are [] small = refl
choices-are (byte ∷ bytes) small = read-back (byte ∷ bytes) small

abbrev run-from : Params → List ℕ → (seed : ℕ) → Bool → RunWords
run-from params choices seed elf = record { params = params; choices = choices; seed = seed; elf = elf }

run-is : (run : RunWords) → ((k : ℕ) → slice_index run.choices k < 256) → run_of (all-set run) ≡ run
run-is run small =
    let seed : ℕ = unwrap_or (set-at run.seed 0) 0 in
    ap (λ (p : Params). run-from p (bytes_of (choices-at run.choices)) seed run.elf) (params-are run)
    ∙ ap (λ (bytes : List ℕ). run-from run.params bytes seed run.elf) (choices-are run.choices small)
    ∙ ap (λ (n : ℕ). run-from run.params run.choices n run.elf) (comes-to run.seed 0)

few : (run : RunWords) → Fits run.params → are_together_few (all-set run) ≡ true
few run fits =
    ap (λ (p : Params). nat_le (p.cores * p.limit) INSTRUCTIONS_MAX) (params-are run)
    ∙ le-leb (run.params.cores * run.params.limit) INSTRUCTIONS_MAX fits.instructions

-- the settings that are few together make the command
made : (verb : Verb) (run : RunWords) → Fits run.params
    → settled_by verb no_settings (option_words run) ≡ Some (all-set run)
    → option_and_then (command_of verb) (option_and_then few_together (settled_by verb no_settings (option_words run)))
    ≡ command_of verb (all-set run)
made verb run fits settled =
    ap (λ (o : Option Settings). option_and_then (command_of verb) (option_and_then few_together o)) settled
    ∙ ap (λ (yes : Bool). option_and_then (command_of verb) (cond yes (Some (all-set run)) None)) (few run fits)

pub line-means : LineMeansTheRun
line-means true run may =
    let flat : run.elf ≡ false = may.flat refl in
    made TsoRecord run may.fits
    (settled-all TsoRecord run reads-tso may.fits may.seed may.bytes (λ e. absurd (true≢false (sym e ∙ flat))))
    ∙ ap (λ (r : RunWords). Some (RecordBuffered (record r { elf = false }))) (run-is run may.bytes)
    ∙ ap (λ (e : Bool). Some (RecordBuffered (record run { elf = e }))) (sym flat)
line-means false run may =
    made Record run may.fits (settled-all Record run reads-record may.fits may.seed may.bytes (λ e. refl))
    ∙ ap (λ (r : RunWords). Some (RecordRun r)) (run-is run may.bytes)
