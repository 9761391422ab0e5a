-- Every setting that is put in is in its range, so the parameters fit.
use Rattle.std.proofs.Common.{◌≡◌, ℕ, IsTrue, ◌<◌, ◌≤◌, ◌%◌, Bool, true, false, List, [], ◌∷◌, Option}
use Rattle.std.proofs.Common.{Some, None, refl, ap, arith, rules, ◌==◌, nat_le, ◌&&◌, ◌-◌, ◌*◌, ◌∙◌}
use Rattle.std.proofs.Common.{unwrap_or, cond, subst}
use Rattle.std.specs.Option.{option_and_then, option_map}
use Rattle.std.specs.Str.Parse.{digits_value}
use Rattle.std.proofs.lemmas.Bool.Decides.{nat_tests}
use Rattle.rtr_types.specs.Parameters.{Fits}
use Rattle.rtr_types.specs.declared.instr.Instr.{Instr}
use Rattle.rtr_types.specs.declared.TheConstants.{CORES_MAX}
use Rattle.rtr_types.specs.declared.params.TheConstants.{INSTRUCTIONS_MAX, LIMIT_MAX, WORDS_MIN, WORDS_MAX}
use Rattle.trace_gen.specs.declared.shape.Shape as shapes
use Rattle.trace_gen.specs.Programs.{takes}
use Rattle.tool_words.specs.declared.command.Command.{Command}
use Rattle.tool_words.specs.declared.command.Command.TheVariants.{Gen as GenImage, Soak as SoakImage}
use Rattle.tool_words.specs.declared.command.Command.TheVariants.{At as StateAt}
use Rattle.tool_words.specs.declared.command.Verb.{Verb}
use Rattle.tool_words.specs.declared.command.Verb.TheVariants.{Record, Run, Print, Replay, Migrate, Certify, Check}
use Rattle.tool_words.specs.declared.command.Verb.TheVariants.{Gen, Soak, At, Thin, CheckThin}
use Rattle.tool_words.specs.declared.command.Verb.TheVariants.{TsoRecord, TsoRun, TsoReplay}
use Rattle.tool_words.specs.declared.options.Name.{Name}
use Rattle.tool_words.specs.declared.options.Name.TheVariants.{Cores, Limit, Words, Choices, Seed, Log, Loads, Elf}
use Rattle.tool_words.specs.declared.options.Name.TheVariants.{Shape, Number}
use Rattle.tool_words.specs.declared.options.Name.TheVariants.{Core, Count, Latest, Certified, Threads}
use Rattle.tool_words.specs.Settings.{Settings}
use Rattle.tool_words.specs.Numerals.{is_numeral, number_between}
use Rattle.tool_words.specs.Choices.{are_choices}
use Rattle.tool_words.specs.Options.{are_together_few, is_set, no_settings, params_of, put}
use Rattle.tool_words.specs.Options.{put_new, which_of, whole_blocks, cores_default, limit_default}
use Rattle.tool_words.specs.Options.{words_default, threads_max}
use Rattle.tool_words.specs.Commands.{AreFewThreads, HasFittingParams, MayBe, command_of, named_instr, shaped}
use Rattle.tool_words.specs.Commands.{verb_named}
use Rattle.tool_words.specs.Reading.{Set, settings, settled, settled_by, few_together, FittingLaw}

-- a number of cores that is set is in range, and so are a limit and a number of words
abbrev pub CoresFit : Option ℕ → Type 0
CoresFit None = Unit {0}
CoresFit (Some n) = (1 ≤ n) × (n ≤ CORES_MAX)

abbrev pub LimitFits : Option ℕ → Type 0
LimitFits None = Unit {0}
LimitFits (Some n) = (1 ≤ n) × (n ≤ LIMIT_MAX)

abbrev pub WordsFit : Option ℕ → Type 0
WordsFit None = Unit {0}
WordsFit (Some n) = (WORDS_MIN ≤ n) × (n ≤ WORDS_MAX) × (n % 4 ≡ 0)

-- a core's number
abbrev pub CoreFits : Option ℕ → Type 0
CoreFits None = Unit {0}
CoreFits (Some n) = n < CORES_MAX

-- the settings that have ranges
pub record Ranged : Type 0 where
  pub cores : Option ℕ
  pub limit : Option ℕ
  pub words : Option ℕ
  pub core : Option ℕ
  pub count : Option ℕ
  pub threads : Option ℕ

abbrev pub ranged : Settings → Ranged
ranged s =
    record { cores = s.cores; limit = s.limit; words = s.words; core = s.core; count = s.count; threads = s.threads }

-- a count's range is that of a limit
pub record AreFitting (r : Ranged) : Type 0 where
  pub cores : CoresFit r.cores
  pub limit : LimitFits r.limit
  pub words : WordsFit r.words
  pub core : CoreFits r.core
  pub count : LimitFits r.count
  pub threads : AreFewThreads r.threads

number_between-range : (least most n : ℕ) (text : List ℕ) → number_between least most text ≡ Some n → (least ≤ n)
    × (n ≤ most)
unfolding number_between
number_between-range least most n text h = by-cases (is_numeral text && nat_le least (digits_value 10 text) && nat_le
    (digits_value 10 text) most) refl h
  where
    by-cases : (b : Bool) → (is_numeral text && nat_le least (digits_value 10 text) && nat_le (digits_value 10 text)
        most) ≡ b →
        cond b (Some (digits_value 10 text)) None ≡ Some n → (least ≤ n) × (n ≤ most)
    by-cases true is e = let same : digits_value 10 text ≡ n = cc in grind (arith, nat_tests)
    by-cases false is e = absurd (cc)

-- the two parts of a chain that ends with something
pub and_then-some : {A B : Type 0} (f : A → Option B) (o : Option A) (b : B) → option_and_then f o ≡ Some b → (a : A)
    × (o ≡ Some a) × (f a ≡ Some b)
and_then-some f (Some a) b h = (a, refl, h)
and_then-some f None b h = absurd (cc)

map-some : {A B : Type 0} (f : A → B) (o : Option A) (b : B) → option_map f o ≡ Some b → (a : A) × (o ≡ Some a)
    × (f a ≡ b)
map-some f (Some a) b h = (a, refl, cc)
map-some f None b h = absurd (cc)

if-some : {A : Type 0} (b : Bool) (o : Option A) (a : A) → cond b o None ≡ Some a → o ≡ Some a
if-some true o a h = h
if-some false o a h = absurd (cc)

if-none : {A : Type 0} (b : Bool) (o : Option A) (a : A) → cond b None o ≡ Some a → o ≡ Some a
if-none true o a h = absurd (cc)
if-none false o a h = h

whole_blocks-range : (text : List ℕ) (n : ℕ) → whole_blocks text ≡ Some n → WordsFit (Some n)
whole_blocks-range text n h =
    let parts = and_then-some (λ m. cond (m % 4 == 0) (Some m) None) (number_between WORDS_MIN WORDS_MAX text) n h in
    let same : parts.0 ≡ n = whole parts.0 n parts.2 in
    let range = number_between-range WORDS_MIN WORDS_MAX parts.0 text parts.1 in
    (omega arith, omega arith, blocks parts.0 n parts.2)
  where
    whole : (m n : ℕ) → cond (m % 4 == 0) (Some m) None ≡ Some n → m ≡ n
    whole m n e = let is : Some m ≡ Some n = if-some (m % 4 == 0) (Some m) n e in cc

    blocks : (m n : ℕ) → cond (m % 4 == 0) (Some m) None ≡ Some n → n % 4 ≡ 0
    blocks m n e = divides m n (m % 4 == 0) refl e
      where
        divides : (m n : ℕ) (b : Bool) → (m % 4 == 0) ≡ b → cond b (Some m) None ≡ Some n → n % 4 ≡ 0
        divides m n true is e = let same : m ≡ n = cc in let zero : m % 4 ≡ 0 = grind (arith, nat_tests) in
            rw (← same) zero
        divides m n false is e = absurd (cc)

-- a core's number is below their number
core_range : (n : ℕ) (text : List ℕ) → number_between 0 (CORES_MAX - 1) text ≡ Some n → CoreFits (Some n)
core_range n text h = let range = number_between-range 0 (CORES_MAX - 1) n text h in omega arith

-- settings that have the same ranged ones
alike : (r s : Ranged) → r ≡ s → AreFitting r → AreFitting s
alike r s same fit = let P : Ranged → Type 0 = λ u. AreFitting u in subst P same fit

-- settings that fit whatever value is put in fit with the one that is
put-some : {A : Type 0} (with : A → Settings) (value : Option A) (t : Settings) → option_map with value ≡ Some t →
    ((a : A) → value ≡ Some a → AreFitting (ranged (with a))) → AreFitting (ranged t)
put-some with value t h fits =
    let made = map-some with value t h in alike _ (ranged t) (ap ranged made.2) (fits made.0 made.1)

put-one : (s t : Settings) → Some s ≡ Some t → AreFitting (ranged s) → AreFitting (ranged t)
put-one s t h fit = let same : s ≡ t = cc in alike (ranged s) (ranged t) (ap ranged same) fit

put_new-fits : (s t : Settings) (name : Name) (text : List ℕ) → put_new s name text ≡ Some t → AreFitting (ranged s)
    → AreFitting (ranged t)
put_new-fits s t Cores text h fit = put-some (λ n. record s { cores = Some n }) _ t h
    (λ n is. let range = number_between-range 1 CORES_MAX n text is in search (rules, fit, range))
put_new-fits s t Limit text h fit = put-some (λ n. record s { limit = Some n }) _ t h
    (λ n is. let range = number_between-range 1 LIMIT_MAX n text is in search (rules, fit, range))
put_new-fits s t Words text h fit = put-some (λ n. record s { words = Some n }) _ t h
    (λ n is. let range = whole_blocks-range text n is in search (rules, fit, range))
put_new-fits s t Choices text h fit =
    put-one (record s { choices = Some text }) t (if-some (are_choices text) _ t h) fit
put_new-fits s t Seed text h fit = put-some (λ n. record s { seed = Some n }) _ t h (λ n is. fit)
put_new-fits s t Log text h fit = put-some (λ w. record s { log = Some w }) _ t h (λ w is. fit)
put_new-fits s t Shape text h fit = put-some (λ shape. record s { shape = Some shape }) _ t h (λ shape is. fit)
put_new-fits s t Number text h fit = put-some (λ n. record s { number = Some n }) _ t h (λ n is. fit)
put_new-fits s t Core text h fit = put-some (λ n. record s { core = Some n }) _ t h
    (λ n is. let range = core_range n text is in search (rules, fit, range))
put_new-fits s t Count text h fit = put-some (λ n. record s { count = Some n }) _ t h
    (λ n is. let range = number_between-range 1 LIMIT_MAX n text is in search (rules, fit, range))
put_new-fits s t Threads text h fit = put-some (λ n. record s { threads = Some n }) _ t h
    (λ n is. let range = number_between-range 1 threads_max n text is in search (rules, fit, range))
put_new-fits s t Loads text h fit = put-one (record s { loads = true }) t h fit
put_new-fits s t Elf text h fit = put-one (record s { elf = true }) t h fit
put_new-fits s t Latest text h fit = put-one (record s { latest = true }) t h fit
put_new-fits s t Certified text h fit = put-one (record s { certify = true }) t h fit

pub put-fits : (s t : Settings) (name : Name) (text : List ℕ) → put s name text ≡ Some t → AreFitting (ranged s)
    → AreFitting (ranged t)
put-fits s t name text h fit = put_new-fits s t name text (if-none (is_set s name) (put_new s name text) t h) fit

settled-fits : (list : List Set) (s t : Settings) → settled s list ≡ Some t → AreFitting (ranged s)
    → AreFitting (ranged t)
settled-fits [] s t h fit = let same : s ≡ t = cc in alike (ranged s) (ranged t) (ap ranged same) fit
settled-fits (set ∷ rest) s t h fit =
    let parts = and_then-some (λ u. settled u rest) (put s set.name set.text) t h in
    settled-fits rest parts.0 t parts.2 (put-fits s parts.0 set.name set.text parts.1 fit)

pub settled_by-fits : (verb : Verb) (words : List (List ℕ)) (t : Settings) → settled_by verb no_settings words ≡ Some t
    → AreFitting (ranged t)
unfolding settled_by
settled_by-fits verb words t h =
    let parts = and_then-some (settled no_settings) (settings verb words) t h in
    settled-fits parts.0 no_settings t parts.2
    (record { cores = tt; limit = tt; words = tt; core = tt; count = tt; threads = tt })

-- with a default for what isn't set
pub cores-in : (o : Option ℕ) → CoresFit o → (1 ≤ unwrap_or o cores_default) × (unwrap_or o cores_default ≤ CORES_MAX)
cores-in None fit = (omega arith, omega arith)
cores-in (Some n) fit = fit

pub limit-in : (o : Option ℕ) → LimitFits o → (1 ≤ unwrap_or o limit_default) × (unwrap_or o limit_default ≤ LIMIT_MAX)
limit-in None fit = (omega arith, omega arith)
limit-in (Some n) fit = fit

words-in : (o : Option ℕ) → WordsFit o → WordsFit (Some (unwrap_or o words_default))
words-in None fit = (omega arith, omega arith, refl)
words-in (Some n) fit = fit

few-together : (s t : Settings) → few_together s ≡ Some t → (s ≡ t)
    × ((params_of s).cores * (params_of s).limit ≤ INSTRUCTIONS_MAX)
few-together s t h = by (are_together_few s) refl h
  where
    by : (b : Bool) → are_together_few s ≡ b → cond b (Some s) None ≡ Some t → (s ≡ t)
        × ((params_of s).cores * (params_of s).limit ≤ INSTRUCTIONS_MAX)
    by true is e = (cc, grind (arith, nat_tests))
    by false is e = absurd (cc)

params-fit : (s : Settings) → AreFitting (ranged s) → (params_of s).cores * (params_of s).limit ≤ INSTRUCTIONS_MAX
    → Fits (params_of s)
params-fit s fit few =
    let cores = cores-in s.cores fit.cores in
    let limit = limit-in s.limit fit.limit in
    let words = words-in s.words fit.words in
    search (rules, cores, limit, few, words)

-- the shape has an image of the number
shaped-takes : (s : Settings) (p : shapes.Shape × ℕ) → shaped s ≡ Some p → IsTrue (takes p.0 p.1)
shaped-takes s p h =
    let shape = and_then-some
    (λ shape. option_and_then (λ number. cond (takes shape number) (Some (shape, number)) None) s.number)
    s.shape p h in
    let number = and_then-some (λ number. cond (takes shape.0 number) (Some (shape.0, number)) None) s.number p
    shape.2 in
    by (takes shape.0 number.0) shape.0 number.0 refl number.2
  where
    by : (b : Bool) (shape : shapes.Shape) (number : ℕ) → takes shape number ≡ b → cond b (Some (shape, number)) None
        ≡ Some p → IsTrue (takes p.0 p.1)
    by true shape number is e =
        let same : (shape, number) ≡ p = cc in
        let P : shapes.Shape × ℕ → Type 0 = λ q. IsTrue (takes q.0 q.1) in
        subst P same is
    by false shape number is e = absurd (cc)

-- an instruction whose core and count are in their ranges
instr_may_be : (s : Settings) (at : Instr) → named_instr s ≡ Some at → AreFitting (ranged s) → MayBe at
instr_may_be s at h fit =
    let instr : ℕ → ℕ → Instr = λ core count. record { core = core; count = count } in
    let core = and_then-some (λ core. option_map (instr core) s.count) s.core at h in
    let count = map-some (instr core.0) s.count at core.2 in
    let below : CoreFits (Some core.0) = subst (λ (o : Option ℕ). CoreFits o) core.1 fit.core in
    let within : LimitFits (Some count.0) = subst (λ (o : Option ℕ). LimitFits o) count.1 fit.count in
    let P : Instr → Type 0 = λ i. MayBe i in
    subst P count.2 (below, within.0, within.1)

of-command : (made command : Command) → Some made ≡ Some command → HasFittingParams made → HasFittingParams command
of-command made command h fits = let same : made ≡ command = cc in
    let P : Command → Type 0 = λ c. HasFittingParams c in subst P same fits

command-fits : (verb : Verb) (s : Settings) (command : Command) → command_of verb s ≡ Some command
    → AreFitting (ranged s) →
    (params_of s).cores * (params_of s).limit ≤ INSTRUCTIONS_MAX → HasFittingParams command
command-fits Record s command h fit few = of-command _ command h (params-fit s fit few)
command-fits Run s command h fit few = of-command _ command h (params-fit s fit few)
command-fits Print s command h fit few = of-command _ command h tt
command-fits Replay s command h fit few = of-command _ command h fit.threads
command-fits Migrate s command h fit few = of-command _ command h tt
command-fits Certify s command h fit few = of-command _ command h tt
command-fits Check s command h fit few = of-command _ command h tt
command-fits Gen s command h fit few =
    let made = map-some (λ p. GenImage p.0 p.1) (shaped s) command h in
    let P : Command → Type 0 = λ c. HasFittingParams c in subst P made.2 (shaped-takes s made.0 made.1)
command-fits Soak s command h fit few =
    let made = map-some (λ p. SoakImage p.0 p.1 (params_of s) (unwrap_or s.seed 0)) (shaped s) command h in
    let P : Command → Type 0 = λ c. HasFittingParams c in
    subst P made.2 (params-fit s fit few, shaped-takes s made.0 made.1)
command-fits At s command h fit few =
    let made = map-some (λ at. StateAt (which_of s) at s.latest s.loads) (named_instr s) command h in
    let P : Command → Type 0 = λ c. HasFittingParams c in subst P made.2 (instr_may_be s made.0 made.1 fit)
command-fits Thin s command h fit few = of-command _ command h tt
command-fits CheckThin s command h fit few = of-command _ command h tt
command-fits TsoRecord s command h fit few = of-command _ command h (params-fit s fit few, refl)
command-fits TsoRun s command h fit few = of-command _ command h (params-fit s fit few, refl)
command-fits TsoReplay s command h fit few = of-command _ command h tt

pub fitting_law : FittingLaw
fitting_law [] command h = absurd (cc)
fitting_law (first ∷ rest) command h =
    let verb = and_then-some
    (λ v. option_and_then (command_of v) (option_and_then few_together (settled_by v no_settings rest)))
    (verb_named first) command h in
    let made = and_then-some (command_of verb.0) (option_and_then few_together (settled_by verb.0 no_settings rest))
    command verb.2 in
    let set = and_then-some few_together (settled_by verb.0 no_settings rest) made.0 made.1 in
    let few = few-together set.0 made.0 set.2 in
    let meant : command_of verb.0 set.0 ≡ Some command = ap (λ s. command_of verb.0 s) few.0 ∙ made.2 in
    command-fits verb.0 set.0 command meant (settled_by-fits verb.0 rest set.0 set.1) few.1
