-- Settings that a command may still come of are completed by the options that it must have, and a name by a value.
use Rattle.std.proofs.Common.{◌≡◌, ℕ, ◌*◌, Bool, true, false, List, [], ◌∷◌, Option, Some, None, refl, ap}
use Rattle.std.proofs.Common.{◌∙◌, arith, codes, is_some, nat_le, unwrap_or}
use Rattle.std.specs.Option.{option_and_then}
use Rattle.std.proofs.lemmas.Bool.Decides.{nat_tests}
use Rattle.trace_gen.specs.declared.shape.Shape as shapes
use Rattle.trace_gen.specs.declared.shape.Shape.TheVariants.{Mix, Lock}
use Rattle.trace_gen.specs.Programs.{takes as has_image_of}
use Rattle.tool_words.specs.declared.command.Command.{Command}
use Rattle.tool_words.specs.declared.command.Command.TheVariants.{Gen as GenImage, Soak as SoakImage, At as StateAt}
use Rattle.tool_words.specs.declared.command.Verb.{Verb}
use Rattle.tool_words.specs.declared.command.Verb.TheVariants.{Record, Run, Print, Replay, Migrate, Certify, Check}
use Rattle.tool_words.specs.declared.command.Verb.TheVariants.{Gen, Soak, At, Thin, CheckThin}
use Rattle.tool_words.specs.declared.command.Verb.TheVariants.{TsoRecord, TsoRun, TsoReplay}
use Rattle.tool_words.specs.declared.options.Name.{Name}
use Rattle.tool_words.specs.declared.options.Name.TheVariants.{Cores, Limit, Words, Choices, Seed, Log, Loads, Elf}
use Rattle.tool_words.specs.declared.options.Name.TheVariants.{Shape, Number}
use Rattle.tool_words.specs.declared.options.Name.TheVariants.{Core, Count, Latest, Certified, Threads}
use Rattle.tool_words.specs.Settings.{Settings}
use Rattle.tool_words.specs.Numerals.{number_between}
use Rattle.tool_words.specs.Options.{are_together_few, is_set, option_of, put, params_of, put_new, takes_value, which_of}
use Rattle.tool_words.specs.Commands.{command_of, named_instr, shaped}
use Rattle.tool_words.specs.Reading.{few_together, settings, settled_by}
use Rattle.tool_words.specs.Faults.{IsOpen, lacks}
use Rattle.tool_words.proofs.DeadSettings.{ends}
use Rattle.tool_words.proofs.WordCuts.{name-and-value}
use Rattle.tool_words.proofs.FittingLemmas.{AreFitting, CoresFit, LimitFits, ranged}

abbrev pub Completes : Verb → Settings → Type 0
Completes verb s = (more : List (List ℕ)) × (command : Command) × (ends verb s more ≡ Some command)

-- ---- by a name and a value

pub by-pair : (verb : Verb) (s t : Settings) (word text : List ℕ) (name : Name) → option_of verb word ≡ Some name
    → takes_value name ≡ true → put s name text ≡ Some t → Completes verb t → Completes verb s
by-pair verb s t word text name named takes is (more, command, made) = (
  word ∷ text ∷ more,
  command,
  ap (λ o. option_and_then (command_of verb) (option_and_then few_together o))
      (name-and-value verb s t word text more name named takes is) ∙ made,
)

done : (verb : Verb) (s : Settings) (command : Command) → are_together_few s ≡ true
    → command_of verb s ≡ Some command → Completes verb s
unfolding settled_by settings
done verb s command few is = ([], command, rw few is)

pub put-in : (s t : Settings) (name : Name) (text : List ℕ) → is_set s name ≡ false → put_new s name text ≡ Some t
    → put s name text ≡ Some t
put-in s t name text unset is = rw unset is

-- ---- an image

mix : (s : Settings) → put_new s Shape (codes "mix") ≡ Some (record s { shape = Some Mix })
mix s = refl

one : (s : Settings) → put_new s Number (codes "1") ≡ Some (record s { number = Some 1 })
unfolding number_between
one s = refl

has-one : (shape : shapes.Shape) → has_image_of shape 1 ≡ true
has-one Mix = refl
has-one Lock = refl

-- the verb makes an image of its settings
record Makes (verb : Verb) : Type 0 where
  shape_word : option_of verb (codes "--shape") ≡ Some Shape
  number_word : option_of verb (codes "--number") ≡ Some Number
  makes : (s : Settings) (shape : shapes.Shape) (number : ℕ) → are_together_few s ≡ true
      → s.shape ≡ Some shape → s.number ≡ Some number → has_image_of shape number ≡ true → Completes verb s

image-completes : (verb : Verb) (s : Settings) → Makes verb → IsOpen s → Completes verb s
image-completes verb s makes is_open = by s.shape s.number refl refl is_open.image
  where
    number-too : (t : Settings) (shape : shapes.Shape) → are_together_few t ≡ true → t.shape ≡ Some shape
        → t.number ≡ None → Completes verb t
    number-too t shape few a b =
        by-pair verb t (record t { number = Some 1 }) (codes "--number") (codes "1") Number makes.number_word refl
        (put-in t (record t { number = Some 1 }) Number (codes "1") (ap is_some b) (one t))
        (makes.makes (record t { number = Some 1 }) shape 1 few a refl (has-one shape))

    shape-too : Completes verb (record s { shape = Some Mix }) → s.shape ≡ None → Completes verb s
    shape-too then a =
        by-pair verb s (record s { shape = Some Mix }) (codes "--shape") (codes "mix") Shape makes.shape_word refl
        (put-in s (record s { shape = Some Mix }) Shape (codes "mix") (ap is_some a) (mix s)) then

    by : (o : Option shapes.Shape) (p : Option ℕ) → s.shape ≡ o → s.number ≡ p →
        (elim o as (λ _. Bool) [ None ↦ true | Some shape ↦ elim p as (λ _. Bool) [ None ↦ true | Some number ↦ has_image_of shape number ] ]) ≡ true →
        Completes verb s
    by (Some shape) (Some number) a b image = makes.makes s shape number is_open.few a b image
    by (Some shape) None a b image = number-too s shape is_open.few a b
    by None (Some number) a b image =
        shape-too (makes.makes (record s { shape = Some Mix }) Mix number is_open.few refl b refl) a
    by None None a b image = shape-too (number-too (record s { shape = Some Mix }) Mix is_open.few refl b) a

shaped-is : (s : Settings) (shape : shapes.Shape) (number : ℕ) → s.shape ≡ Some shape → s.number ≡ Some number
    → has_image_of shape number ≡ true → shaped s ≡ Some (shape, number)
shaped-is s shape number a b h = rw (a, b, h) refl

gen-makes : Makes Gen
gen-makes = record {
  shape_word = refl;
  number_word = refl;
  makes = λ s shape number few a b h. done Gen s (GenImage shape number) few (rw (shaped-is s shape number a b h) refl);
}

soak-makes : Makes Soak
soak-makes = record {
  shape_word = refl;
  number_word = refl;
  makes = λ s shape number few a b h. done Soak s (SoakImage shape number (params_of s) (unwrap_or s.seed 0)) few (rw (shaped-is s shape number a b h) refl);
}

-- ---- an instruction

core-put : (s : Settings) → put_new s Core (codes "0") ≡ Some (record s { core = Some 0 })
unfolding number_between
core-put s = refl

count-put : (s : Settings) → put_new s Count (codes "1") ≡ Some (record s { count = Some 1 })
unfolding number_between
count-put s = refl

at-completes : (s : Settings) → are_together_few s ≡ true → Completes At s
at-completes s few = by s.core s.count refl refl
  where
    made : (t : Settings) (core count : ℕ) → are_together_few t ≡ true → t.core ≡ Some core → t.count ≡ Some count
        → Completes At t
    made t core count few a b =
        let is : named_instr t ≡ Some (record { core = core; count = count }) = rw (a, b) refl in
        done At t (StateAt (which_of t) (record { core = core; count = count }) t.latest t.loads) few (rw is refl)

    count-too : (t : Settings) (core : ℕ) → are_together_few t ≡ true → t.core ≡ Some core → t.count ≡ None
        → Completes At t
    count-too t core few a b =
        by-pair At t (record t { count = Some 1 }) (codes "--count") (codes "1") Count refl refl
        (put-in t (record t { count = Some 1 }) Count (codes "1") (ap is_some b) (count-put t))
        (made (record t { count = Some 1 }) core 1 few a refl)

    core-too : Completes At (record s { core = Some 0 }) → s.core ≡ None → Completes At s
    core-too then a =
        by-pair At s (record s { core = Some 0 }) (codes "--core") (codes "0") Core refl refl
        (put-in s (record s { core = Some 0 }) Core (codes "0") (ap is_some a) (core-put s)) then

    by : (o p : Option ℕ) → s.core ≡ o → s.count ≡ p → Completes At s
    by (Some core) (Some count) a b = made s core count few a b
    by (Some core) None a b = count-too s core few a b
    by None (Some count) a b = core-too (made (record s { core = Some 0 }) 0 count few refl b) a
    by None None a b = core-too (count-too (record s { core = Some 0 }) 0 few refl b) a

-- ---- every command

pub completes : (verb : Verb) (s : Settings) → IsOpen s → Completes verb s
completes Record s h = done Record s _ h.few refl
completes Run s h = done Run s _ h.few refl
completes Print s h = done Print s _ h.few refl
completes Replay s h = done Replay s _ h.few refl
completes Migrate s h = done Migrate s _ h.few refl
completes Certify s h = done Certify s _ h.few refl
completes Check s h = done Check s _ h.few refl
completes Gen s h = image-completes Gen s gen-makes h
completes Soak s h = image-completes Soak s soak-makes h
completes At s h = at-completes s h.few
completes Thin s h = done Thin s _ h.few refl
completes CheckThin s h = done CheckThin s _ h.few refl
completes TsoRecord s h = done TsoRecord s _ h.few refl
completes TsoRun s h = done TsoRun s _ h.few refl
completes TsoReplay s h = done TsoReplay s _ h.few refl

-- ---- a value of each option, with which a command may still come

record HasValue (s : Settings) (name : Name) : Type 0 where
  text : List ℕ
  then : Settings
  is : put_new s name text ≡ Some then
  may_go_on : IsOpen then

has-value : (s : Settings) (name : Name) → takes_value name ≡ true → AreFitting (ranged s) → IsOpen s
    → HasValue s name
unfolding number_between
has-value s Cores h fit open_ = record {
  text = codes "1";
  then = record s { cores = Some 1 };
  is = refl;
  may_go_on = record { few = few s.limit fit.limit; image = open_.image };
}
  where
    few : (p : Option ℕ) → LimitFits p → nat_le (1 * unwrap_or p 10000) 4000000 ≡ true
    few None l = refl
    few (Some limit) l = grind (arith, nat_tests)
has-value s Limit h fit open_ = record {
  text = codes "1";
  then = record s { limit = Some 1 };
  is = refl;
  may_go_on = record { few = few s.cores fit.cores; image = open_.image };
}
  where
    few : (o : Option ℕ) → CoresFit o → nat_le (unwrap_or o 1 * 1) 4000000 ≡ true
    few None c = refl
    few (Some cores) c = grind (arith, nat_tests)
has-value s Words h fit open_ = record {
  text = codes "4";
  then = record s { words = Some 4 };
  is = refl;
  may_go_on = record { few = open_.few; image = open_.image };
}
has-value s Choices h fit open_ = record {
  text = codes "00";
  then = record s { choices = Some (codes "00") };
  is = refl;
  may_go_on = record { few = open_.few; image = open_.image };
}
has-value s Seed h fit open_ = record {
  text = codes "0";
  then = record s { seed = Some 0 };
  is = refl;
  may_go_on = record { few = open_.few; image = open_.image };
}
has-value s Log h fit open_ = record {
  text = codes "reduced";
  then = _;
  is = refl;
  may_go_on = record { few = open_.few; image = open_.image };
}
has-value s Shape h fit open_ = record {
  text = codes "mix";
  then = record s { shape = Some Mix };
  is = refl;
  may_go_on = record { few = open_.few; image = any s.number };
}
  where
    any : (p : Option ℕ) → (elim p as (λ _. Bool) [ None ↦ true | Some number ↦ true ]) ≡ true
    any None = refl
    any (Some number) = refl
has-value s Number h fit open_ = record {
  text = codes "1";
  then = record s { number = Some 1 };
  is = refl;
  may_go_on = record { few = open_.few; image = any s.shape };
}
  where
    any : (o : Option shapes.Shape) → (elim o as (λ _. Bool) [ None ↦ true | Some shape ↦ has_image_of shape 1 ]) ≡ true
    any None = refl
    any (Some shape) = has-one shape
has-value s Core h fit open_ = record {
  text = codes "0";
  then = record s { core = Some 0 };
  is = refl;
  may_go_on = record { few = open_.few; image = open_.image };
}
has-value s Count h fit open_ = record {
  text = codes "1";
  then = record s { count = Some 1 };
  is = refl;
  may_go_on = record { few = open_.few; image = open_.image };
}
has-value s Threads h fit open_ = record {
  text = codes "1";
  then = record s { threads = Some 1 };
  is = refl;
  may_go_on = record { few = open_.few; image = open_.image };
}
has-value s Loads h fit open_ = absurd (cc)
has-value s Elf h fit open_ = absurd (cc)
has-value s Latest h fit open_ = absurd (cc)
has-value s Certified h fit open_ = absurd (cc)

-- a name whose value is still to come
pub completes-name : (verb : Verb) (s : Settings) (word : List ℕ) (name : Name) → option_of verb word ≡ Some name
    → takes_value name ≡ true → is_set s name ≡ false → AreFitting (ranged s) → IsOpen s →
    (more : List (List ℕ)) × (command : Command) × (ends verb s (word ∷ more) ≡ Some command)
completes-name verb s word name named takes unset fit open_ =
    let value = has-value s name takes fit open_ in
    let rest = completes verb value.then value.may_go_on in
    let is = put-in s value.then name value.text unset value.is in (
      value.text ∷ rest.0,
      rest.1,
      ap (λ o. option_and_then (command_of verb) (option_and_then few_together o))
          (name-and-value verb s value.then word value.text rest.0 name named takes is) ∙ rest.2,
    )

-- ---- what is lacking

-- a command comes of settings just where none is lacking
pub lacking-none : (verb : Verb) (s : Settings) (name : Name) → lacks verb s ≡ Some name → command_of verb s ≡ None
lacking-none verb s name h = by verb h
  where
    by : (verb : Verb) → lacks verb s ≡ Some name → command_of verb s ≡ None
    by Gen k = let none : shaped s ≡ None = grind arith in rw none refl
    by Soak k = let none : shaped s ≡ None = grind arith in rw none refl
    by At k = let none : named_instr s ≡ None = grind arith in rw none refl
    by Record k = absurd (cc)
    by Run k = absurd (cc)
    by Print k = absurd (cc)
    by Replay k = absurd (cc)
    by Migrate k = absurd (cc)
    by Certify k = absurd (cc)
    by Check k = absurd (cc)
    by Thin k = absurd (cc)
    by CheckThin k = absurd (cc)
    by TsoRecord k = absurd (cc)
    by TsoRun k = absurd (cc)
    by TsoReplay k = absurd (cc)

pub none-lacking : (verb : Verb) (s : Settings) → lacks verb s ≡ None → IsOpen s → command_of verb s ≡ None → ⊥
none-lacking verb s h is_open none = by verb h none
  where
    by : (verb : Verb) → lacks verb s ≡ None → command_of verb s ≡ None → ⊥
    by Gen k none = image-none k none
      where
        image-none : lacks Gen s ≡ None → command_of Gen s ≡ None → ⊥
        image-none k none = let image = is_open.image in grind arith
    by Soak k none = image-none k none
      where
        image-none : lacks Soak s ≡ None → command_of Soak s ≡ None → ⊥
        image-none k none = let image = is_open.image in grind arith
    by At k none = grind arith
    by Record k none = cc
    by Run k none = cc
    by Print k none = cc
    by Replay k none = cc
    by Migrate k none = cc
    by Certify k none = cc
    by Check k none = cc
    by Thin k none = cc
    by CheckThin k none = cc
    by TsoRecord k none = cc
    by TsoRun k none = cc
    by TsoReplay k none = cc
