-- Settings of which no command can come any more: the cores and the limit are too many together, or the shape has no image
-- of the number. Whatever is set beside them, these stay.
use Rattle.std.proofs.Common.{◌≡◌, ℕ, ◌*◌, Bool, true, false, List, [], ◌∷◌, Option, Some, None, refl, ap, ◌∙◌}
use Rattle.std.proofs.Common.{arith, cond, is_some, nat_le, subst, unwrap_or}
use Rattle.std.specs.Option.{option_and_then}
use Rattle.std.proofs.lemmas.Bool.Decides.{nat_tests}
use Rattle.trace_gen.specs.declared.shape.Shape as shapes
use Rattle.trace_gen.specs.Programs.{takes as has_image_of}
use Rattle.tool_words.specs.declared.command.Command.{Command}
use Rattle.tool_words.specs.declared.command.Verb.{Verb}
use Rattle.tool_words.specs.declared.command.Verb.TheVariants.{Record, Run, Print, Replay, Migrate, Certify, Check}
use Rattle.tool_words.specs.declared.command.Verb.TheVariants.{Gen, Soak, At, Thin, CheckThin}
use Rattle.tool_words.specs.declared.command.Verb.TheVariants.{TsoRecord, TsoRun, TsoReplay}
use Rattle.tool_words.specs.declared.options.Name.{Name}
use Rattle.tool_words.specs.declared.options.Name.TheVariants.{Cores, Limit, Words, Choices, Seed, Log, Loads, Elf}
use Rattle.tool_words.specs.declared.options.Name.TheVariants.{Shape, Number}
use Rattle.tool_words.specs.declared.options.Name.TheVariants.{Core, Count, Latest, Certified, Threads}
use Rattle.tool_words.specs.Settings.{Settings}
use Rattle.tool_words.specs.Options.{are_together_few, put, takes}
use Rattle.tool_words.specs.Commands.{command_of, shaped}
use Rattle.tool_words.specs.Reading.{Set, few_together, settings, settled, settled_by}
use Rattle.tool_words.specs.Faults.{may_have_image}
use Rattle.tool_words.proofs.FittingLemmas.{AreFitting, CoresFit, LimitFits, and_then-some, put-fits, ranged}

-- the command that the words make after these settings
abbrev pub ends : Verb → Settings → (words : List (List ℕ)) → Option Command
ends verb s words = option_and_then (command_of verb) (option_and_then few_together (settled_by verb s words))

-- ---- what is set stays as it is

cores-stay : (s t : Settings) (name : Name) (text : List ℕ) → put s name text ≡ Some t → is_some s.cores ≡ true
    → t.cores ≡ s.cores
cores-stay s t name text h k = grind arith

limit-stays : (s t : Settings) (name : Name) (text : List ℕ) → put s name text ≡ Some t → is_some s.limit ≡ true
    → t.limit ≡ s.limit
limit-stays s t name text h k = grind arith

shape-stays : (s t : Settings) (name : Name) (text : List ℕ) → put s name text ≡ Some t → is_some s.shape ≡ true
    → t.shape ≡ s.shape
shape-stays s t name text h k = grind arith

number-stays : (s t : Settings) (name : Name) (text : List ℕ) → put s name text ≡ Some t → is_some s.number ≡ true
    → t.number ≡ s.number
number-stays s t name text h k = grind arith

-- ---- too many together

-- a default alone never makes them too many
both-set : (s : Settings) → AreFitting (ranged s) → are_together_few s ≡ false → (is_some s.cores ≡ true)
    × (is_some s.limit ≡ true)
both-set s fit h = by s.cores s.limit fit.cores fit.limit h
  where
    by : (o p : Option ℕ) → CoresFit o → LimitFits p → nat_le (unwrap_or o 1 * unwrap_or p 10000) 4000000 ≡ false →
        (is_some o ≡ true) × (is_some p ≡ true)
    by (Some cores) (Some limit) c l e = (refl, refl)
    by (Some cores) None c l e = absurd (grind (arith, nat_tests))
    by None (Some limit) c l e = absurd (grind (arith, nat_tests))
    by None None c l e = absurd (cc)

many-stay : (s t : Settings) (name : Name) (text : List ℕ) → AreFitting (ranged s) → are_together_few s ≡ false
    → put s name text ≡ Some t → are_together_few t ≡ false
many-stay s t name text fit h is =
    let set = both-set s fit h in
    rw (cores-stay s t name text is set.0, limit-stays s t name text is set.1) h

all-stay-many : (sets : List Set) (s t : Settings) → AreFitting (ranged s) → are_together_few s ≡ false
    → settled s sets ≡ Some t → are_together_few t ≡ false
all-stay-many [] s t fit h is = let same : s ≡ t = cc in rw (← same) h
all-stay-many (set ∷ rest) s t fit h is =
    let first = and_then-some (λ u. settled u rest) (put s set.name set.text) t is in
    all-stay-many rest first.0 t (put-fits s first.0 set.name set.text first.1 fit)
    (many-stay s first.0 set.name set.text fit h first.1) first.2

-- what words come to, after settings that keep a fact which settings of a command don't have
ends-none : (verb : Verb) (s : Settings) (words : List (List ℕ)) →
    ((t : Settings) (sets : List Set) → settled s sets ≡ Some t → option_and_then (command_of verb) (few_together t) ≡ None)
    → ends verb s words ≡ None
unfolding settled_by
ends-none verb s words each = by (settings verb words)
  where
    by-settled : (sets : List Set) (o : Option Settings) → settled s sets ≡ o →
        option_and_then (command_of verb) (option_and_then few_together o) ≡ None
    by-settled sets None is = refl
    by-settled sets (Some t) is = each t sets is

    by : (o : Option (List Set)) →
        option_and_then (command_of verb) (option_and_then few_together (option_and_then (settled s) o)) ≡ None
    by None = refl
    by (Some sets) = by-settled sets (settled s sets) refl

pub many-end : (verb : Verb) (s : Settings) (words : List (List ℕ)) → AreFitting (ranged s)
    → are_together_few s ≡ false → ends verb s words ≡ None
many-end verb s words fit h =
    ends-none verb s words (λ t sets is. rw (all-stay-many sets s t fit h is) refl)

-- ---- no such image

-- shape and number are set, and there is no image of them
record HasNone (s : Settings) : Type 0 where
  shape : shapes.Shape
  number : ℕ
  shape_is : s.shape ≡ Some shape
  number_is : s.number ≡ Some number
  none : has_image_of shape number ≡ false

has-none : (s : Settings) → may_have_image s ≡ false → HasNone s
has-none s h = by s.shape s.number refl refl h
  where
    by : (o : Option shapes.Shape) (p : Option ℕ) → s.shape ≡ o → s.number ≡ p →
        (elim o as (λ _. Bool) [ None ↦ true | Some shape ↦ elim p as (λ _. Bool) [ None ↦ true | Some number ↦ has_image_of shape number ] ]) ≡ false →
        HasNone s
    by None p a b e = absurd (cc)
    by (Some shape) None a b e = absurd (cc)
    by (Some shape) (Some number) a b e =
        record { shape = shape; number = number; shape_is = a; number_is = b; none = e }

none-stays : (s t : Settings) (name : Name) (text : List ℕ) → HasNone s → put s name text ≡ Some t → HasNone t
none-stays s t name text h is = record {
  shape = h.shape;
  number = h.number;
  shape_is = shape-stays s t name text is (ap is_some h.shape_is) ∙ h.shape_is;
  number_is = number-stays s t name text is (ap is_some h.number_is) ∙ h.number_is;
  none = h.none;
}

all-stay-none : (sets : List Set) (s t : Settings) → HasNone s → settled s sets ≡ Some t → HasNone t
all-stay-none [] s t h is = let same : s ≡ t = cc in subst-none s t same h
  where
    subst-none : (s t : Settings) → s ≡ t → HasNone s → HasNone t
    subst-none s t same h = subst HasNone same h
all-stay-none (set ∷ rest) s t h is =
    let first = and_then-some (λ u. settled u rest) (put s set.name set.text) t is in
    all-stay-none rest first.0 t (none-stays s first.0 set.name set.text h first.1) first.2

no-image : (s : Settings) → HasNone s → shaped s ≡ None
no-image s h = rw (h.shape_is, h.number_is, h.none) refl

then-none : {A B : Type 0} (f : A → Option B) (b : Bool) (a : A) → f a ≡ None → option_and_then f (cond b (Some a) None) ≡ None
then-none f true a h = h
then-none f false a h = refl

pub none-ends : (verb : Verb) (s : Settings) (words : List (List ℕ)) → takes verb Shape ≡ true
    → may_have_image s ≡ false → ends verb s words ≡ None
none-ends verb s words h none =
    ends-none verb s words (λ t sets is. then-none (command_of verb) (are_together_few t) t
    (by verb h t (no-image t (all-stay-none sets s t (has-none s none) is))))
  where
    by : (verb : Verb) → takes verb Shape ≡ true → (t : Settings) → shaped t ≡ None → command_of verb t ≡ None
    by Gen h t none = rw none refl
    by Soak h t none = rw none refl
    by Record h t none = absurd (cc)
    by Run h t none = absurd (cc)
    by Print h t none = absurd (cc)
    by Replay h t none = absurd (cc)
    by Migrate h t none = absurd (cc)
    by Certify h t none = absurd (cc)
    by Check h t none = absurd (cc)
    by At h t none = absurd (cc)
    by Thin h t none = absurd (cc)
    by CheckThin h t none = absurd (cc)
    by TsoRecord h t none = absurd (cc)
    by TsoRun h t none = absurd (cc)
    by TsoReplay h t none = absurd (cc)

-- a setting that leaves no image is the shape or the number, of a command that makes images
pub image-option : (verb : Verb) (s t : Settings) (name : Name) (text : List ℕ) → takes verb name ≡ true
    → put s name text ≡ Some t → may_have_image s ≡ true → may_have_image t ≡ false → takes verb Shape ≡ true
image-option verb s t Shape text h is before after = h
image-option verb s t Number text h is before after = same verb ∙ h
  where
    same : (verb : Verb) → takes verb Shape ≡ takes verb Number
    same Record = refl
    same Run = refl
    same Print = refl
    same Replay = refl
    same Migrate = refl
    same Certify = refl
    same Check = refl
    same Gen = refl
    same Soak = refl
    same At = refl
    same Thin = refl
    same CheckThin = refl
    same TsoRecord = refl
    same TsoRun = refl
    same TsoReplay = refl
image-option verb s t Cores text h is before after = absurd (grind arith)
image-option verb s t Limit text h is before after = absurd (grind arith)
image-option verb s t Words text h is before after = absurd (grind arith)
image-option verb s t Choices text h is before after = absurd (grind arith)
image-option verb s t Seed text h is before after = absurd (grind arith)
image-option verb s t Log text h is before after = absurd (grind arith)
image-option verb s t Core text h is before after = absurd (grind arith)
image-option verb s t Count text h is before after = absurd (grind arith)
image-option verb s t Threads text h is before after = absurd (grind arith)
image-option verb s t Loads text h is before after = absurd (grind arith)
image-option verb s t Elf text h is before after = absurd (grind arith)
image-option verb s t Latest text h is before after = absurd (grind arith)
image-option verb s t Certified text h is before after = absurd (grind arith)
