-- Chains of values that may be missing.
use Rattle.std.proofs.Common.{◌≡◌, Bool, true, false, List, [], ◌∷◌, ◌++◌, Option, Some, None, refl, cond, is_some}
use Rattle.std.specs.Option.{option_and_then, option_map}
use Rattle.tool_words.specs.Reading.{Set, prepend}

-- a chain that ends with something begins with something
pub begins : {A B : Type 0} (f : A → Option B) (o : Option A) → is_some (option_and_then f o) ≡ true → is_some o ≡ true
begins f (Some a) h = refl
begins f None h = h

-- what is made where a test holds, and what is made where it doesn't
pub if-some : {A : Type 0} (b : Bool) (o : Option A) (a : A) → cond b o None ≡ Some a → (b ≡ true) × (o ≡ Some a)
if-some true o a h = (refl, h)
if-some false o a h = absurd (cc)

pub if-none : {A : Type 0} (b : Bool) (o : Option A) (a : A) → cond b None o ≡ Some a → (b ≡ false) × (o ≡ Some a)
if-none true o a h = absurd (cc)
if-none false o a h = (refl, h)

-- of two chains, of which one makes something where a test holds and the other where it doesn't, one makes nothing
pub one-of-two : {A B : Type 0} (test : A → Bool) (f g : A → B) (o : Option A) (b : B) →
    option_and_then (λ a. cond (test a) (Some (f a)) None) o ≡ Some b
    → option_and_then (λ a. cond (test a) None (Some (g a))) o ≡ None
one-of-two test f g None b h = refl
one-of-two test f g (Some a) b h = by-test (test a) h
  where
    by-test : (t : Bool) → cond t (Some (f a)) None ≡ Some b → cond t None (Some (g a)) ≡ None
    by-test true k = refl
    by-test false k = absurd (cc)

-- what a chain makes has this part, where each thing that it can make has it
pub part-is : {A B C : Type 0} (test : A → Bool) (make : A → B) (part : B → C) (c : C) → ((a : A) → part (make a) ≡ c) →
    (o : Option A) (b : B) →
    option_and_then (λ a. cond (test a) (Some (make a)) None) o ≡ Some b → part b ≡ c
part-is test make part c each None b h = absurd (cc)
part-is test make part c each (Some a) b h = by-test (test a) h
  where
    by-test : (t : Bool) → cond t (Some (make a)) None ≡ Some b → part b ≡ c
    by-test true k = let made : make a ≡ b = cc in let is = each a in cc
    by-test false k = absurd (cc)

pub then-then : {A B C : Type 0} (f : A → Option B) (g : B → Option C) (o : Option A) →
    option_and_then g (option_and_then f o) ≡ option_and_then (λ a. option_and_then g (f a)) o
then-then f g None = refl
then-then f g (Some a) = refl

pub then-none : {A B : Type 0} (f : A → Option B) (o : Option A) → ((a : A) → f a ≡ None) → option_and_then f o ≡ None
then-none f None each = refl
then-none f (Some a) each = each a

-- settings, and then others
abbrev pub prepend_all : List Set → Option (List Set) → Option (List Set)
prepend_all sets others = option_map (λ rest. sets ++ rest) others

pub prepend-more : (set : Set) (sets : List Set) (o : Option (List Set)) →
    prepend (Some set) (prepend_all sets o) ≡ prepend_all (set ∷ sets) o
prepend-more set sets None = refl
prepend-more set sets (Some rest) = refl

pub prepend-none : (o : Option (List Set)) → prepend_all [] o ≡ o
prepend-none None = refl
prepend-none (Some rest) = refl

-- a setting and others that were put together
pub prepended : (o : Option Set) (others : Option (List Set)) (sets : List Set) → prepend o others ≡ Some sets →
    (set : Set) × (rest : List Set) × (o ≡ Some set) × (others ≡ Some rest) × (set ∷ rest ≡ sets)
prepended None others sets h = absurd (cc)
prepended (Some set) None sets h = absurd (cc)
prepended (Some set) (Some rest) sets h = (set, rest, refl, refl, cc)
