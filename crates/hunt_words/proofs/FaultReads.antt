-- Words as the code holds them: what is at fault, and where they stop.
use Rattle.std.proofs.Common.{◌≡◌, ◌≤◌, ◌+◌, ◌-◌, ℕ, List, [], ◌∷◌, ◌++◌, Option, Some, None, refl, sym, ap}
use Rattle.std.proofs.Common.{◌∙◌, arith, drop, length, length-drop, map, take, take_all, true, false, Bool, cond}
use Rattle.std.proofs.Common.{is_some, inl, inr, ◌⊎◌, ◌||◌}
use Rattle.std.proofs.lemmas.List.{drop-map, length-map}
use Rattle.hunt_words.specs.declared.faults.Fault.TheVariants.{NoVerb, NotAVerb, InOptions}
use Rattle.hunt_words.specs.declared.faults.Missing.{Missing}
use Rattle.hunt_words.specs.declared.faults.Why.{Why}
use Rattle.hunt_words.specs.declared.faults.Why.TheVariants.{Lacks}
use Rattle.hunt_words.specs.declared.names.Name.{Name}
use Rattle.hunt_words.specs.declared.verbs.Verb.{Verb}
use Rattle.hunt_words.specs.Faults.{IsFaultAt, IsMissing, Refuses, Tells}
use Rattle.hunt_words.specs.declared.faults.Missing.TheVariants as lacking
use Rattle.hunt_words.specs.declared.given.Given.{Given as Held}
use Rattle.hunt_words.specs.declared.names.Name.TheVariants as options
use Rattle.hunt_words.specs.declared.verbs.Verb.TheVariants as verbs
use Rattle.hunt_words.specs.Given.{Given}
use Rattle.hunt_words.specs.Meaning.{hunt_of}
use Rattle.hunt_words.specs.Open.{has, has_machine, lacks, lacks_run, one}
use Rattle.hunt_words.specs.Seen.{all_seen, seen}
use Rattle.hunt_words.specs.Stops.{IsCut, IsNext, Stops, StopsAfter}
use Rattle.hunt_words.specs.Verbs.{verb_named}
use Rattle.hunt_words.proofs.FaultPlaces.{end-stops, fault-after, next-cut, next-stops, no-verb}
use Rattle.hunt_words.proofs.FaultPlaces.{not-a-verb, tells-after, value-stops}

empty : {S : Type 0} (f : S → List ℕ) (words : List S) → length words ≡ 0 → map f words ≡ []
empty f [] h = refl
empty f (x ∷ xs) h = absurd (omega arith)

pub none-read : {S : Type 0} (f : S → List ℕ) (words : List S) → length words ≡ 0
    → IsFaultAt (map f words) 0 × Tells (map f words) NoVerb
none-read f words h = let none = empty f words h in (rw none no-verb, none)

pub no-verb-read : {S : Type 0} (f : S → List ℕ) (words rest : List S) (first : S) (word : List ℕ)
    → words ≡ first ∷ rest
    → word ≡ f first → None ≡ verb_named word → IsFaultAt (map f words) 0 × Tells (map f words) NotAVerb
no-verb-read f words rest first word are is none =
    let same : map f words ≡ f first ∷ map f rest = ap (map f) are in
    let unnamed : verb_named (f first) ≡ None = ap verb_named (sym is) ∙ sym none in
    (rw same (not-a-verb (f first) (map f rest) unnamed), (f first, map f rest, same, unnamed))

pub stop-read : {S : Type 0} (f : S → List ℕ) (words rest : List S) (first : S) (word : List ℕ) (verb : Verb)
    (place : ℕ) (why : Why) → words ≡ first ∷ rest → word ≡ f first → Some verb ≡ verb_named word
    → StopsAfter verb (map f rest) place why
    → IsFaultAt (map f words) (place + 1) × Tells (map f words) (InOptions verb (place + 1) why)
stop-read f words rest first word verb place why are is named after =
    let same : map f words ≡ f first ∷ map f rest = ap (map f) are in
    let named_so : verb_named (f first) ≡ Some verb = ap verb_named (sym is) ∙ sym named in (
      rw same (fault-after (f first) verb (map f rest) place why named_so after),
      rw same (tells-after (f first) verb (map f rest) place why named_so after),
    )

-- ---- in the loop

pub up-to-end : {S : Type 0} (words : List S) (n : ℕ) → take (length words - n) (drop n words) ≡ drop n words
up-to-end words n = let long = length-drop n words in take_all (length words - n) (drop n words) (omega arith)

pub next-so : {S : Type 0} (f : S → List ℕ) (words : List S) (verb : Verb) (given : List Given) (read place : ℕ)
    (why : Why) → read ≤ length words → IsCut verb (take read (map f words)) given
    → Stops verb given (map f (drop read words)) place why
    → StopsAfter verb (map f words) (read + place) why
next-so f words verb given read place why within cut stops =
    next-stops verb (map f words) given read place why cut (let long = length-map words f in omega arith)
    (rw (drop-map f read words) stops)

pub value-so : {S : Type 0} (f : S → List ℕ) (words : List S) (verb : Verb) (given : List Given) (read used : ℕ)
    (name : Name) (text : List ℕ) (why : Why) → read ≤ length words → IsCut verb (take read (map f words)) given
    → IsNext verb given (map f (drop read words)) name text used
    → has_machine verb (given ++ one name text ∷ []) ≡ false
    → Refuses given name text why → StopsAfter verb (map f words) (read + used - 1) why
value-so f words verb given read used name text why within cut next machine refuses =
    value-stops verb (map f words) given read used name text why cut (let long = length-map words f in omega arith)
    (rw (drop-map f read words) next) machine refuses

pub cut-so : {S : Type 0} (f : S → List ℕ) (words : List S) (verb : Verb) (given : List Given) (read used : ℕ)
    (name : Name) (text : List ℕ) → read ≤ length words → IsCut verb (take read (map f words)) given
    → IsNext verb given (map f (drop read words)) name text used → has_machine verb (given ++ one name text ∷ []) ≡ true
    → (read + used ≤ length words) × IsCut verb (take (read + used) (map f words)) (given ++ one name text ∷ [])
cut-so f words verb given read used name text within cut next machine =
    let long = length-map words f in
    let left = length-drop read words in
    let few = next.within in
    let as_long = length-map (drop read words) f in (
      omega arith,
      next-cut verb (map f words) given read used name text cut (omega arith) (rw (drop-map f read words) next) machine,
    )

pub end-so : {S : Type 0} (f : S → List ℕ) (words : List S) (verb : Verb) (given : List Given) (missing : Missing)
    → IsCut verb (map f words) given → hunt_of verb given ≡ None → IsMissing verb given missing
    → StopsAfter verb (map f words) (length words) (Lacks missing)
end-so f words verb given missing cut none is =
    rw (sym (length-map words f)) (end-stops verb (map f words) given missing cut none is)

-- ---- one option more

pub pushed-so : (given more : List Held) (held : Held) (name : Name) (text : List ℕ) → more ≡ given ++ held ∷ []
    → seen held ≡ one name text → all_seen more ≡ all_seen given ++ one name text ∷ []
pushed-so given more held name text is same =
    ap all_seen is ∙ each given
  where
    each : (given : List Held) → all_seen (given ++ held ∷ []) ≡ all_seen given ++ one name text ∷ []
    each [] = ap (λ (o : Given). o ∷ []) same
    each (x ∷ xs) = ap (λ (l : List Given). seen x ∷ l) (each xs)

-- ---- at the end

pub hunt-some : {A : Type 0} (o p : Option A) (b : Bool) → o ≡ p → b ≡ is_some o → b ≡ true → p ≡ None → ⊥
hunt-some None p b same is h k = absurd (cc)
hunt-some (Some a) p b same is h k = cc

pub hunt-none : {A : Type 0} (o p : Option A) (b : Bool) → o ≡ p → b ≡ is_some o → b ≡ false → p ≡ None
hunt-none None p b same is h = sym same
hunt-none (Some a) p b same is h = absurd (cc)

run-kind : (given : List Given) (missing : Missing) → lacks_run given ≡ Some missing
    → (missing ≡ lacking.ARun) ⊎ (missing ≡ lacking.Number)
run-kind given missing h = by (has options.Run given || has options.Turns given) (has options.By given) h
  where
    by : (b c : Bool) → cond b None (cond c (Some lacking.Number) (Some lacking.ARun)) ≡ Some missing
        → (missing ≡ lacking.ARun) ⊎ (missing ≡ lacking.Number)
    by true c h = absurd (cc)
    by false true h = inr (cc)
    by false false h = inl (cc)

demand-kind : (b : Bool) (missing : Missing) → cond b None (Some lacking.Demand) ≡ Some missing
    → missing ≡ lacking.Demand
demand-kind true missing h = absurd (cc)
demand-kind false missing h = cc

-- what a verb lacks is no number of cores or words
abbrev is-own : Missing → Bool
is-own lacking.Cores = false
is-own lacking.Words = false
is-own missing = true

own-run : (given : List Given) (missing : Missing) → lacks_run given ≡ Some missing → is-own missing ≡ true
own-run given missing h = by (run-kind given missing h)
  where
    by : (missing ≡ lacking.ARun) ⊎ (missing ≡ lacking.Number) → is-own missing ≡ true
    by (inl is) = rw is refl
    by (inr is) = rw is refl

own-missing : (verb : Verb) (given : List Given) (missing : Missing) → lacks verb given ≡ Some missing
    → is-own missing ≡ true
own-missing verbs.First given missing h =
    rw (demand-kind (has options.Expect given || has options.Never given || has options.Same given) missing h) refl
own-missing verbs.Table given missing h =
    rw (demand-kind (has options.Expect given || has options.Never given || has options.See given) missing h) refl
own-missing verbs.Small given missing h = by (lacks_run given) refl h
  where
    by : (o : Option Missing) → lacks_run given ≡ o
        → elim o as (λ _. Option Missing) [
          | Some missing ↦ Some missing
          | None ↦ cond (has options.Expect given || has options.Never given) None (Some lacking.Demand)
        ] ≡ Some missing → is-own missing ≡ true
    by (Some m) is k = own-run given missing (is ∙ k)
    by None is k = rw (demand-kind (has options.Expect given || has options.Never given) missing k) refl
own-missing verbs.Words given missing h = own-run given missing h
own-missing verbs.Record given missing h = own-run given missing h

pub lacks-is : (verb : Verb) (given : List Given) (missing : Missing) → lacks verb given ≡ Some missing
    → IsMissing verb given missing
lacks-is verb given missing h = by missing h (own-missing verb given missing h)
  where
    by : (missing : Missing) → lacks verb given ≡ Some missing → is-own missing ≡ true → IsMissing verb given missing
    by lacking.Cores h own = absurd (cc)
    by lacking.Words h own = absurd (cc)
    by lacking.Demand h own = h
    by lacking.ARun h own = h
    by lacking.Number h own = h
