-- Where words stop, no list of words which means a command goes on; and up to there some does.
use Rattle.std.proofs.Common.{◌≡◌, ◌≢◌, ◌≤◌, ◌<◌, ◌+◌, ◌-◌, ℕ, Bool, true, false, List, [], ◌∷◌, ◌++◌, Option, Some, None, refl}
use Rattle.std.proofs.Common.{sym, ap, ◌∙◌, arith, append_assoc, codes, length, take, drop, subst, not, nat_lt, suc, zero}
use Rattle.std.proofs.Common.{take-append-drop, length-drop, length-take-le, take_all, add-one, cond, map}
use Rattle.std.proofs.Math.Seq.{take-add, take-length}
use Rattle.std.proofs.Math.ListN.{drop_of_length-le}
use Rattle.std.proofs.lemmas.Bool.Decides.{nat_tests}
use Rattle.std.proofs.lemmas.List.{drop-map, length-map}
use Rattle.std.specs.Option.{option_and_then}
use Rattle.tool_words.specs.declared.command.Command.{Command}
use Rattle.tool_words.specs.declared.command.Command.TheVariants.{Print as PrintLogs}
use Rattle.tool_words.specs.declared.command.Verb.{Verb}
use Rattle.tool_words.specs.declared.options.Name.{Name}
use Rattle.tool_words.specs.declared.faults.Fault.TheVariants.{NoCommand, NotACommand, InOptions}
use Rattle.tool_words.specs.declared.faults.Why.{Why}
use Rattle.tool_words.specs.declared.faults.Why.TheVariants.{NotAnOption, Twice, FlagWithValue, OutOfRange, NoNumber}
use Rattle.tool_words.specs.declared.faults.Why.TheVariants.{NoSuchValue, TooMany, NoImage, NoValue, Lacks}
use Rattle.tool_words.specs.Settings.{Settings}
use Rattle.tool_words.specs.Commands.{command_of, verb_named}
use Rattle.tool_words.specs.Options.{are_together_few, is_set, no_settings, put, put_new, takes}
use Rattle.tool_words.specs.Reading.{Set, few_together, meaning, settings, settled_by}
use Rattle.tool_words.specs.Faults.{Explains, IsFaultAt, IsOpen, IsViable, Tells, lacks}
use Rattle.tool_words.specs.Stops.{IsWhole, Sets, Stops, StopsAfter, is_at_end}
use Rattle.tool_words.proofs.DeadSettings.{ends, image-option, many-end, none-ends}
use Rattle.tool_words.proofs.OpenSettings.{completes, completes-name, lacking-none, none-lacking, put-in}
use Rattle.tool_words.proofs.WordCuts.{OneSetting, one-word, two-words, name-last, one-setting, settled_by-append, sets-setting, setting-option}
use Rattle.tool_words.proofs.WordCuts.{stops-flag, stops-setting, stops-twice, stops-unnamed}
use Rattle.tool_words.proofs.FittingLemmas.{AreFitting, put-fits, ranged, settled_by-fits}

-- ---- after settings

-- no command comes of these words after these settings, whatever follows
abbrev Stuck : Verb → Settings → (words : List (List ℕ)) → Type 0
Stuck verb s words = (more : List (List ℕ)) → ends verb s (words ++ more) ≡ None

-- some command does
abbrev GoesOn : Verb → Settings → (words : List (List ℕ)) → Type 0
GoesOn verb s words = (more : List (List ℕ)) × (command : Command) × (ends verb s (words ++ more) ≡ Some command)

record EndsAt (verb : Verb) (s : Settings) (words : List (List ℕ)) (place : ℕ) : Type 0 where
  none : ends verb s words ≡ None
  goes_on : GoesOn verb s (take place words)
  stuck : place < length words → Stuck verb s (take (place + 1) words)

made : (verb : Verb) (o : Option Settings) → o ≡ None → option_and_then (command_of verb) (option_and_then few_together o)
    ≡ None
made verb o h = rw h refl

-- a word at fault, and not the end
at-word : (words : List (List ℕ)) (place : ℕ) → not (nat_lt place (length words)) ≡ false → place < length words
at-word words place h = grind (arith, nat_tests)

-- the words up to a word at fault are as many as its place and one
up-to : (words piece : List (List ℕ)) (place : ℕ) → place < length words → take (place + 1) words ≡ piece
    → length piece ≡ place + 1
up-to words piece place below is = sym (ap length is) ∙ length-take-le (place + 1) words (omega arith)

by-word : (verb : Verb) (s : Settings) (words piece : List (List ℕ)) (place : ℕ) → place < length words
    → take (place + 1) words ≡ piece → GoesOn verb s (take place words) → Stuck verb s piece → EndsAt verb s words place
by-word verb s words piece place below is goes stuck = record {
  none =
      ap (λ w. ends verb s w) (sym (take-append-drop (place + 1) words)) ∙ rw is (stuck (drop (place + 1) words));
  goes_on = goes;
  stuck = λ _. rw is stuck;
}

-- the first word is at fault
first-word : (verb : Verb) (s : Settings) (words : List (List ℕ)) (word : List ℕ) (place : ℕ) → IsOpen s
    → not (nat_lt place (length words)) ≡ false → take (place + 1) words ≡ word ∷ []
    → Stuck verb s (word ∷ []) → EndsAt verb s words place
first-word verb s words word place is_open word_at is stuck =
    let below = at-word words place word_at in
    let one = up-to words (word ∷ []) place below is in
    let first : place ≡ 0 = omega arith in
    by-word verb s words (word ∷ []) place below is
    (rw first (completes verb s is_open)) stuck

-- a setting is at fault
setting-word : (verb : Verb) (s : Settings) (words : List (List ℕ)) (place : ℕ) (set : Set) → AreFitting (ranged s)
    → IsOpen s → not (nat_lt place (length words)) ≡ false
    → settings verb (take (place + 1) words) ≡ Some (set ∷ []) → is_set s set.name ≡ false
    → Stuck verb s (take (place + 1) words) → EndsAt verb s words place
setting-word verb s words place set fit is_open word_at cut unset stuck =
    by (one-setting verb (take (place + 1) words) set cut)
  where
    front : (word text : List ℕ) → take (place + 1) words ≡ word ∷ text ∷ [] → place ≡ 1 → take place words ≡ word ∷ []
    front word text is one = rw one (first words (rw one at is))
      where
        first : (words : List (List ℕ)) → take 2 words ≡ word ∷ text ∷ [] → take 1 words ≡ word ∷ []
        first [] h = absurd (cc)
        first (x ∷ xs) h = let same : x ≡ word = cc in ap (λ w. w ∷ []) same

    moved : (word : List ℕ) → take (place + 1) words ≡ word ∷ [] → Stuck verb s (word ∷ [])
    moved word is = let P : List (List ℕ) → Type 0 = λ w. Stuck verb s w in subst P is stuck

    by : OneSetting verb (take (place + 1) words) set → EndsAt verb s words place
    by (one-word word is) = first-word verb s words word place is_open word_at is (moved word is)
    by (two-words word text is named takes) =
        let below = at-word words place word_at in
        let two = up-to words (word ∷ text ∷ []) place below is in
        let second : place ≡ 1 = omega arith in
        by-word verb s words (take (place + 1) words) place below refl
        (rw (front word text is second) (completes-name verb s word set.name named takes unset fit is_open)) stuck

-- settings of which no command comes
closed : (verb : Verb) (s t : Settings) (piece : List (List ℕ)) (set : Set) → settings verb piece ≡ Some (set ∷ [])
    → put s set.name set.text ≡ Some t → ((more : List (List ℕ)) → ends verb t more ≡ None) → Stuck verb s piece
closed verb s t piece set cut is none more =
    ap (λ o. option_and_then (command_of verb) (option_and_then few_together o))
    (settled_by-append verb s t piece more (sets-setting verb s t piece set cut is)) ∙ none more

put-none : (s : Settings) (set : Set) → put_new s set.name set.text ≡ None → put s set.name set.text ≡ None
put-none s set none = by (is_set s set.name)
  where
    by : (b : Bool) → cond b None (put_new s set.name set.text) ≡ None
    by true = refl
    by false = none

-- the end is at fault
at-end : (words : List (List ℕ)) (place : ℕ) → place ≤ length words → not (nat_lt place (length words)) ≡ true
    → place ≡ length words
at-end words place within h = grind (arith, nat_tests)

whole : (words : List (List ℕ)) (place : ℕ) → place ≡ length words → take (place + 1) words ≡ words
whole words place is = rw is (take_all (length words + 1) words (omega arith))

by-end : (verb : Verb) (s : Settings) (words piece : List (List ℕ)) (place : ℕ) → place ≡ length words
    → take (place + 1) words ≡ piece → GoesOn verb s piece → ends verb s piece ≡ None → EndsAt verb s words place
by-end verb s words piece place is_end is goes none =
    let same : words ≡ piece = sym (whole words place is_end) ∙ is in
    let all : take place words ≡ piece = rw is_end (take-length words) ∙ same in
    record {
      none = rw same none;
      goes_on = rw all goes;
      stuck = λ below. absurd (omega arith);
    }

lacks-end : (verb : Verb) (s : Settings) (name : Name) → lacks verb s ≡ Some name → ends verb s [] ≡ None
unfolding settled_by settings
lacks-end verb s name lacking = by (are_together_few s)
  where
    by : (b : Bool) → option_and_then (command_of verb) (cond b (Some s) None) ≡ None
    by true = lacking-none verb s name lacking
    by false = refl

ends-at : (verb : Verb) (s : Settings) (words : List (List ℕ)) (place : ℕ) (why : Why) → AreFitting (ranged s)
    → IsOpen s → Stops verb s words place why → EndsAt verb s words place
ends-at verb s words place why fit is_open stops = by why stops.end stops.told
  where
    by : (why : Why) → not (nat_lt place (length words)) ≡ is_at_end why
        → Explains verb s (take (place + 1) words) why → EndsAt verb s words place
    by NotAnOption end (word, is, none) =
        first-word verb s words word place is_open end is
        (λ more. made verb _ (stops-unnamed verb s word more none))
    by (Twice name) end (word, is, named, set) =
        first-word verb s words word place is_open end is
        (λ more. made verb _ (stops-twice verb s word more name named set))
    by (FlagWithValue name) end (word, is, named, flag, value) =
        first-word verb s words word place is_open end is
        (λ more. made verb _ (stops-flag verb s word more name named flag value))
    by (NoValue name) end (word, is, named, takes, unset) =
        by-end verb s words (word ∷ []) place (at-end words place stops.within end) is
        (completes-name verb s word name named takes unset fit is_open)
        (made verb _ (name-last verb s word name named takes))
    by (Lacks name) end (is, lacking) =
        by-end verb s words [] place (at-end words place stops.within end) is (completes verb s is_open)
        (lacks-end verb s name lacking)
    by TooMany end (set, cut, unset, (t, is, many)) =
        let in_ = put-in s t set.name set.text unset is in
        setting-word verb s words place set fit is_open end cut unset
        (closed verb s t (take (place + 1) words) set cut in_
        (λ more. many-end verb t more (put-fits s t set.name set.text in_ fit) many))
    by NoImage end (set, cut, unset, (t, is, none)) =
        let in_ = put-in s t set.name set.text unset is in
        setting-word verb s words place set fit is_open end cut unset
        (closed verb s t (take (place + 1) words) set cut in_
        (λ more. none-ends verb t more
        (image-option verb s t set.name set.text (setting-option verb (take (place + 1) words) set cut) in_ is_open.image
        none) none))
    by (OutOfRange name least most) end (set, cut, unset, (none, is)) =
        setting-word verb s words place set fit is_open end cut unset
        (λ more. made verb _ (stops-setting verb s (take (place + 1) words) more set cut (put-none s set none)))
    by (NoNumber name) end (set, cut, unset, (none, is)) =
        setting-word verb s words place set fit is_open end cut unset
        (λ more. made verb _ (stops-setting verb s (take (place + 1) words) more set cut (put-none s set none)))
    by (NoSuchValue name) end (set, cut, unset, (none, is)) =
        setting-word verb s words place set fit is_open end cut unset
        (λ more. made verb _ (stops-setting verb s (take (place + 1) words) more set cut (put-none s set none)))

-- ---- after a command

not-none : (command : Command) → Some command ≡ None → ⊥
not-none command h = cc

meant : (first : List ℕ) (verb : Verb) (rest : List (List ℕ)) → verb_named first ≡ Some verb
    → meaning (first ∷ rest) ≡ ends verb no_settings rest
meant first verb rest named = rw named refl

-- what words mean after words that come to settings
meant-after : (first : List ℕ) (verb : Verb) (s : Settings) (before after : List (List ℕ))
    → verb_named first ≡ Some verb → settled_by verb no_settings before ≡ Some s
    → meaning (first ∷ (before ++ after)) ≡ ends verb s after
meant-after first verb s before after named set =
    meant first verb (before ++ after) named
    ∙ ap (λ o. option_and_then (command_of verb) (option_and_then few_together o))
    (settled_by-append verb no_settings s before after set)

-- a front of a viable front is viable
shorter : (words : List (List ℕ)) (n k : ℕ) → k ≤ n → IsViable (take n words) → IsViable (take k words)
shorter words n k within (more, some) =
    let cut : take n words ≡ take k words ++ take (n - k) (drop k words) =
    ap (λ m. take m words) (sum k n within) ∙ take-add k (n - k) words in (
      take (n - k) (drop k words) ++ more,
      λ none. some (ap (λ w. meaning (w ++ more)) cut ∙ ap meaning (append_assoc (take k words) (take (n - k) (drop k words)) more) ∙ none),
    )
  where
    sum : (k n : ℕ) → k ≤ n → n ≡ k + (n - k)
    sum k n h = omega arith

-- the place of a fault after the command, in all words
one-later : (first : List ℕ) (rest : List (List ℕ)) (n : ℕ) → take (n + 1) (first ∷ rest) ≡ first ∷ take n rest
one-later first rest n = rw add-one refl

pub fault-after : (first : List ℕ) (verb : Verb) (rest : List (List ℕ)) (place : ℕ) (why : Why)
    → verb_named first ≡ Some verb → StopsAfter verb rest place why → IsFaultAt (first ∷ rest) (place + 1)
fault-after first verb rest place why named after =
    let s = after.s in
    let before = take after.read rest in
    let following = drop after.read rest in
    let e = ends-at verb s following after.offset why (settled_by-fits verb before s after.set) after.may_go_on after.stops in
    let within = after.stops.within in
    let long = length-drop after.read rest in
    let read_within = after.within in
    let place_is = after.place_is in
    let front : take place rest ≡ before ++ take after.offset following =
    ap (λ n. take n rest) place_is ∙ take-add after.read after.offset rest in
    let longer : take (place + 1) rest ≡ before ++ take (after.offset + 1) following =
    ap (λ n. take n rest) (later place after.read after.offset place_is) ∙ take-add after.read (after.offset + 1) rest in
    let viable : IsViable (take (place + 1) (first ∷ rest)) =
    rw (one-later first rest place, front) (
      e.goes_on.0,
      λ none. not-none e.goes_on.1 (sym e.goes_on.2 ∙ sym (joined s before (take after.offset following) e.goes_on.0 after.set) ∙ none),
    ) in
    record {
      means_nothing =
          ap (λ w. meaning (first ∷ w)) (sym (take-append-drop after.read rest))
          ∙ meant-after first verb s before following named after.set ∙ e.none;
      within = omega arith;
      viable = λ k h. shorter (first ∷ rest) (place + 1) k h viable;
      stops = λ below goes. stuck-not s before (take (after.offset + 1) following) after.set
          (e.stuck (omega arith)) (rw (one-later first rest (place + 1), longer) at goes);
    }
  where
    later : (place read offset : ℕ) → place ≡ read + offset → place + 1 ≡ read + (offset + 1)
    later place read offset h = omega arith

    joined : (s : Settings) (before front more : List (List ℕ)) → settled_by verb no_settings before ≡ Some s →
        meaning ((first ∷ (before ++ front)) ++ more) ≡ ends verb s (front ++ more)
    joined s before front more set =
        ap (λ w. meaning (first ∷ w)) (append_assoc before front more)
        ∙ meant-after first verb s before (front ++ more) named set

    stuck-not : (s : Settings) (before front : List (List ℕ)) → settled_by verb no_settings before ≡ Some s
        → Stuck verb s front → IsViable (first ∷ (before ++ front)) → ⊥
    stuck-not s before front set stuck (more, some) = some (joined s before front more set ∙ stuck more)

pub tells-after : (first : List ℕ) (verb : Verb) (rest : List (List ℕ)) (place : ℕ) (why : Why)
    → verb_named first ≡ Some verb → StopsAfter verb rest place why → Tells (first ∷ rest) (InOptions verb (place + 1) why)
tells-after first verb rest place why named after =
    let place_is = after.place_is in
    let piece = take (after.offset + 1) (drop after.read rest) in
    let later : place + 1 ≡ after.read + (after.offset + 1) = omega arith in
    let longer : take (place + 1) rest ≡ take after.read rest ++ piece =
    ap (λ n. take n rest) later ∙ take-add after.read (after.offset + 1) rest in (
      after.s,
      piece,
      record {
        first = first;
        before = take after.read rest;
        words_are = one-later first rest (place + 1) ∙ ap (λ w. first ∷ w) longer;
        names = named;
        set = after.set;
      },
      after.stops.told,
    )

-- ---- without a command

none-viable : IsViable []
unfolding settled_by settings
none-viable =
    let made : meaning ([] ++ (codes "print" ∷ [])) ≡ Some PrintLogs = refl in
    (codes "print" ∷ [], λ none. not-none PrintLogs (sym made ∙ none))

pub no-command : IsFaultAt [] 0
no-command = record {
  means_nothing = refl;
  within = omega arith;
  viable = λ k h. rw (empty k) none-viable;
  stops = λ below. absurd (omega arith);
}
  where
    empty : (k : ℕ) → take {A = List ℕ} k [] ≡ []
    empty zero = refl
    empty (suc k) = refl

pub not-a-command : (first : List ℕ) (rest : List (List ℕ)) → verb_named first ≡ None → IsFaultAt (first ∷ rest) 0
not-a-command first rest none = record {
  means_nothing = nothing rest;
  within = omega arith;
  viable = λ k h. at-front k h;
  stops = λ below (more, some). some (nothing more);
}
  where
    nothing : (rest : List (List ℕ)) → meaning (first ∷ rest) ≡ None
    nothing rest = rw none refl

    at-front : (k : ℕ) → k ≤ 0 → IsViable (take k (first ∷ rest))
    at-front zero h = none-viable
    at-front (suc k) h = absurd (omega arith)

-- ---- the settings of all words

pub lacks-after : (verb : Verb) (words : List (List ℕ)) (s : Settings) (name : Name)
    → settled_by verb no_settings words ≡ Some s → IsOpen s → lacks verb s ≡ Some name
    → StopsAfter verb words (length words) (Lacks name)
lacks-after verb words s name set is_open lacking = record {
  s = s;
  read = length words;
  offset = 0;
  place_is = omega arith;
  within = omega arith;
  set = rw (take-length words) set;
  may_go_on = is_open;
  stops = rw (drop_of_length-le words {i = length words} (omega arith)) (record { within = omega arith; end = refl; told = (refl, lacking) });
}

pub whole-meaning : (first : List ℕ) (verb : Verb) (rest : List (List ℕ)) (s : Settings) → verb_named first ≡ Some verb
    → IsWhole verb rest s → (meaning (first ∷ rest) ≡ command_of verb s) × (command_of verb s ≢ None)
whole-meaning first verb rest s named is = (
  meant first verb rest named
      ∙ ap (λ o. option_and_then (command_of verb) (option_and_then few_together o)) is.set ∙ few-made is.may_go_on.few,
  none-lacking verb s is.lacks_none is.may_go_on,
)
  where
    few-made : are_together_few s ≡ true
        → option_and_then (command_of verb) (few_together s) ≡ command_of verb s
    few-made few = rw few refl

-- one setting more
pub one-more : (verb : Verb) (s t : Settings) (words : List (List ℕ)) (read used : ℕ) → read ≤ length words
    → settled_by verb no_settings (take read words) ≡ Some s → Sets verb s (drop read words) t used
    → settled_by verb no_settings (take (read + used) words) ≡ Some t
one-more verb s t words read used within set sets =
    ap (λ w. settled_by verb no_settings w) (take-add read used words)
    ∙ settled_by-append verb no_settings s (take read words) (take used (drop read words)) set ∙ sets.set

-- ---- texts of words

pub more-set : {S : Type 0} (f : S → List ℕ) (words : List S) (verb : Verb) (s t : Settings) (read used after : ℕ)
    → read ≤ length words → settled_by verb no_settings (take read (map f words)) ≡ Some s → after ≡ read + used
    → Sets verb s (map f (drop read words)) t used →
    (after ≤ length words) × (settled_by verb no_settings (take after (map f words)) ≡ Some t) × IsOpen t
more-set f words verb s t read used after within set after_is sets =
    let cut = drop-map f read words in
    let long = length-drop read words in
    let more = sets.within in
    let as_long = length-map (drop read words) f in
    let all_long = length-map words f in (
      omega arith,
      rw after_is (one-more verb s t (map f words) read used (omega arith) set (rw cut sets)),
      sets.may_go_on,
    )

pub stops-so : {S : Type 0} (f : S → List ℕ) (words : List S) (verb : Verb) (s : Settings) (read offset place : ℕ) (why : Why)
    → read ≤ length words → settled_by verb no_settings (take read (map f words)) ≡ Some s → IsOpen s
    → place ≡ read + offset → Stops verb s (map f (drop read words)) offset why → StopsAfter verb (map f words) place why
stops-so f words verb s read offset place why within set is_open place_is stops = record {
  s = s;
  read = read;
  offset = offset;
  place_is = place_is;
  within = let all_long = length-map words f in omega arith;
  set = set;
  may_go_on = is_open;
  stops = rw (drop-map f read words) stops;
}

pub lacks-so : {S : Type 0} (f : S → List ℕ) (words : List S) (verb : Verb) (s : Settings) (name : Name)
    → settled_by verb no_settings (map f words) ≡ Some s → IsOpen s → lacks verb s ≡ Some name
    → StopsAfter verb (map f words) (length words) (Lacks name)
lacks-so f words verb s name set is_open lacking =
    rw (sym (length-map words f)) (lacks-after verb (map f words) s name set is_open lacking)

-- nothing is set
pub none-open : IsOpen no_settings
none-open = record { few = refl; image = refl }

pub no-words : (words : List (List ℕ)) → words ≡ [] → IsFaultAt words 0 × Tells words NoCommand
no-words words none = (rw none no-command, none)

pub no-verb : (words rest : List (List ℕ)) (first : List ℕ) → words ≡ first ∷ rest → verb_named first ≡ None
    → IsFaultAt words 0 × Tells words NotACommand
no-verb words rest first are none = (rw are (not-a-command first rest none), (first, rest, are, none))

pub stop-in : (words rest : List (List ℕ)) (first : List ℕ) (verb : Verb) (place : ℕ) (why : Why)
    → words ≡ first ∷ rest → verb_named first ≡ Some verb → StopsAfter verb rest place why →
    IsFaultAt words (place + 1) × Tells words (InOptions verb (place + 1) why)
stop-in words rest first verb place why are named after =
    let P : List (List ℕ) → Type 0 = λ w. IsFaultAt w (place + 1) × Tells w (InOptions verb (place + 1) why) in
    subst P (sym are)
    (fault-after first verb rest place why named after, tells-after first verb rest place why named after)

pub all-in : (words rest : List (List ℕ)) (first : List ℕ) (verb : Verb) (s : Settings) → words ≡ first ∷ rest
    → verb_named first ≡ Some verb → IsWhole verb rest s →
    (meaning words ≡ command_of verb s) × (command_of verb s ≢ None)
all-in words rest first verb s are named is = rw are (whole-meaning first verb rest s named is)

-- the rest of a slice, as far as its end
pub up-to-end : {S : Type 0} (words : List S) (n : ℕ) → take (length words - n) (drop n words) ≡ drop n words
up-to-end words n = let long = length-drop n words in take_all (length words - n) (drop n words) (omega arith)

pub none-read : {S : Type 0} (f : S → List ℕ) (words : List S) → length words ≡ 0 →
    IsFaultAt (map f words) 0 × Tells (map f words) NoCommand
none-read {S = S} f words h = no-words (map f words) (empty words h)
  where
    empty : (words : List S) → length words ≡ 0 → map f words ≡ []
    empty [] h = refl
    empty (x ∷ xs) h = absurd (omega arith)

pub no-verb-read : {S : Type 0} (f : S → List ℕ) (words rest : List S) (first : S) (word : List ℕ) → words ≡ first ∷ rest
    → word ≡ f first → None ≡ verb_named word → IsFaultAt (map f words) 0 × Tells (map f words) NotACommand
no-verb-read f words rest first word are is none =
    no-verb (map f words) (map f rest) (f first) (ap (map f) are) (ap verb_named (sym is) ∙ sym none)

pub stop-read : {S : Type 0} (f : S → List ℕ) (words rest : List S) (first : S) (word : List ℕ) (verb : Verb) (place : ℕ)
    (why : Why) → words ≡ first ∷ rest → word ≡ f first → Some verb ≡ verb_named word
    → StopsAfter verb (map f rest) place why →
    IsFaultAt (map f words) (place + 1) × Tells (map f words) (InOptions verb (place + 1) why)
stop-read f words rest first word verb place why are is named after =
    stop-in (map f words) (map f rest) (f first) verb place why (ap (map f) are) (ap verb_named (sym is) ∙ sym named) after

pub all-read : {S : Type 0} (f : S → List ℕ) (words rest : List S) (first : S) (word : List ℕ) (verb : Verb) (s : Settings)
    → words ≡ first ∷ rest → word ≡ f first → Some verb ≡ verb_named word → IsWhole verb (map f rest) s →
    (meaning (map f words) ≡ command_of verb s) × (command_of verb s ≢ None)
all-read f words rest first word verb s are is named read =
    all-in (map f words) (map f rest) (f first) verb s (ap (map f) are) (ap verb_named (sym is) ∙ sym named) read
