-- What words mean goes by the settings that they are cut into.
use Rattle.std.proofs.Common.{◌≡◌, ◌≢◌, ℕ, true, List, [], ◌∷◌, ◌++◌, Option, Some, None, refl, sym, ap, ◌∙◌, is_some}
use Rattle.std.proofs.Common.{inl, inr}
use Rattle.std.proofs.lemmas.List.{append-nil}
use Rattle.std.specs.Option.{option_and_then}
use Rattle.tool_words.specs.declared.command.Command.{Command}
use Rattle.tool_words.specs.Commands.{command_of, verb_named}
use Rattle.tool_words.specs.Options.{are_together_few, is_set, no_settings, put}
use Rattle.tool_words.specs.Reading.{Set, few_together, flag, meaning, prepend, settings, settled, settled_by, valued}
use Rattle.tool_words.specs.Settings.{Settings}
use Rattle.tool_words.proofs.WordCuts.{settled-append}
use Rattle.tool_words.proofs.FittingLemmas.{and_then-some}
use Rattle.words_laws.specs.Grammar.{AreSpelled, Says, Spells, apart, joined}
use Rattle.words_laws.specs.Laws.{JoinedIsApart, SettingsCommute, TwiceIsNothing, WordsMean}
use Rattle.words_laws.proofs.Names.{put-sets}
use Rattle.words_laws.proofs.Order.{put-commute, put-keeps}
use Rattle.tool_words.proofs.Chains.{begins, if-some, prepend_all, then-none, then-then}
use Rattle.words_laws.proofs.Cut.{cut-spells, front, fronts, when-apart, when-joined}

-- what a command makes of settings that were cut
abbrev made : (Settings → Option Command) → Option (List Set) → Option Command
made make sets = option_and_then make (option_and_then few_together (option_and_then (settled no_settings) sets))

meaning-is : (first : List ℕ) (verb : _) (words : List (List ℕ)) → verb_named first ≡ Some verb →
    meaning (first ∷ words) ≡ made (command_of verb) (settings verb words)
unfolding settled_by
meaning-is first verb words is = rw is refl

-- words that are cut into the same settings mean the same
same-meaning : (first : List ℕ) (verb : _) (v w : List (List ℕ)) → verb_named first ≡ Some verb → settings verb v ≡
    settings verb w →
    meaning (first ∷ v) ≡ meaning (first ∷ w)
same-meaning first verb v w is same =
    meaning-is first verb v is ∙ ap (λ o. made (command_of verb) o) same ∙ sym (meaning-is first verb w is)

-- ---- joined or apart

pub joined-is-apart : JoinedIsApart
joined-is-apart first name text before after sets set spelled h = by-verb (verb_named first) refl h
  where
    by-verb : (o : Option _) → verb_named first ≡ o → option_and_then (λ verb. valued verb name text) o ≡ Some set →
        meaning (first ∷ (before ++ (joined name text ++ after))) ≡ meaning
        (first ∷ (before ++ (apart name text ++ after)))
    by-verb None is k = absurd (cc)
    by-verb (Some verb) is k =
        same-meaning first verb (before ++ (joined name text ++ after)) (before ++ (apart name text ++ after)) is
        (fronts first verb sets before (joined name text ++ after) is spelled
        ∙ ap (λ o. prepend_all sets o)
        (when-joined verb name text after set k ∙ sym (when-apart verb name text after set k))
        ∙ sym (fronts first verb sets before (apart name text ++ after) is spelled))

-- ---- one after the other

swap : (s : Settings) (x y : Set) (rest : List Set) → x.name ≢ y.name → settled s (x ∷ y ∷ rest) ≡ settled s
    (y ∷ x ∷ rest)
swap s x y rest apart =
    sym (then-then (λ t. put t y.name y.text) (λ t. settled t rest) (put s x.name x.text))
    ∙ ap (λ o. option_and_then (λ t. settled t rest) o) (put-commute s x y apart)
    ∙ then-then (λ t. put t x.name x.text) (λ t. settled t rest) (put s y.name y.text)

put-in-swap : (sets : List Set) (x y : Set) (others : Option (List Set)) → x.name ≢ y.name →
    option_and_then (settled no_settings) (prepend_all sets (prepend (Some x) (prepend (Some y) others)))
    ≡ option_and_then (settled no_settings) (prepend_all sets (prepend (Some y) (prepend (Some x) others)))
put-in-swap sets x y None apart = refl
put-in-swap sets x y (Some rest) apart =
    settled-append no_settings sets (x ∷ y ∷ rest) ∙ each (settled no_settings sets)
    ∙ sym (settled-append no_settings sets (y ∷ x ∷ rest))
  where
    each : (o : Option Settings) → option_and_then (λ t. settled t (x ∷ y ∷ rest)) o ≡ option_and_then
        (λ t. settled t (y ∷ x ∷ rest)) o
    each None = refl
    each (Some t) = swap t x y rest apart

-- a setting is of a command
has-verb : (first : List ℕ) (piece : List (List ℕ)) (set : Set) → Spells first piece set → is_some (verb_named first)
    ≡ true
has-verb first piece set (name, inl (h, shape)) = begins (λ verb. valued verb name set.text) (verb_named first)
    (ap is_some h)
has-verb first piece set (name, inr (h, shape)) = begins (λ verb. flag verb name) (verb_named first) (ap is_some h)

two-cut : (first : List ℕ) (verb : _) (before a b after : List (List ℕ)) (sets : List Set) (x y : Set)
    → verb_named first ≡ Some verb →
    AreSpelled first before sets → Spells first a x → Spells first b y →
    settings verb (before ++ (a ++ (b ++ after))) ≡ prepend_all sets
    (prepend (Some x) (prepend (Some y) (settings verb after)))
two-cut first verb before a b after sets x y is spelled sa sb =
    fronts first verb sets before (a ++ (b ++ after)) is spelled
    ∙ ap (λ o. prepend_all sets o) (front first verb a (b ++ after) x is sa ∙ ap (λ o. prepend (Some x) o)
    (front first verb b after y is sb))

pub settings-commute : SettingsCommute
settings-commute first before a b after sets x y spelled sa sb apart = by-verb (verb_named first) refl
    (has-verb first a x sa)
  where
    by-verb : (o : Option _) → verb_named first ≡ o → is_some o ≡ true →
        meaning (first ∷ (before ++ (a ++ (b ++ after)))) ≡ meaning (first ∷ (before ++ (b ++ (a ++ after))))
    by-verb None is k = absurd (cc)
    by-verb (Some verb) is k =
        meaning-is first verb (before ++ (a ++ (b ++ after))) is
        ∙ ap (λ o. made (command_of verb) o) (two-cut first verb before a b after sets x y is spelled sa sb)
        ∙ ap (λ o. option_and_then (command_of verb) (option_and_then few_together o))
        (put-in-swap sets x y (settings verb after) apart)
        ∙ sym (ap (λ o. made (command_of verb) o) (two-cut first verb before b a after sets y x is spelled sb sa))
        ∙ sym (meaning-is first verb (before ++ (b ++ (a ++ after))) is)

-- ---- twice

settled-keeps : (s t : Settings) (sets : List Set) (x : Set) → settled s sets ≡ Some t → is_set s x.name ≡ true
    → is_set t x.name ≡ true
settled-keeps s t [] x h k = let same : s ≡ t = cc in rw (← same) k
settled-keeps s t (set ∷ sets) x h k =
    let p = and_then-some (λ u. settled u sets) (put s set.name set.text) t h in
    settled-keeps p.0 t sets x p.2 (put-keeps s p.0 set x p.1 k)

-- an option that is set can't be set again
set-again : (s : Settings) (y : Set) (rest : List Set) → is_set s y.name ≡ true → settled s (y ∷ rest) ≡ None
set-again s y rest set = rw set refl

once-more : (s : Settings) (x y : Set) (more rest : List Set) → x.name ≡ y.name → settled s (x ∷ more ++ y ∷ rest) ≡
    None
once-more s x y more rest same = by-put (put s x.name x.text) refl
  where
    by-more : (u : Settings) → is_set u x.name ≡ true → (o : Option Settings) → settled u more ≡ o →
        option_and_then (λ w. settled w (y ∷ rest)) o ≡ None
    by-more u set None k = refl
    by-more u set (Some w) k = set-again w y rest (rw (← same) (settled-keeps u w more x k set))

    by-put : (o : Option Settings) → put s x.name x.text ≡ o → option_and_then (λ u. settled u (more ++ y ∷ rest)) o ≡
        None
    by-put None e = refl
    by-put (Some u) e = settled-append u more (y ∷ rest) ∙ by-more u (put-sets s u x e) (settled u more) refl

put-twice : (sets more : List Set) (x y : Set) (others : Option (List Set)) → x.name ≡ y.name →
    option_and_then (settled no_settings)
    (prepend_all sets (prepend (Some x) (prepend_all more (prepend (Some y) others)))) ≡ None
put-twice sets more x y None same = refl
put-twice sets more x y (Some rest) same =
    settled-append no_settings sets (x ∷ more ++ y ∷ rest)
    ∙ then-none (λ t. settled t (x ∷ more ++ y ∷ rest)) (settled no_settings sets) (λ t. once-more t x y more rest same)

pub twice-is-nothing : TwiceIsNothing
twice-is-nothing first before a between b after sets more x y spelled sa others sb same =
    by-verb (verb_named first) refl (has-verb first a x sa)
  where
    by-verb : (o : Option _) → verb_named first ≡ o → is_some o ≡ true
        → meaning (first ∷ (before ++ (a ++ (between ++ (b ++ after))))) ≡ None
    by-verb None is k = absurd (cc)
    by-verb (Some verb) is k =
        let cut : settings verb (before ++ (a ++ (between ++ (b ++ after))))
        ≡ prepend_all sets (prepend (Some x) (prepend_all more (prepend (Some y) (settings verb after)))) =
        fronts first verb sets before (a ++ (between ++ (b ++ after))) is spelled
        ∙ ap (λ o. prepend_all sets o) (front first verb a (between ++ (b ++ after)) x is sa
        ∙ ap (λ o. prepend (Some x) o) (fronts first verb more between (b ++ after) is others
        ∙ ap (λ o. prepend_all more o) (front first verb b after y is sb))) in
        meaning-is first verb (before ++ (a ++ (between ++ (b ++ after)))) is
        ∙ ap (λ o. made (command_of verb) o) cut
        ∙ ap (λ o. option_and_then (command_of verb) (option_and_then few_together o))
        (put-twice sets more x y (settings verb after) same)

-- ---- just these

says : (words : List (List ℕ)) (command : Command) → meaning words ≡ Some command → Says words command
unfolding settled_by
says [] command h = absurd (cc)
says (first ∷ rest) command h =
    let verb = and_then-some (λ verb. made (command_of verb) (settings verb rest)) (verb_named first) command h in
    let final = and_then-some (command_of verb.0)
    (option_and_then few_together (option_and_then (settled no_settings) (settings verb.0 rest)))
    command verb.2 in
    let held = and_then-some few_together (option_and_then (settled no_settings) (settings verb.0 rest)) final.0
    final.1 in
    let cut = and_then-some (settled no_settings) (settings verb.0 rest) held.0 held.1 in
    let few = if-some (are_together_few held.0) (Some held.0) final.0 held.2 in
    let same : held.0 ≡ final.0 = let e = few.1 in cc in
    record {
      first = first;
      rest = rest;
      words_are = refl;
      sets = cut.0;
      spelled = cut-spells first verb.0 rest cut.0 verb.1 cut.1;
      settings = held.0;
      put_in = cut.2;
      few = few.0;
      makes =
          ap (λ o. option_and_then (λ v. command_of v held.0) o) verb.1 ∙ ap (λ t. command_of verb.0 t) same ∙ final.2;
    }

means : (words : List (List ℕ)) (command : Command) → Says words command → meaning words ≡ Some command
unfolding settings
means words command said =
    let verb = and_then-some (λ verb. command_of verb said.settings) (verb_named said.first) command said.makes in
    let cut : settings verb.0 said.rest ≡ Some said.sets =
    ap (λ ws. settings verb.0 ws) (sym (append-nil said.rest))
    ∙ fronts said.first verb.0 said.sets said.rest [] verb.1 said.spelled
    ∙ no-more verb.0 said.sets in
    rw said.words_are (meaning-is said.first verb.0 said.rest verb.1
    ∙ rw (cut, said.put_in, said.few) verb.2)
  where
    no-more : (verb : _) (sets : List Set) → prepend_all sets (settings verb []) ≡ Some sets
    no-more verb sets = ap (λ s. Some s) (append-nil sets)

pub words-mean : WordsMean
words-mean words command = (says words command, means words command)
