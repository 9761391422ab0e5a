-- To put a setting in is to lay settings of one option over those that were there; and settings of different options
-- may be laid in either order.
use Rattle.std.proofs.Common.{◌≡◌, ◌≢◌, ℕ, ◌-◌, ◌^◌, Bool, true, false, ◌&&◌, ◌||◌, List, Option, Some, None, refl, sym}
use Rattle.std.proofs.Common.{◌∙◌, ap, cond, is_some, arith}
use Rattle.std.specs.Option.{option_map}
use Rattle.std.proofs.Math.Bool.{or-false}
use Rattle.rtr_types.specs.declared.TheConstants.{CORES_MAX}
use Rattle.rtr_types.specs.declared.params.TheConstants.{LIMIT_MAX}
use Rattle.tool_words.specs.declared.options.Name.{Name}
use Rattle.tool_words.specs.declared.options.Name.TheVariants.{Cores, Limit, Words, Choices, Seed}
use Rattle.tool_words.specs.declared.options.Name.TheVariants.{Log, Loads, Elf, Shape, Number}
use Rattle.tool_words.specs.declared.options.Name.TheVariants.{Core, Count, Latest, Certified, Threads}
use Rattle.tool_words.specs.Choices.{are_choices}
use Rattle.tool_words.specs.Numerals.{number_between}
use Rattle.tool_words.specs.Settings.{Settings}
use Rattle.tool_words.specs.Options.{is_set, log_named, no_settings, put_new, shape_named, threads_max}
use Rattle.tool_words.specs.Options.{whole_blocks}
use Rattle.tool_words.specs.Reading.{Set}

-- ---- two values of one option

abbrev pick : {A : Type 0} → Option A → Option A → Option A
pick None old = old
pick (Some v) old = Some v

is-some-pick : {A : Type 0} (e d s : Option A) → (is_some d && is_some e) ≡ false → (is_some e && is_some (pick d s))
    ≡ (is_some e && is_some s)
is-some-pick None d s h = refl
is-some-pick (Some e) None s h = refl
is-some-pick (Some e) (Some d) s h = absurd (cc)

pick-pick : {A : Type 0} (e d s : Option A) → (is_some d && is_some e) ≡ false → pick e (pick d s) ≡ pick d (pick e s)
pick-pick None d s h = refl
pick-pick (Some e) None s h = refl
pick-pick (Some e) (Some d) s h = absurd (cc)

or-apart : (e d s : Bool) → (d && e) ≡ false → (e && (d || s)) ≡ (e && s)
or-apart false d s h = refl
or-apart true false s h = refl
or-apart true true s h = absurd (cc)

or-or : (e d s : Bool) → (e || (d || s)) ≡ (d || (e || s))
or-or false d s = refl
or-or true true s = refl
or-or true false s = refl

not-both : (a b : Bool) → (a ≡ true → b ≡ true → ⊥) → (a && b) ≡ false
not-both false b h = refl
not-both true false h = refl
not-both true true h = absurd (h refl refl)

-- ---- settings over others

-- the settings of one setting alone
abbrev pub single : Set → Option Settings
single x = put_new no_settings x.name x.text

abbrev pub merge : (new old : Settings) → Settings
merge d s = record {
  cores = pick d.cores s.cores;
  limit = pick d.limit s.limit;
  words = pick d.words s.words;
  choices = pick d.choices s.choices;
  seed = pick d.seed s.seed;
  log = pick d.log s.log;
  shape = pick d.shape s.shape;
  number = pick d.number s.number;
  core = pick d.core s.core;
  count = pick d.count s.count;
  threads = pick d.threads s.threads;
  loads = d.loads || s.loads;
  elf = d.elf || s.elf;
  latest = d.latest || s.latest;
  certify = d.certify || s.certify;
}

-- some option is set in both
abbrev pub overlaps : (new old : Settings) → Bool
overlaps d s =
    (is_some d.cores && is_some s.cores) || ((is_some d.limit && is_some s.limit)
    || ((is_some d.words && is_some s.words) || ((is_some d.choices && is_some s.choices)
    || ((is_some d.seed && is_some s.seed) || ((is_some d.log && is_some s.log)
    || ((is_some d.shape && is_some s.shape) || ((is_some d.number && is_some s.number)
    || ((is_some d.core && is_some s.core) || ((is_some d.count && is_some s.count)
    || ((is_some d.threads && is_some s.threads) || ((d.loads && s.loads)
    || ((d.elf && s.elf) || ((d.latest && s.latest)
    || ((d.certify && s.certify)))))))))))))))

-- what a setting does to the others: it lays one option over them, and was set before where that option was
abbrev pub Lays : Settings → Name → List ℕ → Type 0
Lays s name text =
    (option_map (λ d. merge d s) (put_new no_settings name text) ≡ put_new s name text)
    × (option_map (λ d. overlaps d s) (put_new no_settings name text)
    ≡ option_map (λ d. is_set s name) (put_new no_settings name text))

-- One option, whose value is put among settings. To lay it alone over settings puts it among them, and both set
-- something where it was set.
lay : {A : Type 0} (name : Name) (among : Settings → A → Settings) (s : Settings) →
    ((v : A) → merge (among no_settings v) s ≡ among s v) →
    ((v : A) → overlaps (among no_settings v) s ≡ is_set s name) → (o : Option A) →
    (option_map (λ d. merge d s) (option_map (among no_settings) o) ≡ option_map (among s) o)
    × (option_map (λ d. overlaps d s) (option_map (among no_settings) o)
    ≡ option_map (λ d. is_set s name) (option_map (among no_settings) o))
lay name among s lies meets None = (refl, refl)
lay name among s lies meets (Some v) = (ap (λ t. Some t) (lies v), ap (λ b. Some b) (meets v))

lay-choices : (s : Settings) (text : List ℕ) (b : Bool) →
    (option_map (λ d. merge d s) (cond b (Some (record no_settings { choices = Some text })) None)
    ≡ cond b (Some (record s { choices = Some text })) None)
    × (option_map (λ d. overlaps d s) (cond b (Some (record no_settings { choices = Some text })) None)
    ≡ option_map (λ d. is_some s.choices) (cond b (Some (record no_settings { choices = Some text })) None))
lay-choices s text true = (refl, ap (λ b. Some b) (or-false (is_some s.choices)))
lay-choices s text false = (refl, refl)

lay-flag : (t : Settings) (flag : Bool) → (Some t ≡ Some t) × (Some (flag || false) ≡ Some flag)
lay-flag t flag = (refl, ap (λ b. Some b) (or-false flag))

pub lays : (s : Settings) (name : Name) (text : List ℕ) → Lays s name text
lays s Cores text = lay Cores (λ s v. record s { cores = Some v }) s (λ v. refl) (λ v. or-false (is_some s.cores))
    (number_between 1 CORES_MAX text)
lays s Limit text = lay Limit (λ s v. record s { limit = Some v }) s (λ v. refl) (λ v. or-false (is_some s.limit))
    (number_between 1 LIMIT_MAX text)
lays s Words text = lay Words (λ s v. record s { words = Some v }) s (λ v. refl) (λ v. or-false (is_some s.words))
    (whole_blocks text)
lays s Choices text = lay-choices s text (are_choices text)
lays s Seed text = lay Seed (λ s v. record s { seed = Some v }) s (λ v. refl) (λ v. or-false (is_some s.seed))
    (number_between 0 (2 ^ 64 - 1) text)
lays s Log text = lay Log (λ s v. record s { log = Some v }) s (λ v. refl) (λ v. or-false (is_some s.log))
    (log_named text)
lays s Shape text = lay Shape (λ s v. record s { shape = Some v }) s (λ v. refl) (λ v. or-false (is_some s.shape))
    (shape_named text)
lays s Number text = lay Number (λ s v. record s { number = Some v }) s (λ v. refl) (λ v. or-false (is_some s.number))
    (number_between 0 (2 ^ 64 - 1) text)
lays s Core text = lay Core (λ s v. record s { core = Some v }) s (λ v. refl) (λ v. or-false (is_some s.core))
    (number_between 0 (CORES_MAX - 1) text)
lays s Count text = lay Count (λ s v. record s { count = Some v }) s (λ v. refl) (λ v. or-false (is_some s.count))
    (number_between 1 LIMIT_MAX text)
lays s Threads text = lay Threads (λ s v. record s { threads = Some v }) s (λ v. refl)
    (λ v. or-false (is_some s.threads)) (number_between 1 threads_max text)
lays s Loads text = lay-flag (record s { loads = true }) s.loads
lays s Elf text = lay-flag (record s { elf = true }) s.elf
lays s Latest text = lay-flag (record s { latest = true }) s.latest
lays s Certified text = (refl, refl)

-- no option is set in both
abbrev pub Apart : (d e : Settings) → Type 0
Apart d e = (name : Name) → (is_set d name && is_set e name) ≡ false

-- a setting sets its own option alone
sets-own : (x : Set) (d : Settings) (name : Name) → single x ≡ Some d → is_set d name ≡ true → name ≡ x.name
sets-own x d name p a = grind arith

pub apart-by-name : (x y : Set) (d e : Settings) → single x ≡ Some d → single y ≡ Some e → x.name ≢ y.name → Apart d e
apart-by-name x y d e p q ne name =
    not-both (is_set d name) (is_set e name) (λ a b. ne (sym (sets-own x d name p a) ∙ sets-own y e name q b))

-- whether e is set there already goes by what was there before d
pub overlaps-before : (d e s : Settings) → Apart d e → overlaps e (merge d s) ≡ overlaps e s
overlaps-before d e s h =
    rw (
      is-some-pick e.cores d.cores s.cores (h Cores),
      is-some-pick e.limit d.limit s.limit (h Limit),
      is-some-pick e.words d.words s.words (h Words),
      is-some-pick e.choices d.choices s.choices (h Choices),
      is-some-pick e.seed d.seed s.seed (h Seed),
      is-some-pick e.log d.log s.log (h Log),
      is-some-pick e.shape d.shape s.shape (h Shape),
      is-some-pick e.number d.number s.number (h Number),
      is-some-pick e.core d.core s.core (h Core),
      is-some-pick e.count d.count s.count (h Count),
      is-some-pick e.threads d.threads s.threads (h Threads),
      or-apart e.loads d.loads s.loads (h Loads),
      or-apart e.elf d.elf s.elf (h Elf),
      or-apart e.latest d.latest s.latest (h Latest),
      or-apart e.certify d.certify s.certify (h Certified),
    ) refl

pub merge-merge : (d e s : Settings) → Apart d e → merge e (merge d s) ≡ merge d (merge e s)
merge-merge d e s h =
    rw (
      pick-pick e.cores d.cores s.cores (h Cores),
      pick-pick e.limit d.limit s.limit (h Limit),
      pick-pick e.words d.words s.words (h Words),
      pick-pick e.choices d.choices s.choices (h Choices),
      pick-pick e.seed d.seed s.seed (h Seed),
      pick-pick e.log d.log s.log (h Log),
      pick-pick e.shape d.shape s.shape (h Shape),
      pick-pick e.number d.number s.number (h Number),
      pick-pick e.core d.core s.core (h Core),
      pick-pick e.count d.count s.count (h Count),
      pick-pick e.threads d.threads s.threads (h Threads),
      or-or e.loads d.loads s.loads,
      or-or e.elf d.elf s.elf,
      or-or e.latest d.latest s.latest,
      or-or e.certify d.certify s.certify,
    ) refl
