-- Rule: what a hunt finds: Finds
-- What a hunt prints of an image, and how it ends.
use Rattle.std.specs.Prelude.{◌≡◌, ℕ, ◌+◌, ◌-◌, ◌==◌, ◌⊎◌, Bool, true, false, List, [], ◌++◌, Option, Some, None}
use Rattle.std.specs.Prelude.{if◌then◌else◌, sum_by}
use Rattle.schedule_pick.specs.Choices.{Choices, choices_of}
use Rattle.tool_words.specs.declared.command.RunWords.{RunWords}
use Rattle.turn_lists.specs.declared.actor.Turn.{Turn}
use Rattle.turn_lists.specs.Turns.{IsLeastInSteps}
use Rattle.turn_policies.specs.Named.{is_by_seed, numbered_by}
use Rattle.turn_policies.specs.declared.named.Named.{Named}
use Rattle.end_claims.specs.declared.claim.Demand.{Demand}
use Rattle.end_claims.specs.declared.claim.Demand.TheVariants.{Expect, Never, Same}
use Rattle.end_claims.specs.declared.claim.Place.{Place}
use Rattle.end_claims.specs.Demands.{breaks, demand_places, is_demanded_within}
use Rattle.end_claims.specs.Ends.{End, values_at}
use Rattle.run_ranges.specs.declared.rows.Row.{Row}
use Rattle.run_ranges.specs.Firsts.{IsFirst}
use Rattle.run_ranges.specs.Tables.{IsTable}
use Rattle.state_text.specs.declared.exit.Exit.TheVariants as exits
use Rattle.rtr_cli.specs.Runs.{recorded_bytes}
use Rattle.rtr_cli.specs.Buffers.{tso_recorded_bytes}
use Rattle.hunt_words.specs.declared.hunt.Hunt.{Hunt}
use Rattle.hunt_words.specs.declared.hunt.Hunt.TheVariants.{First, Table, Small, Words, Record}
use Rattle.hunt_words.specs.declared.hunt.RunName.{RunName}
use Rattle.hunt_words.specs.declared.hunt.RunName.TheVariants as names
use Rattle.hunt_words.specs.declared.hunt.Runs.{Runs}
use Rattle.hunt_words.specs.declared.hunt.Setup.{Setup}
use Rattle.hunt_texts.specs.Shown.{Shown, none_text, run_line, shown_text, words_line}
use Rattle.hunt_texts.specs.Reports.{broken_report, found_report, whole_report}
use Rattle.hunt_texts.specs.Tables.{table_text}
use Rattle.hunt_cli.specs.declared.exits.HuntExit.{HuntExit}
use Rattle.hunt_cli.specs.declared.exits.HuntExit.TheVariants.{As, Breaks, Whole}
use Rattle.hunt_cli.specs.Inputs.{setup_in, words_of}
use Rattle.hunt_cli.specs.Kinds.{Setting, end_under, named_choices, numbered_choices, setting_of, turns_choices}
use Rattle.hunt_cli.specs.OwnTurns.{turns_named}

-- ---- which runs break a demand

-- the values at the places of `Same` that the run under these choices ends with; none of another demand
abbrev pub first_values : Setting → Demand → Choices → List ℕ
first_values s (Same places) choices = values_at (end_under s choices) places
first_values s (Expect claim) choices = []
first_values s (Never claim) choices = []

-- the end of the run under these choices breaks the demand, where the range's first run has these values
abbrev pub breaks_under : Setting → Demand → (first : List ℕ) → Choices → Bool
breaks_under s demand first choices = breaks (end_under s choices) demand first

-- under which choices the run of a policy with this number is made
abbrev pub choices_at : Setting → Named → (number : ℕ) → Choices
choices_at s by number = numbered_choices s (numbered_by by number)

-- the values of the range's first run
abbrev pub firsts : Setting → Runs → Demand → List ℕ
firsts s runs demand = first_values s demand (choices_at s runs.by runs.first)

-- the end breaks what is demanded, where something is
abbrev pub breaks_any : End → Option Demand → (first : List ℕ) → Bool
breaks_any end None first = false
breaks_any end (Some demand) first = breaks end demand first

-- the machine has all that it names
abbrev pub is_any_within : (cores words : ℕ) → Option Demand → Bool
is_any_within cores words None = true
is_any_within cores words (Some demand) = is_demanded_within cores words demand

abbrev pub IsAnyWithin : (cores words : ℕ) → Option Demand → Type 0
IsAnyWithin cores words demand = is_any_within cores words demand ≡ true

-- the run of this number breaks it
abbrev pub number_breaks : Setting → Named → Option Demand → (first : List ℕ) → (number : ℕ) → Bool
number_breaks s by demand first number = breaks_any (end_under s (choices_at s by number)) demand first

-- the run by these turns breaks the demand
abbrev pub turns_break : Setting → Demand → (first : List ℕ) → List Turn → Bool
turns_break s demand first turns = breaks_under s demand first (turns_choices s turns)

-- ---- how a run is shown

-- these are the words by which `rtr` makes just the run under the choices
pub record IsRunOf (setup : Setup) (choices : Choices) (run : RunWords) : Type 0 where
  pub bytes : List ℕ
  pub seed : ℕ
  pub run_is : run ≡ words_of setup bytes seed
  pub choices_are : choices_of bytes seed ≡ choices

-- a run that ended so is shown: its turns, where these are told, the values of the demand's places at its end, and its
-- words
abbrev pub shown_of : Setup → Demand → Option (List Turn) → End → RunWords → Shown
shown_of setup demand turns end run = record {
  turns = turns;
  places = demand_places setup.params.cores demand;
  values = values_at end (demand_places setup.params.cores demand);
  tso = setup.tso;
  run = run;
}

-- the run under the choices is shown
abbrev pub IsShown : Setup → Setting → Demand → Option (List Turn) → Choices → (out : List ℕ) → Type 0
IsShown setup s demand turns choices out =
    (run : RunWords) × IsRunOf setup choices run
    × (out ≡ shown_text (shown_of setup demand turns (end_under s choices) run))

-- a text of which this holds was put at the end
abbrev pub IsPut : (old new : List ℕ) → (List ℕ → Type 0) → Type 0
IsPut old new holds = (text : List ℕ) × holds text × (new ≡ old ++ text)

-- turns that break the demand and are least in steps are shown
abbrev pub IsShownSmall : Setup → Setting → Demand → (first : List ℕ) → (out : List ℕ) → Type 0
IsShownSmall setup s demand first out =
    (turns : List Turn) × IsLeastInSteps (turns_break s demand first) turns
    × IsShown setup s demand (Some turns) (turns_choices s turns) out

-- turns are least in steps and break the demand, or there are none, since the given ones don't break it
abbrev pub IsMadeSmall : (breaks : List Turn → Bool) → List Turn → Option (List Turn) → Type 0
IsMadeSmall breaks turns None = breaks turns ≡ false
IsMadeSmall breaks turns (Some least) = IsLeastInSteps breaks least

-- the run is made by a seed alone, in which no policy picks
abbrev pub is_seeded : RunName → Bool
is_seeded (names.Numbered by number) = is_by_seed (numbered_by by number)
is_seeded (names.Turns turns) = false

-- The run of this name is shown made small. Only a run by a seed may be shown as it is, where the turns of its accesses
-- don't break the demand.
abbrev pub IsShownByTurns : Setup → Setting → RunName → Demand → (first : List ℕ) → (out : List ℕ) → Type 0
IsShownByTurns setup s run demand first out =
    IsShownSmall setup s demand first out
    ⊎ ((is_seeded run ≡ true) × (turns_break s demand first (turns_named s run) ≡ false)
    × IsShown setup s demand None (named_choices s run) out)

-- ---- by the verbs

-- the run of this number is shown: as it is, where that is asked for, else by turns
abbrev pub IsFoundAs : (plain : Bool) → Setup → Setting → Runs → Demand → (number : ℕ) → (out : List ℕ) → Type 0
IsFoundAs true setup s runs demand number out = IsShown setup s demand None (choices_at s runs.by number) out
IsFoundAs false setup s runs demand number out =
    IsShownByTurns setup s (names.Numbered runs.by number) demand (firsts s runs demand) out

abbrev pub FindsFirst : Setup → Setting → Runs → Demand → (plain : Bool) → (out report : List ℕ) → HuntExit → Type 0
FindsFirst setup s runs demand plain out report (As exits.Done) =
    IsFirst (number_breaks s runs.by (Some demand) (firsts s runs demand)) runs.first (runs.last + 1) None
    × (out ≡ none_text runs.first runs.last) × (report ≡ [])
FindsFirst setup s runs demand plain out report Breaks =
    (number : ℕ) × (shown : List ℕ)
    × IsFirst (number_breaks s runs.by (Some demand) (firsts s runs demand)) runs.first (runs.last + 1) (Some number)
    × IsFoundAs plain setup s runs demand number shown × (out ≡ run_line number ++ shown)
    × (report ≡ found_report number)
FindsFirst setup s runs demand plain out report exit = ⊥

-- how many of the rows' runs break the demand
abbrev pub broken_in : List Row → ℕ
broken_in rows = sum_by (λ row. row.broken) rows

-- that number, where something is demanded
abbrev pub told_broken : Option Demand → List Row → Option ℕ
told_broken None rows = None
told_broken (Some demand) rows = Some (broken_in rows)

-- a table ends so, and reports so, by how many of its runs break the demand
abbrev pub table_exit : (broken : ℕ) → HuntExit
table_exit broken = if broken == 0 then As exits.Done else Breaks

abbrev pub table_report : Runs → (broken : ℕ) → List ℕ
table_report runs broken = if broken == 0 then [] else broken_report broken (runs.last - runs.first + 1)

-- how the run of this number ends at the places
abbrev pub number_ends : Setting → Named → List Place → (number : ℕ) → List ℕ
number_ends s by places number = values_at (end_under s (choices_at s by number)) places

abbrev pub FindsTable : Setting → Runs → List Place → Option Demand → (out report : List ℕ) → HuntExit → Type 0
FindsTable s runs places demand out report exit =
    (rows : List Row)
    × IsTable (number_ends s runs.by places) (number_breaks s runs.by demand []) runs.first (runs.last + 1) rows
    × (out ≡ table_text runs.first runs.last places rows (told_broken demand rows))
    × (report ≡ table_report runs (broken_in rows)) × (exit ≡ table_exit (broken_in rows))

-- what was given doesn't break the demand, or it does, and is shown by turns
abbrev pub FindsSmall : Setup → Setting → RunName → Demand → (out report : List ℕ) → HuntExit → Type 0
FindsSmall setup s run demand out report (As exits.Done) =
    (breaks_under s demand [] (named_choices s run) ≡ true)
    × IsShownByTurns setup s run demand [] out × (report ≡ [])
FindsSmall setup s run demand out report Whole =
    (breaks_under s demand [] (named_choices s run) ≡ false) × (out ≡ []) × (report ≡ whole_report)
FindsSmall setup s run demand out report exit = ⊥

-- the words of the run
abbrev pub FindsWords : Setup → Setting → RunName → (out report : List ℕ) → HuntExit → Type 0
FindsWords setup s name out report exit =
    (run : RunWords) × IsRunOf setup (named_choices s name) run × (out ≡ words_line setup.tso run) × (report ≡ [])
    × (exit ≡ As exits.Done)

-- what `rtr record` and `rtr tsorecord` give of a run of the image of these bytes
abbrev pub recording_by : (tso : Bool) → RunWords → (bytes : List ℕ) → List ℕ
recording_by tso run bytes = if tso then tso_recorded_bytes run bytes else recorded_bytes run bytes

-- the recording of the run
abbrev pub FindsRecording : Setup → Setting → RunName → (bytes out report : List ℕ) → HuntExit → Type 0
FindsRecording setup s name bytes out report exit =
    (run : RunWords) × IsRunOf setup (named_choices s name) run × (out ≡ recording_by setup.tso run bytes)
    × (report ≡ []) × (exit ≡ As exits.Done)

-- what a hunt prints and reports of the image of these bytes in this setting, and how it ends
abbrev pub FindsOn : Setting → Hunt → (bytes out report : List ℕ) → HuntExit → Type 0
FindsOn s (First setup runs demand plain) bytes out report exit =
    FindsFirst setup s runs demand plain out report exit
FindsOn s (Table setup runs places demand) bytes out report exit = FindsTable s runs places demand out report exit
FindsOn s (Small setup run demand) bytes out report exit = FindsSmall setup s run demand out report exit
FindsOn s (Words setup run) bytes out report exit = FindsWords setup s run out report exit
FindsOn s (Record setup run) bytes out report exit = FindsRecording setup s run bytes out report exit

-- what it prints and reports of the image of these bytes
abbrev pub Finds : Hunt → (bytes out report : List ℕ) → HuntExit → Type 0
Finds hunt bytes out report exit = FindsOn (setting_of (setup_in hunt) bytes) hunt bytes out report exit
