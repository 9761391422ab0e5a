-- Rule: how the runs of a hunt end: end_under, numbered_choices, named_choices
-- The runs of an image on a kind of machine, by their names.
use Rattle.std.specs.Prelude.{ℕ, Bool, true, false, List, if◌then◌else◌}
use Rattle.image_mem.specs.Contents.{Contents}
use Rattle.rtr_types.specs.declared.params.Params.{Params}
use Rattle.rv_core.specs.declared.outcome.Outcome.{Outcome}
use Rattle.schedule_pick.specs.Choices.{Choices}
use Rattle.turn_lists.specs.declared.actor.Turn.{Turn}
use Rattle.turn_policies.specs.Named.{numbered_by}
use Rattle.turn_policies.specs.declared.named.Numbered.{Numbered}
use Rattle.end_claims.specs.Ends.{End, end_of}
use Rattle.machine_bound.specs.Ends as plain_ends
use Rattle.run_outcome.specs.Outcomes.{outcome_of}
use Rattle.tso_bound.specs.Ends as buffered_ends
use Rattle.tso_outcome.specs.Outcomes.{tso_outcome_of}
use Rattle.hunt_runs.specs.Counted.{Picks}
use Rattle.hunt_runs.specs.Courses.{Course, course_of}
use Rattle.hunt_runs.specs.Numbering.{choices_by_turns, choices_numbered, straight_picks}
use Rattle.hunt_runs.specs.PlainSeen as plain_seen
use Rattle.hunt_runs.specs.BufferedSeen as buffered_seen
use Rattle.hunt_runs.specs.Seen.{Seen}
use Rattle.hunt_words.specs.declared.hunt.RunName.{RunName}
use Rattle.hunt_words.specs.declared.hunt.RunName.TheVariants as names
use Rattle.hunt_words.specs.declared.hunt.Setup.{Setup}

-- a kind of machine: what is seen of its runs and changes in them, what they come to, how many steps a run has at most,
-- and whether its cores have store buffers
pub record Kind : Type 0 where
  pub seen_at : Contents → Params → Choices → ℕ → Seen
  pub changes_at : Contents → Params → Choices → ℕ → Bool
  pub outcome : Contents → Params → Choices → Outcome
  pub most_steps : Params → ℕ
  pub buffers : Bool

abbrev pub kind_with : (Contents → Params → Choices → ℕ → Seen) → (Contents → Params → Choices → ℕ → Bool)
    → (Contents → Params → Choices → Outcome) → (Params → ℕ) → Bool → Kind
kind_with seen_at changes_at outcome most_steps buffers = record {
  seen_at = seen_at;
  changes_at = changes_at;
  outcome = outcome;
  most_steps = most_steps;
  buffers = buffers;
}

-- the machine without store buffers
abbrev pub plain_kind : Kind
plain_kind = kind_with plain_seen.seen_at plain_seen.changes_at outcome_of plain_ends.most_steps false

-- the machine with store buffers
abbrev pub buffered_kind : Kind
buffered_kind =
    kind_with buffered_seen.seen_at buffered_seen.changes_at tso_outcome_of buffered_ends.most_steps true

-- an image with the parameters of its runs, on a kind of machine
pub record Setting : Type 0 where
  pub kind : Kind
  pub image : Contents
  pub params : Params

-- the image of these bytes
abbrev pub image_in : Params → (bytes : List ℕ) → Contents
image_in params bytes = record { bytes = bytes; words = params.words }

abbrev pub setting_in : Kind → Contents → Params → Setting
setting_in kind image params = record { kind = kind; image = image; params = params }

-- that of the image of these bytes
abbrev pub setting_on : Kind → Params → (bytes : List ℕ) → Setting
setting_on kind params bytes = setting_in kind (image_in params bytes) params

-- that of a hunt's runs
abbrev pub setting_of : Setup → (bytes : List ℕ) → Setting
setting_of setup bytes = setting_on (if setup.tso then buffered_kind else plain_kind) setup.params bytes

abbrev pub course : Setting → Course
course s = course_of s.kind.seen_at s.kind.changes_at s.image s.params

-- how often the straight run picks each actor
abbrev pub picks : Setting → Picks
picks s = straight_picks (course s) s.kind.buffers s.params.cores (s.kind.most_steps s.params)

-- under which choices the run of this number is made
abbrev pub numbered_choices : Setting → Numbered → Choices
numbered_choices s numbered =
    choices_numbered (course s) (picks s) numbered s.params.cores (s.kind.most_steps s.params)

-- under which the run of these turns is made
abbrev pub turns_choices : Setting → List Turn → Choices
turns_choices s turns = choices_by_turns (course s) turns s.params.cores (s.kind.most_steps s.params)

-- under which the run of this name is made
abbrev pub named_choices : Setting → RunName → Choices
named_choices s (names.Numbered by number) = numbered_choices s (numbered_by by number)
named_choices s (names.Turns turns) = turns_choices s turns

-- how the run under these choices ends
abbrev pub end_under : Setting → Choices → End
end_under s choices = end_of s.image (s.kind.outcome s.image s.params choices)
