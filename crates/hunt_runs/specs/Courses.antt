-- Rule: the choices of a run by a policy: course_of, run_by
-- The choices of a run by a policy, whichever machine runs.
use Rattle.std.specs.Prelude.{◌≡◌, ◌<◌, ℕ, zero, suc, Bool, List, [], ◌∷◌, ◌++◌, length, if◌then◌else◌}
use Rattle.image_mem.specs.Contents.{Contents}
use Rattle.rtr_types.specs.declared.params.Params.{Params}
use Rattle.schedule_pick.specs.Choices.{Choices, choices_of}
use Rattle.turn_policies.specs.Policies.{PolicyOf}
use Rattle.hunt_runs.specs.Directing.{Directed, begun, decided, noticed}
use Rattle.hunt_runs.specs.Ends.{following}
use Rattle.hunt_runs.specs.Seen.{Seen}

-- a machine's runs as who directs them knows them: what is seen after some choices, and whether the step that one more
-- choice takes changes a word
pub record Course : Type 0 where
  pub seen : (taken : List ℕ) → Seen
  pub changes : (taken : List ℕ) → (choice : ℕ) → Bool

-- those of an image with these parameters, by what is seen so many choices into a run under a schedule, and whether the
-- choice of a number changes a word there. What follows the choices that were taken doesn't matter.
abbrev pub course_of : (Contents → Params → Choices → ℕ → Seen) → (Contents → Params → Choices → ℕ → Bool)
    → Contents → Params → Course
course_of seen_at changes_at image params = record {
  seen = λ taken. seen_at image params (choices_of taken 0) (length taken);
  changes = λ taken choice. changes_at image params (choices_of (taken ++ choice ∷ []) 0) (length taken);
}

-- the choices that were made in a run so far, and what is kept in mind
pub record Gone (P : Type 0) : Type 0 where
  pub choices : List ℕ
  pub directed : Directed P

module _ {P : Type 0} where
  -- one step more: the one that is decided on
  abbrev pub stepped : Course → PolicyOf P → Gone P → Gone P
  stepped course policy gone =
      let now = course.seen gone.choices in
      let next = decided policy gone.directed now in
      let taken = gone.choices ++ next.0.number ∷ [] in
      record {
        choices = taken;
        directed =
            noticed next.0.core (course.changes gone.choices next.0.number) now (course.seen taken) next.1;
      }

  -- from there on to its end, of at most so many steps
  abbrev pub gone_from : Course → PolicyOf P → (most : ℕ) → Gone P → Gone P
  gone_from course policy zero gone = gone
  gone_from course policy (suc most) gone =
      if (course.seen gone.choices).ended then gone else gone_from course policy most (stepped course policy gone)

  -- the whole run by a policy in this state, of so many cores and at most so many steps
  abbrev pub run_by : Course → PolicyOf P → P → (cores most : ℕ) → Gone P
  run_by course policy state cores most =
      gone_from course policy most (record { choices = []; directed = begun state cores })

-- each of the choices is below the number of the steps that are enabled where it is made
abbrev pub EachEnabled : Course → List ℕ → Type 0
EachEnabled course choices =
    (before : List ℕ) (choice : ℕ) (after : List ℕ) → choices ≡ before ++ choice ∷ after
    → choice < (course.seen before).steps

-- ---- a machine on its way

-- the machine has made these choices in the run of the image, whatever follows them
abbrev pub StandsAfter : {M : Type 0} → (M → Contents → Params → Choices → ℕ → Choices → Type 0)
    → Contents → Params → M → List ℕ → Type 0
StandsAfter stands image params machine choices =
    (rest : Choices) → stands machine image params (following choices rest) (length choices) rest
