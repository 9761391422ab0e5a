-- Rule: the turns of a run: turns_named
-- The acts of a run, the turns in which they were made, and the turns that a run's name means.
use Rattle.std.specs.Prelude.{Bool, List, length, map, if◌then◌else◌, ℕ}
use Rattle.image_mem.specs.Contents.{Contents}
use Rattle.rtr_types.specs.Accesses.{is_write}
use Rattle.rtr_types.specs.declared.access.Access.{Access}
use Rattle.rtr_types.specs.declared.access.Kind.{Kind as AccessKind}
use Rattle.rtr_types.specs.declared.access.Kind.TheVariants.{Amo, Load, Store}
use Rattle.rtr_types.specs.declared.params.Params.{Params}
use Rattle.schedule_pick.specs.Choices.{Choices}
use Rattle.turn_lists.specs.Few.{few}
use Rattle.turn_lists.specs.declared.actor.Actor.{Actor}
use Rattle.turn_lists.specs.declared.actor.Actor.TheVariants.{Buffer, Core}
use Rattle.turn_lists.specs.declared.actor.Turn.{Turn}
use Rattle.turn_policies.specs.Named.{numbered_by}
use Rattle.turn_policies.specs.PickedTurns.{turns_of_picks}
use Rattle.turn_policies.specs.declared.named.Numbered.{Numbered}
use Rattle.turn_policies.specs.declared.named.Numbered.TheVariants.{Few, Ranked, Seed, Walk}
use Rattle.run_accesses.specs.Accesses.{accesses_of}
use Rattle.run_accesses.specs.TsoAccesses.{tso_accesses_of}
use Rattle.hunt_runs.specs.Picked.{picks_numbered}
use Rattle.small_turns.specs.Acts.{turns_made}
use Rattle.small_turns.specs.declared.acts.Act.{Act}
use Rattle.hunt_words.specs.declared.hunt.RunName.{RunName}
use Rattle.hunt_words.specs.declared.hunt.RunName.TheVariants as names
use Rattle.hunt_cli.specs.Kinds.{Setting, course, numbered_choices, picks}

-- who makes a core's access of this kind: a store its buffer, where it has one, and any other the core
abbrev pub actor_of : (buffers : Bool) → AccessKind → (core : ℕ) → Actor
actor_of buffers Load core = Core core
actor_of buffers Store core = if buffers then Buffer core else Core core
actor_of buffers Amo core = Core core

abbrev pub act_of : (buffers : Bool) → Access → Act
act_of buffers a = record { actor = actor_of buffers a.kind a.at.core; word = a.word; writes = is_write a.kind }

-- the accesses of a run of the image under these choices, on cores with store buffers or without
abbrev pub accesses_on : (buffers : Bool) → Contents → Params → Choices → List Access
accesses_on buffers image params choices =
    if buffers then tso_accesses_of image params choices else accesses_of image params choices

-- its acts
abbrev pub acts_on : (buffers : Bool) → Contents → Params → Choices → List Act
acts_on buffers image params choices = map (act_of buffers) (accesses_on buffers image params choices)

-- the turns in which the run under these choices was made
abbrev pub turns_under : Setting → Choices → List Turn
turns_under s choices = turns_made (acts_on s.kind.buffers s.image s.params choices)

-- whom the run of a number picks, in order; no run has more picks than choices
abbrev pub picks_made : Setting → Numbered → List Actor
picks_made s number =
    picks_numbered (course s) (picks s) number (length (numbered_choices s number).bytes) s.params.cores
    (s.kind.most_steps s.params)

-- The turns of the run of a number: those that the number means by `few`; by a policy that picks, those in which it
-- picks; and by a seed, which picks nobody, those in which the accesses were made.
abbrev pub turns_numbered : Setting → Numbered → List Turn
turns_numbered s (Seed n) = turns_under s (numbered_choices s (Seed n))
turns_numbered s (Few n) = few (picks s).each n
turns_numbered s (Walk n) = turns_of_picks (picks_made s (Walk n))
turns_numbered s (Ranked depth n) = turns_of_picks (picks_made s (Ranked depth n))

-- the turns of the run of this name
abbrev pub turns_named : Setting → RunName → List Turn
turns_named s (names.Numbered by number) = turns_numbered s (numbered_by by number)
turns_named s (names.Turns turns) = turns
