-- What is told in a step: it is of one of the cores, and only the first may be an access or a logged load.
use Rattle.std.proofs.Common.{◌≡◌, ◌∙◌, ap, subst, sym, ℕ, suc, List, [], ◌∷◌, Some}
use Rattle.std.proofs.Common.{Option, arith}
use Rattle.image_mem.specs.Contents.{Contents}
use Rattle.rtr_types.specs.Parameters.{Fits}
use Rattle.rtr_types.specs.declared.params.Params.{Params}
use Rattle.rv_core.specs.declared.core_state.Core.{Core}
use Rattle.schedule_pick.specs.Choices.{Choices, choice_at}
use Rattle.tso_state.specs.declared.moves.Move.{Move}
use Rattle.tso_state.specs.declared.pending.Pending.{Pending}
use Rattle.tso_state.specs.Events.{Event, Told, Alone, Ordered}
use Rattle.tso_state.specs.Events.{Logged, locals_behind, tellings}
use Rattle.tso_state.specs.Runs.{all_told, chosen, plain_told, run, told_by}
use Rattle.tso_state.specs.States.{BufferedCore, PlainState}
pub use Rattle.tso_told.specs.Played.{AreInside}
use Rattle.tso_told.proofs.ToldRuns.{told_inside}
use Rattle.tso_told.proofs.Tellings.{behind_have, each_telling, inside_last}
use Rattle.tso_outcome.specs.Outcomes.{RunsAt}

-- each touches no data
abbrev pub AreAlone : List Told → Type 0
AreAlone [] = Unit {0}
AreAlone (Alone at ∷ list) = AreAlone list
AreAlone (Ordered a ∷ list) = ⊥
AreAlone (Logged at word value ∷ list) = ⊥

-- each behind the first does
abbrev pub AloneBehind : List Told → Type 0
AloneBehind [] = Unit {0}
AloneBehind (e ∷ list) = AreAlone list

are_alone : (core : Core) (count : ℕ) (queue : List Pending) → AreAlone (locals_behind core count queue)
are_alone = behind_have AreAlone tt (λ at list h. h)

pub alone_behind : (t : BufferedCore) (e : Event) → AloneBehind (tellings t e)
alone_behind = each_telling AloneBehind tt (λ x. tt) (λ x core count queue. are_alone core count queue)

-- what the next choice of a run tells is of the run's cores
pub inside_next : (image : Contents) (params : Params) (schedule : Choices) (t : ℕ) (s : PlainState) (rest : Choices)
    (m : Move) → Fits params → RunsAt image params schedule t s rest → chosen s (choice_at rest 0) ≡ Some m →
    AreInside params.cores (plain_told s m)
inside_next image params schedule t s rest m fits stands is =
    subst (λ (o : Option Move). AreInside params.cores (told_by s o)) is
    (subst (λ (u : PlainState). AreInside params.cores (told_by u (chosen u (choice_at rest 0)))) (sym stands.state)
    (subst (λ (n : ℕ). AreInside params.cores
    (told_by (run image params choices t) (chosen (run image params choices t) n)))
    (sym number)
    (inside_last params.cores (all_told image params choices t)
    (told_by (run image params choices t) (chosen (run image params choices t) (choices t)))
    (told_inside image params choices (suc t) fits.cores (omega (arith, fits.limit))))))
  where
    choices : ℕ → ℕ
    choices = choice_at schedule

    number : choice_at rest 0 ≡ choice_at schedule t
    number = stands.rest_is 0 ∙ ap (choice_at schedule) (omega arith)
