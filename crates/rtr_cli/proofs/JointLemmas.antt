-- Replays that words ask for on several threads.
use Rattle.std.proofs.Common.{◌≡◌, ◌≢◌, ℕ, List, sym, subst, ap, ◌∙◌}
use Rattle.std.specs.Prelude.{◌↔◌, IfSome, Option, Some, None, Result, Ok, Err}
use Rattle.std.specs.Io.KnownBytes.{Appends}
use Rattle.rtr_types.specs.declared.pairs.Which.{Which}
use Rattle.rtr_types.proofs.Lists.{some_same}
use Rattle.race_log.specs.declared.recording.Recording.{Recording}
use Rattle.log_codec.specs.Reading.{whole_at}
use Rattle.race_log.specs.Validity.{Valid}
use Rattle.replay_core.specs.Plans.{plan_of}
use Rattle.replay_core.specs.Orders.{low_order}
use Rattle.replay_audit.specs.Determinate.{IsDeterminate}
use Rattle.replay_audit.specs.Laws.{EveryOrderLaw}
use Rattle.replay_table.specs.Seats.{Ended as TableEnd, IsEnd}
use Rattle.state_text.specs.declared.exit.Exit.{Exit}
use Rattle.state_text.specs.declared.exit.Exit.TheVariants as exits
use Rattle.tool_words.specs.Commands.{HasFittingParams}
use Rattle.tool_words.specs.Reading.{FittingLaw, meaning}
use Rattle.tool_words.specs.declared.command.Command.{Command}
use Rattle.tool_words.specs.declared.command.Command.TheVariants.{Record, Run, Print, Replay, Migrate, Certify, Check}
use Rattle.tool_words.specs.declared.command.Command.TheVariants.{Gen, Soak, At, Thin, CheckThin}
use Rattle.tool_words.specs.declared.command.Command.TheVariants.{TsoRecord, TsoRun, TsoReplay}
use Rattle.rtr_cli.specs.declared.joint.Asked.{Asked}
use Rattle.rtr_cli.specs.Answers.{Answers, IsRead}
use Rattle.rtr_cli.specs.Inputs.{SpellsSome, file_bytes_max, most_of}
use Rattle.rtr_cli.specs.Replays.{IsReplayed}
use Rattle.rtr_cli.specs.Commands.{Refuses}
use Rattle.rtr_cli.specs.Completeness.{MakesWhole}
use Rattle.rtr_cli.specs.Joints.{ClosesWith, PrintsJoint, PrintsSome, asked_by, command_of, joint_lines}

none_some : {X : Type 0} (x : X) → None ≡ Some x → ⊥
none_some x e = cc

-- the words' meaning is the command that asks for it
pub asked_is : (meant : Option Command) (a : Asked) → asked_by meant ≡ Some a → meant ≡ Some (command_of a)
asked_is None a e = absurd (none_some a e)
asked_is (Some (Record run)) a e = absurd (none_some a e)
asked_is (Some (Run run loads)) a e = absurd (none_some a e)
asked_is (Some Print) a e = absurd (none_some a e)
asked_is (Some (Replay which None loads)) a e = absurd (none_some a e)
asked_is (Some (Replay which (Some threads) loads)) a e =
    ap (λ (x : Asked). Some (command_of x)) (some_same (record { which = which; threads = threads; loads = loads }) a e)
asked_is (Some Migrate) a e = absurd (none_some a e)
asked_is (Some Certify) a e = absurd (none_some a e)
asked_is (Some Check) a e = absurd (none_some a e)
asked_is (Some (Gen shape number)) a e = absurd (none_some a e)
asked_is (Some (Soak shape number params seed)) a e = absurd (none_some a e)
asked_is (Some (At which at latest loads)) a e = absurd (none_some a e)
asked_is (Some (Thin certify)) a e = absurd (none_some a e)
asked_is (Some CheckThin) a e = absurd (none_some a e)
asked_is (Some (TsoRecord run)) a e = absurd (none_some a e)
asked_is (Some (TsoRun run loads)) a e = absurd (none_some a e)
asked_is (Some (TsoReplay loads)) a e = absurd (none_some a e)

pub fits_some : (meant : Option Command) (words : List (List ℕ)) → meant ≡ meaning words → FittingLaw
    → IfSome meant (λ command. HasFittingParams command)
fits_some None words same law = tt
fits_some (Some command) words same law = law words command (sym same)

pub asked_command : (meant : Option Command) (a : Asked) (command : Command) → asked_by meant ≡ Some a
    → meant ≡ Some command → command_of a ≡ command
asked_command meant a command e is = some_same (command_of a) command (sym (asked_is meant a e) ∙ is)

-- no command is refused at Done
pub refused_not_done : (command : Command) (input : List ℕ) (exit : Exit) → Refuses command input exit
    → exit ≢ exits.Done
refused_not_done command input exit h e = subst (λ (x : Exit). Refuses command input x) e h

spells_more : {X E : Type 0} (x : Result X E) (P Q : X → Type 0) → ((r : X) → P r → Q r) → SpellsSome x P
    → SpellsSome x Q
spells_more (Ok x) P Q f h = f x h
spells_more (Err e) P Q f h = absurd h

-- what was given is the text of what the closed table comes to
pub prints_joint : (a : Asked) (closed : TableEnd) (left left' got got' : Option (List ℕ)) (input out : List ℕ)
    → IsRead file_bytes_max left left' input →
    SpellsSome (whole_at input) (λ r. (out ≡ joint_lines a.loads closed r) × IsEnd (plan_of a.which r) closed)
    → Appends got got' out →
    PrintsJoint a closed left left' got got'
prints_joint a closed left left' got got' input out taken printed whole = (
  input,
  taken,
  spells_more (whole_at input) (λ (r : Recording). (out ≡ joint_lines a.loads closed r) × IsEnd (plan_of a.which r)
      closed) (ClosesWith a closed got got')
      (λ r e. (subst (λ (l : List ℕ). Appends got got' l) e.0 whole, e.1)) printed,
)

-- a determinate recording is replayed by every order alike
pub joint_replayed : (which : Which) (r : Recording) → Valid r → EveryOrderLaw → IsDeterminate which r
    → IsReplayed which r
joint_replayed which r valid law det = (
  det,
  λ order ordered. law which r (low_order (plan_of which r)) order valid
      det ordered,
)

-- ---- what is said of the command that asks for it is said of what the words mean

pub answers_asked : (meant words : Option Command) (a : Asked) (exit : Exit) (left left' got got' : Option (List ℕ))
    → meant ≡ words → asked_by meant ≡ Some a →
    Answers (command_of a) exit left left' got got' → (command : Command) → words ≡ Some command
    → Answers command exit left left' got got'
answers_asked meant words a exit left left' got got' same asked h command is =
    subst (λ (q : Command). Answers q exit left left' got got') (asked_command meant a command asked (same ∙ is)) h

pub complete_asked : (meant words : Option Command) (a : Asked) (exit : Exit) (left : Option (List ℕ)) (f f' o o' : ℕ)
    → meant ≡ words →
    asked_by meant ≡ Some a →
    ((bytes : List ℕ) → MakesWhole (command_of a) bytes exit left f f' o o') →
    (command : Command) (bytes : List ℕ) → words ≡ Some command → MakesWhole command bytes exit left f f' o o'
complete_asked meant words a exit left f f' o o' same asked h command bytes is =
    subst (λ (q : Command). MakesWhole q bytes exit left f f' o o')
    (asked_command meant a command asked (same ∙ is)) (h bytes)

pub taken_asked : (meant words : Option Command) (a : Asked) (command : Command) → meant ≡ words
    → asked_by meant ≡ Some a → words ≡ Some command →
    most_of command ≡ None → ⊥
taken_asked meant words a command same asked is none =
    none_some file_bytes_max
    (sym none ∙ ap (λ (q : Command). most_of q) (sym (asked_command meant a command asked (same ∙ is))))

pub never_usage : (command : Command) (exit : Exit) (left left' got got' : Option (List ℕ)) → Answers command exit
    left left' got got' → exit ≡ exits.Usage → ⊥
never_usage command exit left left' got got' h e = subst (λ (x : Exit). Answers command x left left' got got') e h

pub usage_asked : (meant words : Option Command) (a : Asked) (exit : Exit) (left left' got got' : Option (List ℕ))
    → meant ≡ words → asked_by meant ≡ Some a →
    Answers (command_of a) exit left left' got got' → (exit ≡ exits.Usage) ↔ (words ≡ None)
usage_asked meant words a exit left left' got got' same asked h = (
  λ e. absurd (never_usage (command_of a) exit left left' got got' h e),
  λ none. absurd (none_some (command_of a) (sym none ∙ sym same ∙ asked_is meant a asked)),
)

pub closed_asked : (meant words : Option Command) (a : Asked) (exit : Exit) (joint : Option TableEnd)
    (left left' got got' : Option (List ℕ)) →
    meant ≡ words → asked_by meant ≡ Some a →
    IfSome joint (λ closed. (exit ≡ exits.Done) × PrintsJoint a closed left left' got got') →
    IfSome joint (λ closed. (exit ≡ exits.Done) × PrintsSome (asked_by words) closed left left' got got')
closed_asked meant words a exit joint left left' got got' same asked h =
    subst (λ (o : Option Asked). IfSome joint (λ closed. (exit ≡ exits.Done) × PrintsSome o closed left left' got got'))
    (sym (ap asked_by (sym same) ∙ asked)) h
