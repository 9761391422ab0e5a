-- What a command makes of an input is one output.
use Rattle.std.proofs.Common.{◌≡◌, ◌∙◌, sym, ap, Bool, List, ℕ, Result, Ok, Err}
use Rattle.certificate_codec.specs.declared.certificate.Certificate.{Certificate}
use Rattle.certificate_codec.specs.Spelling.{spelling as certificate_spelling}
use Rattle.cut_replay.specs.ClosedCuts.{OneGreatestCutLaw, OneLeastCutLaw}
use Rattle.cut_replay.specs.CutStates.{OneStateLaw}
use Rattle.race_log.specs.declared.recording.Recording.{Recording}
use Rattle.log_codec.specs.Reading.{whole_at}
use Rattle.log_codec.specs.Spelling.{spelling}
use Rattle.tool_words.specs.declared.command.Command.TheVariants.{Record, Run, Print, Replay, Migrate, Certify, Check}
use Rattle.tool_words.specs.declared.command.Command.TheVariants.{Gen, Soak, At, Thin, CheckThin}
use Rattle.tool_words.specs.declared.command.Command.TheVariants.{TsoRecord, TsoRun, TsoReplay}
use Rattle.tso_codec.specs.Reading.{tso_at}
use Rattle.vector_reduce.specs.declared.thinned.Thinned.{Thinned}
use Rattle.vector_reduce.specs.Reading.{thinned_at}
use Rattle.certificate_codec.specs.Reading.{certificate_at}
use Rattle.state_text.specs.Logs.{logs_lines}
use Rattle.rtr_cli.specs.Inputs.{SpellsSome, loaded}
use Rattle.rtr_cli.specs.Replays.{replay_lines}
use Rattle.rtr_cli.specs.Runs.{recorded_bytes, run_lines}
use Rattle.rtr_cli.specs.Cuts.{IsToldAt}
use Rattle.rtr_cli.specs.Certificates.{IsCertified, checked_lines}
use Rattle.rtr_cli.specs.Thinnings.{IsThinnedTo, thin_checked_lines, thinned_bytes}
use Rattle.rtr_cli.specs.Buffers.{tso_replay_lines}
use Rattle.rtr_cli.specs.Laws.{MakesOne}
use Rattle.rtr_cli.proofs.CutLemmas.{one_text}
use Rattle.rtr_cli.proofs.OneCertificate.{one_certificate}
use Rattle.rtr_cli.proofs.OneThinning.{one_thinned}

-- where what is made of whatever the input spells is one, so is what is made of the input
of_spelled : {X E : Type 0} (read : Result X E) (M : X → List ℕ → Type 0) (out other : List ℕ)
    → ((x : X) → M x out → M x other → out ≡ other) → SpellsSome read (λ x. M x out)
    → SpellsSome read (λ x. M x other) → out ≡ other
of_spelled (Ok x) M out other one made also = one x made also
of_spelled (Err e) M out other one made also = absurd made

-- where it is a function's value
of_value : {X E : Type 0} (read : Result X E) (f : X → List ℕ) (out other : List ℕ)
    → SpellsSome read (λ x. out ≡ f x) → SpellsSome read (λ x. other ≡ f x) → out ≡ other
of_value read f out other = of_spelled read (λ x o. o ≡ f x) out other (λ x made also. made ∙ sym also)

certified_one : (r : Recording) (out other : List ℕ) → IsCertified r out → IsCertified r other → out ≡ other
certified_one r out other (c, made, is) (d, also, is_other) =
    is ∙ ap (λ (e : Certificate). certificate_spelling e) (one_certificate r c d made also) ∙ sym is_other

thinned_one : (certify : Bool) (r : Recording) (out other : List ℕ) → IsThinnedTo certify r out
    → IsThinnedTo certify r other → out ≡ other
thinned_one certify r out other (t, made, is) (u, also, is_other) =
    is ∙ ap (λ (x : Thinned). thinned_bytes certify x) (one_thinned r t u made also) ∙ sym is_other

pub makes_one : OneLeastCutLaw → OneGreatestCutLaw → OneStateLaw → MakesOne
makes_one least greatest state (Record run) input out other = of_value (loaded run input) (recorded_bytes run) out other
makes_one least greatest state (Run run loads) input out other = of_value (loaded run input) (run_lines run loads) out
    other
makes_one least greatest state Print input out other = of_value (whole_at input) logs_lines out other
makes_one least greatest state (Replay which threads loads) input out other = of_value (whole_at input) (replay_lines
    which loads) out other
makes_one least greatest state Migrate input out other = of_value (whole_at input) spelling out other
makes_one least greatest state Certify input out other = of_spelled (whole_at input) IsCertified out other (λ r.
    certified_one r out other)
makes_one least greatest state Check input out other = of_value (certificate_at input) checked_lines out other
makes_one least greatest state (Gen shape number) input out other = λ made also. made ∙ sym also
makes_one least greatest state (Soak shape number params seed) input out other = λ made also. made.1 ∙ sym also.1
makes_one least greatest state (At which at latest loads) input out other =
    of_spelled (whole_at input) (λ r o. IsToldAt which at latest loads r o) out other
    (λ r. one_text least greatest state which at latest loads r out other)
makes_one least greatest state (Thin certify) input out other =
    of_spelled (whole_at input) (IsThinnedTo certify) out other (λ r. thinned_one certify r out other)
makes_one least greatest state CheckThin input out other = of_value (thinned_at input) thin_checked_lines out other
makes_one least greatest state (TsoRecord run) input out other = λ made also. made ∙ sym also
makes_one least greatest state (TsoRun run loads) input out other = λ made also. made ∙ sym also
makes_one least greatest state (TsoReplay loads) input out other = of_value (tso_at input) (tso_replay_lines loads) out
    other
