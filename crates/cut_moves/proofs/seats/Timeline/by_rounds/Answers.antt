use Rattle.std.proofs.Common.{◌≡◌, ◌∙◌, ◌<◌, ◌^◌, ℕ, List, length, sym, subst}
use Rattle.std.specs.Prelude.{slice_index}
use Rattle.rtr_types.specs.declared.TheConstants.{CORES_MAX}
use Rattle.cut_moves.proofs.Short.{rounds_few, rounds_short}
use Rattle.cut_moves.proofs.seats.Timeline.by_rounds.Goals as goal

pub seats_in-requires-clause-few : goal.seats_in-requires-clause-few
seats_in-requires-clause-few c =
    let a = c.args.audited.now in
    subst (λ (l : List ℕ). (number : ℕ) → number < length l → slice_index l number < CORES_MAX)
    (sym (c.as_slice-2.ensures ∙ c.in_ok-places.ensures.rounds))
    (rounds_few a.which a.recording c.recording-recording.ensures.valid)

pub seats_in-requires-clause-short : goal.seats_in-requires-clause-short
seats_in-requires-clause-short c =
    let a = c.args.audited.now in
    subst (λ (l : List ℕ). length l < 2 ^ 32) (sym (c.as_slice-2.ensures ∙ c.in_ok-places.ensures.rounds))
    (rounds_short a.which a.recording c.recording-recording.ensures.valid)
