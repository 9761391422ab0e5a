-- What is known in a run, as its own history holds it.
use Rattle.std.proofs.Common.{◌≡◌, ◌∙◌, refl, sym, ap, subst, ℕ, zero, suc, ◌<◌, ◌≤◌, ◌^◌, ◌↔◌, false, ◌⊎◌, inl, inr}
use Rattle.std.proofs.Common.{List, [], ◌∷◌}
use Rattle.std.proofs.Common.{length, Option, Some, None, arith}
use Rattle.std.proofs.lemmas.Bool.{cases_lt}
use Rattle.access_times.specs.Riding.{none_carrying, none_riding}
use Rattle.image_mem.specs.Contents.{Contents}
use Rattle.rtr_types.specs.Parameters.{Fits}
use Rattle.rtr_types.specs.Pairs.{IsPair}
use Rattle.rtr_types.specs.declared.instr.Instr.{Instr}
use Rattle.rtr_types.specs.declared.params.Params.{Params}
use Rattle.schedule_pick.specs.Choices.{Choices, choice_at}
use Rattle.know_history.specs.Happenings.{Happening, IsKnownAt}
use Rattle.know_history.specs.Knowing.{retired_in}
use Rattle.know_history.specs.Notes.{Notes, known_at}
use Rattle.know_history.proofs.Histories.{none_before}
use Rattle.edge_regulate.specs.Regulated.{Knowledge}
use Rattle.machine_bound.proofs.RunEnds.{run_ends, run_cores}
use Rattle.machine_bound.specs.Ends.{end_of}
use Rattle.machine_known.specs.Events.{happening_at}
use Rattle.machine_known.specs.RunHistory.{IsHistoryOf, carrying_at}
use Rattle.machine_known.proofs.RunNotes.{KnowsRun, run_known_next, run_known_start}
use Rattle.machine_known.proofs.KnownRuns.{run_orderly_law, run_plain}
use Rattle.machine_invariant.proofs.Stuck.{some_move}
use Rattle.machine_invariant.proofs.StartInvariant.{holds_run}
use Rattle.msi_state.specs.Runs.{chosen, chosen_of, plain_moves, run}
use Rattle.msi_state.specs.States.{PlainState, all_done}
use Rattle.msi_state.specs.declared.moves.Move.{Move}
use Rattle.regulated_log.proofs.KnownRetired.{history_past_law}
use Rattle.regulated_log.specs.Happened.{retirements}
use Rattle.regulated_log.specs.Logs.{IsPast}
use Rattle.run_records.specs.Recordings.{run_knowledge, run_notes}
use Rattle.run_records.specs.WhatIsKnown.{CountsKnown, HasRetired, KnownCountedLaw}

-- where there are moves a choice takes one
pub none_chosen : (ms : List Move) (choice : ℕ) → chosen_of ms choice ≡ None → 0 < length ms → ⊥
none_chosen [] choice is some = omega (arith, some)
none_chosen (m ∷ ms) choice is some = absurd cc

module _ (image : Contents) (params : Params) (schedule : Choices) (fits : Fits params) where
  abbrev choices : ℕ → ℕ
  choices = choice_at schedule

  abbrev events : ℕ → Happening
  events = happening_at image params (choice_at schedule)

  abbrev last : ℕ
  last = end_of image params (choice_at schedule)

  small : params.limit < 2 ^ 32
  small = omega (arith, fits.limit)

  -- the history of the run goes on until it ends
  pub knows_run : (t : ℕ) → t ≤ last → KnowsRun image params choices fits.cores t
  knows_run zero le = run_known_start image params choices fits.cores
  knows_run (suc t) le = by (chosen (run image params choices t) (choices t)) refl (knows_run t (omega (arith, le)))
    where
      going : all_done (run image params choices t) ≡ false
      going = (run_ends image params choices (record { cores = fits.cores; limit = small })).first t (omega (arith, le))

      some : 0 < length (plain_moves (run image params choices t))
      some = some_move none_riding none_carrying (run image params choices t) (holds_run image params choices t
          fits.cores small) going

      by : (o : Option Move) → chosen (run image params choices t) (choices t) ≡ o →
          KnowsRun image params choices fits.cores t →
          KnowsRun image params choices fits.cores (suc t)
      by None is h = absurd (none_chosen (plain_moves (run image params choices t)) (choices t) is some)
      by (Some m) is h = run_known_next image params choices fits.cores t m is h

  pub long : (t : ℕ) → length (carrying_at image params choices t).cores ≡ params.cores
  long t = ap (λ (u : PlainState). length u.cores) (run_plain none_riding image params choices (λ u. tt) t)
      ∙ run_cores image params choices t

  -- the notes of the whole run hold each retirement, with what is known at it
  pub run_history : IsHistoryOf image params (choice_at schedule) (end_of image params (choice_at schedule))
      (run_notes image params schedule)
  unfolding run_notes
  run_history =
      let h = knows_run last (omega arith) in
      record { noted = λ core lt. h.noted core (subst (λ (n : ℕ). core < n) (sym (long last)) lt); knows = h.history }

  -- such notes count what is known
  pub counts_known : (h : Notes) → IsHistoryOf image params (choice_at schedule)
      (end_of image params (choice_at schedule)) h →
      CountsKnown image params schedule (known_at h)
  counts_known h holds = record { each = λ x y pair some retired. by x y pair some retired (cases_lt y.count 1) }
    where
      by : (x y : Instr) → IsPair params.cores x.core y.core → 1 ≤ x.count → HasRetired image params schedule y →
          (y.count < 1) ⊎ (1 ≤ y.count) →
          (x.count ≤ known_at h y.core y.count x.core) ↔ IsKnownAt (happening_at image params (choice_at schedule)) x y
      by x y pair some retired (inl none) = (
        λ le.
            let zero : y.count ≡ 0 = omega arith in
            let nothing = none_before h y.core x.core in
            let same = ap (λ (n : ℕ). known_at h y.core n x.core) zero in
            absurd (omega arith),
        λ k. absurd (let at = (run_orderly_law image params choices fits.cores k.here y k.retires).count in
            omega arith),
      )
      by x y pair some retired (inr from) =
          let noted = holds.noted y.core pair.target in
          let few = fits.cores in
          let source = pair.source in
          holds.knows x y from (omega arith) (omega arith) pair.differ some

  -- two counts of what is known are the same
  pub known_same : (known others : Knowledge) → CountsKnown image params schedule known →
      CountsKnown image params schedule others →
      (core count of : ℕ) → IsPair params.cores «of» core →
      count ≤ retired_in (happening_at image params (choice_at schedule)) (end_of image params (choice_at schedule))
      core →
      known core count «of» ≡ others core count «of»
  known_same known others one two core count «of» pair retired =
      let up = no_more known others one two in
      let down = no_more others known two one in
      omega arith
    where
      up_to : (m n : ℕ) → ((a : ℕ) → 1 ≤ a → a ≤ m → a ≤ n) → m ≤ n
      up_to zero n each = omega arith
      up_to (suc m) n each = each (suc m) (omega arith) (omega arith)

      no_more : (these those : Knowledge) → CountsKnown image params schedule these →
          CountsKnown image params schedule those →
          these core count «of» ≤ those core count «of»
      no_more these those here there = up_to (these core count «of») (those core count «of») (λ a some le.
          let x : Instr = record { core = «of»; count = a } in
          let y : Instr = record { core = core; count = count } in
          (there.each x y pair some retired).1 ((here.each x y pair some retired).0 le))

  -- what is known has retired before
  pub run_past : IsPast params.cores (retirements (happening_at image params (choice_at schedule))
      (end_of image params (choice_at schedule)))
      (run_knowledge image params schedule)
  run_past =
      history_past_law events last params.cores (run_notes image params schedule) fits.cores
      (run_orderly_law image params choices fits.cores)
      run_history.noted run_history.knows

pub known_counted : KnownCountedLaw
known_counted image params schedule fits =
    counts_known image params schedule fits (run_notes image params schedule) (run_history image params schedule fits)
