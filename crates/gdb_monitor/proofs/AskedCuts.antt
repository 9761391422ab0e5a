-- A place that has come to the cut that was asked for.
use Rattle.std.proofs.Common.{◌≡◌, ℕ, ◌<◌, ◌≤◌, List, sym, ap, subst, ◌∙◌, arith}
use Rattle.std.proofs.lemmas.Bool.{cases_Bool, cases_lt}
use Rattle.std.proofs.lemmas.List.{get_or_past}
use Rattle.std.proofs.lemmas.List.FromFn.{length-map-range_with_len, get_or-map-range_with_len}
use Rattle.std.proofs.Common.{◌⊎◌, inl, inr, Bool, true, false, eq-eqb}
use Rattle.std.specs.Prelude.{◌&&◌, nat_eq, slice_index}
use Rattle.std.specs.Cmp.Lexicographic.{other_text, pointwise}
use Rattle.rtr_types.specs.declared.TheConstants.{CORES_MAX}
use Rattle.rtr_types.specs.declared.cut.Cut.{Cut}
use Rattle.rtr_types.specs.declared.instr.Instr.{Instr}
use Rattle.rtr_types.specs.declared.pairs.Which.{Which}
use Rattle.race_log.specs.declared.recording.Recording.{Recording}
use Rattle.race_log.specs.Validity.{Valid}
use Rattle.replay_audit.specs.Audits.{Findings, IsInstrOf}
use Rattle.cut_replay.specs.ClosedCuts.{IsCutOf, IsGreatestWithout, IsLeastWith, count_in}
use Rattle.cut_replay.proofs.Unique.{one_cut, one_greatest}
use Rattle.cut_moves.specs.Steps.{IsHull}
use Rattle.debug_place.specs.Places.{Placed, cut_at}
use Rattle.gdb_monitor.specs.declared.moves.Extreme.{Extreme}
use Rattle.gdb_monitor.specs.Moves.{AreCounts, BothComeNext, Comes, ComesWhere, GoesAround, GoesBefore, GoesIfClosed}
use Rattle.gdb_monitor.specs.Moves.{GoesTo, GoesToCut, GoesToDecision, IsDecision, decided_text}
use Rattle.gdb_moves.specs.Sights.{IsOf}
use Rattle.gdb_monitor.specs.Moves.{IsExtreme, cut_with_counts}
use Rattle.gdb_monitor.specs.declared.moves.Extreme.TheVariants.{Earliest, Latest}
use Rattle.gdb_monitor.specs.Ordering.{AreBoth}
use Rattle.gdb_monitor.specs.Slack.{IsSlackTold, slack_rows}
use Rattle.gdb_monitor.specs.Texts.{open_text}

-- two cuts that a test tells apart
pub cuts_differ : (x y : Cut) → false ≡ (nat_eq x.cores y.cores && pointwise nat_eq x.counts y.counts) → x ≡ y → ⊥
cuts_differ x y off e = elim (cases_Bool (pointwise nat_eq x.counts y.counts)) [
  | inl alike ↦
      let all : false ≡ true =
      off
      ∙ ap (λ (b : Bool). b && pointwise nat_eq x.counts y.counts)
      (eq-eqb x.cores y.cores (ap (λ (c : Cut). c.cores) e))
      ∙ alike in
      cc
  | inr unlike ↦ other_text x.counts y.counts (sym unlike) (ap (λ (c : Cut). c.counts) e)
]

module _ (a : Findings) (old : Placed) (run : IsOf a old) (new : Placed) (told : List ℕ) where
  -- what holds of the audited recording at a cut holds of the place that has come there
  comes_there : (Holds : Which → Recording → Cut → Type 0) (to : Cut) → Holds a.which a.recording to →
      Comes to new told → ComesWhere (Holds old.which old.recording) new told
  comes_there Holds to holds comes = record {
    cut = subst (λ (c : Cut). Holds old.which old.recording c) (sym comes.cut)
        (subst (λ (r : Recording). Holds old.which r to) run.recording
        (subst (λ (w : Which). Holds w a.recording to) run.which holds));
    told_is = comes.told_is;
  }

  pub goes_to : (at : Instr) (to : Cut) (r : Recording) → r ≡ a.recording → IsInstrOf r at →
      IsLeastWith a.which a.recording at to → Comes to new told → GoesTo at old new told
  goes_to at to r same there least comes = record {
    there = λ is. comes_there (λ w r c. IsLeastWith w r at c) to least comes;
    missing = λ no. absurd (no (subst (λ (q : Recording). IsInstrOf q at) (same ∙ run.recording) there));
  }

  pub goes_before : (at : Instr) (to : Cut) (r : Recording) → r ≡ a.recording → IsInstrOf r at →
      IsGreatestWithout a.which a.recording at to → Comes to new told → GoesBefore at old new told
  goes_before at to r same there greatest comes = record {
    there = λ is. comes_there (λ w r c. IsGreatestWithout w r at c) to greatest comes;
    missing = λ no. absurd (no (subst (λ (q : Recording). IsInstrOf q at) (same ∙ run.recording) there));
  }

  -- of the audited recording, by its own log
  decided_there : (at other : Instr) (cut : Cut) → IsDecision old.which old.recording at other cut →
      IsDecision a.which a.recording at other cut
  decided_there at other cut is =
      subst (λ (w : Which). IsDecision w a.recording at other cut) (sym run.which)
      (subst (λ (r : Recording). IsDecision old.which r at other cut) (sym run.recording) is)

  pub goes_to_decision : (at other : Instr) (to : Cut) (r : Recording) → r ≡ a.recording → AreBoth r at other →
      IsGreatestWithout a.which a.recording at to → BothComeNext to at other → Comes to new told →
      GoesToDecision at other old new told
  goes_to_decision at other to r same there greatest both comes = record {
    there = λ cut is decision. comes_there (λ w r c. IsDecision w r at other c) to
        (record { greatest = greatest; both = both }) comes;
    decided = λ is none. absurd (none to
        (subst (λ (q : Recording). IsDecision old.which q at other to) run.recording
        (subst (λ (w : Which). IsDecision w a.recording at other to) run.which
        (record { greatest = greatest; both = both }))));
    missing = λ no. absurd (no (subst (λ (q : Recording). IsInstrOf q at) (same ∙ run.recording) there.one));
    other_missing = λ _ no.
        absurd (no (subst (λ (q : Recording). IsInstrOf q other) (same ∙ run.recording) there.two));
  }

  pub goes_nowhere : (at other : Instr) (to : Cut) (r : Recording) → r ≡ a.recording → AreBoth r at other →
      IsGreatestWithout a.which a.recording at to → (BothComeNext to at other → ⊥) → new ≡ old → told ≡ decided_text →
      GoesToDecision at other old new told
  goes_nowhere at other to r same there greatest not stays is = record {
    there = λ cut _ decision.
        let d = decided_there at other cut decision in
        absurd (not (subst (λ (c : Cut). BothComeNext c at other)
        (one_greatest a.which a.recording at cut to d.greatest greatest) d.both));
    decided = λ _ none. record { place = stays; told_is = is };
    missing = λ no. absurd (no (subst (λ (q : Recording). IsInstrOf q at) (same ∙ run.recording) there.one));
    other_missing = λ _ no.
        absurd (no (subst (λ (q : Recording). IsInstrOf q other) (same ∙ run.recording) there.two));
  }

  pub goes_around : (extreme : Extreme) (core : ℕ) (here to : Cut) → here ≡ cut_at old →
      core < old.recording.params.cores → IsExtreme extreme a.which a.recording here core to → Comes to new told →
      GoesAround extreme core old new told
  goes_around extreme core here to is_here there is comes = record {
    there = λ _. comes_there (λ w r c. IsExtreme extreme w r (cut_at old) core c) to
        (subst (λ (c : Cut). IsExtreme extreme a.which a.recording c core to) is_here is) comes;
    missing = λ past. absurd (omega arith);
  }

  pub slack_is : (core : ℕ) (here least greatest : Cut) → here ≡ cut_at old → core < old.recording.params.cores →
      IsExtreme Earliest a.which a.recording here core least →
      IsExtreme Latest a.which a.recording here core greatest →
      told ≡ slack_rows old.recording.params.cores least greatest here → IsSlackTold core old told
  slack_is core here least greatest is_here there from to is = record {
    there = λ _. record {
      least = least;
      greatest = greatest;
      least_is = at_place Earliest least from;
      greatest_is = at_place Latest greatest to;
      told_is = is ∙ ap (λ (c : Cut). slack_rows old.recording.params.cores least greatest c) is_here;
    };
    missing = λ past. absurd (omega arith);
  }
    where
      at_place : (extreme : Extreme) (cut : Cut) → IsExtreme extreme a.which a.recording here core cut →
          IsExtreme extreme old.which old.recording (cut_at old) core cut
      at_place extreme cut holds =
          subst (λ (w : Which). IsExtreme extreme w old.recording (cut_at old) core cut) run.which
          (subst (λ (r : Recording). IsExtreme extreme a.which r (cut_at old) core cut) run.recording
          (subst (λ (c : Cut). IsExtreme extreme a.which a.recording c core cut) is_here holds))

  -- a closed cut is the least one that contains it
  pub not_closed : (to hull : Cut) → IsCutOf old.recording to → IsHull a.which a.recording to hull →
      (hull ≡ to → ⊥) → new ≡ old → told ≡ open_text hull → GoesIfClosed to old new told
  not_closed to hull is_cut is_hull differ same told_is = record {
    hull = hull;
    is_hull = here;
    closed = λ closed. absurd (differ (one_cut old.recording hull to here.closed.is_cut is_cut
        (here.least to closed (λ core. omega arith)) here.contains));
    not_closed = λ no. record { place = same; told_is = told_is };
  }
    where
      here : IsHull old.which old.recording to hull
      here = subst (λ (r : Recording). IsHull old.which r to hull) run.recording
          (subst (λ (w : Which). IsHull w a.recording to hull) run.which is_hull)

  pub goes_to_cut : (counts : List ℕ) (r : Recording) → r ≡ a.recording → AreCounts r counts → (cores : ℕ) →
      cores ≡ old.recording.params.cores → (to : Cut) → to ≡ cut_with_counts cores counts →
      GoesIfClosed to old new told → GoesToCut counts old new told
  goes_to_cut counts r same are cores is_cores to is goes = record {
    there = λ h. subst (λ (c : Cut). GoesIfClosed c old new told)
        (is ∙ ap (λ (n : ℕ). cut_with_counts n counts) is_cores) goes;
    missing = λ no. absurd (no (subst (λ (q : Recording). AreCounts q counts) (same ∙ run.recording) are));
  }

-- counts that fit a recording are those of a cut of it
module _ (r : Recording) (valid : Valid r) (counts : List ℕ) (are : AreCounts r counts) (cores : ℕ)
    (is : cores ≡ r.params.cores) where
  here : (core : ℕ) → count_in (cut_with_counts cores counts) core ≡ slice_index counts core
  here core = by (cases_lt core CORES_MAX)
    where
      by : (core < CORES_MAX) ⊎ (CORES_MAX ≤ core) →
          count_in (cut_with_counts cores counts) core ≡ slice_index counts core
      by (inl lt) = get_or-map-range_with_len (λ c. slice_index counts c) 0 CORES_MAX core core 0 lt (omega arith)
      by (inr past) =
          let long = length-map-range_with_len (λ c. slice_index counts c) 0 CORES_MAX in
          get_or_past (cut_with_counts cores counts).counts core 0 (omega arith)
          ∙ sym (get_or_past counts core 0 (let all = are.all in let few = valid.params.cores in omega arith))

  pub counted_cut : IsCutOf r (cut_with_counts cores counts)
  counted_cut = record {
    cores = is;
    places = length-map-range_with_len (λ c. slice_index counts c) 0 CORES_MAX;
    most = λ core lt. let e = here core in let most = are.most core lt in omega arith;
    rest = λ core past. here core ∙ get_or_past counts core 0 (let all = are.all in omega arith);
  }
