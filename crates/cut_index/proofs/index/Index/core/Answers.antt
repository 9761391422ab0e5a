use Rattle.std.proofs.Common.{◌≡◌, ◌∙◌, ◌<◌, List, ℕ, sym, ap, subst}
use Rattle.std.specs.Prelude.{slice_index_or}
use Rattle.race_log.specs.declared.recording.Recording.{Recording}
use Rattle.replay_audit.specs.Audits.{Findings}
use Rattle.cut_index.specs.Alone.{alone_first}
use Rattle.cut_index.specs.Indexes.{IsCoreAt}
use Rattle.cut_index.proofs.Indexed.{AreParts, alone_parts, can_run_parts, core_told, loads_own}
use Rattle.cut_index.proofs.index.Index.core.Goals as goal
use Rattle.cut_index.proofs.index.Index.core.Goals.{After-index-run}

inside : (c : goal.After-index-run) → c.args.core < c.self.inside.audited.now.recording.params.cores
inside c = subst (λ (a : Findings). c.args.core < a.recording.params.cores) (sym c.self.view_is) c.requires.core

parts : (c : goal.After-index-run) → AreParts c.self.inside.audited.now c.args.core c.self.inside.program
    c.loads_of-loads.result.now c.first-first.result (slice_index_or c.as_slice.result.now c.args.core 0)
parts c =
    let a = c.self.inside.audited.now in
    let recording = c.recording-recording.ensures.recording in
    record {
      image_is = c.self.invariant.image_is;
      loads_is = loads_own a c.args.core c.loads_of-loads.result.now c.outcome.result.now c.self.invariant.audited
          c.outcome.ensures.outcome c.loads_of-loads.ensures;
      first_is = c.first-first.ensures
          ∙ ap (λ (r : Recording). alone_first c.args.core r.params.limit) recording;
      total_is = ap (λ (l : List ℕ). slice_index_or l c.args.core 0)
          (c.as_slice.ensures ∙ ap (λ (r : Recording). r.totals) recording);
    }

pub alone-requires-clause-can : goal.alone-requires-clause-can
alone-requires-clause-can c =
    can_run_parts c.self.inside.audited.now c.self.invariant.audited c.args.core (inside c) c.self.inside.program
    c.loads_of-loads.result.now c.first-first.result (slice_index_or c.as_slice.result.now c.args.core 0) (parts c)

pub returns : goal.returns
returns c =
    let here = (goal.at.returns c).After-index-run in
    let a = c.self.inside.audited.now in
    subst (λ (f : Findings). IsCoreAt f c.args.core c.args.count c.alone.result.core) c.self.view_is
    (core_told a c.self.invariant.audited c.args.core (inside here) c.args.count c.alone.result
    (c.alone.ensures
    ∙ alone_parts a c.self.invariant.audited c.args.core (inside here) c.self.inside.program
    c.loads_of-loads.result.now c.first-first.result (slice_index_or c.as_slice.result.now c.args.core 0) (parts here)
    c.args.count))
