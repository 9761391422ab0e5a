use Rattle.std.proofs.Common.{List, ℕ, ◌<◌, ◌∙◌, ap, sym, subst, arith}
use Rattle.replay_audit.specs.Audits.{Findings}
use Rattle.cut_index.specs.declared.runs.Run.{Run}
use Rattle.cut_index.specs.Touches.{used_by}
use Rattle.cut_index.proofs.UseCodes.{told_use}
use Rattle.cut_index.specs.Indexes.{AreUsesOf, IsRunOf}
use Rattle.cut_index.proofs.index.Index.uses.Goals as goal

pub returns : goal.returns
returns c =
    let a = c.self.inside.audited.now in
    let core = c.args.core in
    let run = c.index-run.result.now in
    let inside = subst (λ (f : Findings). core < f.recording.params.cores) (sym c.self.view_is) c.requires in
    let is = subst (λ (x : Run). IsRunOf a core x) (sym c.index-run.ensures)
    (c.self.invariant.runs_are.each core run inside) in
    subst (λ (f : Findings). AreUsesOf f core c.as_slice.result.now) c.self.view_is
    (subst (λ (l : List ℕ). AreUsesOf a core l) (sym c.as_slice.ensures)
    (record {
      all = is.uses.all;
      each = λ count below.
          ap (λ (n : ℕ). used_by n) (is.uses.each count (let all = is.uses.all in omega arith)) ∙ told_use _;
    }))
