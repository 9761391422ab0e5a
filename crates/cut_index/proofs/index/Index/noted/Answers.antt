use Rattle.std.proofs.Common.{List, ℕ, ◌<◌, ◌∙◌, ap, sym, subst}
use Rattle.std.specs.Prelude.{slice_index}
use Rattle.replay_audit.specs.Audits.{Findings}
use Rattle.cut_index.specs.declared.alone.Next.{Next}
use Rattle.cut_index.specs.declared.runs.Run.{Run}
use Rattle.cut_index.specs.Touches.{used_by}
use Rattle.cut_index.specs.Indexes.{IsNextAt, IsRunOf}
use Rattle.cut_index.proofs.Indexed.{noted_told}
use Rattle.cut_index.proofs.index.Index.noted.Goals as goal

pub returns : goal.returns
returns c =
    let a = c.self.inside.audited.now in
    let core = c.args.core in
    let count = c.args.count in
    let run = c.index-run.result.now in
    let inside = subst (λ (f : Findings). core < f.recording.params.cores) (sym c.self.view_is) c.requires.core in
    let below = subst (λ (f : Findings). count < slice_index f.recording.totals core) (sym c.self.view_is)
    c.requires.count in
    let is = subst (λ (x : Run). IsRunOf a core x) (sym c.index-run.ensures)
    (c.self.invariant.runs_are.each core run inside) in
    let pc = slice_index c.as_slice.result.now count in
    let next : Next = record { pc = pc; used = c.used_by.result } in
    subst (λ (f : Findings). IsNextAt f core count next) c.self.view_is
    (noted_told a c.self.invariant.audited core count inside run next is below
    (ap (λ (l : List ℕ). slice_index l count) c.as_slice.ensures)
    (c.used_by.ensures ∙ ap (λ (l : List ℕ). used_by (slice_index l count)) c.as_slice-2.ensures))
