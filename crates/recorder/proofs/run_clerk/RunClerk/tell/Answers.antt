use Rattle.std.proofs.Common.{◌≡◌, ◌==◌, ℕ, List, [], ◌∷◌, true, length, refl, ap, sym, subst, ◌∙◌, arith}
use Rattle.std.proofs.lemmas.Bool.Decides.{nat_tests}
use Rattle.std.specs.Prelude.{All}
use Rattle.rtr_types.specs.PairEdges.{with_edges}
use Rattle.rtr_types.specs.declared.instr.Edge.{Edge}
use Rattle.know_history.specs.Notes.{noted_count}
use Rattle.edge_regulate.specs.Seats.{Following, Follows}
use Rattle.recorder.proofs.run_clerk.RunClerk.tell.Goals as goal

no_edges : (edges : List Edge) → (length edges == 0) ≡ true → edges ≡ []
no_edges [] none = refl
no_edges (e ∷ edges) none = absurd (grind (arith, nat_tests))

pub returns-then-is_empty : goal.returns-then-is_empty
unfolding with_edges
returns-then-is_empty c =
    let none = no_edges c.as_slice.result.now (sym c.is_empty.ensures ∙ c.if-is_empty.true) in
    let untold : c.args.self.now.untold ≡ [] =
    sym (ap (λ v. v.untold) c.self.view_is) ∙ sym c.as_slice.ensures ∙ none in
    record {
      reduction = refl;
      untold = untold;
      cores = refl;
      follows = λ notes told noted kept.
          subst (λ (es : List Edge). Follows notes (with_edges c.args.self.now.regulation.regulation.cores told es)
          c.args.self.now.regulation) (sym untold) kept;
    }

pub returns : goal.returns
returns c =
    let edges = c.args.self.now.untold in
    let untold : c.as_slice-2.result.now ≡ edges = c.as_slice-2.ensures ∙ ap (λ v. v.untold) c.self.view_is in
    let regulation = ap (λ v. v.regulation) c.self.view_is in
    let cores = ap (λ (f : Following). f.regulation.cores) regulation in
    record {
      reduction = ap (λ v. v.reduction.state) c.self.view_is;
      untold = c.clear.ensures;
      cores = c.edges.ensures.cores ∙ cores;
      follows = λ notes told noted kept.
          subst (λ (n : ℕ). Follows notes (with_edges n told edges) c.edges.new.self) cores
          (subst (λ (es : List Edge). Follows notes (with_edges c.self.inside.regulator.regulation.cores told es)
          c.edges.new.self) untold
          (c.edges.ensures.follows notes told
          (subst (λ (es : List Edge). All (λ e. e.to.count ≡ noted_count notes e.to.core) es) (sym untold) noted)
          (subst (λ (f : Following). Follows notes told f) (sym regulation) kept)));
    }
