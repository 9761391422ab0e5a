use Rattle.std.proofs.Common.{◌∙◌, ◌<◌, ◌^◌, List, ap, arith, length, sym, subst}
use Rattle.rtr_types.specs.declared.TheConstants.{CORES_MAX}
use Rattle.vector_reduce.specs.declared.pair_vector.PairVector.{PairVector}
use Rattle.vector_reduce.specs.declared.thinned.Shown.{Shown}
use Rattle.vector_reduce.specs.Arrivals.{AreBetween}
use Rattle.vector_reduce.specs.Showing.{FirstNotShown}
use Rattle.vector_reduce.specs.Vectors.{vectors_of}
use Rattle.vector_reduce.proofs.CheckAnswers.{first_fits}
use Rattle.vector_reduce.proofs.KeptVectors.{between_more, few_in_all, vectors_between}
use Rattle.vector_reduce.proofs.checking.first_of.Goals as goal

pub first_not_shown-requires-clause-between : goal.first_not_shown-requires-clause-between
first_not_shown-requires-clause-between c =
    let r = c.args.value.now.recording in
    subst (λ (l : List PairVector). AreBetween CORES_MAX l) (sym (c.as_slice.ensures ∙ c.in_ok-vectors.ensures))
    (between_more r.params.cores CORES_MAX (vectors_of r) c.requires.recording.params.cores
    (vectors_between r c.requires.recording))

pub first_not_shown-requires-clause-few : goal.first_not_shown-requires-clause-few
first_not_shown-requires-clause-few c =
    let few = few_in_all c.args.value.now.recording c.requires.recording in
    subst (λ (l : List PairVector). length l < 2 ^ 32) (sym (c.as_slice.ensures ∙ c.in_ok-vectors.ensures))
    (omega (arith, few))

pub first_not_shown-requires-clause-all : goal.first_not_shown-requires-clause-all
first_not_shown-requires-clause-all c =
    ap length c.as_slice-2.ensures ∙ c.requires.each_vector
    ∙ sym (ap length (c.as_slice.ensures ∙ c.in_ok-vectors.ensures))

pub returns-clause-first : goal.returns-clause-first
returns-clause-first c =
    subst (λ (l : List PairVector). FirstNotShown l c.args.value.now.shown c.first_not_shown.result)
    (c.as_slice.ensures ∙ c.in_ok-vectors.ensures)
    (subst (λ (s : List Shown). FirstNotShown c.as_slice.result.now s c.first_not_shown.result) c.as_slice-2.ensures
    c.first_not_shown.ensures)

pub returns-clause-fits : goal.returns-clause-fits
returns-clause-fits c =
    let few = few_in_all c.args.value.now.recording c.requires.recording in
    first_fits c.as_slice.result.now c.as_slice-2.result.now c.first_not_shown.result c.first_not_shown.ensures
    (let same = ap length (c.as_slice.ensures ∙ c.in_ok-vectors.ensures) in omega (arith, few, same))
