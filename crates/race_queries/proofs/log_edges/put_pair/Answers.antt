use Rattle.std.proofs.Common.{◌≡◌, ◌++◌, ◌∙◌, List, sym, ap}
use Rattle.std.specs.Prelude.{Result, Ok, Err, OnOk}
use Rattle.rtr_types.specs.declared.instr.Edge.{Edge}
use Rattle.rtr_types.specs.declared.pairs.Which.{Which}
use Rattle.rtr_types.specs.declared.pairs.Which.TheVariants.{Reduced, Regulated}
use Rattle.race_log.specs.Sources.{edges_at}
use Rattle.race_queries.proofs.LogEdges.{pair_edges}
use Rattle.race_queries.proofs.log_edges.put_pair.Goals as goal

on_ok : {T E : Type 0} (answer : Result T E) (first more other new : List Edge) → more ≡ other →
    OnOk answer (new ≡ first ++ more) → OnOk answer (new ≡ first ++ other)
on_ok (Ok x) first more other new same is = is ∙ ap (λ (l : List Edge). first ++ l) same
on_ok (Err e) first more other new same is = tt

pub returns-in-Reduced : goal.returns-in-Reduced
returns-in-Reduced c =
    let r = c.args.recording.now in
    on_ok c.put_counts.result c.args.list.now _ (edges_at c.args.which r c.args.place) c.put_counts.new.list
    (pair_edges Reduced r c.args.place c.pair_of-from.result c.reduced_between.result.now c.requires.place
    c.pair_of-from.ensures.pair c.reduced_between.ensures.edges
    ∙ ap (λ (w : Which). edges_at w r c.args.place) (sym c.in-Reduced.is))
    c.put_counts.ensures

pub returns-in-Regulated : goal.returns-in-Regulated
returns-in-Regulated c =
    let r = c.args.recording.now in
    on_ok c.put_vectors.result c.args.list.now _ (edges_at c.args.which r c.args.place) c.put_vectors.new.list
    (pair_edges Regulated r c.args.place c.pair_of-from.result _ c.requires.place c.pair_of-from.ensures.pair
    c.regulated_between.ensures.edges
    ∙ ap (λ (w : Which). edges_at w r c.args.place) (sym c.in-Regulated.is))
    c.put_vectors.ensures
