use Rattle.std.proofs.Common.{◌≡◌, ℕ, get_or, Ok, Err, Some, ap, ◌∙◌, rules}
use Rattle.std.proofs.lemmas.List.{get_or_default}
use Rattle.std.proofs.lemmas.List.Sorted.{answers_always}
use Rattle.race_log.proofs.RisingSearch.{searched}
use Rattle.race_log.proofs.PairRises.{no_edge, targets-rise}
use Rattle.race_log.proofs.SourceLaws.{one_edge, edge_found}
use Rattle.race_log.proofs.sources.edge_source.Goals as goal

pub returns-in-Ok-clause-found : goal.returns-in-Ok-clause-found
returns-in-Ok-clause-found c =
    let edges = c.args.edges.now in
    let by_key = c.in-Ok.ensures.position (λ e. e.1) (answers_always _ _ _ (λ f a r g called. search rules)) in
    let at = (searched (λ (e : ℕ × ℕ). e.1) edges no_edge c.args.target (targets-rise (0, 0) edges c.requires)
    (Ok c.in-Ok.k) c.in-Ok.ensures.bound by_key).found in
    edge_found edges c.in-Ok.k c.args.target at.0 at.1

pub returns-in-Ok-clause-only : goal.returns-in-Ok-clause-only
returns-in-Ok-clause-only c a has =
    let edges = c.args.edges.now in
    let by_key = c.in-Ok.ensures.position (λ e. e.1) (answers_always _ _ _ (λ f a r g called. search rules)) in
    let at = (searched (λ (e : ℕ × ℕ). e.1) edges no_edge c.args.target (targets-rise (0, 0) edges c.requires)
    (Ok c.in-Ok.k) c.in-Ok.ensures.bound by_key).found in
    let found = edge_found edges c.in-Ok.k c.args.target at.0 at.1 in
    ap (λ (n : ℕ). Some n) (one_edge edges (get_or edges c.in-Ok.k no_edge).0 a c.args.target c.requires found has)

pub returns-in-Err-clause-only : goal.returns-in-Err-clause-only
returns-in-Err-clause-only c a has =
    let edges = c.args.edges.now in
    let by_key = c.in-Err.ensures.position (λ e. e.1) (answers_always _ _ _ (λ f a r g called. search rules)) in
    let none = (searched (λ (e : ℕ × ℕ). e.1) edges no_edge c.args.target (targets-rise (0, 0) edges c.requires)
    (Err c.in-Err.field-0) c.in-Err.ensures.bound by_key).absent in
    let is : get_or edges has.0 no_edge ≡ (a, c.args.target) =
    get_or_default edges has.0 no_edge (a, c.args.target) has.1 ∙ has.2 in
    absurd (none has.0 has.1 (ap (λ (e : ℕ × ℕ). e.1) is))
