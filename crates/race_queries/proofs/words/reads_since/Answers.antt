use Rattle.std.proofs.Common.{Err, IfOk, List, Ok, Result, ℕ, ap, sym, subst, ◌∙◌}
use Rattle.rtr_types.specs.declared.access.Access.{Access}
use Rattle.race_queries.specs.Places.{IsLastPlace}
use Rattle.race_queries.specs.Queries.{is_load_of, IsAudited, NoWriteIn}
use Rattle.std.specs.Prelude.{drop, filter}
use Rattle.race_queries.proofs.Writes.{IsSince, reads_since_is, since_last, since_none}
use Rattle.race_queries.proofs.LoadsBehind.{loads_are}
use Rattle.race_queries.proofs.words.reads_since.Goals as goal
use Rattle.race_queries.proofs.words.reads_since.Goals.{in-Some, in-None}

if_ok : {A E : Type 0} {P Q : A → Type 0} (o : Result A E) → IfOk o P → ((a : A) → P a → Q a) → IfOk o Q
if_ok (Ok a) h f = f a h
if_ok (Err e) h f = tt

-- where the loads begin that were looked for
begins : (c : goal.After-loads_from) → (audited : IsAudited c.args.audited.now) →
    IsSince c.args.audited.now audited c.args.cut.now c.args.word c.match-last_place.from
begins c audited =
    let a = c.args.audited.now in
    let cut = c.args.cut.now in
    let word = c.args.word in
    let same = c.accesses-list.ensures.accesses in
    elim c.match-last_place.branch [
      | in-Some w ↦
          subst (λ (n : ℕ). IsSince a audited cut word n) (sym w.from-is)
          (since_last a audited cut word w.in-Some.place
          (subst (λ (l : List Access). IsLastPlace l cut word w.in-Some.place) same w.in-Some.ensures))
      | in-None w ↦
          subst (λ (n : ℕ). IsSince a audited cut word n) (sym w.from-is)
          (since_none a audited cut word (subst (λ (l : List Access). NoWriteIn l cut word) same w.in-None.ensures))
    ]

pub returns-clause-reads : goal.returns-clause-reads
returns-clause-reads c =
    let a = c.args.audited.now in
    let cut = c.args.cut.now in
    let word = c.args.word in
    let audited : IsAudited a =
    record { valid = c.recording.ensures.valid; passed = c.accesses-list.ensures.passed } in
    let same = c.accesses-list.ensures.accesses in
    if_ok c.loads_from.result c.loads_from.ensures (λ list is.
    reads_since_is a audited cut word c.match-last_place.from (begins c audited) list
    (is ∙ ap (λ (l : List Access). filter (is_load_of cut word) (drop c.match-last_place.from l)) same))

pub returns-clause-order : goal.returns-clause-order
returns-clause-order c =
    let a = c.args.audited.now in
    let cut = c.args.cut.now in
    let word = c.args.word in
    let audited : IsAudited a =
    record { valid = c.recording.ensures.valid; passed = c.accesses-list.ensures.passed } in
    let since = begins c audited in
    let same = c.accesses-list.ensures.accesses in
    if_ok c.loads_from.result c.loads_from.ensures (λ list is.
    is ∙ ap (λ (l : List Access). filter (is_load_of cut word) (drop c.match-last_place.from l)) same
    ∙ sym (loads_are cut word a.accesses c.match-last_place.from since.none since.last))
