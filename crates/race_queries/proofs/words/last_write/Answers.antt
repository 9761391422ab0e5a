use Rattle.std.proofs.Common.{List, sym, subst}
use Rattle.rtr_types.specs.declared.access.Access.{Access}
use Rattle.rtr_types.specs.declared.access.Kind.TheVariants.{Load}
use Rattle.std.specs.Prelude.{slice_index_or}
use Rattle.race_queries.specs.Places.{IsLastPlace}
use Rattle.race_queries.specs.Queries.{IsLastWrite}
use Rattle.race_queries.proofs.Writes.{last_is}
use Rattle.race_queries.proofs.words.last_write.Goals as goal

abbrev none : Access
none = record { at = record { core = 0; count = 0 }; word = 0; kind = Load; before = 0; after = 0 }

pub returns : goal.returns
returns c =
    let a = c.args.audited.now in
    let list = c.accesses-list.ensures.accesses in
    subst (λ (l : List Access). IsLastWrite a c.args.cut.now c.args.word (slice_index_or l c.in_ok-place.place none))
    (sym list)
    (last_is a (record { valid = c.recording.ensures.valid; passed = c.accesses-list.ensures.passed }) c.args.cut.now
    c.args.word c.in_ok-place.place none
    (subst (λ (l : List Access). IsLastPlace l c.args.cut.now c.args.word c.in_ok-place.place) list
    c.in_ok-place.ensures))
