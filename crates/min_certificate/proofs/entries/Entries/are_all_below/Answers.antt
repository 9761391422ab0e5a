use Rattle.std.proofs.Common.{◌≤◌, ℕ, List, subst}
use Rattle.rtr_types.specs.declared.instr.Edge.{Edge}
use Rattle.rtr_types.specs.declared.instr.Instr.{Instr}
use Rattle.clock_core.specs.Order.{Among}
use Rattle.certificate_codec.specs.declared.certificate.Certificate.{Certificate}
use Rattle.min_certificate.specs.Places.{entry_in}
use Rattle.min_certificate.proofs.First.{edge_at, holds_more, holds_all}
use Rattle.min_certificate.proofs.LookedUpEntries.{is_below_in}
use Rattle.min_certificate.proofs.entries.Entries.are_all_below.Goals as goal

abbrev Below : Certificate → Instr → Instr → Type 0
Below c x y = (i : ℕ) → entry_in c x i ≤ entry_in c y i

pub entry_near-there-requires : goal.entry_near-there-requires
entry_near-there-requires c =
    (edge_at _ c.edges-edge-items.ensures.valid c.edges-edge-items.ensures.edges c.loop-edge-test.true).source_within

pub entry_near-here-requires : goal.entry_near-here-requires
entry_near-here-requires c =
    (edge_at _ c.edges-edge-items.ensures.valid c.edges-edge-items.ensures.edges c.loop-edge-test.true).leads.within

pub loop-edge-preserved : goal.loop-edge-preserved
loop-edge-preserved c =
    holds_more (Below c.args.self.now) c.edges-edge-items.result.now c.loop-edge.edge-index _ c.loop-edge-test.true
    c.loop-edge.invariant
    (is_below_in c.args.self.now _ _ _ _ c.entry_near-there.ensures c.entry_near-here.ensures
    (c.is_below.ensures.0 c.if-not-is_below.false))

pub returns : goal.returns
returns c _ =
    subst (λ (l : List Edge). (x y : Instr) → Among l x y → Below c.args.self.now x y) c.edges-edge-items.ensures.edges
    (holds_all (Below c.args.self.now) c.edges-edge-items.result.now c.loop-edge.edge-index c.loop-edge-test.false
    c.loop-edge.invariant)
