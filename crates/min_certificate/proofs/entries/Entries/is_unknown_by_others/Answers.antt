use Rattle.std.proofs.Common.{inl, inr, ◌≡◌, ◌≢◌, ◌<◌, subst, arith}
use Rattle.std.proofs.lemmas.Bool.{cases_lt}
use Rattle.min_certificate.specs.Places.{entry_in, IsUnknownThere}
use Rattle.min_certificate.proofs.LookedUpEntries.{all_sources, own_known}
use Rattle.min_certificate.proofs.entries.Entries.is_unknown_by_others.Goals as goal
use Rattle.min_certificate.proofs.entries.Entries.is_unknown_by_others.Goals.{
  else-of-edge-via-then-of-edge+then-of-edge-2+else-not-is_unknown_there,
}
use Rattle.min_certificate.proofs.entries.Entries.is_unknown_by_others.Goals.{
  else-of-edge-via-then-of-edge+else-of-edge-2,
}
use Rattle.min_certificate.proofs.entries.Entries.is_unknown_by_others.Goals.{else-of-edge-via-else-of-edge}

pub loop-of-preserved : goal.loop-of-preserved
loop-of-preserved c i lt ne = elim (cases_lt i c.loop-of.of) [
  | inl before ↦ c.loop-of.invariant i before ne
  | inr late ↦
      let here : c.loop-of.of ≡ i = omega arith in
      subst (IsUnknownThere c.args.self.now c.args.edge.from c.args.edge.to) here (elim c.else-of-edge.branch [
        | else-of-edge-via-then-of-edge+then-of-edge-2+else-not-is_unknown_there w ↦ w.is_unknown_there.ensures.0
            w.if-not-is_unknown_there.false
        | else-of-edge-via-then-of-edge+else-of-edge-2 w ↦
            own_known c.args.self.now c.args.edge.from c.args.edge.to c.loop-of.of c.cores-of-end.ensures.valid
            c.requires.edge w.if-of-edge-2.false
        | else-of-edge-via-else-of-edge w ↦ absurd (let e = w.if-of-edge.false in omega arith)
      ])
]

pub returns : goal.returns
returns c =
    let x = c.args.edge.from in
    all_sources c.args.edge.to (λ z. z ≢ x → entry_in c.args.self.now z x.core < x.count) c.cores-of-end.ensures.valid
    c.cores-of-end.ensures.cores c.loop-of-test.false c.loop-of.invariant
