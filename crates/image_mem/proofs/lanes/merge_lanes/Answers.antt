use Rattle.std.proofs.Common.{◌∙◌}
use Rattle.image_mem.proofs.LaneLemmas.{is_byte, is_half, is_value}
use Rattle.image_mem.proofs.lanes.merge_lanes.Goals as goal
use Rattle.image_mem.proofs.lanes.merge_lanes.Goals.{then-size-eq2, else-size-eq2}

pub returns-then-size-eq4 : goal.returns-then-size-eq4
returns-then-size-eq4 c =
    is_value c.args.old c.args.value c.args.address c.args.size c.ranges.value.fits c.requires.aligned
    c.if-size-eq4.true

pub returns : goal.returns
returns c = elim c.if-size-eq2.branch [
  | then-size-eq2 w ↦
      let read = rw (w.lanes-is, c.to_le_bytes-bytes.ensures, c.to_le_bytes-lanes.ensures) at c.from_le_bytes.ensures in
      read ∙ is_half c.args.old c.args.value c.args.address c.args.size c.requires.aligned w.if-size-eq2.true
  | else-size-eq2 w ↦
      let read = rw (w.lanes-is, c.to_le_bytes-bytes.ensures, c.to_le_bytes-lanes.ensures) at c.from_le_bytes.ensures in
      read
      ∙ is_byte c.args.old c.args.value c.args.address c.args.size c.requires.size w.if-size-eq2.false
      c.if-size-eq4.false
]
