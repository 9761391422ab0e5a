use Rattle.rv_decode.proofs.Bits.{difference_fits, extends_zero, extends_one}
use Rattle.rv_decode.proofs.fields.sign_extended.Goals as goal

pub overflow_sub-result : goal.overflow_sub-result
overflow_sub-result c = difference_fits _ _ c.requires.some c.requires.width c.requires.bits

pub returns-then-bits-width : goal.returns-then-bits-width
returns-then-bits-width c = extends_zero _ _ c.requires.some c.requires.width c.if-bits-width.true

pub returns-else-bits-width : goal.returns-else-bits-width
returns-else-bits-width c = extends_one _ _ c.requires.some c.requires.width c.requires.bits c.if-bits-width.false
