-- A number of words that is read is one of whole blocks, in its range.
use Rattle.std.proofs.Common.{◌≡◌, ℕ, cond, eqb, List, Some, None, ◌%◌, arith, subst}
use Rattle.std.proofs.lemmas.Bool.{eqb-true}
use Rattle.rtr_types.specs.declared.TheConstants.{BLOCK_WORDS}
use Rattle.rtr_types.specs.declared.params.TheConstants.{WORDS_MAX, WORDS_MIN}
use Rattle.tool_words.specs.Numerals.{number_between}
use Rattle.tool_words.specs.Options.{whole_blocks}
use Rattle.tool_words.proofs.Chains.{if-some}
use Rattle.tool_words.proofs.FittingLemmas.{and_then-some}
use Rattle.hunt_words.specs.Fitting.{IsMemory}
use Rattle.hunt_words.proofs.TurnsRead.{number-is}

pub whole_fits : (text : List ℕ) (n : ℕ) → whole_blocks text ≡ Some n → IsMemory n
whole_fits text n h =
    let parts = and_then-some (λ m. cond (eqb (m % BLOCK_WORDS) 0) (Some m) None)
    (number_between WORDS_MIN WORDS_MAX text) n h in
    let number = number-is WORDS_MIN WORDS_MAX parts.0 text (omega arith) parts.1 in
    let whole = if-some (eqb (parts.0 % BLOCK_WORDS) 0) (Some parts.0) n parts.2 in
    let same : parts.0 ≡ n = cc in
    subst IsMemory same (number.low, number.high, eqb-true (parts.0 % BLOCK_WORDS) 0 whole.0)
