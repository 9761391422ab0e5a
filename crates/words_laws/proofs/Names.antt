-- What is put in is set.
use Rattle.std.proofs.Common.{◌≡◌, true, Some, arith}
use Rattle.tool_words.specs.Settings.{Settings}
use Rattle.tool_words.specs.Options.{is_set, put}
use Rattle.tool_words.specs.Reading.{Set}

-- what is put in is set
pub put-sets : (s t : Settings) (x : Set) → put s x.name x.text ≡ Some t → is_set t x.name ≡ true
put-sets s t x h = grind arith
