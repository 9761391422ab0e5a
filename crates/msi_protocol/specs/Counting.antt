-- Which copies of a block count: the home's, where a core's line has one, where BlockData under way to it brings one,
-- and where its response under way has one with it. Other copies are old, and nobody looks at them.
use Rattle.std.specs.Prelude.{Bool, true, false, not, List, ◌∷◌}
use Rattle.link_order.specs.Queue.{is_nil}
use Rattle.msi_cache.specs.declared.line.State.{State}
use Rattle.msi_cache.specs.declared.line.State.TheVariants.{MiA, SiA}
use Rattle.msi_cache.specs.Table.{Signal, is_readable}
use Rattle.msi_directory.specs.declared.entry.Stage.{Stage}
use Rattle.msi_directory.specs.declared.entry.Stage.TheVariants.{Owned, Data}
use Rattle.msi_protocol.specs.Phases.{Phase, PutDone, picture}

-- the home's copy counts: no cache owns the block or is to give it
abbrev pub home_counts : Stage → Bool
home_counts (Owned owner) = false
home_counts (Data «of» requester share) = false
home_counts _ = true

-- a line in this state has a copy, to read or to put
abbrev pub has_copy : State → Bool
has_copy MiA = true
has_copy SiA = true
has_copy state = is_readable state

-- the line's copy counts, until a put of it is done
abbrev pub line_counts : Phase → Bool
line_counts (PutDone e) = false
line_counts p = has_copy (picture p).line

-- the next message brings a copy
abbrev pub brings_copy : List Signal → Bool
brings_copy (Signal.BlockData ∷ rest) = true
brings_copy _ = false

-- the copy in BlockData under way counts
abbrev pub sent_counts : Phase → Bool
sent_counts p = brings_copy (picture p).messages

-- the copy in the response under way counts
abbrev pub reply_counts : Phase → Bool
reply_counts p = not (is_nil (picture p).responses)
