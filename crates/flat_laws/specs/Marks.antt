-- Rule: which moves can be made, by the flat state: own_mark, request_mark
-- What a mark looks at.
use Rattle.std.specs.Prelude.{Bool, ◌&&◌, not, List}
use Rattle.std.specs.List.{list_any}
use Rattle.rv_core.specs.Steps.{is_done}
use Rattle.msi_cache.specs.Table.{is_transient}
use Rattle.msi_directory.specs.Table.{is_free}
use Rattle.flat_state.specs.declared.block.HomeBlock.{HomeBlock}
use Rattle.flat_state.specs.declared.node.Node.{Node}
use Rattle.flat_state.specs.Shows.{held_as, home_at}

-- some line of the node waits
abbrev pub node_waits : Node → Bool
node_waits n = list_any (λ l. is_transient l.state) n.lines

-- its program isn't done, and no line waits
abbrev pub own_mark : Node → Bool
own_mark n = not (is_done n.need) && not (node_waits n)

-- it asks, and the block that it asks for isn't busy
abbrev pub request_mark : List HomeBlock → Node → Bool
request_mark home n = n.asks && is_free (held_as (home_at home n.place).held (home_at home n.place))
