-- What is read of a flat state is what the state has that it shows.
use Rattle.std.proofs.Common.{◌≡◌, ◌∙◌, sym, ap, subst, ℕ, ◌<◌, false, List}
use Rattle.std.proofs.Common.{length, get_or}
use Rattle.std.proofs.lemmas.List.{get_or_default}
use Rattle.std.proofs.Math.ListN.{get_or-map}
use Rattle.access_times.specs.Riding.{none_riding, none_carrying}
use Rattle.image_mem.specs.Contents.{Contents}
use Rattle.rv_core.specs.Steps.{instruction_at, is_done, need}
use Rattle.rv_core.specs.declared.core_state.Core.{Core}
use Rattle.msi_cache.specs.Lines.{empty_line}
use Rattle.msi_cache.specs.declared.line.State.{State as LineState}
use Rattle.msi_memory.specs.Memories.{port_at}
use Rattle.msi_memory.specs.declared.port.Port.{Port}
use Rattle.msi_state.specs.States.{PlainState, core_at}
use Rattle.flat_state.specs.declared.flat.Flat.{Flat}
use Rattle.flat_state.specs.declared.node.Node.{Node}
use Rattle.flat_state.specs.Shows.{NodeShows, Shows, blocks_of, kept_line, line_at, no_line, no_node, node_at}
use Rattle.flat_state.specs.Shows.{seen_line}

-- a node that was read within the list
pub in_nodes : (nodes : List Node) (c : ℕ) (n : Node) → c < length nodes → n ≡ get_or nodes c n → n ≡ node_at nodes c
in_nodes nodes c n within is = is ∙ get_or_default nodes c n no_node within

-- a line of the node is the one of the port
pub line_is : {R K : Type 0} (image : Contents) (blocks : List ℕ) (n : Node) (core : Core) (p : Port R K) (fresh : R)
    (i : ℕ) → NodeShows image blocks n core p →
    kept_line (line_at n i) ≡ seen_line (get_or p.cache i (empty_line fresh))
line_is image blocks n core p fresh i shows =
    sym (get_or-map kept_line n.lines i no_line)
    ∙ (ap (λ (l : List (LineState × ℕ)). get_or l i (kept_line no_line)) shows.lines
    ∙ get_or-map seen_line p.cache i (empty_line fresh))

module _ (f : Flat) (s : PlainState) (c : ℕ) (shows : Shows none_riding none_carrying f s)
    (within : c < length f.nodes.items) where
  pub core_within : c < length s.cores
  core_within = subst (λ (k : ℕ). c < k) shows.long within

  -- the node shows its core at its port
  pub own_node : NodeShows s.image (blocks_of f.home.items) (node_at f.nodes.items c) (core_at s.cores c)
      (port_at none_carrying s.memory.ports c)
  own_node = shows.nodes c core_within

  -- what is kept of a core's next instruction is what that needs
  pub decoded : need f.program (node_at f.nodes.items c).core ≡ (node_at f.nodes.items c).need
  decoded =
      ap (λ (i : Contents). need i (node_at f.nodes.items c).core) shows.image
      ∙ (ap (λ (k : Core). need s.image k) own_node.core_is ∙ sym own_node.need)

  fetched : (node_at f.nodes.items c).op ≡ instruction_at f.program (node_at f.nodes.items c).core.pc
  fetched =
      own_node.op ∙ (ap (λ (k : Core). instruction_at s.image k.pc) (sym own_node.core_is)
      ∙ ap (λ (i : Contents). instruction_at i (node_at f.nodes.items c).core.pc) (sym shows.image))

  pub going_on : (n : Node) → n ≡ node_at f.nodes.items c → is_done (node_at f.nodes.items c).need ≡ false →
      is_done (need f.program n.core) ≡ false
  going_on n is going = ap (λ (x : Node). is_done (need f.program x.core)) is ∙ (ap is_done decoded ∙ going)

  pub op_kept : (n : Node) → n ≡ node_at f.nodes.items c → n.op ≡ instruction_at f.program n.core.pc
  op_kept n is =
      ap (λ (x : Node). x.op) is ∙ (fetched ∙ ap (λ (x : Node). instruction_at f.program x.core.pc) (sym is))
