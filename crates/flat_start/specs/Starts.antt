-- The parts of a flat state as they begin.
use Rattle.std.specs.Prelude.{ℕ, false, [], replicate}
use Rattle.image_mem.specs.Contents.{Contents}
use Rattle.rtr_types.specs.CoreSets.{no_cores}
use Rattle.rtr_types.specs.declared.TheConstants.{LINES}
use Rattle.rv_core.specs.States.{starting}
use Rattle.rv_core.specs.Steps.{instruction_at, need}
use Rattle.machine_data.specs.Coherent.{opening_memory}
use Rattle.flat_state.specs.declared.block.Held.TheVariants.{Unshared}
use Rattle.flat_state.specs.declared.block.HomeBlock.{HomeBlock}
use Rattle.flat_state.specs.declared.node.Ask.TheVariants.{GetS}
use Rattle.flat_state.specs.declared.node.Node.{Node}
use Rattle.flat_state.specs.Shows.{no_line}

-- a core at its port: its lines hold nothing, and nothing is on its way
abbrev pub node_start : Contents → (id limit : ℕ) → Node
node_start image id limit =
    record {
      core = starting id limit;
      need = need image (starting id limit);
      op = instruction_at image (starting id limit).pc;
      lines = replicate LINES no_line;
      asks = false;
      ask = GetS;
      place = 0;
      replies = [];
      messages = [];
    }

-- a block that nobody asked for, with the image's words
abbrev pub block_start : Contents → ℕ → HomeBlock
block_start image block =
    record {
      block = block;
      held = Unshared;
      set = no_cores;
      owner = 0;
      requester = 0;
      askers = no_cores;
      words = opening_memory image block;
    }
