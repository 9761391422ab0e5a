-- The flat state at the start stands at the start of the machine.
use Rattle.std.proofs.Common.{◌≡◌, ◌∙◌, ◌⊎◌, inl, inr, refl, sym, ap, subst, ℕ, ◌<◌, ◌≤◌, ◌*◌, true, false, List, []}
use Rattle.std.proofs.Common.{length, map, arith, zero-add}
use Rattle.std.specs.List.{range_with_len}
use Rattle.std.proofs.lemmas.Bool.{cases_lt}
use Rattle.std.proofs.lemmas.List.{get_or_past}
use Rattle.std.proofs.lemmas.List.FromFn.{get_or-map-range_with_len, length-map-range_with_len}
use Rattle.access_times.specs.Riding.{none_riding, none_carrying}
use Rattle.image_mem.specs.Contents.{Contents}
use Rattle.rtr_types.proofs.Ranges.{replicate_at}
use Rattle.rtr_types.specs.declared.TheConstants.{CORES_MAX, LINES}
use Rattle.rtr_types.specs.declared.params.TheConstants.{LIMIT_MAX}
use Rattle.rv_core.specs.States.{starting}
use Rattle.msi_directory.specs.Blocks.{block_count, entry_at, no_entry, opening_entries, opening_entry}
use Rattle.msi_directory.specs.declared.entry.Entry.{Entry}
use Rattle.msi_directory.specs.declared.entry.Stage.TheVariants.{Unshared}
use Rattle.msi_memory.specs.Memories.{port_at, port_start}
use Rattle.msi_state.specs.States.{core_at, state_start}
use Rattle.machine_data.proofs.OpeningWords.{start_coherent}
use Rattle.machine_data.specs.Coherent.{opening_memory}
use Rattle.machine_invariant.proofs.StartInvariant.{core_start_at, holds_start, port_start_at}
use Rattle.flat_state.specs.declared.block.HomeBlock.{HomeBlock}
use Rattle.flat_state.specs.declared.flat.Flat.{Flat}
use Rattle.flat_state.specs.declared.node.Node.{Node}
use Rattle.flat_state.specs.declared.node.KeptLine.{KeptLine}
use Rattle.flat_state.specs.Shows.{HomeShows, NodeShows, Stands, WordsKept, blocks_of, no_line, no_node, node_at}
use Rattle.flat_state.proofs.Frames.{node_same}
use Rattle.flat_start.specs.Starts.{node_start}

-- a node at the start shows its core at its port
node_starts : (image : Contents) (c limit : ℕ) →
    NodeShows image [] (node_start image c limit) (starting c limit) (port_start none_riding none_carrying)
node_starts image c limit =
    record {
      core_is = refl;
      need = refl;
      op = refl;
      lines = refl;
      requests = refl;
      replies = refl;
      messages = refl;
      placed = λ i within some. absurd (some (ap (λ (l : KeptLine).
          l.state) (replicate_at LINES i no_line)));
      asked = λ (e : false ≡ true). absurd (cc);
      replied = refl;
      told = refl;
    }

-- no block is held
unshared : (image : Contents) (b : ℕ) → (entry_at (tt {0}) (opening_entries (tt {0}) image) b).stage ≡ Unshared
unshared image b = by (cases_lt b (block_count image.words))
  where
    by : (b < block_count image.words) ⊎ (block_count image.words ≤ b) →
        (entry_at (tt {0}) (opening_entries (tt {0}) image) b).stage ≡ Unshared
    by (inl within) = ap (λ (e : Entry (Unit {0})). e.stage)
        (get_or-map-range_with_len (opening_entry (tt {0}) image) 0 (block_count image.words) b b (no_entry (tt {0}))
        within
        (zero-add b))
    by (inr past) = ap (λ (e : Entry (Unit {0})). e.stage)
        (get_or_past (opening_entries (tt {0}) image) b (no_entry (tt {0}))
        (subst (λ (n : ℕ). n ≤ b) (sym (length-map-range_with_len (opening_entry (tt {0}) image) 0 (block_count
        image.words)))
        past))

pub start_stands : (f : Flat) (image : Contents) (cores limit : ℕ) → cores ≤ CORES_MAX → limit ≤ LIMIT_MAX →
    length image.bytes ≤ 4 * image.words → f.program ≡ image →
    f.nodes.items ≡ map (λ (id : ℕ). node_start image id limit) (range_with_len 0 cores) → f.home.items ≡ [] →
    Stands f (state_start none_riding none_carrying image cores limit) (opening_memory image)
start_stands f image cores limit few small room program nodes home =
    record {
      holds = holds_start none_riding none_carrying image cores limit few (omega (arith, small));
      shows = record {
        image = program;
        long = ap length nodes ∙ (length-map-range_with_len (λ (id : ℕ). node_start image id limit) 0 cores
            ∙ sym long);
        nodes = λ c lies. at_node c (subst (λ (n : ℕ). c < n) long lies);
        home = subst (λ (l : List HomeBlock). HomeShows tt l (opening_entries tt image)) (sym home)
            (record {
              blocks = λ i (lies : i < 0). absurd (omega (arith, lies));
              within = λ i (lies : i < 0). absurd (omega (arith, lies));
              once = λ i j (lies : i < 0) lies' same. absurd (omega (arith, lies));
              others = λ b none. unshared image b;
            });
      };
      words = subst (λ (l : List HomeBlock). WordsKept image l (opening_memory image))
          (sym home) (record {
            here = λ i (lies : i < 0). absurd (omega (arith, lies));
            others = λ b none. refl;
          });
      coherent = start_coherent none_riding none_carrying image cores limit room;
    }
  where
    long : length (state_start none_riding none_carrying image cores limit).cores ≡ cores
    long = length-map-range_with_len (λ (id : ℕ). starting id limit) 0 cores

    at_node : (c : ℕ) → c < cores →
        NodeShows image (blocks_of f.home.items) (node_at f.nodes.items c)
        (core_at (state_start none_riding none_carrying image cores limit).cores c)
        (port_at none_carrying (state_start none_riding none_carrying image cores limit).memory.ports c)
    at_node c within =
        node_same _ _ _ _ _ _ _ _ _ (ap blocks_of home)
        (ap (λ (l : List Node). node_at l c) nodes
        ∙ get_or-map-range_with_len (λ (id : ℕ). node_start image id limit) 0 cores c c no_node within (zero-add c))
        (core_start_at none_riding none_carrying image cores limit c within)
        (port_start_at none_riding none_carrying image cores limit c within)
        (node_starts image c limit)
