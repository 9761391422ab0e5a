-- A move that changes one core and its port alone, be it the core's own or a message's: only its node is another.
use Rattle.std.proofs.Common.{◌≡◌, ◌≢◌, ◌∙◌, ◌⊎◌, inl, inr, sym, ap, subst, ℕ, ◌<◌, ◌==◌, true, false, List, length}
use Rattle.std.proofs.Common.{arith}
use Rattle.std.specs.Prelude.{slice_set}
use Rattle.std.proofs.lemmas.Bool.{cases_eq}
use Rattle.std.proofs.lemmas.Bool.Decides.{nat_tests}
use Rattle.std.proofs.lemmas.List.{length-set, get_or-set_same, get_or-set_other}
use Rattle.access_times.specs.Riding.{Riding, Carrying, none_riding, none_carrying}
use Rattle.image_mem.specs.Contents.{Contents}
use Rattle.rv_core.specs.Steps.{need, access_of as need_access}
use Rattle.rv_core.specs.declared.core_state.Core.{Core}
use Rattle.msi_memory.specs.Acts.{with_port}
use Rattle.msi_memory.specs.Memories.{Memory, port_at}
use Rattle.msi_memory.specs.declared.port.Port.{Port}
use Rattle.msi_state.specs.declared.moves.Move.{Move}
use Rattle.msi_state.specs.declared.moves.Move.TheVariants.{Core as CoreMove, FromHome as MessageMove}
use Rattle.msi_state.specs.Events.{Event, port_taken}
use Rattle.msi_state.specs.Runs.{plain_event, plain_step}
use Rattle.msi_state.specs.States.{PlainState, State, core_at}
use Rattle.msi_state.specs.Steps.{cores_after, enabled, event, step}
use Rattle.msi_laws.proofs.ActsInTurn.{port_elsewhere}
use Rattle.msi_laws.proofs.Waits.{port_there}
use Rattle.machine_data.specs.Coherent.{memory_after}
use Rattle.machine_data.proofs.WordSteps.{step_works}
use Rattle.machine_invariant.proofs.MoveInvariant.{holds_kept}
use Rattle.machine_invariant.proofs.StepFrame.{core_after, core_elsewhere, core_memory, core_there, length-cores_after}
use Rattle.machine_invariant.proofs.StepFrame.{message_memory, port_told, port_worked}
use Rattle.flat_state.specs.declared.flat.Flat.{Flat}
use Rattle.flat_state.specs.declared.node.Node.{Node}
use Rattle.flat_state.specs.Shows.{HomeShows, NodeShows, Shows, Stands, WordsKept, blocks_of, no_node, node_at}

pub differs : (d c : ℕ) → d ≢ c → (d == c) ≡ false
differs d c apart = grind (arith, nat_tests)

module _ {R K : Type 0} where
  -- the relation at a node hangs on the node, its core and port and the home's blocks alone
  pub node_same : (image : Contents) (blocks blocks' : List ℕ) (n n' : Node) (core core' : Core) (p p' : Port R K) →
      blocks' ≡ blocks → n' ≡ n → core' ≡ core → p' ≡ p →
      NodeShows image blocks n core p → NodeShows image blocks' n' core' p'
  node_same image blocks blocks' n n' core core' p p' b m k q shows = rw (b, m, k, q) shows

  -- the state with another core c, as the event leaves it, and another port of it
  abbrev pub own_state : State R K → (c : ℕ) → Event → Memory R K → State R K
  own_state s c e m = record s { cores = cores_after s.image c e s.cores; memory = m }

  pub shows_own : (riding : Riding R) (carrying : Carrying K) (f f' : Flat) (s : State R K) (c : ℕ) (e : Event)
      (q : Port R K) (n' : Node) → c < length s.cores → length s.memory.ports ≡ length s.cores →
      f'.program ≡ f.program → blocks_of f'.home.items ≡ blocks_of f.home.items →
      HomeShows riding.fresh f'.home.items s.memory.home → f'.nodes.items ≡ slice_set f.nodes.items c n' →
      NodeShows s.image (blocks_of f.home.items) n' (core_after s.image e (core_at s.cores c)) q →
      Shows riding carrying f s → Shows riding carrying f' (own_state s c e (with_port s.memory c q))
  shows_own riding carrying f f' s c e q n' within ports program blocks home nodes own shows =
      record {
        image = program ∙ shows.image;
        long = ap length nodes ∙ (length-set f.nodes.items c n' ∙ (shows.long ∙ sym (length-cores_after s.image c e
            s.cores)));
        nodes = λ d lies. at_node d (subst (λ (n : ℕ). d < n) (length-cores_after s.image c e s.cores) lies) (cases_eq d
            c);
        home = home;
      }
    where
      there : c < length s.memory.ports
      there = subst (λ (n : ℕ). c < n) (sym ports) within

      at_node : (d : ℕ) → d < length s.cores → (d ≡ c) ⊎ (d ≢ c) →
          NodeShows s.image (blocks_of f'.home.items) (node_at f'.nodes.items d)
          (core_at (cores_after s.image c e s.cores) d) (port_at carrying (with_port s.memory c q).ports d)
      at_node d lies (inl same) =
          node_same _ _ _ _ _ _ _ _ _ blocks
          (ap (λ (x : ℕ). node_at f'.nodes.items x) same
          ∙ (ap (λ l. node_at l c) nodes ∙ get_or-set_same f.nodes.items c n' no_node
          (subst (λ (n : ℕ). c < n) (sym shows.long) within)))
          (ap (λ (x : ℕ). core_at (cores_after s.image c e s.cores) x) same ∙ core_there s.image c e s.cores within)
          (ap (λ (x : ℕ). port_at carrying (with_port s.memory c q).ports x) same
          ∙ port_there carrying s.memory c q there)
          own
      at_node d lies (inr other) =
          node_same _ _ _ _ _ _ _ _ _ blocks
          (ap (λ l. node_at l d) nodes ∙ get_or-set_other f.nodes.items c d n' no_node other)
          (core_elsewhere s.image c e s.cores d (differs d c other))
          (port_elsewhere carrying s.memory c q d (differs d c other) there)
          (shows.nodes d lies)

  -- a core's own move
  pub shows_core : (riding : Riding R) (carrying : Carrying K) (rider : R) (f f' : Flat) (s : State R K) (c : ℕ)
      (n' : Node) → c < length s.cores → length s.memory.ports ≡ length s.cores →
      f'.program ≡ f.program → blocks_of f'.home.items ≡ blocks_of f.home.items →
      HomeShows riding.fresh f'.home.items s.memory.home → f'.nodes.items ≡ slice_set f.nodes.items c n' →
      NodeShows s.image (blocks_of f.home.items) n'
      (core_after s.image (event riding carrying s (CoreMove c)) (core_at s.cores c))
      (port_worked riding carrying rider (need_access (need s.image (core_at s.cores c)))
      (event riding carrying s (CoreMove c)) (port_at carrying s.memory.ports c)) →
      Shows riding carrying f s → Shows riding carrying f' (step riding carrying rider s (CoreMove c))
  shows_core riding carrying rider f f' s c n' within ports program blocks home nodes own shows =
      subst (λ (m : Memory R K). Shows riding carrying f' (own_state s c (event riding carrying s (CoreMove c)) m))
      (sym (core_memory riding carrying rider s c (subst (λ (n : ℕ). c < n) (sym ports) within)))
      (shows_own riding carrying f f' s c (event riding carrying s (CoreMove c)) _ n' within ports program blocks home
      nodes own shows)

  -- a message that its port takes
  pub shows_message : (riding : Riding R) (carrying : Carrying K) (rider : R) (f f' : Flat) (s : State R K) (c : ℕ)
      (n' : Node) → c < length s.cores → length s.memory.ports ≡ length s.cores →
      f'.program ≡ f.program → blocks_of f'.home.items ≡ blocks_of f.home.items →
      HomeShows riding.fresh f'.home.items s.memory.home → f'.nodes.items ≡ slice_set f.nodes.items c n' →
      NodeShows s.image (blocks_of f.home.items) n'
      (core_after s.image (event riding carrying s (MessageMove c)) (core_at s.cores c))
      (port_told riding carrying rider (event riding carrying s (MessageMove c))
      (port_taken riding carrying (port_at carrying s.memory.ports c))) →
      Shows riding carrying f s → Shows riding carrying f' (step riding carrying rider s (MessageMove c))
  shows_message riding carrying rider f f' s c n' within ports program blocks home nodes own shows =
      subst (λ (m : Memory R K). Shows riding carrying f' (own_state s c (event riding carrying s (MessageMove c)) m))
      (sym (message_memory riding carrying rider s c (subst (λ (n : ℕ). c < n) (sym ports) within)))
      (shows_own riding carrying f f' s c (event riding carrying s (MessageMove c)) _ n' within ports program blocks
      home nodes own shows)

-- what a move owes beside: that the new state is shown, and that the entries have the memory's words then
pub moved_stands : (f f' : Flat) (s : PlainState) (memory : ℕ → List ℕ) (m : Move) →
    enabled none_riding none_carrying s m ≡ true → Stands f s memory →
    Shows none_riding none_carrying f' (plain_step s m) →
    WordsKept s.image f'.home.items (memory_after (plain_event s m) memory) →
    Stands f' (plain_step s m) (memory_after (plain_event s m) memory)
moved_stands f f' s memory m on stands shows words =
    record {
      holds = holds_kept none_riding none_carrying s m tt on stands.holds;
      shows = shows;
      words = words;
      coherent = (step_works none_riding none_carrying s m tt memory on stands.holds stands.coherent).coherent;
    }
