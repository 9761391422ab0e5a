-- Forgetting riders and carries goes through a step. The acts of a step are those of the plain step with another rider,
-- and each act goes through forgetting.
use Rattle.std.proofs.Common.{◌≡◌, ◌∙◌, ap, refl, sym, ℕ, ◌/◌, ◌%◌, Bool, List, [], ◌∷◌, ◌++◌, Option}
use Rattle.std.proofs.Common.{Some, None}
use Rattle.std.specs.Prelude.{map, if◌then◌else◌, slice_index, slice_set}
use Rattle.access_times.specs.Riding.{Riding, Carrying, none_riding, none_carrying}
use Rattle.image_mem.specs.Contents.{Contents}
use Rattle.rtr_types.specs.declared.TheConstants.{BLOCK_WORDS}
use Rattle.rtr_types.specs.declared.access.Kind.{Kind}
use Rattle.rv_core.specs.Steps.{need, access_of as need_access}
use Rattle.msi_cache.proofs.Forgets.{plain_waits}
use Rattle.msi_cache.specs.Lines.{waits}
use Rattle.msi_memory.specs.declared.port.Port.{Port}
use Rattle.msi_memory.specs.Acts.{Act, Touch, Retire, TakeMessage, after_acts}
use Rattle.msi_memory.specs.Memories.{Memory, port_at}
use Rattle.msi_memory.specs.PlainPart.{plain_act, plain_memory}
use Rattle.msi_state.specs.Events.{port_taken}
use Rattle.msi_state.specs.States.{State as MachineState}
use Rattle.machine_plain.proofs.ForgetfulSteps.{plain_taken}
use Rattle.machine_plain.proofs.PlainActs.{plain_after_acts}
use Rattle.machine_plain.proofs.Plains.{plain_port_at}
use Rattle.machine_plain.proofs.Shows.{plain_memory_start, plain_words}
use Rattle.tso_state.specs.declared.moves.Move.{Move}
use Rattle.tso_state.specs.declared.moves.Move.TheVariants.{Core as CoreMove, Order as OrderMove}
use Rattle.tso_state.specs.declared.moves.Move.TheVariants.{Request as RequestMove, Response as ResponseMove}
use Rattle.tso_state.specs.declared.moves.Move.TheVariants.{FromHome as MessageMove}
use Rattle.tso_state.specs.declared.pending.Asker.{Asker}
use Rattle.tso_state.specs.declared.pending.Asker.TheVariants.{Nobody, Next, Head}
use Rattle.tso_state.specs.Moves.{core_of}
use Rattle.tso_state.specs.FinalMemory.{final_word}
use Rattle.tso_state.specs.States.{State, PlainState, BufferedCore, all_done, core_at, state_start}
use Rattle.tso_state.specs.Events.{Event, Nothing, Executes, Buffers, Performs, Drains, Logs, Told, Alone, Ordered}
use Rattle.tso_state.specs.Events.{Logged, asker_after, core_after, queue_after, tellings}
use Rattle.tso_state.specs.Steps.{acts, acts_asking, acts_told, cores_after, core_left, event, head_access, step}
use Rattle.tso_state.specs.Steps.{told}
use Rattle.tso_plain.specs.Plain.{plain}
use Rattle.tso_plain.proofs.Events.{plain_event}

-- what an event leaves of a core, of which this one asks
abbrev left_by : Contents → BufferedCore → Asker → Event → BufferedCore
left_by image t x e =
    record { core = core_after image t.core e; queue = queue_after t.queue e; asker = asker_after x t.asker e }

module _ {R K : Type 0} where
  pub plain_told : (riding : Riding R) (carrying : Carrying K) (s : State R K) (m : Move) →
      told riding carrying s m ≡ told none_riding none_carrying (plain s) m
  plain_told riding carrying s m = ap (tellings (core_at s.cores (core_of m))) (plain_event riding carrying s m)

-- ---- which acts it is

module _ {R : Type 0} where
  plain_acts_told : (c : ℕ) (rider : R) (es : List Told) → map plain_act (acts_told c rider es) ≡ acts_told c tt es
  plain_acts_told c rider [] = refl
  plain_acts_told c rider (Alone at ∷ later) = ap (λ (list : List (Act (Unit {0}))). Retire c at ∷ list)
      (plain_acts_told c rider later)
  plain_acts_told c rider (Ordered a ∷ later) =
      ap (λ (list : List (Act (Unit {0}))). Retire c a.at ∷ Touch c (a.word / BLOCK_WORDS)
      (a.word % BLOCK_WORDS) a.kind a.after tt ∷ list)
      (plain_acts_told c rider later)
  plain_acts_told c rider (Logged at word value ∷ later) = ap (λ (list : List (Act (Unit {0}))). Retire c at ∷ list)
      (plain_acts_told c rider later)

  plain_turn : (c : ℕ) (rider : R) (t : BufferedCore) (wanted : Option (Kind × ℕ)) (e : Event) →
      map plain_act (acts_asking c wanted e ++ acts_told c rider (tellings t e)) ≡ acts_asking c wanted e ++ acts_told c
      tt (tellings t e)
  plain_turn c rider t None Nothing = refl
  plain_turn c rider t (Some (kind, word)) Nothing = refl
  plain_turn c rider t wanted (Executes at) = plain_acts_told c rider (tellings t (Executes at))
  plain_turn c rider t wanted (Buffers at x) = refl
  plain_turn c rider t wanted (Performs a) = refl
  plain_turn c rider t wanted (Drains a) = plain_acts_told c rider (tellings t (Drains a))
  plain_turn c rider t wanted (Logs at word value) = plain_acts_told c rider (tellings t (Logs at word value))

module _ {R K : Type 0} where
  plain_acts : (riding : Riding R) (carrying : Carrying K) (rider : R) (s : State R K) (m : Move) →
      map plain_act (acts riding carrying rider s m)
      ≡ acts none_riding none_carrying tt (plain s) m
  plain_acts riding carrying rider s (CoreMove c) =
      let t : BufferedCore = core_at s.cores c in
      let wanted : Option (Kind × ℕ) = need_access (need s.image t.core) in
      plain_turn c rider t wanted (event riding carrying s (CoreMove c))
      ∙ ap (λ (e : Event). acts_asking c wanted e ++ acts_told c tt (tellings t e))
      (plain_event riding carrying s (CoreMove c))
  plain_acts riding carrying rider s (OrderMove c) =
      let t : BufferedCore = core_at s.cores c in
      plain_turn c rider t (head_access t.queue) (event riding carrying s (OrderMove c))
      ∙ ap (λ (e : Event). acts_asking c (head_access t.queue) e ++ acts_told c tt (tellings t e))
      (plain_event riding carrying s (OrderMove c))
  plain_acts riding carrying rider s (RequestMove c) = refl
  plain_acts riding carrying rider s (ResponseMove c) = refl
  plain_acts riding carrying rider s (MessageMove c) =
      ap (λ (later : List (Act (Unit {0}))). TakeMessage c ∷ later)
      (plain_acts_told c rider (tellings (core_at s.cores c) (event riding carrying s (MessageMove c)))
      ∙ ap (λ (e : Event). acts_told c tt (tellings (core_at s.cores c) e))
      (plain_event riding carrying s (MessageMove c)))

  -- ---- what becomes of the core

  plain_left : (riding : Riding R) (carrying : Carrying K) (s : State R K) (m : Move) → core_left riding carrying s m
      ≡ core_left none_riding none_carrying (plain s) m
  plain_left riding carrying s (CoreMove c) =
      ap (left_by s.image (core_at s.cores c) Next) (plain_event riding carrying s (CoreMove c))
  plain_left riding carrying s (OrderMove c) =
      ap (left_by s.image (core_at s.cores c) Head) (plain_event riding carrying s (OrderMove c))
  plain_left riding carrying s (RequestMove c) = refl
  plain_left riding carrying s (ResponseMove c) = refl
  plain_left riding carrying s (MessageMove c) =
      let t : BufferedCore = core_at s.cores c in
      let p : Port R K = port_at carrying s.memory.ports c in
      let by : Event → Bool → BufferedCore = λ (e : Event) (w : Bool).
      record {
        core = core_after s.image t.core e;
        queue = queue_after t.queue e;
        asker = if w then t.asker else
            Nobody;
      } in
      ap (λ (e : Event). by e (waits (port_taken riding carrying p).cache))
      (plain_event riding carrying s (MessageMove c))
      ∙ ap (λ (w : Bool). by (event none_riding none_carrying (plain s) (MessageMove c)) w)
      (plain_waits (port_taken riding carrying p).cache
      ∙ (ap (λ (q : Port (Unit {0}) (Unit {0})). waits q.cache) (plain_taken riding carrying p)
      ∙ ap (λ (q : Port (Unit {0}) (Unit {0})). waits (port_taken none_riding none_carrying q).cache)
      (sym (plain_port_at carrying s.memory.ports c))))

  plain_cores : (riding : Riding R) (carrying : Carrying K) (s : State R K) (m : Move) → cores_after riding carrying s m
      ≡ cores_after none_riding none_carrying (plain s) m
  plain_cores riding carrying s (CoreMove c) = ap (λ (t : BufferedCore). slice_set s.cores c t)
      (plain_left riding carrying s (CoreMove c))
  plain_cores riding carrying s (OrderMove c) = ap (λ (t : BufferedCore). slice_set s.cores c t)
      (plain_left riding carrying s (OrderMove c))
  plain_cores riding carrying s (RequestMove c) = refl
  plain_cores riding carrying s (ResponseMove c) = refl
  plain_cores riding carrying s (MessageMove c) = ap (λ (t : BufferedCore). slice_set s.cores c t)
      (plain_left riding carrying s (MessageMove c))

  -- ---- the step

  pub plain_step : (riding : Riding R) (carrying : Carrying K) (rider : R) (s : State R K) (m : Move) →
      plain (step riding carrying rider s m) ≡ step none_riding none_carrying tt (plain s) m
  plain_step riding carrying rider s m =
      let by : List BufferedCore → Memory (Unit {0}) (Unit {0}) → PlainState =
      λ (cores : List BufferedCore)
      (x : Memory (Unit {0}) (Unit {0})). record { image = s.image; cores = cores; memory = x } in
      ap (λ (cores : List BufferedCore). by cores
      (plain_memory (after_acts riding carrying s.memory (acts riding carrying rider s m))))
      (plain_cores riding carrying s m)
      ∙ ap (λ (x : Memory (Unit {0}) (Unit {0})). by (cores_after none_riding none_carrying (plain s) m) x)
      (plain_after_acts riding carrying s.memory (acts riding carrying rider s m)
      ∙ ap (λ (list : List (Act (Unit {0}))). after_acts none_riding none_carrying (plain_memory s.memory) list)
      (plain_acts riding carrying rider s m))

  -- ---- the start, the end and the memory

  pub plain_start : (riding : Riding R) (carrying : Carrying K) (image : Contents) (cores limit : ℕ) →
      plain (state_start riding carrying image cores limit) ≡ state_start none_riding none_carrying image cores limit
  plain_start riding carrying image cores limit =
      let start : PlainState = state_start none_riding none_carrying image cores limit in
      ap (λ (x : Memory (Unit {0}) (Unit {0})). record start { memory = x })
      (plain_memory_start riding carrying image cores)

  pub plain_done : (s : State R K) → all_done s ≡ all_done (plain s)
  plain_done s = refl

  pub plain_word : (riding : Riding R) (carrying : Carrying K) (s : State R K) (word : ℕ) →
      final_word riding carrying s word ≡ final_word none_riding none_carrying (plain s) word
  plain_word riding carrying s word =
      let machine : MachineState R K = record { image = s.image; cores = []; memory = s.memory } in
      ap (λ (words : List ℕ). slice_index words (word % BLOCK_WORDS))
      (plain_words riding carrying machine (word / BLOCK_WORDS))
