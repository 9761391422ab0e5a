-- The start, the end and the memory are those of the plain part.
use Rattle.std.proofs.Common.{◌≡◌, ◌∙◌, ap, refl, sym, ℕ, List, [], ◌∷◌, replicate, zero, suc}
use Rattle.std.specs.Prelude.{map}
use Rattle.std.specs.List.{range_with_len}
use Rattle.access_times.specs.Riding.{Riding, Carrying, none_riding, none_carrying}
use Rattle.image_mem.specs.Contents.{Contents}
use Rattle.msi_cache.proofs.Forgets.{plain_line_for}
use Rattle.msi_cache.specs.Lines.{line_for, empty_line}
use Rattle.msi_cache.specs.PlainPart.{plain_line}
use Rattle.msi_cache.specs.declared.line.Line.{Line}
use Rattle.rtr_types.specs.declared.TheConstants.{LINES}
use Rattle.msi_cache.specs.declared.messages.Request.TheVariants.{GetS}
use Rattle.msi_directory.proofs.Forgets.{plain_on_request}
use Rattle.msi_directory.specs.Blocks.{entry_at, opening_entry, opening_entries, block_count}
use Rattle.msi_directory.specs.PlainPart.{plain_entry, plain_entries}
use Rattle.msi_directory.specs.declared.entry.Entry.{Entry}
use Rattle.msi_directory.specs.declared.entry.Stage.{Stage}
use Rattle.msi_directory.specs.declared.entry.Stage.TheVariants.{Unshared, Shared, Owned, Acks, Data}
use Rattle.msi_memory.specs.declared.port.Port.{Port}
use Rattle.msi_memory.specs.Finals.{block_words_in}
use Rattle.msi_memory.specs.Memories.{Memory, memory_start, port_at, port_start}
use Rattle.msi_memory.specs.PlainPart.{plain_memory, plain_port}
use Rattle.msi_state.specs.FinalMemory.{final_words}
use Rattle.msi_state.specs.States.{State, all_done, state_start}
use Rattle.machine_plain.specs.Plain.{plain}
use Rattle.machine_plain.proofs.Plains.{plain_port_at}

map_map : {A B C : Type 0} (f : B → C) (g : A → B) (h : A → C) → ((a : A) → f (g a) ≡ h a) → (xs : List A) →
    map f (map g xs) ≡ map h xs
map_map f g h same [] = refl
map_map f g h same (x ∷ xs) = rw (same x, map_map f g h same xs)

map_replicate : {A B : Type 0} (f : A → B) (n : ℕ) (a : A) → map f (replicate n a) ≡ replicate n (f a)
map_replicate f zero a = refl
map_replicate f (suc n) a = rw (map_replicate f n a)

module _ {R K : Type 0} where
  plain_port_start : (riding : Riding R) (carrying : Carrying K) → plain_port (port_start riding carrying) ≡ port_start
      none_riding none_carrying
  plain_port_start riding carrying =
      ap (λ (lines : List (Line (Unit {0}))). record (port_start none_riding none_carrying) { cache = lines })
      (map_replicate plain_line LINES (empty_line riding.fresh))

  pub plain_memory_start : (riding : Riding R) (carrying : Carrying K) (image : Contents) (cores : ℕ) →
      plain_memory (memory_start riding carrying image cores)
      ≡ memory_start none_riding none_carrying image cores
  plain_memory_start riding carrying image cores =
      let by : List (Port (Unit {0}) (Unit {0})) → List (Entry (Unit {0})) → Memory (Unit {0}) (Unit {0}) =
      λ (ports : List (Port (Unit {0}) (Unit {0}))) (home : List (Entry (Unit {0}))). record {
        ports = ports;
        home =
            home;
        carry = tt;
      } in
      ap (λ (ports : List (Port (Unit {0}) (Unit {0}))). by ports (plain_entries (opening_entries riding.fresh image)))
      (map_replicate plain_port cores (port_start riding carrying)
      ∙ ap (λ (p : Port (Unit {0}) (Unit {0})). replicate cores p) (plain_port_start riding carrying))
      ∙ ap (λ (home : List (Entry (Unit {0}))). by (replicate cores (port_start none_riding none_carrying)) home)
      (map_map plain_entry (opening_entry riding.fresh image) (opening_entry tt image) (λ b. refl)
      (range_with_len 0 (block_count image.words)))

  pub plain_start : (riding : Riding R) (carrying : Carrying K) (image : Contents) (cores limit : ℕ) →
      plain (state_start riding carrying image cores limit) ≡ state_start none_riding none_carrying image cores limit
  plain_start riding carrying image cores limit =
      ap (λ (x : Memory (Unit {0}) (Unit {0})). record (state_start none_riding none_carrying image cores limit)
      { memory = x })
      (plain_memory_start riding carrying image cores)

  pub plain_done : (s : State R K) → all_done s ≡ all_done (plain s)
  plain_done s = refl

  words_by : (stage : Stage) (riding : Riding R) (carrying : Carrying K) (m : Memory R K) (block : ℕ) →
      block_words_in stage riding carrying m block
      ≡ block_words_in stage none_riding none_carrying (plain_memory m) block
  words_by (Owned owner) riding carrying m block =
      ap (λ (l : Line (Unit {0})). l.words) (sym (plain_line_for riding.fresh (port_at carrying m.ports owner).cache
      block))
      ∙ ap (λ (p : Port (Unit {0}) (Unit {0})). (line_for tt p.cache block).words)
      (sym (plain_port_at carrying m.ports owner))
  words_by Unshared riding carrying m block = ap (λ (e : Entry (Unit {0})). e.words) (plain_on_request riding m.home 0
      (GetS block)).same_entry
  words_by (Shared by) riding carrying m block =
      ap (λ (e : Entry (Unit {0})). e.words) (plain_on_request riding m.home 0 (GetS block)).same_entry
  words_by (Acks «of» requester) riding carrying m block =
      ap (λ (e : Entry (Unit {0})). e.words) (plain_on_request riding m.home 0 (GetS block)).same_entry
  words_by (Data «of» requester share) riding carrying m block =
      ap (λ (e : Entry (Unit {0})). e.words) (plain_on_request riding m.home 0 (GetS block)).same_entry

  pub plain_words : (riding : Riding R) (carrying : Carrying K) (s : State R K) (block : ℕ) →
      final_words riding carrying s block ≡ final_words none_riding none_carrying (plain s) block
  plain_words riding carrying s block =
      words_by (entry_at riding.fresh s.memory.home block).stage riding carrying s.memory block
      ∙ ap (λ (e : Entry (Unit {0})). block_words_in e.stage none_riding none_carrying (plain_memory s.memory) block)
      (plain_on_request riding s.memory.home 0 (GetS block)).same_entry
