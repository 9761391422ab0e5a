-- At the start nothing is under way at the ports: nothing is marked there, and no block is asked for.
use Rattle.std.proofs.Common.{◌≡◌, ◌≢◌, ◌∙◌, ◌⊎◌, inl, inr, refl, sym, ap, ℕ, zero, suc, ◌<◌, ◌≤◌, Bool, false}
use Rattle.std.proofs.Common.{List, [], length, replicate}
use Rattle.std.proofs.lemmas.Bool.{cases_lt}
use Rattle.access_times.specs.Riding.{Riding, Carrying}
use Rattle.image_mem.specs.Contents.{Contents}
use Rattle.rtr_types.specs.CoreSets.{has}
use Rattle.msi_memory.specs.declared.port.Port.{Port}
use Rattle.msi_memory.specs.Acts.{Act, TakeMessage, TakeRequest, TakeResponse, can, can_at, port_of}
use Rattle.msi_memory.specs.Memories.{memory_start, no_port, port_at, port_start}
use Rattle.msi_memory.specs.Rests.{head_roomy, requests_at}
use Rattle.move_marks.specs.declared.marks.MoveKind.{MoveKind}
use Rattle.move_marks.specs.declared.marks.MoveKind.TheVariants.{Own, Request, Response, FromHome}
use Rattle.move_marks.specs.declared.marks.MoveMarks.{MoveMarks}
use Rattle.move_marks.specs.Kinds.{set_of}
use Rattle.move_marks.specs.Ports.{PortsNoted}
use Rattle.move_marks.proofs.Acts.{can_here, can_past}
use Rattle.move_marks.proofs.Lateness.{all_noted}

module _ {R K : Type 0} (riding : Riding R) (carrying : Carrying K) where
  -- what is read of a port is what a port has at the start
  pub port_idle : {X : Type 0} (f : Port R K → X) (x : X) (cores c : ℕ) → f (port_start riding carrying) ≡ x →
      f (no_port carrying) ≡ x → f (port_at carrying (replicate cores (port_start riding carrying)) c) ≡ x
  port_idle f x zero c first none = none
  port_idle f x (suc cores) zero first none = first
  port_idle f x (suc cores) (suc c) first none = port_idle f x cores c first none

  no_requests : (cores c : ℕ) → requests_at (replicate cores (port_start riding carrying)) c ≡ []
  no_requests zero c = refl
  no_requests (suc cores) zero = refl
  no_requests (suc cores) (suc c) = no_requests cores c

  module _ (image : Contents) (cores : ℕ) where
    idle : (act : Act R) →
        can_at riding (memory_start riding carrying image cores).home
        (port_at carrying (replicate cores (port_start riding carrying)) (port_of act)) act ≡ false →
        can riding carrying (memory_start riding carrying image cores) act ≡ false
    idle act none = by (cases_lt (port_of act) (length (memory_start riding carrying image cores).ports))
      where
        by : (port_of act < length (memory_start riding carrying image cores).ports)
            ⊎ (length (memory_start riding carrying image cores).ports ≤ port_of act) →
            can riding carrying (memory_start riding carrying image cores) act ≡ false
        by (inl within) = can_here riding carrying (memory_start riding carrying image cores) act within ∙ none
        by (inr past) = can_past riding carrying (memory_start riding carrying image cores) act past

    -- no act can be made of which a port at the start, and one that isn't there, has none
    none_first : (act : Act R) →
        can_at riding (memory_start riding carrying image cores).home (port_start riding carrying) act ≡ false →
        can_at riding (memory_start riding carrying image cores).home (no_port carrying) act ≡ false →
        false ≡ can riding carrying (memory_start riding carrying image cores) act
    none_first act first out =
        sym (idle act (port_idle (λ p. can_at riding (memory_start riding carrying image cores).home p act) false cores
        (port_of act) first out))

    pub idle_noted : (rooms : List Bool) (count : ℕ) (marks : MoveMarks) (late : ℕ) →
        count ≡ length (memory_start riding carrying image cores).ports →
        ((k : MoveKind) → k ≢ Own → (d : ℕ) → has (set_of k marks) d ≡ false) →
        PortsNoted riding carrying (memory_start riding carrying image cores) rooms count marks late
    idle_noted rooms count marks late long none =
        all_noted riding carrying (memory_start riding carrying image cores) rooms count marks late
        (record {
          requests = λ d. none Request (λ (e : Request ≡ Own). cc) d ∙ none_first (TakeRequest d) refl refl;
          responses = λ d. none Response (λ (e : Response ≡ Own). cc) d ∙ none_first (TakeResponse d) refl refl;
          messages = λ d. none FromHome (λ (e : FromHome ≡ Own). cc) d ∙ none_first (TakeMessage d) refl refl;
        })
        long
        (λ c other. ap (λ items. head_roomy items rooms) (no_requests cores c))
