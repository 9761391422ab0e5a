-- What is kept of each core and of whether its port waits.
use Rattle.std.proofs.Common.{◌≡◌, ◌∙◌, sym, subst, ap, ℕ, ◌<◌, Bool, List, length, get_or}
use Rattle.std.specs.Prelude.{map, slice_set, Option}
use Rattle.std.specs.List.{list_all}
use Rattle.std.proofs.lemmas.List.{get_or-map, length-map, map-set}
use Rattle.std.proofs.lemmas.List.Folds.{list_all-map}
use Rattle.access_times.specs.Riding.{Carrying}
use Rattle.rv_decode.specs.declared.op.Op.{Op}
use Rattle.rv_core.specs.declared.core_state.Need.{Need}
use Rattle.rv_core.specs.States.{starting}
use Rattle.rv_core.specs.Steps.{is_done}
use Rattle.msi_cache.specs.Lines.{waits}
use Rattle.msi_memory.specs.declared.port.Port.{Port}
use Rattle.msi_memory.specs.Memories.{Memory, no_port, port_at}
use Rattle.msi_state.specs.States.{State, all_done, core_at}
use Rattle.msi_machine.specs.declared.standing.Standing.{Standing}
use Rattle.msi_machine.specs.Standings.{StandingsFit, next_in, next_of, standing_at}
use Rattle.move_marks.proofs.OnePort.{one_now, port_now}
use Rattle.machine_ports.proofs.Elsewhere.{MovedAt}

module _ {R K : Type 0} where
  pub standings_long : (s : State R K) (standings : List Standing) → StandingsFit s standings →
      length standings ≡ length s.cores
  standings_long s standings fit =
      sym (length-map standings next_of) ∙ ap length fit.next ∙ length-map s.cores (next_in s.image)

  -- what is kept of a core
  pub stands_at : (carrying : Carrying K) (s : State R K) (standings : List Standing) (c : ℕ) (d : Standing) →
      StandingsFit s standings →
      c < length s.cores → c < length s.memory.ports → get_or standings c d ≡ standing_at carrying s c
  stands_at carrying s standings c d fit here port =
      λ i. record { need = (next i).0; op = (next i).1; waits = waiting i }
    where
      within : c < length standings
      within = subst (λ (n : ℕ). c < n) (sym (standings_long s standings fit)) here

      next : next_of (get_or standings c d) ≡ next_in s.image (core_at s.cores c)
      next =
          sym (get_or-map next_of standings c d (next_of d) within)
          ∙ ap (λ (xs : List (Need × Option Op)). get_or xs c (next_of d)) fit.next
          ∙ get_or-map (next_in s.image) s.cores c (starting 0 0) (next_of d) here

      waiting : (get_or standings c d).waits ≡ waits (port_at carrying s.memory.ports c).cache
      waiting =
          sym (get_or-map (λ (x : Standing). x.waits) standings c d d.waits within)
          ∙ ap (λ (xs : List Bool). get_or xs c d.waits) fit.waits
          ∙ get_or-map (λ (p : Port R K). waits p.cache) s.memory.ports c (no_port carrying) d.waits port

  -- the core that moved stands at something else
  pub moved_stands : (carrying : Carrying K) (s t : State R K) (standings : List Standing) (c : ℕ) (kept : Standing) →
      MovedAt s t c →
      StandingsFit s standings → c < length s.cores → c < length s.memory.ports → kept ≡ standing_at carrying t c →
      StandingsFit t (slice_set standings c kept)
  moved_stands carrying s t standings c kept moved fit here port stands =
      record {
        next = map-set next_of standings c kept
            ∙ (λ i. slice_set (fit.next i) c (next_of (stands i)))
            ∙ (λ i. slice_set (map (next_in (image i)) s.cores) c
            (next_in t.image (one_now s.cores t.cores c moved.cores (starting 0 0) here i)))
            ∙ sym (map-set (next_in t.image) s.cores c moved.cores.one)
            ∙ ap (map (next_in t.image)) (sym moved.cores.is);
        waits = map-set (λ (x : Standing). x.waits) standings c kept
            ∙ (λ i. slice_set (fit.waits i) c (stands i).waits)
            ∙ ap (λ (p : Port R K). slice_set (map (λ (q : Port R K). waits q.cache) s.memory.ports) c (waits p.cache))
            (port_now carrying s.memory t.memory c moved.memory port)
            ∙ sym (map-set (λ (p : Port R K). waits p.cache) s.memory.ports c moved.memory.ports.one)
            ∙ ap (map (λ (p : Port R K). waits p.cache)) (sym moved.memory.ports.is);
      }
    where
      image : s.image ≡ t.image
      image = sym moved.image

  -- the home's turns change no core, and no port waits otherwise after them
  pub turned_stands : (s : State R K) (n : Memory R K) (standings : List Standing) →
      map (λ (p : Port R K). waits p.cache) n.ports ≡ map (λ (p : Port R K). waits p.cache) s.memory.ports →
      StandingsFit s standings →
      StandingsFit (record s { memory = n }) standings
  turned_stands s n standings waiting fit = record { next = fit.next; waits = fit.waits ∙ sym waiting }

  -- all programs are done where what is kept says so
  pub done_stands : (s : State R K) (standings read : List Standing) → read ≡ standings → StandingsFit s standings →
      list_all (λ (x : Standing). is_done x.need) read ≡ all_done s
  done_stands s standings read is fit =
      ap (list_all (λ (x : Standing). is_done x.need)) is
      ∙ sym (list_all-map (λ (p : Need × Option Op). is_done p.0) next_of standings)
      ∙ ap (list_all (λ (p : Need × Option Op). is_done p.0)) fit.next
      ∙ list_all-map (λ (p : Need × Option Op). is_done p.0) (next_in s.image) s.cores
