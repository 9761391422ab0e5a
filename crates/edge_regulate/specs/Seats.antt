-- What a core awaits of each other one, and what a regulator holds.
use Rattle.std.specs.Prelude.{◌≡◌, ◌≢◌, ℕ, ◌+◌, ◌<◌, ◌≤◌, List, [], replicate, slice_index_or}
use Rattle.rtr_types.specs.declared.TheConstants.{CORES_MAX}
use Rattle.rtr_types.specs.declared.instr.Edge.{Edge}
use Rattle.rtr_types.specs.declared.instr.Instr.{Instr}
use Rattle.rtr_types.specs.Pairs.{IsPair, pair_place}
use Rattle.know_history.specs.declared.known.Known.{Known}
use Rattle.know_history.specs.Knowledge.{count_in}
use Rattle.know_history.specs.Notes.{IsNoted, Notes, known_at, noted_count}
use Rattle.edge_regulate.specs.declared.seat.Awaited.{Awaited}
use Rattle.edge_regulate.specs.declared.seat.Seat.{Seat}
use Rattle.edge_regulate.specs.Awaiting.{IsAwaited, never, newest, none_awaited}
use Rattle.edge_regulate.specs.Regulated.{IsRegulation, Regulation, end_target, knows_by}

abbrev pub no_seat : Seat
no_seat = record { next = never; sources = replicate CORES_MAX none_awaited }

abbrev pub awaited_at : Seat → (source : ℕ) → Awaited
awaited_at seat source = slice_index_or seat.sources source none_awaited

-- the seat's next count is the least one that is awaited of so many sources, or more than each count
pub record IsLeast (cores : ℕ) (seat : Seat) : Type 0 where
  pub lower : (source : ℕ) → source < cores → seat.next ≤ (awaited_at seat source).target
  pub greatest : (bound : ℕ) → bound ≤ never →
      ((source : ℕ) → source < cores → bound ≤ (awaited_at seat source).target) → bound ≤ seat.next

-- none of the noted retirements is awaited
pub record IsAhead (cores noted : ℕ) (seat : Seat) : Type 0 where
  pub next : noted < seat.next
  pub lower : (source : ℕ) → source < cores → seat.next ≤ (awaited_at seat source).target

-- the vectors so far, and what each core awaits, core 0 first
pub record Following : Type 0 where
  pub regulation : Regulation
  pub seats : List Seat

abbrev pub seat_at : Following → (core : ℕ) → Seat
seat_at f core = slice_index_or f.seats core no_seat

-- the vectors are those of the edges told, and of each pair is awaited what its open vector needs to go on
pub record Follows (notes : Notes) (edges : List (List (ℕ × ℕ))) (f : Following) : Type 0 where
  pub regulation : IsRegulation notes edges f.regulation
  pub ahead : (core : ℕ) → core < f.regulation.cores →
      IsAhead f.regulation.cores (noted_count notes core) (seat_at f core)
  pub own : (core : ℕ) → core < f.regulation.cores → (awaited_at (seat_at f core) core).target ≡ never
  pub awaited : (source target : ℕ) → IsPair f.regulation.cores source target →
      IsAwaited (knows_by (known_at notes) source target) (noted_count notes target)
      (newest (slice_index_or f.regulation.vectors (pair_place f.regulation.cores source target) []))
      (awaited_at (seat_at f target) source)

-- the core's next retirement is noted, and what is noted of the others is what is known at it
pub record IsNotedNext (old : Notes) (at : Instr) (known : Known) (new : Notes) : Type 0 where
  pub next : at.count ≡ noted_count old at.core + 1
  pub noted : IsNoted old at known new
  pub exact : (of : ℕ) → «of» < CORES_MAX → «of» ≢ at.core →
      known_at new at.core at.count «of» ≡ count_in known «of»

-- the edge comes after the pair's last position
pub record CanFollow (s : Regulation) (e : Edge) : Type 0 where
  pub pair : IsPair s.cores e.from.core e.to.core
  pub some : 1 ≤ e.from.count
  pub later : end_target (slice_index_or s.vectors (pair_place s.cores e.from.core e.to.core) []) < e.to.count
