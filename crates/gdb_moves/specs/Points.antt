-- The points that are set: breakpoints, and ranges of memory that are watched.
use Rattle.std.specs.Prelude.{ℕ, ◌+◌, ◌*◌, ◌/◌, ◌%◌, ◌&&◌, ◌||◌, Bool, true, false, not, nat_eq, nat_lt, List, [], ◌∷◌, ◌++◌}
use Rattle.std.specs.Prelude.{Option, Some, None, count_by, filter, if◌then◌else◌, is_some}
use Rattle.std.specs.List.{list_any}
use Rattle.rtr_types.specs.Accesses.{is_read, is_write}
use Rattle.rtr_types.specs.declared.access.Kind.{Kind}
use Rattle.gdb_packets.specs.declared.asks.PointKind.{PointKind}
use Rattle.gdb_packets.specs.declared.asks.PointKind.TheVariants.{Software, Hardware, Watch}
use Rattle.gdb_packets.specs.declared.asks.Span.{Span}
use Rattle.gdb_packets.specs.declared.asks.Watch.TheVariants.{Write, Read, Access}
use Rattle.gdb_packets.specs.declared.replies.Why.{Why}
use Rattle.gdb_packets.specs.declared.replies.Why.TheVariants.{Breakpoint, Watched}
use Rattle.gdb_moves.specs.declared.TheConstants.{POINTS_MAX}
use Rattle.gdb_moves.specs.declared.points.Point.{Point}

-- the most points of one kind that are kept; `sizes_law` ties the code's constant, which the definitions cite, to it
abbrev pub points_max : ℕ
points_max = 256

-- ---- which points are one

-- points of this kind watch memory
abbrev pub is_watch : PointKind → Bool
is_watch Software = false
is_watch Hardware = false
is_watch (Watch kind) = true

-- a kind, by the digit that packets have for it
abbrev pub kind_digit : PointKind → ℕ
kind_digit Software = 0
kind_digit Hardware = 1
kind_digit (Watch Write) = 2
kind_digit (Watch Read) = 3
kind_digit (Watch Access) = 4

-- the point that a packet names: of a breakpoint the length means nothing
abbrev pub point_of : PointKind → Span → Point
point_of kind span = record { kind = kind; at = span.at; len = if is_watch kind then span.len else 0 }

abbrev pub is_same_kind : Point → Point → Bool
is_same_kind point other = nat_eq (kind_digit point.kind) (kind_digit other.kind)

abbrev pub is_point : Point → Point → Bool
is_point point other = is_same_kind point other && (nat_eq point.at other.at && nat_eq point.len other.len)

-- ---- points that are set and taken away

abbrev pub is_set : Point → List Point → Bool
is_set point points = list_any (is_point point) points

-- at most so many of a kind are kept
abbrev pub has_room : Point → List Point → Bool
has_room point points = nat_lt (count_by (is_same_kind point) points) POINTS_MAX

-- the point is set, once it was asked for
abbrev pub takes : Point → List Point → Bool
takes point points = is_set point points || has_room point points

-- the points, once it was asked for: twice the same is once
abbrev pub with_point : Point → List Point → List Point
with_point point points =
    if is_set point points then points else if has_room point points then points ++ point ∷ [] else points

-- the points but for this one
abbrev pub without_point : Point → List Point → List Point
without_point point points = filter (λ other. not (is_point point other)) points

-- ---- what they stop at

-- the point is a breakpoint at the address
abbrev pub is_break : (pc : ℕ) → Point → Bool
is_break pc point = not (is_watch point.kind) && nat_eq point.at pc

abbrev pub breaks_at : List Point → (pc : ℕ) → Bool
breaks_at points pc = list_any (is_break pc) points

-- any of them is a breakpoint, or watches memory
abbrev pub has_break : List Point → Bool
has_break points = list_any (λ point. not (is_watch point.kind)) points

abbrev pub has_watch : List Point → Bool
has_watch points = list_any (λ point. is_watch point.kind) points

-- an address's mark, of 64
abbrev pub mark_of : (at : ℕ) → ℕ
mark_of at = at / 4 % 64

-- points of this kind watch for accesses of that one
abbrev pub is_of_kind : PointKind → Kind → Bool
is_of_kind Software used = false
is_of_kind Hardware used = false
is_of_kind (Watch Write) used = is_write used
is_of_kind (Watch Read) used = is_read used
is_of_kind (Watch Access) used = true

-- the word, by its index, shares a byte with the point's range
abbrev pub meets : Point → (word : ℕ) → Bool
meets point word = nat_lt point.at (4 * word + 4) && nat_lt (4 * word) (point.at + point.len)

-- an access, by its kind and its word, touches what the point watches
abbrev pub touches : Kind × ℕ → Point → Bool
touches used point = is_of_kind point.kind used.0 && meets point used.1

-- the first point that an access touches
unfoldable pub first_touched : List Point → Kind × ℕ → Option Point
first_touched [] used = None
first_touched (point ∷ points) used = if touches used point then Some point else first_touched points used

-- the same, where there is an access
abbrev pub touched : List Point → Option (Kind × ℕ) → Option Point
touched points None = None
touched points (Some used) = first_touched points used

-- whether there is one
abbrev pub is_watching : List Point → Option (Kind × ℕ) → Bool
is_watching points used = is_some (touched points used)

-- what a stop at a point says, by its kind and where it begins
abbrev pub why_of_kind : PointKind → (at : ℕ) → Why
why_of_kind Software at = Breakpoint
why_of_kind Hardware at = Breakpoint
why_of_kind (Watch kind) at = Watched kind at

abbrev pub why_of : Point → Why
why_of point = why_of_kind point.kind point.at
