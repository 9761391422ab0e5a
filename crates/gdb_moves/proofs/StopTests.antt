-- Where no point is a breakpoint no address stops a core, and where none watches no access does.
use Rattle.std.proofs.Common.{◌≡◌, ◌∙◌, ℕ, Bool, true, false, ◌&&◌, List, [], ◌∷◌, ap, cond, refl}
use Rattle.std.specs.Prelude.{◌||◌, is_some, nat_eq, not, None, Option, Some}
use Rattle.gdb_packets.specs.declared.asks.PointKind.{PointKind}
use Rattle.gdb_packets.specs.declared.asks.PointKind.TheVariants.{Software, Hardware, Watch}
use Rattle.rtr_types.specs.declared.access.Kind.{Kind}
use Rattle.gdb_moves.specs.declared.points.Point.{Point}
use Rattle.gdb_moves.specs.Points.{breaks_at, first_touched, has_break, has_watch, is_break, is_of_kind, is_watch, is_watching, meets}
use Rattle.gdb_moves.specs.Points.{touches}

pub not_so : (b : Bool) → not b ≡ true → b ≡ false
not_so true is = absurd cc
not_so false is = refl

neither : (a b : Bool) → (a || b) ≡ false → (a ≡ false) × (b ≡ false)
neither true b is = absurd cc
neither false b is = (refl, is)

no_break : (point : Point) (pc : ℕ) → not (is_watch point.kind) ≡ false → is_break pc point ≡ false
no_break point pc is = ap (λ (b : Bool). b && nat_eq point.at pc) is

pub no_breaks : (points : List Point) → has_break points ≡ false → (pc : ℕ) →
    breaks_at points pc ≡ false
no_breaks [] none pc = refl
no_breaks (point ∷ points) none pc =
    let each = neither (not (is_watch point.kind)) (has_break points) none in
    ap (λ (b : Bool). b || breaks_at points pc) (no_break point pc each.0) ∙ no_breaks points each.1 pc

not_of_kind : (kind : PointKind) (used : Kind) → is_watch kind ≡ false → is_of_kind kind used ≡ false
not_of_kind Software used is = refl
not_of_kind Hardware used is = refl
not_of_kind (Watch watch) used is = absurd cc

no_touch : (point : Point) (used : Kind × ℕ) → is_watch point.kind ≡ false → touches used point ≡ false
no_touch point used is = ap (λ (b : Bool). b && meets point used.1) (not_of_kind point.kind used.0 is)

none_touched : (points : List Point) → has_watch points ≡ false → (used : Kind × ℕ) →
    first_touched points used ≡ None
unfolding first_touched
none_touched [] none used = refl
none_touched (point ∷ points) none used =
    let each = neither (is_watch point.kind) (has_watch points) none in
    ap (λ (b : Bool). cond b (Some point) (first_touched points used)) (no_touch point used each.0)
    ∙ none_touched points each.1 used

pub no_watches : (points : List Point) → has_watch points ≡ false →
    (used : Option (Kind × ℕ)) → is_watching points used ≡ false
no_watches points none None = refl
no_watches points none (Some used) = ap (λ (o : Option Point). is_some o) (none_touched points none used)

-- of a core that breakpoints don't stop, or without breakpoints
pub no_pc : (paused : Bool) (points : List Point) (pc : ℕ) → (paused ≡ true → breaks_at points pc ≡ false) →
    (paused && breaks_at points pc) ≡ false
no_pc true points pc none = none refl
no_pc false points pc none = refl
