-- What the two retirements leave, from the parts that the code has.
use Rattle.std.proofs.Common.{◌≡◌, ℕ, ◌<◌, List, length, get_or, sym, ◌∙◌, ap, subst, arith}
use Rattle.std.specs.Prelude.{All}
use Rattle.std.proofs.lemmas.List.{get_or_default}
use Rattle.std.proofs.lemmas.List.Elements.{All-same}
use Rattle.rtr_types.specs.Pairs.{IsPair}
use Rattle.rtr_types.specs.declared.access.Access.{Access}
use Rattle.clock_core.specs.Counts.{no_counts}
use Rattle.clock_core.specs.declared.clock.Clock.{Clock}
use Rattle.access_times.specs.declared.times.Times.{Times}
use Rattle.online_reduce.specs.declared.source.Source.{Source}
use Rattle.online_reduce.specs.Sources.{candidates}
use Rattle.online_reduce.specs.Reduced.{Reduced, clock_of}
use Rattle.online_reduce.proofs.CandidateLists.{CoresRise, all_from_one, candidates_rise, cores_rise_at, one_noted}

-- ---- what the calls within a retirement need

-- the candidates that the call is given are those of the state
abbrev pub AreFound : Reduced → Access → Times → List Source → Type 0
AreFound r a t found = found ≡ candidates r.cores (clock_of r a.at.core) a t

pub sources_pair : (m : ℕ) (r : Reduced) (a : Access) (t : Times) (found : List Source) → m ≡ r.cores
    → a.at.core < r.cores → AreFound r a t found →
    All (λ (s : Source). IsPair m s.at.core a.at.core) found
sources_pair m r a t found same lt is =
    All-same (λ (s : Source). IsPair m s.at.core a.at.core) found (candidates r.cores (clock_of r a.at.core) a t) is
    (all_from_one (λ (s : Source). IsPair m s.at.core a.at.core) (candidates r.cores (clock_of r a.at.core) a t)
    (λ s one.
    let q = one_noted r.cores (clock_of r a.at.core) a t s one in
    let below = q.0 in
    record { source = omega arith; target = omega arith; differ = q.1.lives.other }))

pub sources_apart : (r : Reduced) (a : Access) (t : Times) (found : List Source) → AreFound r a t found
    → (i j : ℕ) (d : Source) → i < j →
    j < length found → (get_or found i d).at.core < (get_or found j d).at.core
sources_apart r a t found is i j d earlier lt =
    cores_rise_at 0 found i j d
    (subst (λ (xs : List Source). CoresRise 0 xs) (sym is) (candidates_rise r.cores (clock_of r a.at.core) a t))
    earlier lt

-- ---- the state after

-- the clock that was read is the core's
read_is : (r : Reduced) (core : ℕ) (d : Clock) → core < length r.clocks → get_or r.clocks core d ≡ clock_of r core
read_is r core d lt = get_or_default r.clocks core d no_counts lt

-- the same, where the clocks are those of the state
pub same_clock_of : (clocks : List Clock) (r : Reduced) (core : ℕ) (d : Clock) → clocks ≡ r.clocks
    → core < length clocks →
    get_or clocks core d ≡ clock_of r core
same_clock_of clocks r core d same lt = ap (λ (cs : List Clock). get_or cs core d) same
    ∙ read_is r core d (omega (arith, lt, ap length same))
