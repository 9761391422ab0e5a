-- One core more of those that pass a test.
use Rattle.std.proofs.Common.{◌≡◌, ℕ, ◌+◌, ◌<◌, Bool, true, false, ap, add-one, refl, ◌∙◌, ◌&&◌, cond}
use Rattle.std.specs.Prelude.{Option, Some, None, IfSome}
use Rattle.rtr_types.specs.CoreSets.{no_cores, with_core}
use Rattle.gdb_session.specs.Orders.{all_where, cores_where, lower_of, lowest_where}

pub none_where : (test : ℕ → Bool) → no_cores ≡ cores_where test 0
unfolding cores_where
none_where test = refl

more_where : (test : ℕ → Bool) (core : ℕ) →
    cores_where test (core + 1) ≡ cond (test core) (with_core (cores_where test core) core) (cores_where test core)
unfolding cores_where
more_where test core = ap (cores_where test) (add-one core)

pub with_more : (test : ℕ → Bool) (core : ℕ) → test core ≡ true →
    cores_where test (core + 1) ≡ with_core (cores_where test core) core
with_more test core so =
    more_where test core
    ∙ ap (λ (b : Bool). cond b (with_core (cores_where test core) core) (cores_where test core)) so

pub without_more : (test : ℕ → Bool) (core : ℕ) → test core ≡ false →
    cores_where test (core + 1) ≡ cores_where test core
without_more test core so =
    more_where test core
    ∙ ap (λ (b : Bool). cond b (with_core (cores_where test core) core) (cores_where test core)) so

pub no_lowest : (test : ℕ → Bool) → ◌≡◌ {A = Option ℕ} None (lowest_where test 0)
unfolding lowest_where
no_lowest test = refl

pub more_lowest : (test : ℕ → Bool) (core : ℕ) →
    lowest_where test (core + 1) ≡ lower_of (lowest_where test core) (test core) core
unfolding lowest_where
more_lowest test core = ap (lowest_where test) (add-one core)

pub lower_within : (lowest : Option ℕ) (passes : Bool) (core cores : ℕ) → IfSome lowest (λ c. c < cores) →
    core < cores → IfSome (lower_of lowest passes core) (λ c. c < cores)
lower_within None true core cores before inside = inside
lower_within None false core cores before inside = tt
lower_within (Some other) passes core cores before inside = before

pub all_none : (test : ℕ → Bool) → true ≡ all_where test 0
unfolding all_where
all_none test = refl

pub more_all : (test : ℕ → Bool) (core : ℕ) → all_where test (core + 1) ≡ (all_where test core && test core)
unfolding all_where
more_all test core = ap (all_where test) (add-one core)
