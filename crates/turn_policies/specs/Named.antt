-- Rule: policies by name and number: numbered_by
-- Which run a policy's name and a number mean.
use Rattle.std.specs.Prelude.{ℕ, Bool, true, false, ◌+◌, ◌/◌, ◌%◌, ◌==◌, if◌then◌else◌}
use Rattle.turn_policies.specs.declared.named.Named.{Named}
use Rattle.turn_policies.specs.declared.named.Named.TheVariants.{All, Few, Mixed, Ranked, Seed, Walk}
use Rattle.turn_policies.specs.declared.named.Numbered.{Numbered}
use Rattle.turn_policies.specs.declared.named.Numbered.TheVariants as numbered

-- a quarter walks, and a quarter each has points for bugs of depth 2, 3 and 4
abbrev pub mixed : ℕ → Numbered
mixed n = if n % 4 == 0 then numbered.Walk (n / 4) else numbered.Ranked (n % 4 + 1) (n / 4)

abbrev pub numbered_by : Named → ℕ → Numbered
numbered_by Seed n = numbered.Seed n
numbered_by Few n = numbered.Few n
numbered_by Walk n = numbered.Walk n
numbered_by (Ranked depth) n = numbered.Ranked depth n
numbered_by Mixed n = mixed n
numbered_by All n = if n % 2 == 0 then numbered.Few (n / 2) else mixed (n / 2)

-- the run of a seed alone, in which no policy picks
abbrev pub is_by_seed : Numbered → Bool
is_by_seed (numbered.Seed n) = true
is_by_seed (numbered.Few n) = false
is_by_seed (numbered.Walk n) = false
is_by_seed (numbered.Ranked depth n) = false
