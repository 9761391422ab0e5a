-- The set of the cores whose oldest request is for a block, core by core.
use Rattle.std.proofs.Common.{◌≡◌, ◌≢◌, ◌∙◌, ◌⊎◌, inl, inr, sym, ap, ℕ, ◌+◌, ◌<◌, ◌≤◌, Bool, true, false, ◌&&◌, List}
use Rattle.std.proofs.Common.{[], length, get_or, nat_lt, arith}
use Rattle.std.specs.Prelude.{map}
use Rattle.std.proofs.lemmas.Bool.{cases_eq, cases_lt}
use Rattle.std.proofs.lemmas.Bool.Decides.{nat_tests}
use Rattle.std.proofs.lemmas.List.{get_or-map, get_or_past, length-map}
use Rattle.rtr_types.specs.CoreSets.{has, with_core, no_cores}
use Rattle.rtr_types.specs.declared.TheConstants.{CORES_MAX}
use Rattle.rtr_types.specs.declared.core_set.CoreSet.{CoreSet}
use Rattle.rtr_types.proofs.Members.{has-with_same, has-with_other, has-no_cores}
use Rattle.msi_memory.specs.declared.port.Port.{Port}
use Rattle.msi_memory.specs.Rests.{head_is, requests_at}

-- one more core is below the bound
below_more : (c n : ℕ) (b : Bool) → c ≢ n → (nat_lt c n && b) ≡ (nat_lt c (n + 1) && b)
below_more c n b other = grind (arith, nat_tests)

below_own : (n : ℕ) (b : Bool) → (nat_lt n (n + 1) && b) ≡ b
below_own n b = grind (arith, nat_tests)

not_below : (n : ℕ) (b : Bool) → (nat_lt n n && b) ≡ false
not_below n b = grind (arith, nat_tests)

is_below : (c n : ℕ) (b : Bool) → c < n → (nat_lt c n && b) ≡ b
is_below c n b within = grind (arith, nat_tests)

is_past : (c n : ℕ) (b : Bool) → n ≤ c → (nat_lt c n && b) ≡ false
is_past c n b past = grind (arith, nat_tests)

module _ {R K : Type 0} where
  -- the set has those of the first n cores that ask for the block
  abbrev pub AskedBelow : List (Port R K) → (n block : ℕ) → CoreSet → Type 0
  AskedBelow ports n block set = (c : ℕ) → has set c ≡ (nat_lt c n && head_is block (requests_at ports c))

  requests_here : (ports : List (Port R K)) (n : ℕ) (port : Port R K) → n < length ports → get_or ports n port ≡ port
      → requests_at ports n ≡ port.requests.items
  requests_here ports n port within at =
      get_or-map (λ (p : Port R K). p.requests.items) ports n port [] within
      ∙ ap (λ (p : Port R K). p.requests.items) at

  pub asked_none : (ports : List (Port R K)) (block : ℕ) → AskedBelow ports 0 block no_cores
  asked_none ports block c = has-no_cores c ∙ sym (is_past c 0 (head_is block (requests_at ports c)) (omega arith))

  pub asked_yes : (ports : List (Port R K)) (n block : ℕ) (set : CoreSet) (port : Port R K) → n < CORES_MAX →
      n < length ports → get_or ports n port ≡ port
      → head_is block port.requests.items ≡ true → AskedBelow ports n block set →
      AskedBelow ports (n + 1) block (with_core set n)
  asked_yes ports n block set port few within at asks so_far c = by (cases_eq c n)
    where
      own : has (with_core set n) n ≡ (nat_lt n (n + 1) && head_is block (requests_at ports n))
      own = has-with_same set n few ∙ sym (below_own n _ ∙ ap (head_is block) (requests_here ports n port within at)
          ∙ asks)

      by : (c ≡ n) ⊎ (c ≡ n → ⊥) → has (with_core set n) c ≡ (nat_lt c (n + 1) && head_is block (requests_at ports c))
      by (inl same) = rw same own
      by (inr other) = has-with_other set n c few other ∙ so_far c ∙ below_more c n _ other

  pub asked_no : (ports : List (Port R K)) (n block : ℕ) (set : CoreSet) (port : Port R K) → n < length ports →
      get_or ports n port ≡ port
      → head_is block port.requests.items ≡ false → AskedBelow ports n block set → AskedBelow ports (n + 1) block set
  asked_no ports n block set port within at asks so_far c = by (cases_eq c n)
    where
      own : has set n ≡ (nat_lt n (n + 1) && head_is block (requests_at ports n))
      own = so_far n ∙ not_below n _ ∙ sym (below_own n _ ∙ ap (head_is block) (requests_here ports n port within at)
          ∙ asks)

      by : (c ≡ n) ⊎ (c ≡ n → ⊥) → has set c ≡ (nat_lt c (n + 1) && head_is block (requests_at ports c))
      by (inl same) = rw same own
      by (inr other) = so_far c ∙ below_more c n _ other

  pub asked_all : (ports : List (Port R K)) (block : ℕ) (set : CoreSet) → AskedBelow ports (length ports) block set →
      (c : ℕ) → has set c ≡ head_is block (requests_at ports c)
  asked_all ports block set so_far c = so_far c ∙ by (cases_lt c (length ports))
    where
      by : (c < length ports) ⊎ (length ports ≤ c) →
          (nat_lt c (length ports) && head_is block (requests_at ports c)) ≡ head_is block (requests_at ports c)
      by (inl within) = is_below c (length ports) _ within
      by (inr past) =
          is_past c (length ports) _ past
          ∙ sym (ap (head_is block) (get_or_past (map (λ (p : Port R K). p.requests.items) ports) c []
          (rw (length-map ports (λ (p : Port R K). p.requests.items)) past)))
