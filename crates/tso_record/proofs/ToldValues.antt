-- The logged loads of each core after one more instruction was told.
use Rattle.std.proofs.Common.{◌≡◌, ◌∙◌, refl, sym, ap, ℕ, ◌==◌, Bool, true, false, cond, List, [], ◌∷◌, ◌++◌}
use Rattle.std.proofs.Common.{append-nil, append_assoc, eq-eqb, ne_eqb, zero-add}
use Rattle.std.specs.Prelude.{map}
use Rattle.std.specs.List.{range_with_len}
use Rattle.image_mem.specs.Contents.{Contents}
use Rattle.rtr_types.specs.declared.params.Params.{Params}
use Rattle.tso_outcome.proofs.ByCore.{by_core, item_more, same_lists}
use Rattle.tso_state.specs.Events.{Told, Alone, Ordered, Logged}
use Rattle.tso_state.specs.Runs.{LoggedLoad, all_told, values_at, values_of}
use Rattle.tso_recordings.proofs.Valid.{loads_told}
use Rattle.roomy_lists.specs.Lists.{with_item}
use Rattle.tso_recordings.proofs.Values.{told_values}

-- the logged loads of each core after one more instruction was told, and after all of a list
abbrev pub values_after : List (List (ℕ × ℕ)) → Told → List (List (ℕ × ℕ))
values_after values (Alone at) = values
values_after values (Ordered a) = values
values_after values (Logged at word value) = with_item values at.core (at.count, value)

abbrev pub values_behind : List (List (ℕ × ℕ)) → List Told → List (List (ℕ × ℕ))
values_behind values [] = values
values_behind values (e ∷ later) = values_behind (values_after values e) later

-- the logged loads of a core, of what was told
abbrev core_values : List Told → (core : ℕ) → List (ℕ × ℕ)
core_values list core = told_values core list

core_append : (xs ys : List Told) (core : ℕ) → core_values (xs ++ ys) core ≡ core_values xs core ++ core_values ys core
core_append [] ys core = refl
core_append (Alone at ∷ xs) ys core = core_append xs ys core
core_append (Ordered a ∷ xs) ys core = core_append xs ys core
core_append (Logged at word value ∷ xs) ys core = by (at.core == core) (core_append xs ys core)
  where
    by : (b : Bool) → core_values (xs ++ ys) core ≡ core_values xs core ++ core_values ys core →
        cond b ((at.count, value) ∷ core_values (xs ++ ys) core) (core_values (xs ++ ys) core)
        ≡ cond b ((at.count, value) ∷ core_values xs core) (core_values xs core) ++ core_values ys core
    by true same = ap (λ (l : List (ℕ × ℕ)). (at.count, value) ∷ l) same
    by false same = same

-- where the one that is told adds these to a core's
added : (xs : List Told) (e : Told) (core : ℕ) (more : List (ℕ × ℕ)) → core_values (e ∷ []) core ≡ more →
    core_values (xs ++ e ∷ []) core ≡ core_values xs core ++ more
added xs e core more is =
    core_append xs (e ∷ []) core ∙ ap (λ (l : List (ℕ × ℕ)). core_values xs core ++ l) is

unlogged : (xs : List Told) (e : Told) (n : ℕ) → ((core : ℕ) → core_values (e ∷ []) core ≡ []) →
    by_core (core_values xs) 0 n ≡ by_core (core_values (xs ++ e ∷ [])) 0 n
unlogged xs e n none =
    same_lists (core_values xs) (core_values (xs ++ e ∷ [])) 0 n (λ core le lt.
    sym (added xs e core [] (none core) ∙ append-nil (core_values xs core)))

lists_after : (xs : List Told) (e : Told) (n : ℕ) →
    values_after (by_core (core_values xs) 0 n) e ≡ by_core (core_values (xs ++ e ∷ [])) 0 n
lists_after xs (Alone at) n = unlogged xs (Alone at) n (λ core. refl)
lists_after xs (Ordered a) n = unlogged xs (Ordered a) n (λ core. refl)
lists_after xs (Logged at word value) n =
    item_more (core_values xs) (core_values (xs ++ e ∷ [])) (at.count, value) at.core 0 n at.core
    (sym (zero-add at.core))
    (added xs e at.core ((at.count, value) ∷ [])
    (ap (λ (b : Bool). cond b ((at.count, value) ∷ []) []) (eq-eqb at.core at.core refl)))
    (λ core ne.
    sym (added xs e core []
    (ap (λ (b : Bool). cond b ((at.count, value) ∷ []) []) (ne_eqb at.core core (λ is. ne (sym is))))
    ∙ append-nil (core_values xs core)))
  where
    e : Told
    e = Logged at word value

lists_told : (xs more : List Told) (n : ℕ) →
    values_behind (by_core (core_values xs) 0 n) more ≡ by_core (core_values (xs ++ more)) 0 n
lists_told xs [] n = ap (λ (list : List Told). by_core (core_values list) 0 n) (sym (append-nil xs))
lists_told xs (e ∷ more) n =
    ap (λ (lists : List (List (ℕ × ℕ))). values_behind lists more) (lists_after xs e n)
    ∙ lists_told (xs ++ e ∷ []) more n
    ∙ ap (λ (list : List Told). by_core (core_values list) 0 n) (append_assoc xs (e ∷ []) more)

-- the values of a run are those that were told
run_values : (image : Contents) (params : Params) (choices : ℕ → ℕ) (t : ℕ) →
    by_core (core_values (all_told image params choices t)) 0 params.cores ≡ values_at image params choices t
run_values image params choices t =
    ap (λ (l : List LoggedLoad). map (λ c. values_of c l) (range_with_len 0 params.cores))
    (loads_told image params choices t)

-- and after a step those with what the step tells
pub values_next : (image : Contents) (params : Params) (choices : ℕ → ℕ) (t u : ℕ) (more : List Told) →
    all_told image params choices u ≡ all_told image params choices t ++ more →
    values_behind (values_at image params choices t) more ≡ values_at image params choices u
values_next image params choices t u more is =
    ap (λ (lists : List (List (ℕ × ℕ))). values_behind lists more) (sym (run_values image params choices t))
    ∙ lists_told (all_told image params choices t) more params.cores
    ∙ ap (λ (list : List Told). by_core (core_values list) 0 params.cores) (sym is)
    ∙ run_values image params choices u
