-- The loads of each core after one more instruction was told.
use Rattle.std.proofs.Common.{◌≡◌, ◌≢◌, refl, sym, ap, ◌∙◌, ℕ, ◌==◌, Bool, true, false, cond, List, [], ◌∷◌, ◌++◌}
use Rattle.std.proofs.Common.{append-nil, append_assoc, zero-add}
use Rattle.std.proofs.lemmas.List.Elements.{filter-append}
use Rattle.rtr_types.specs.Accesses.{is_read}
use Rattle.rv_core.specs.declared.outcome.LoadNote.{LoadNote}
use Rattle.roomy_lists.specs.Lists.{with_item}
use Rattle.tso_state.specs.Events.{Told, Alone, Ordered, Logged, instr_told}
use Rattle.tso_told.specs.Played.{read_told, reads_told, told_of}
use Rattle.tso_told.proofs.InOrder.{first_else, first_own}
use Rattle.tso_told.proofs.NotedLoads.{reads-append}
use Rattle.tso_outcome.specs.Loads.{loads_after, loads_told}
use Rattle.tso_outcome.proofs.ByCore.{by_core, item_more, same_lists}

-- what a core's loads read, of those that were told
abbrev pub core_loads : List Told → (core : ℕ) → List LoadNote
core_loads list core = reads_told (told_of core list)

core_append : (xs ys : List Told) (core : ℕ) → core_loads (xs ++ ys) core ≡ core_loads xs core ++ core_loads ys core
core_append xs ys core =
    ap reads_told (filter-append (λ (e : Told). (instr_told e).core == core) xs ys)
    ∙ reads-append (told_of core xs) (told_of core ys)

own_more : (xs : List Told) (e : Told) →
    core_loads (xs ++ e ∷ []) (instr_told e).core ≡ core_loads xs (instr_told e).core ++ read_told e
own_more xs e =
    core_append xs (e ∷ []) (instr_told e).core
    ∙ ap (λ (notes : List LoadNote). core_loads xs (instr_told e).core ++ notes)
    (ap reads_told (first_own e []) ∙ append-nil (read_told e))

others_more : (xs : List Told) (e : Told) (core : ℕ) → core ≢ (instr_told e).core →
    core_loads xs core ≡ core_loads (xs ++ e ∷ []) core
others_more xs e core ne =
    sym (core_append xs (e ∷ []) core
    ∙ ap (λ (notes : List LoadNote). core_loads xs core ++ notes)
    (ap reads_told (first_else core e [] (λ is. ne (sym is))))
    ∙ append-nil (core_loads xs core))

-- where nothing is read
none_read : (xs : List Told) (e : Told) (n : ℕ) → read_told e ≡ [] →
    by_core (core_loads xs) 0 n ≡ by_core (core_loads (xs ++ e ∷ [])) 0 n
none_read xs e n none =
    same_lists (core_loads xs) (core_loads (xs ++ e ∷ [])) 0 n (λ core le lt.
    sym (core_append xs (e ∷ []) core
    ∙ ap (λ (notes : List LoadNote). core_loads xs core ++ notes) (nothing core ((instr_told e).core == core) refl)
    ∙ append-nil (core_loads xs core)))
  where
    nothing : (core : ℕ) (b : Bool) → ((instr_told e).core == core) ≡ b → core_loads (e ∷ []) core ≡ []
    nothing core true is =
        ap (λ (b : Bool). reads_told (cond b (e ∷ []) [])) is ∙ append-nil (read_told e) ∙ none
    nothing core false is = ap (λ (b : Bool). reads_told (cond b (e ∷ []) [])) is

-- where one word is read
one_read : (xs : List Told) (e : Told) (n : ℕ) (note : LoadNote) → read_told e ≡ note ∷ [] →
    with_item (by_core (core_loads xs) 0 n) (instr_told e).core note ≡ by_core (core_loads (xs ++ e ∷ [])) 0 n
one_read xs e n note one =
    item_more (core_loads xs) (core_loads (xs ++ e ∷ [])) note (instr_told e).core 0 n (instr_told e).core
    (sym (zero-add (instr_told e).core))
    (own_more xs e ∙ ap (λ (notes : List LoadNote). core_loads xs (instr_told e).core ++ notes) one)
    (others_more xs e)

lists_after : (xs : List Told) (e : Told) (n : ℕ) →
    loads_after (by_core (core_loads xs) 0 n) e ≡ by_core (core_loads (xs ++ e ∷ [])) 0 n
lists_after xs (Alone at) n = none_read xs (Alone at) n refl
lists_after xs (Ordered a) n = by_kind (is_read a.kind) refl
  where
    note : LoadNote
    note = record { count = a.at.count; word = a.word; value = a.before }

    by_kind : (read : Bool) → is_read a.kind ≡ read →
        cond read
        (with_item (by_core (core_loads xs) 0 n) a.at.core
        (record { count = a.at.count; word = a.word; value = a.before }))
        (by_core (core_loads xs) 0 n) ≡ by_core (core_loads (xs ++ Ordered a ∷ [])) 0 n
    by_kind true is = one_read xs (Ordered a) n note (ap (λ (b : Bool). cond b (note ∷ []) []) is)
    by_kind false is = none_read xs (Ordered a) n (ap (λ (b : Bool). cond b (note ∷ []) []) is)
lists_after xs (Logged at word value) n =
    one_read xs (Logged at word value) n (record { count = at.count; word = word; value = value }) refl

-- the lists after more were told are those of all that was told
pub lists_told : (xs more : List Told) (n : ℕ) →
    loads_told (by_core (core_loads xs) 0 n) more ≡ by_core (core_loads (xs ++ more)) 0 n
lists_told xs [] n = ap (λ (list : List Told). by_core (core_loads list) 0 n) (sym (append-nil xs))
lists_told xs (e ∷ more) n =
    ap (λ (lists : List (List LoadNote)). loads_told lists more) (lists_after xs e n)
    ∙ lists_told (xs ++ e ∷ []) more n
    ∙ ap (λ (list : List Told). by_core (core_loads list) 0 n) (append_assoc xs (e ∷ []) more)
