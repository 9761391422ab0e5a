-- Texts that are put one behind the other, and that of some instructions that are waited for.
use Rattle.std.proofs.Common.{◌≡◌, ℕ, Bool, false, cond, List, [], ◌++◌, length, ap, append_assoc, ◌∙◌}
use Rattle.std.specs.Prelude.{nat_eq, codes, Result, Ok, Err, OnOk}
use Rattle.std.specs.List.{flat_map}
use Rattle.rtr_types.specs.declared.instr.Instr.{Instr}
use Rattle.gdb_places.specs.Threads.{wait_text, waits_text}

pub waits_some : (list : List Instr) → nat_eq (length list) 0 ≡ false →
    waits_text list ≡ codes ", waits for" ++ flat_map wait_text list
waits_some list some = ap (λ (b : Bool). cond b [] (codes ", waits for" ++ flat_map wait_text list)) some

pub joined : (old mid new front rest : List ℕ) → mid ≡ old ++ front → new ≡ mid ++ rest → new ≡ old ++ (front ++ rest)
joined old mid new front rest first second = second ∙ ap (λ xs. xs ++ rest) first ∙ append_assoc old front rest

pub on_ok : {T E : Type 0} (answer : Result T E) {P Q : Type 0} → (P → Q) → OnOk answer P → OnOk answer Q
on_ok (Ok x) f h = f h
on_ok (Err e) f h = tt
