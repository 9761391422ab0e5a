-- each register puts its line, and the last is x31
use Rattle.std.proofs.Common.{◌≡◌, ◌-◌, ◌+◌, ◌++◌, suc, List, ℕ, ap, ◌∙◌, arith, string_bytes}
use Rattle.std.specs.List.{flat_map, range_with_len}
use Rattle.rv_core.specs.States.{register}
use Rattle.state_text.specs.States.{register_line, register_lines}
use Rattle.state_text.proofs.PlaceLemmas.{grown, range_more}
use Rattle.state_text.proofs.states.put_registers.Goals as goal

pub loop-k-preserved : goal.loop-k-preserved
loop-k-preserved c =
    let row : ℕ → List ℕ = λ k. register_line c.args.number k (register c.args.core.now k) in
    let front : List ℕ = string_bytes c.args.text.now in
    let k : ℕ = c.loop-k.k in
    let next : suc (k - 1) ≡ k + 1 - 1 = omega arith in
    grown _ (rw c.reg.ensures at c.in_ok-put_register.ensures) c.loop-k.invariant
    (range_more row front 1 (k - 1) k (omega arith) ∙ ap (λ (n : ℕ). front ++ flat_map row (range_with_len 1 n)) next)

pub returns : goal.returns
unfolding register_lines
returns c =
    let row : ℕ → List ℕ = λ k. register_line c.args.number k (register c.args.core.now k) in
    let all : c.loop-k.k - 1 ≡ 31 = omega arith in
    c.loop-k.invariant ∙ ap (λ (n : ℕ). string_bytes c.args.text.now ++ flat_map row (range_with_len 1 n)) all
