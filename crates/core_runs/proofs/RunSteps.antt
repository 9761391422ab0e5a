-- What the steps of a run come to, one instruction at a time.
use Rattle.std.proofs.Common.{◌≡◌, ◌∙◌, ◌<◌, ◌≤◌, ℕ, ◌+◌, ◌*◌, ◌/◌, ◌%◌, ◌^◌, ◌⊎◌, inl, inr, Bool, true, false, List}
use Rattle.std.proofs.Common.{Option, Some, None}
use Rattle.std.proofs.Common.{ap, arith, nat_eq, nat_le, refl, suc, zero, subst, sym}
use Rattle.std.specs.Prelude.{ℤ, ◌==◌, if◌then◌else◌, slice_index, Result, Ok, Err, MatchResult}
use Rattle.std.proofs.lemmas.Bool.Decides.{nat_tests}
use Rattle.rtr_types.specs.declared.access.Kind.TheVariants.{Load as Loading, Store as Storing, Amo as Exchanging}
use Rattle.rtr_types.specs.declared.instr.Instr.{Instr}
use Rattle.image_mem.specs.Contents.{Contents}
use Rattle.image_mem.specs.Lanes.{merged}
use Rattle.image_mem.proofs.LaneLemmas.{merged-value}
use Rattle.rv_decode.specs.declared.op.AmoOp.{AmoOp}
use Rattle.rv_decode.specs.declared.op.Cond.{Cond}
use Rattle.rv_decode.specs.declared.op.Op.{Op}
use Rattle.rv_decode.specs.declared.op.Op.TheVariants.{Jal, Jalr, Branch, Load as Loads, Store as Stores, Amo as Amos}
use Rattle.rv_decode.specs.declared.op.Width.{Width}
use Rattle.rv_decode.specs.declared.op.Width.TheVariants.{Word}
use Rattle.rv_core.specs.declared.core_state.Core.{Core}
use Rattle.rv_core.specs.declared.core_state.Halt.{Halt}
use Rattle.rv_core.specs.declared.core_state.Halt.TheVariants.{Running, Exited, Broke}
use Rattle.rv_core.specs.declared.core_state.Need.{Need}
use Rattle.rv_core.specs.declared.core_state.Need.TheVariants.{Local, Load, Store, Amo, Done}
use Rattle.rv_core.specs.declared.core_state.Stop.TheVariants.{Address, Align, Jump}
use Rattle.core_runs.specs.declared.running.Head.{Head}
use Rattle.core_runs.specs.declared.running.Ran.{Ran}
use Rattle.core_runs.specs.declared.running.Ran.TheVariants as runs
use Rattle.rv_core.specs.Atomics.{exchanged}
use Rattle.rv_core.specs.Operations.{is_taken, loaded, moved, size_of, wrapped_sum}
use Rattle.rv_core.specs.States.{address_of, branches, halt_after, next_pc, register, register_target, result_of}
use Rattle.rv_core.specs.States.{retired}
use Rattle.rv_core.specs.States.{word_after, written}
use Rattle.rv_core.specs.Steps.{access_of, instruction_at, is_done, is_word, need, need_at_pc, need_by, need_of}
use Rattle.rv_core.specs.Steps.{need_to_access, need_to_jump}
use Rattle.core_runs.specs.Runs.{Goes, Hops, HopsTo, IsNextOp, Refusing, Retires, RetiresOp, RunsTo, IsDoneRun}
use Rattle.core_runs.specs.Runs.{IsWholeRun, Standing, StopsAt, StopsHop, Telling, Use, core_of}
use Rattle.core_runs.specs.Runs.{gone_to, is_plain, next_instr, standing, stands}
use Rattle.rv_core.proofs.StepLemmas.{needs_of_op, stop_at, stops_without_op}
use Rattle.rv_core.proofs.LawLemmas.{after-op, count_law, limit_law, number_law, wrote-op}

-- ---- what the parts of the code leave, in these words

pub get_is : (head : Head) (registers : List ℕ) (k value : ℕ)
    → value ≡ (if k == 0 then 0 else slice_index registers k) → value ≡ register (core_of head registers) k
unfolding register
get_is head registers k value e = e

pub address_is : (head : Head) (registers : List ℕ) (rs1 : ℕ) (imm : ℤ) (base address : ℕ)
    → base ≡ (if rs1 == 0 then 0 else slice_index registers rs1) → address ≡ moved base imm
    → address ≡ address_of (core_of head registers) rs1 imm
address_is head registers rs1 imm base address base_is moves =
    moves ∙ ap (λ (b : ℕ). moved b imm) (get_is head registers rs1 base base_is)

pub right_is : (words address size : ℕ) (width : Width) → size ≡ size_of width
    → (address % size ≡ 0) × (address / 4 < words) → (address % size_of width ≡ 0) × (address / 4 < words)
right_is words address size width is right =
    subst (λ (n : ℕ). (address % n ≡ 0) × (address / 4 < words)) is right

pub wrong_is : (words address size : ℕ) (width : Width) → size ≡ size_of width
    → ((address % size ≡ 0) × (address / 4 < words) → ⊥)
    → ((address % size_of width ≡ 0) × (address / 4 < words) → ⊥)
wrong_is words address size width is wrong right =
    wrong (subst (λ (n : ℕ). (address % n ≡ 0) × (address / 4 < words)) (sym is) right)

-- ---- where an access lies

placed_by : (even past : Bool) (access : Need) → even ≡ true → past ≡ false
    → (if even then (if past then Done Address else access) else Done Align) ≡ access
placed_by true true access e p = cc
placed_by true false access e p = refl
placed_by false past access e p = cc

pub needs_access : (words address size : ℕ) (access : Need) → (address % size ≡ 0) × (address / 4 < words)
    → need_to_access words address size access ≡ access
unfolding need_to_access
needs_access words address size access right =
    let even = right.0 in
    let within = right.1 in
    placed_by (nat_eq (address % size) 0) (nat_le (4 * words) address) access (grind (arith, nat_tests))
    (grind (arith, nat_tests))

stopped_by : (even past : Bool) (access : Need) → (even ≡ true → past ≡ false → ⊥)
    → is_done (if even then (if past then Done Address else access) else Done Align) ≡ true
stopped_by true true access h = refl
stopped_by true false access h = absurd (h refl refl)
stopped_by false past access h = refl

even_is : (address size : ℕ) → nat_eq (address % size) 0 ≡ true → address % size ≡ 0
even_is address size e = grind (arith, nat_tests)

within_is : (words address : ℕ) → nat_le (4 * words) address ≡ false → address / 4 < words
within_is words address e = grind (arith, nat_tests)

pub stops_access : (words address size : ℕ) (access : Need) → ((address % size ≡ 0) × (address / 4 < words) → ⊥)
    → is_done (need_to_access words address size access) ≡ true
unfolding need_to_access
stops_access words address size access wrong =
    stopped_by (nat_eq (address % size) 0) (nat_le (4 * words) address) access
    (λ e p. wrong (even_is address size e, within_is words address p))

-- ---- one instruction, by what it needs

module _ {R W : Type 0} {told : Telling R W} {words : ℕ} (op : Op) (k : Core) where
  pub op_goes : (needed : Need) (old new : ℕ) (k' : Core) (r r' : R) (w w' : W) → need_of words k op ≡ needed
      → is_done needed ≡ false → k' ≡ retired k op old → word_after k op old ≡ new
      → told r w (next_instr k) (access_of needed) old new r' w'
      → RetiresOp told words op (standing k r w) (standing k' r' w')
  op_goes needed old new k' r r' w w' needs going core leaves tells = record {
    old = old;
    going = ap is_done needs ∙ going;
    core = core;
    tells = subst (λ (u : Option _). told r w (next_instr k) u old (word_after k op old) r' w')
        (sym (ap access_of needs))
        (subst (λ (n : ℕ). told r w (next_instr k) (access_of needed) old n r' w') (sym leaves) tells);
  }

-- ---- accesses

-- the core once an instruction that goes on to the one behind has left these registers
abbrev behind : Head → List ℕ → Core
behind head registers = core_of (gone_to head (wrapped_sum head.pc 4)) registers

behind_is : (head head' : Head) (registers registers' : List ℕ) → head' ≡ gone_to head (wrapped_sum head.pc 4)
    → registers' ≡ registers → core_of head' registers' ≡ behind head registers
behind_is head head' registers registers' head_is registers_is =
    ap (λ (h : Head). core_of h registers') head_is
    ∙ ap (λ (g : List ℕ). core_of (gone_to head (wrapped_sum head.pc 4)) g) registers_is

module _ {R W : Type 0} {told : Telling R W} {words : ℕ} (head head' : Head) (registers registers' : List ℕ)
    (address : ℕ) {r r' : R} {w w' : W} where
  pub load_goes : (width : Width) (rd rs1 : ℕ) (imm : ℤ) (old : ℕ)
      → address ≡ address_of (core_of head registers) rs1 imm
      → (address % size_of width ≡ 0) × (address / 4 < words)
      → told r w (next_instr (core_of head registers)) (Some (Loading, address / 4)) old old r' w'
      → registers' ≡ written registers rd (loaded width old (address % 4))
      → head' ≡ gone_to head (wrapped_sum head.pc 4)
      → RetiresOp told words (Loads width rd rs1 imm) (stands head registers r w) (stands head' registers' r' w')
  unfolding need_of retired next_pc result_of halt_after word_after
  load_goes width rd rs1 imm old at right tells put gone =
      op_goes (Loads width rd rs1 imm) (core_of head registers) (Load (address / 4)) old old (core_of head'
      registers') r r' w w'
      (subst (λ (a : ℕ). need_to_access words a (size_of width) (Load (a / 4)) ≡ Load (address / 4)) at
      (needs_access words address (size_of width) (Load (address / 4)) right))
      refl
      (behind_is head head' (written registers rd (loaded width old (address % 4))) registers' gone put
      ∙ ap (λ (a : ℕ). behind head (written registers rd (loaded width old (a % 4)))) at)
      refl tells

  pub store_goes : (width : Width) (rs1 rs2 : ℕ) (imm : ℤ) (old value : ℕ)
      → address ≡ address_of (core_of head registers) rs1 imm
      → value ≡ register (core_of head registers) rs2
      → (address % size_of width ≡ 0) × (address / 4 < words)
      → told r w (next_instr (core_of head registers)) (Some (Storing, address / 4)) old (merged old value (address %
      4) (size_of width)) r' w'
      → registers' ≡ registers → head' ≡ gone_to head (wrapped_sum head.pc 4)
      → RetiresOp told words (Stores width rs1 rs2 imm) (stands head registers r w) (stands head' registers' r' w')
  unfolding need_of retired next_pc result_of halt_after word_after
  store_goes width rs1 rs2 imm old value at value_is right tells put gone =
      op_goes (Stores width rs1 rs2 imm) (core_of head registers) (Store (address / 4) (is_word width)) old
      (merged old value (address % 4) (size_of width)) (core_of head' registers') r r' w w'
      (subst (λ (a : ℕ). need_to_access words a (size_of width) (Store (a / 4) (is_word width))
      ≡ Store (address / 4) (is_word width)) at
      (needs_access words address (size_of width) (Store (address / 4) (is_word width)) right))
      refl
      (behind_is head head' registers registers' gone put)
      (ap (λ (v : ℕ). merged old v (address_of (core_of head registers) rs1 imm % 4) (size_of width)) (sym value_is)
      ∙ ap (λ (a : ℕ). merged old value (a % 4) (size_of width)) (sym at))
      tells

  pub change_goes : (op : AmoOp) (rd rs1 rs2 : ℕ) (old value : ℕ) → address ≡ register (core_of head registers) rs1
      → value ≡ register (core_of head registers) rs2
      → (address % 4 ≡ 0) × (address / 4 < words)
      → told r w (next_instr (core_of head registers)) (Some (Exchanging, address / 4)) old (exchanged op old value)
      r' w'
      → registers' ≡ written registers rd old → head' ≡ gone_to head (wrapped_sum head.pc 4)
      → RetiresOp told words (Amos op rd rs1 rs2) (stands head registers r w) (stands head' registers' r' w')
  unfolding need_of retired next_pc result_of halt_after word_after
  change_goes op rd rs1 rs2 old value at value_is right tells put gone =
      op_goes (Amos op rd rs1 rs2) (core_of head registers) (Amo (address / 4)) old (exchanged op old value) (core_of
      head' registers') r r' w w'
      (subst (λ (a : ℕ). need_to_access words a 4 (Amo (a / 4)) ≡ Amo (address / 4)) at
      (needs_access words address 4 (Amo (address / 4)) right))
      refl
      (behind_is head head' (written registers rd old) registers' gone put)
      (ap (λ (v : ℕ). exchanged op old v) (sym value_is))
      tells

-- where it doesn't lie right, the program is done
module _ {R W : Type 0} {words : ℕ} (s : Standing R W) (address : ℕ) where
  pub load_stops : (width : Width) (rd rs1 : ℕ) (imm : ℤ) → address ≡ address_of s.core rs1 imm
      → ((address % size_of width ≡ 0) × (address / 4 < words) → ⊥)
      → StopsAt words (Loads width rd rs1 imm) s s
  unfolding need_of
  load_stops width rd rs1 imm at wrong = record {
    done = subst (λ (a : ℕ). is_done (need_to_access words a (size_of width) (Load (a / 4))) ≡ true) at
        (stops_access words address (size_of width) (Load (address / 4)) wrong);
    same = refl;
  }

  pub store_stops : (width : Width) (rs1 rs2 : ℕ) (imm : ℤ) → address ≡ address_of s.core rs1 imm
      → ((address % size_of width ≡ 0) × (address / 4 < words) → ⊥)
      → StopsAt words (Stores width rs1 rs2 imm) s s
  unfolding need_of
  store_stops width rs1 rs2 imm at wrong = record {
    done = subst (λ (a : ℕ). is_done (need_to_access words a (size_of width) (Store (a / 4) (is_word width))) ≡ true) at
        (stops_access words address (size_of width) (Store (address / 4) (is_word width)) wrong);
    same = refl;
  }

  pub change_stops : (op : AmoOp) (rd rs1 rs2 : ℕ) → address ≡ register s.core rs1
      → ((address % 4 ≡ 0) × (address / 4 < words) → ⊥)
      → StopsAt words (Amos op rd rs1 rs2) s s
  unfolding need_of
  change_stops op rd rs1 rs2 at wrong = record {
    done = subst (λ (a : ℕ). is_done (need_to_access words a 4 (Amo (a / 4))) ≡ true) at
        (stops_access words address 4 (Amo (address / 4)) wrong);
    same = refl;
  }

-- a whole word is the value
pub merged_whole_value : (old value address : ℕ) → value < 2 ^ 32 → address % 4 ≡ 0
    → merged old value (address % 4) 4 ≡ value
merged_whole_value old value address small aligned =
    ap (λ (lane : ℕ). merged old value lane 4) aligned ∙ merged-value old value small

-- ---- instructions without an access

plain_needs : (op : Op) (k : Core) (words : ℕ) → is_plain op ≡ true → need_of words k op ≡ Local
unfolding need_of
plain_needs (Jal rd offset) k words h = cc
plain_needs (Jalr rd rs1 imm) k words h = cc
plain_needs (Branch cond rs1 rs2 offset) k words h = cc
plain_needs (Loads width rd rs1 imm) k words h = cc
plain_needs (Stores width rs1 rs2 imm) k words h = cc
plain_needs (Amos op rd rs1 rs2) k words h = cc
plain_needs _ k words h = refl

plain_leaves : (op : Op) (k : Core) → is_plain op ≡ true → word_after k op 0 ≡ 0
unfolding word_after
plain_leaves (Jal rd offset) k h = refl
plain_leaves (Jalr rd rs1 imm) k h = refl
plain_leaves (Branch cond rs1 rs2 offset) k h = refl
plain_leaves (Loads width rd rs1 imm) k h = refl
plain_leaves (Stores width rs1 rs2 imm) k h = cc
plain_leaves (Amos op rd rs1 rs2) k h = cc
plain_leaves _ k h = refl

pub plain_hops : (op : Op) (k k' : Core) → is_plain op ≡ true → k' ≡ retired k op 0 → Hops op k k'
plain_hops op k k' plain is = record {
  needs = λ words. plain_needs op k words plain;
  core = is;
  nothing = plain_leaves op k plain;
}

-- a jump
jumps_by : (whole : Bool) → whole ≡ true → (if whole then Local else Done Jump) ≡ Local
jumps_by true h = refl
jumps_by false h = cc

stays_by : (whole : Bool) → whole ≡ false → is_done (if whole then Local else Done Jump) ≡ true
stays_by true h = cc
stays_by false h = refl

pub jumps_to : (target : ℕ) → nat_eq (target % 4) 0 ≡ true → need_to_jump target ≡ Local
unfolding need_to_jump
jumps_to target h = jumps_by (nat_eq (target % 4) 0) h

pub stays_at : (target : ℕ) → nat_eq (target % 4) 0 ≡ false → is_done (need_to_jump target) ≡ true
unfolding need_to_jump
stays_at target h = stays_by (nat_eq (target % 4) 0) h

chosen : {A : Type 0} (test : Bool) (a b : A) → test ≡ true → (if test then a else b) ≡ a
chosen true a b h = refl
chosen false a b h = cc

other : {A : Type 0} (test : Bool) (a b : A) → test ≡ false → (if test then a else b) ≡ b
other true a b h = cc
other false a b h = refl

either_same : {A : Type 0} (test : Bool) (a : A) → a ≡ (if test then a else a)
either_same true a = refl
either_same false a = refl

-- an instruction that goes to a target, where that is whole
pub jump_hops : (op : Op) (head head' : Head) (registers registers' left : List ℕ) (target : ℕ) (whole result : Bool)
    → whole ≡ nat_eq (target % 4) 0
    → ((words : ℕ) → need_of words (core_of head registers) op ≡ need_to_jump target)
    → retired (core_of head registers) op 0 ≡ core_of (gone_to head target) left
    → word_after (core_of head registers) op 0 ≡ 0
    → result ≡ whole
    → head' ≡ (if whole then gone_to head target else head)
    → registers' ≡ (if whole then left else registers)
    → HopsTo op (core_of head registers) result (core_of head' registers')
jump_hops op head head' registers registers' left target true true whole_is needs goes nothing same head_is left_is =
    record {
      needs = λ words. needs words ∙ jumps_to target (sym whole_is);
      core = ap (λ (h : Head). core_of h registers') head_is
          ∙ ap (λ (g : List ℕ). core_of (gone_to head target) g) left_is ∙ sym goes;
      nothing = nothing;
    }
jump_hops op head head' registers registers' left target false false whole_is needs goes nothing same head_is left_is =
    record {
      done = λ words. ap is_done (needs words) ∙ stays_at target (sym whole_is);
      same = ap (λ (h : Head). core_of h registers') head_is ∙ ap (λ (g : List ℕ). core_of head g) left_is;
    }
jump_hops op head head' registers registers' left target true false whole_is needs goes nothing same head_is left_is
    = cc
jump_hops op head head' registers registers' left target false true whole_is needs goes nothing same head_is left_is
    = cc

module _ (head head' : Head) (registers registers' : List ℕ) (target : ℕ) (result : Bool) where
  pub jal_hops : (rd : ℕ) (offset : ℤ) → target ≡ moved head.pc offset → result ≡ nat_eq (target % 4) 0
      → head' ≡ (if nat_eq (target % 4) 0 then gone_to head target else head)
      → registers' ≡ (if nat_eq (target % 4) 0 then written registers rd (wrapped_sum head.pc 4) else registers)
      → HopsTo (Jal rd offset) (core_of head registers) result (core_of head' registers')
  unfolding need_of retired next_pc result_of halt_after word_after
  jal_hops rd offset at result_is head_is left_is =
      jump_hops (Jal rd offset) head head' registers registers' (written registers rd (wrapped_sum head.pc 4)) target
      (nat_eq (target % 4) 0) result refl (λ words. ap need_to_jump (sym at))
      (ap (λ (pc : ℕ). core_of (gone_to head pc) (written registers rd (wrapped_sum head.pc 4))) (sym at)) refl
      result_is head_is left_is

  pub jalr_hops : (rd rs1 : ℕ) (imm : ℤ) → target ≡ register_target (core_of head registers) rs1 imm
      → result ≡ nat_eq (target % 4) 0
      → head' ≡ (if nat_eq (target % 4) 0 then gone_to head target else head)
      → registers' ≡ (if nat_eq (target % 4) 0 then written registers rd (wrapped_sum head.pc 4) else registers)
      → HopsTo (Jalr rd rs1 imm) (core_of head registers) result (core_of head' registers')
  unfolding need_of retired next_pc result_of halt_after word_after
  jalr_hops rd rs1 imm at result_is head_is left_is =
      jump_hops (Jalr rd rs1 imm) head head' registers registers' (written registers rd (wrapped_sum head.pc 4)) target
      (nat_eq (target % 4) 0) result refl (λ words. ap need_to_jump (sym at))
      (ap (λ (pc : ℕ). core_of (gone_to head pc) (written registers rd (wrapped_sum head.pc 4))) (sym at)) refl
      result_is head_is left_is

  pub branch_hops : (cond : Cond) (rs1 rs2 : ℕ) (offset : ℤ)
      → branches (core_of head registers) cond rs1 rs2 ≡ true
      → target ≡ moved head.pc offset → result ≡ nat_eq (target % 4) 0
      → head' ≡ (if nat_eq (target % 4) 0 then gone_to head target else head)
      → HopsTo (Branch cond rs1 rs2 offset) (core_of head registers) result (core_of head' registers)
  unfolding need_of retired next_pc result_of halt_after word_after
  branch_hops cond rs1 rs2 offset taken at result_is head_is =
      jump_hops (Branch cond rs1 rs2 offset) head head' registers registers registers target
      (nat_eq (target % 4) 0) result refl
      (λ words. chosen (branches (core_of head registers) cond rs1 rs2) (need_to_jump (moved head.pc offset)) Local
      taken
      ∙ ap need_to_jump (sym at))
      (ap (λ (pc : ℕ). core_of (gone_to head pc) registers)
      (chosen (branches (core_of head registers) cond rs1 rs2) (moved head.pc offset) (wrapped_sum head.pc 4) taken
      ∙ sym at)) refl
      result_is head_is (either_same (nat_eq (target % 4) 0) registers)

pub branch_passes : (head head' : Head) (registers : List ℕ) (cond : Cond) (rs1 rs2 : ℕ) (offset : ℤ)
    → branches (core_of head registers) cond rs1 rs2 ≡ false → head' ≡ gone_to head (wrapped_sum head.pc 4)
    → Hops (Branch cond rs1 rs2 offset) (core_of head registers) (core_of head' registers)
unfolding need_of retired next_pc result_of halt_after word_after
branch_passes head head' registers cond rs1 rs2 offset passed head_is = record {
  needs = λ words. other (branches (core_of head registers) cond rs1 rs2) (need_to_jump (moved head.pc offset)) Local
      passed;
  core = ap (λ (h : Head). core_of h registers) head_is
      ∙ ap (λ (pc : ℕ). core_of (gone_to head pc) registers)
      (sym (other (branches (core_of head registers) cond rs1 rs2) (moved head.pc offset) (wrapped_sum head.pc 4)
      passed));
  nothing = refl;
}

pub branches_is : (head : Head) (registers : List ℕ) (cond : Cond) (rs1 rs2 left right : ℕ) (taken : Bool)
    → left ≡ (if rs1 == 0 then 0 else slice_index registers rs1)
    → right ≡ (if rs2 == 0 then 0 else slice_index registers rs2)
    → taken ≡ is_taken cond left right → branches (core_of head registers) cond rs1 rs2 ≡ taken
branches_is head registers cond rs1 rs2 left right taken left_is right_is taken_is =
    ap (λ (n : ℕ). is_taken cond n (register (core_of head registers) rs2)) (sym (get_is head registers rs1 left
    left_is))
    ∙ ap (λ (n : ℕ). is_taken cond left n) (sym (get_is head registers rs2 right right_is)) ∙ sym taken_is

stops_hop : (op : Op) (k k' : Core) (result : Bool) → result ≡ false → HopsTo op k result k' → StopsHop op k k'
stops_hop op k k' true isnt hop = cc
stops_hop op k k' false isnt hop = hop

goes_hop : (op : Op) (k k' : Core) (result : Bool) → result ≡ true → HopsTo op k result k' → Hops op k k'
goes_hop op k k' true is hop = hop
goes_hop op k k' false is hop = cc

-- an instruction without an access, which the reach was told of or not
module _ {R W : Type 0} (op : Op) (k k' : Core) (result : Bool) (hop : HopsTo op k result k') where
  pub local_stops : (words : ℕ) (r : R) (w : W) → result ≡ false → StopsAt words op (standing k r w) (standing k' r w)
  local_stops words r w isnt =
      let stops = stops_hop op k k' result isnt hop in
      record { done = stops.done words; same = ap (λ (x : Core). standing x r w) stops.same }

  pub local_goes : {told : Telling R W} (words : ℕ) (r r' : R) (w w' : W) → result ≡ true
      → told r w (next_instr k) None 0 0 r' w' → RetiresOp told words op (standing k r w) (standing k' r' w')
  local_goes {told} words r r' w w' is tells =
      let goes = goes_hop op k k' result is hop in
      op_goes op k Local 0 0 k' r r' w w' (goes.needs words) refl goes.core goes.nothing tells

-- ---- by the image

by_running : (halt : Halt) (spent : Bool) (at_pc : Need) → halt ≡ Running → spent ≡ false
    → need_by halt spent at_pc ≡ at_pc
by_running Exited spent at_pc h s = cc
by_running Broke spent at_pc h s = cc
by_running Running true at_pc h s = cc
by_running Running false at_pc h s = refl

by_halted : (halt : Halt) (spent : Bool) (at_pc : Need) → (halt ≡ Running → ⊥)
    → is_done (need_by halt spent at_pc) ≡ true
by_halted Exited spent at_pc h = refl
by_halted Broke spent at_pc h = refl
by_halted Running spent at_pc h = absurd (h refl)

by_stop : (halt : Halt) (spent : Bool) (at_pc : Need) → is_done at_pc ≡ true → is_done (need_by halt spent at_pc) ≡ true
by_stop Exited spent at_pc h = refl
by_stop Broke spent at_pc h = refl
by_stop Running true at_pc h = refl
by_stop Running false at_pc h = h

stop_done : (word : Option ℕ) → is_done (stop_at word) ≡ true
stop_done None = refl
stop_done (Some word) = refl

pub need_here : (image : Contents) (k : Core) (op : Op) → k.halt ≡ Running → k.count < k.limit
    → instruction_at image k.pc ≡ Some op → need image k ≡ need_of image.words k op
unfolding need
need_here image k op running below found =
    by_running k.halt (nat_le k.limit k.count) (need_at_pc image k) running (grind (arith, nat_tests))
    ∙ needs_of_op image k op found

pub halted_done : (image : Contents) (k : Core) → (k.halt ≡ Running → ⊥) → is_done (need image k) ≡ true
unfolding need
halted_done image k halted = by_halted k.halt (nat_le k.limit k.count) (need_at_pc image k) halted

pub no_op_done : (image : Contents) (k : Core) → instruction_at image k.pc ≡ None → is_done (need image k) ≡ true
unfolding need
no_op_done image k none =
    by_stop k.halt (nat_le k.limit k.count) (need_at_pc image k)
    (ap is_done (stops_without_op image k none) ∙ stop_done _)

pub op_done : (image : Contents) (k : Core) (op : Op) → instruction_at image k.pc ≡ Some op
    → is_done (need_of image.words k op) ≡ true → is_done (need image k) ≡ true
unfolding need
op_done image k op found done =
    by_stop k.halt (nat_le k.limit k.count) (need_at_pc image k) (ap is_done (needs_of_op image k op found) ∙ done)

pub next_op : (image : Contents) (head : Head) (result : Option Op) → head.halt ≡ Running
    → result ≡ instruction_at image head.pc → IsNextOp image head result
next_op image head None running is = inr (sym is)
next_op image head (Some op) running is = (running, sym is)

pub halted_op : (image : Contents) (head : Head) → (head.halt ≡ Running → ⊥) → IsNextOp image head None
halted_op image head halted = inl halted

stops_by : (image : Contents) (head : Head) (registers : List ℕ)
    → (head.halt ≡ Running → ⊥) ⊎ (instruction_at image head.pc ≡ None)
    → is_done (need image (core_of head registers)) ≡ true
stops_by image head registers (inl halted) = halted_done image (core_of head registers) halted
stops_by image head registers (inr none) = no_op_done image (core_of head registers) none

pub op_stops : (image : Contents) (head : Head) (registers : List ℕ) (result : Option Op) → result ≡ None
    → IsNextOp image head result → is_done (need image (core_of head registers)) ≡ true
op_stops image head registers None none is = stops_by image head registers is
op_stops image head registers (Some op) none is = cc

pub op_is : (image : Contents) (head : Head) (result : Option Op) (op : Op) → result ≡ Some op
    → IsNextOp image head result → (head.halt ≡ Running) × (instruction_at image head.pc ≡ Some op)
op_is image head None op some is = cc
op_is image head (Some there) op some is = (is.0, is.1 ∙ some)

-- an instruction retires by the image
pub retires : {R W : Type 0} {told : Telling R W} (image : Contents) (op : Op) (s t : Standing R W)
    → s.core.halt ≡ Running → s.core.count < s.core.limit → instruction_at image s.core.pc ≡ Some op
    → RetiresOp told image.words op s t → Retires told image s t
retires {R} {W} {told} image op s t running below found goes =
    let needs = need_here image s.core op running below found in
    record {
      old = goes.old;
      going = ap is_done needs ∙ goes.going;
      core = goes.core ∙ sym (after-op image s.core op goes.old found);
      tells = subst (λ (n : ℕ). told s.reach s.watch (next_instr s.core) (access_of (need image s.core)) goes.old n
          t.reach t.watch) (sym (wrote-op image s.core op goes.old found))
          (subst (λ (u : Option _). told s.reach s.watch (next_instr s.core) u goes.old
          (word_after s.core op goes.old) t.reach t.watch) (sym (ap access_of needs)) goes.tells);
    }

-- a store of a whole word leaves the value, whatever the word held
pub stored_whole : {R W A E : Type 0} (told : Telling R W) (refused : Refusing R W) (r r' : R) (w w' : W) (at : Instr)
    (width : Width) (address value : ℕ) (result : Result A E) → width ≡ Word → value < 2 ^ 32
    → address % size_of width ≡ 0
    → MatchResult result (λ _. (old : ℕ) × told r w at (Some (Storing, address / 4)) old value r' w')
    (λ _. refused r w at r' w')
    → MatchResult result (λ _. (old : ℕ) × told r w at (Some (Storing, address / 4)) old
    (merged old value (address % 4) (size_of width)) r' w') (λ _. refused r w at r' w')
stored_whole {R} {W} {A} {E} told refused r r' w w' at width address value (Ok u) is small aligned h = (
  h.0,
  subst (λ (n : ℕ). told r w at (Some (Storing, address / 4)) h.0 n r' w')
      (sym (ap (λ (x : Width). merged h.0 value (address % 4) (size_of x)) is
      ∙ merged_whole_value h.0 value address small (subst (λ (x : Width). address % size_of x ≡ 0) is aligned))) h.1,
)
stored_whole {R} {W} {A} {E} told refused r r' w w' at width address value (Err e) is small aligned h = h

-- ---- the run so far

-- it goes on: what has retired, and what the reach still accepts
pub record GoesOnTo {R W : Type 0} (told : Telling R W) (words_of : R → ℕ) (accepts : R → W → Instr → Type 0)
    (image : Contents) (until : ℕ) (s t : Standing R W) : Type 0 where
  pub count : ℕ
  pub goes : Goes told image count s t
  pub words : words_of t.reach ≡ image.words
  pub accepts_on : (n : ℕ) → t.core.count < n → n ≤ until →
      accepts t.reach t.watch (record { core = t.core.id; count = n })
  pub limit : until ≤ t.core.limit
  pub within : t.core.count ≤ until

module _ {R W : Type 0} {told : Telling R W} {words_of : R → ℕ} {accepts : R → W → Instr → Type 0} {image : Contents}
    {until : ℕ} {s t : Standing R W} (on : GoesOnTo told words_of accepts image until s t) where
  pub goes_on_more : ((r : R) (w : W) (at : Instr) (used : Use) (old new : ℕ) (r' : R) (w' : W)
      → told r w at used old new r' w' → words_of r' ≡ words_of r)
      → ((r : R) (w : W) (at : Instr) (used : Use) (old new : ℕ) (r' : R) (w' : W) (later : Instr)
      → told r w at used old new r' w' → later.core ≡ at.core → at.count < later.count
      → accepts r w later → accepts r' w' later)
      → t.core.count < until → (u : Standing R W) → Retires told image t u
      → GoesOnTo told words_of accepts image until s u
  goes_on_more keeps_words keeps_accepting below u more =
      let counted : u.core.count ≡ t.core.count + 1 =
      ap (λ (k : Core). k.count) more.core ∙ count_law image t.core more.old in
      let named : u.core.id ≡ t.core.id = ap (λ (k : Core). k.id) more.core ∙ number_law image t.core more.old in
      let limited : u.core.limit ≡ t.core.limit = ap (λ (k : Core). k.limit) more.core
      ∙ limit_law image t.core more.old in
      let far = on.limit in
      record {
        count = suc on.count;
        goes = (t, on.goes, more);
        words = keeps_words _ _ _ _ _ _ _ _ more.tells ∙ on.words;
        accepts_on = λ n after le.
            subst (λ (id : ℕ). accepts u.reach u.watch (record { core = id; count = n })) (sym named)
            (keeps_accepting _ _ _ _ _ _ _ _ (record { core = t.core.id; count = n }) more.tells refl (omega arith)
            (on.accepts_on n (omega arith) le));
        limit = omega arith;
        within = omega arith;
      }

-- ---- the end of a run

goes_keeps : {R W : Type 0} (told : Telling R W) (image : Contents) (n : ℕ) (s t : Standing R W) → Goes told image n s t
    → (t.core.id ≡ s.core.id) × (t.core.limit ≡ s.core.limit)
goes_keeps {R} {W} told image zero s t is =
    (ap (λ (x : Standing R W). x.core.id) is, ap (λ (x : Standing R W). x.core.limit) is)
goes_keeps {R} {W} told image (suc n) s t goes =
    let before = goes_keeps told image n s goes.0 goes.1 in
    let last = goes.2 in (
      ap (λ (k : Core). k.id) last.core ∙ number_law image goes.0.core last.old ∙ before.0,
      ap (λ (k : Core). k.limit) last.core ∙ limit_law image goes.0.core last.old ∙ before.1,
    )

run_keeps : {R W : Type 0} (told : Telling R W) (refused : Refusing R W) (image : Contents) (until : ℕ)
    (s t : Standing R W) (ran : Ran) → RunsTo told refused image until s ran t
    → (t.core.id ≡ s.core.id) × (t.core.limit ≡ s.core.limit)
run_keeps told refused image until s t runs.Whole run = goes_keeps told image run.count s t run.goes
run_keeps told refused image until s t runs.Done run = goes_keeps told image run.count s t run.goes
run_keeps told refused image until s t runs.Refused run =
    let before = goes_keeps told image run.count s run.mid run.goes in
    (ap (λ (k : Core). k.id) run.core ∙ before.0, ap (λ (k : Core). k.limit) run.core ∙ before.1)

-- the core with what a run has left of its head and registers
abbrev pub left_of : Core → Head → List ℕ → Core
left_of k head registers = record {
  id = k.id;
  limit = k.limit;
  count = head.count;
  pc = head.pc;
  registers = registers;
  halt = head.halt;
}

pub run_of_core : {R W : Type 0} (told : Telling R W) (refused : Refusing R W) (image : Contents) (until : ℕ) (k : Core)
    (head : Head) (registers : List ℕ) (r r' : R) (w w' : W) (ran : Ran)
    → RunsTo told refused image until (standing k r w) ran (stands head registers r' w')
    → RunsTo told refused image until (standing k r w) ran (standing (left_of k head registers) r' w')
run_of_core {R} {W} told refused image until k head registers r r' w w' ran run =
    let kept = run_keeps told refused image until (standing k r w) (stands head registers r' w') ran run in
    subst (λ (x : Core). RunsTo told refused image until (standing k r w) ran (standing x r' w'))
    (ap (λ (id : ℕ). core_of (record head { id = id }) registers) kept.0
    ∙ ap (λ (limit : ℕ). core_of (record head { id = k.id; limit = limit }) registers) kept.1) run

-- ---- the parts of a run, as the loop leaves them

-- an instruction counts one
pub follow_count : {R W : Type 0} {told : Telling R W} {words : ℕ} {op : Op} {s t : Standing R W}
    → RetiresOp told words op s t → t.core.count ≡ s.core.count + 1
unfolding retired
follow_count {R} {W} {told} {words} {op} {s} {t} goes = ap (λ (k : Core). k.count) goes.core

module _ {R W : Type 0} {told : Telling R W} {words_of : R → ℕ} {accepts : R → W → Instr → Type 0} {image : Contents}
    {until : ℕ} {s t : Standing R W} (on : GoesOnTo told words_of accepts image until s t) where
  -- one more has retired
  pub follow_more : ((r : R) (w : W) (at : Instr) (used : Use) (old new : ℕ) (r' : R) (w' : W)
      → told r w at used old new r' w' → words_of r' ≡ words_of r)
      → ((r : R) (w : W) (at : Instr) (used : Use) (old new : ℕ) (r' : R) (w' : W) (later : Instr)
      → told r w at used old new r' w' → later.core ≡ at.core → at.count < later.count
      → accepts r w later → accepts r' w' later)
      → t.core.count < until → (op : Op) → t.core.halt ≡ Running → instruction_at image t.core.pc ≡ Some op
      → {words : ℕ} → words ≡ image.words → {u : Standing R W} → RetiresOp told words op t u
      → GoesOnTo told words_of accepts image until s u
  follow_more keeps_words keeps_accepting below op running found {words} words_is {u} goes =
      let far = on.limit in
      goes_on_more on keeps_words keeps_accepting below u
      (retires image op t u running (omega arith) found
      (subst (λ (n : ℕ). RetiresOp told n op t u) words_is goes))

  -- the program is done
  pub follow_done : t.core.count < until → (op : Op) → instruction_at image t.core.pc ≡ Some op → {words : ℕ}
      → words ≡ image.words → {u : Standing R W} → StopsAt words op t u → IsDoneRun told image until s u
  follow_done below op found {words} words_is {u} stops =
      subst (λ (x : Standing R W). IsDoneRun told image until s x) (sym stops.same)
      (record {
        count = on.count;
        goes = on.goes;
        below = below;
        done = op_done image t.core op found (subst (λ (n : ℕ). is_done (need_of n t.core op) ≡ true) words_is
            stops.done);
      })

  -- the core has come to the count
  pub follow_whole : until ≤ t.core.count → IsWholeRun told image until s t
  follow_whole past =
      let most = on.within in
      record { count = on.count; goes = on.goes; all = omega arith }
