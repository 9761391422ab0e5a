-- The limits of a run, as facts and as a test.
use Rattle.std.proofs.Common.{◌≡◌, ◌*◌, ◌%◌, ◌≤◌, true, ◌&&◌, nat_le, nat_eq, refl, arith}
use Rattle.std.proofs.lemmas.Bool.Decides.{nat_tests}
use Rattle.std.proofs.lemmas.Bool.{and_parts, leb-true}
use Rattle.rtr_types.specs.declared.TheConstants.{CORES_MAX}
use Rattle.rtr_types.specs.declared.params.Params.{Params}
use Rattle.rtr_types.specs.declared.params.TheConstants.{INSTRUCTIONS_MAX, LIMIT_MAX, WORDS_MIN, WORDS_MAX}
use Rattle.rtr_types.specs.Parameters.{Fits}
use Rattle.race_log.specs.Validity.{has_blocks, fits_run}

-- the memory is of whole blocks, and not too large
pub record HasBlocks (p : Params) : Type 0 where
  pub some_block : WORDS_MIN ≤ p.words
  pub words : p.words ≤ WORDS_MAX
  pub whole_blocks : p.words % 4 ≡ 0

pub blocks-true : (p : Params) → has_blocks p ≡ true → HasBlocks p
blocks-true p e =
    let a = and_parts (nat_le WORDS_MIN p.words && nat_le p.words WORDS_MAX) (nat_eq (p.words % 4) 0) e in
    let b = and_parts (nat_le WORDS_MIN p.words) (nat_le p.words WORDS_MAX) a.0 in
    let a1 = a.1 in let b0 = b.0 in let b1 = b.1 in
    record {
      some_block = grind (arith, nat_tests);
      words = grind (arith, nat_tests);
      whole_blocks =
          grind (arith, nat_tests);
    }

pub true-blocks : (p : Params) → HasBlocks p → has_blocks p ≡ true
true-blocks p h =
    let a : nat_le WORDS_MIN p.words ≡ true = grind (arith, nat_tests) in
    let b : nat_le p.words WORDS_MAX ≡ true = grind (arith, nat_tests) in
    let c : nat_eq (p.words % 4) 0 ≡ true = grind (arith, nat_tests) in
    rw (a, b, c) refl

pub run-true : (p : Params) → fits_run p ≡ true → Fits p
run-true p e =
    let a = and_parts (nat_le 1 p.cores && nat_le p.cores CORES_MAX)
    (((nat_le 1 p.limit && nat_le p.limit LIMIT_MAX) && nat_le (p.cores * p.limit) INSTRUCTIONS_MAX) && has_blocks p) e
    in
    let b = and_parts (nat_le 1 p.cores) (nat_le p.cores CORES_MAX) a.0 in
    let c = and_parts ((nat_le 1 p.limit && nat_le p.limit LIMIT_MAX) && nat_le (p.cores * p.limit) INSTRUCTIONS_MAX)
    (has_blocks p) a.1 in
    let d = and_parts (nat_le 1 p.limit && nat_le p.limit LIMIT_MAX) (nat_le (p.cores * p.limit) INSTRUCTIONS_MAX) c.0
    in
    let f = and_parts (nat_le 1 p.limit) (nat_le p.limit LIMIT_MAX) d.0 in
    let blocks = blocks-true p c.1 in
    record {
      some_core = leb-true 1 p.cores b.0;
      cores = leb-true p.cores CORES_MAX b.1;
      some_instruction = leb-true 1 p.limit f.0;
      limit = leb-true p.limit LIMIT_MAX f.1;
      instructions = leb-true (p.cores * p.limit) INSTRUCTIONS_MAX d.1;
      some_block = blocks.some_block;
      words = blocks.words;
      whole_blocks = blocks.whole_blocks;
    }

pub true-run : (p : Params) → Fits p → fits_run p ≡ true
true-run p f =
    let a : nat_le 1 p.cores ≡ true = grind (arith, nat_tests) in
    let b : nat_le p.cores CORES_MAX ≡ true = grind (arith, nat_tests) in
    let c : nat_le 1 p.limit ≡ true = grind (arith, nat_tests) in
    let d : nat_le p.limit LIMIT_MAX ≡ true = grind (arith, nat_tests) in
    let t : nat_le (p.cores * p.limit) INSTRUCTIONS_MAX ≡ true = grind (arith, nat_tests) in
    let e = true-blocks p (record { some_block = f.some_block; words = f.words; whole_blocks = f.whole_blocks }) in
    rw (a, b, c, d, t, e) refl
