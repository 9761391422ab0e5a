-- The limits of the versions, as facts and as tests, and how they nest.
use Rattle.std.proofs.Common.{◌≡◌, ℕ, ◌*◌, ◌≤◌, true, ◌&&◌, nat_le, refl, arith}
use Rattle.std.proofs.Math.Nat.{mul-le-mul_left}
use Rattle.std.proofs.lemmas.Bool.{and_parts, le-leb, leb-true}
use Rattle.rtr_types.specs.declared.params.Params.{Params}
use Rattle.log_codec.specs.declared.version.Version.{Version}
use Rattle.log_codec.specs.declared.version.Version.TheVariants.{One, Two}
use Rattle.log_codec.specs.Laws.{LimitsNest}
use Rattle.log_codec.specs.Versions.{FitsOld, FitsIn, fits_old, fits_in}
use Rattle.race_log.specs.Validity.{has_blocks}
use Rattle.race_log.proofs.Limits.{blocks-true, run-true, true-blocks, true-run}

pub old-true : (p : Params) → fits_old p ≡ true → FitsOld p
old-true p e =
    let a = and_parts (nat_le 1 p.cores && nat_le p.cores 8)
    ((nat_le 1 p.limit && nat_le p.limit 100000) && has_blocks p) e in
    let b = and_parts (nat_le 1 p.cores) (nat_le p.cores 8) a.0 in
    let c = and_parts (nat_le 1 p.limit && nat_le p.limit 100000) (has_blocks p) a.1 in
    let d = and_parts (nat_le 1 p.limit) (nat_le p.limit 100000) c.0 in
    let blocks = blocks-true p c.1 in
    record {
      some_core = leb-true 1 p.cores b.0;
      cores = leb-true p.cores 8 b.1;
      some_instruction = leb-true 1 p.limit d.0;
      limit = leb-true p.limit 100000 d.1;
      some_block = blocks.some_block;
      words = blocks.words;
      whole_blocks = blocks.whole_blocks;
    }

pub true-old : (p : Params) → FitsOld p → fits_old p ≡ true
true-old p f =
    let cores = le-leb p.cores 8 f.cores in
    let limit = le-leb p.limit 100000 f.limit in
    let blocks = true-blocks p (record { some_block = f.some_block; words = f.words; whole_blocks = f.whole_blocks })
    in
    rw (le-leb 1 p.cores f.some_core, cores, le-leb 1 p.limit f.some_instruction, limit, blocks) refl

pub fits-true : (v : Version) (p : Params) → fits_in v p ≡ true → FitsIn v p
fits-true One p e = old-true p e
fits-true Two p e = run-true p e

pub true-fits : (v : Version) (p : Params) → FitsIn v p → fits_in v p ≡ true
true-fits One p f = true-old p f
true-fits Two p f = true-run p f

-- ---- how they nest

-- few instructions of each of few cores are few together
together-fits : (cores limit most each : ℕ) → cores ≤ most → limit ≤ each → cores * limit ≤ most * each
together-fits cores limit most each few small =
    let one = mul-le-mul_left {m = limit} {n = each} cores small in
    let two = mul-le-mul_left {m = cores} {n = most} each few in
    omega arith

pub limits_nest : LimitsNest
limits_nest p f =
    let both = together-fits p.cores p.limit 8 100000 f.cores f.limit in
    record {
      some_core = f.some_core;
      cores = omega (arith, f.cores);
      some_instruction = f.some_instruction;
      limit = omega (arith, f.limit);
      instructions = omega arith;
      some_block = f.some_block;
      words = f.words;
      whole_blocks = f.whole_blocks;
    }
