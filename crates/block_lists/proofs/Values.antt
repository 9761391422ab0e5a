-- The values of a list in blocks before and after one of its steps.
use Rattle.std.proofs.Common.{◌≡◌, ◌≢◌, ℕ, ◌+◌, ◌*◌, ◌/◌, ◌%◌, ◌<◌, ◌≤◌, List, ◌++◌, length, get_or, set, take, replicate}
use Rattle.std.proofs.Common.{arith, refl, sym, ap, ◌∙◌, ⊎_elim, map}
use Rattle.std.specs.List.{range_with_len}
use Rattle.std.specs.Prelude.{slice_index}
use Rattle.std.proofs.lemmas.Bool.{cases_lt, cases_eq}
use Rattle.std.proofs.lemmas.Grind.{get_or-set_at, get_or_default_zero}
use Rattle.std.proofs.lemmas.List.{get_or_append_left, get_or-append-add, get_or-replicate, length-replicate}
use Rattle.std.proofs.lemmas.List.{get_or_past, get_or_default, get_or-set_other, get_or-take, length-append}
use Rattle.std.proofs.lemmas.List.{length-take-le, length-set}
use Rattle.std.proofs.lemmas.List.FromFn.{fill_by_all, get_or-map-range_with_len, length-map-range_with_len}
use Rattle.block_lists.specs.Blocks.{Fits, IsOwned, spot_of, value_at, values_in}

-- ---- a new list

-- each place of a table of zeros is 0
zero_at : (n k : ℕ) → slice_index (replicate n 0) k ≡ 0
zero_at n k =
    ⊎_elim (λ (inside : k < n). get_or-replicate n k 0 0 inside)
    (λ (past : n ≤ k). get_or_past (replicate n 0) k 0 (omega (arith, length-replicate {A = ℕ} n 0)))
    (cases_lt k n)

-- one block and a table of zeros fit
pub fits_first : {T : Type 0} (first : T) (blocks len : ℕ) → len ≤ blocks * 64
    → Fits first (replicate blocks 0) (replicate 64 first) len
fits_first first blocks len wide =
    let long = length-replicate 64 first in
    record {
      wide = omega (arith, length-replicate {A = ℕ} blocks 0);
      whole = omega (arith, long);
      inside = λ block. omega (arith, long, zero_at blocks block);
      unwritten = λ spot inside. get_or-replicate 64 spot first first inside;
      apart = λ block other some same. absurd (omega (arith, zero_at blocks block));
    }

-- their values
pub values_first : {T : Type 0} (first : T) (blocks len : ℕ)
    → values_in first (replicate blocks 0) (replicate 64 first) len ≡ replicate len first
values_first first blocks len =
    sym
    (fill_by_all (value_at first (replicate blocks 0) (replicate 64 first)) (replicate len first) len first
    (length-replicate len first)
    (λ k inside.
    get_or-replicate len k first first inside
    ∙ sym
    (ap (λ (number : ℕ). get_or (replicate 64 first) (number * 64 + k % 64) first) (zero_at blocks (k / 64))
    ∙ get_or-replicate 64 (0 * 64 + k % 64) first first (omega arith))))

-- ---- a look

-- what is read of a table within it doesn't hang on what stands for a missing number
pub found : (xs : List ℕ) (i x : ℕ) → i < length xs → x ≡ get_or xs i x → x ≡ get_or xs i 0
found xs i x inside is = is ∙ get_or_default_zero xs i x inside

-- a place of the list is below its length, and its spot is one of those that are kept
pub place_inside : {T : Type 0} (first : T) (table : List ℕ) (kept : List T) (len place : ℕ) (all : List T)
    → values_in first table kept len ≡ all → place < length all → place < len
place_inside first table kept len place all is inside =
    omega (arith, ap length is, length-map-range_with_len (value_at first table kept) 0 len)

pub spot_inside : {T : Type 0} (first : T) (table : List ℕ) (kept : List T) (len place : ℕ)
    → Fits first table kept len → spot_of table place < length kept
spot_inside first table kept len place fits = omega (arith, fits.inside (place / 64))

-- the value at a place lies at its spot, whatever stands for a missing one
pub value_there : {T : Type 0} (first : T) (table : List ℕ) (kept : List T) (len place : ℕ) (x d : T)
    → place < len → x ≡ get_or kept (spot_of table place) x → spot_of table place < length kept
    → x ≡ get_or (values_in first table kept len) place d
value_there first table kept len place x d inside is there =
    is ∙ sym (get_or_default kept (spot_of table place) first x there)
    ∙ sym (get_or-map-range_with_len (value_at first table kept) 0 len place place d inside (omega arith))

-- ---- a block that is opened

module _ {T : Type 0} (first : T) (table : List ℕ) (kept : List T) (len block : ℕ) where
  -- what a list of blocks is after a block of its own is kept for one that shared the first
  pub opened_fits : Fits first table kept len → block < length table → get_or table block 0 ≡ 0
      → Fits first (set table block (length kept / 64)) (kept ++ take 64 kept) len
  opened_fits fits inside none =
      let number = length kept / 64 in
      let some : 64 ≤ length kept = omega (arith, fits.inside block) in
      let whole : number * 64 ≡ length kept = omega (arith, fits.whole) in
      let long : length (kept ++ take 64 kept) ≡ length kept + 64 =
      length-append kept (take 64 kept) ∙ ap (λ (n : ℕ). length kept + n) (length-take-le 64 kept some) in
      let own : (b : ℕ) → b ≡ block → get_or (set table block number) b 0 ≡ number =
      λ b e. get_or-set_at table block b number 0 e inside in
      let other : (b : ℕ) → b ≢ block → get_or (set table block number) b 0 ≡ get_or table b 0 =
      λ b ne. get_or-set_other table block b number 0 ne in
      record {
        wide = omega (arith, fits.wide, length-set table block number);
        whole = omega (arith, long, fits.whole);
        inside = λ b. ⊎_elim (λ (e : b ≡ block). omega (arith, own b e, long, whole))
            (λ (ne : b ≢ block). omega (arith, other b ne, long, fits.inside b)) (cases_eq b block);
        unwritten = λ spot below.
            get_or_append_left kept (take 64 kept) first spot (omega arith) ∙ fits.unwritten spot below;
        apart = λ b o ours same.
            ⊎_elim
            (λ (e : b ≡ block). ⊎_elim (λ (f : o ≡ block). omega arith)
            (λ (nf : o ≢ block). absurd (omega (arith, own b e, other o nf, same, whole, fits.inside o)))
            (cases_eq o block))
            (λ (ne : b ≢ block). ⊎_elim
            (λ (f : o ≡ block). absurd (omega (arith, other b ne, own o f, same, whole, fits.inside b)))
            (λ (nf : o ≢ block). fits.apart b o (omega (arith, other b ne)) (omega (arith, other b ne, other o nf, same)))
            (cases_eq o block))
            (cases_eq b block);
      }

  -- the value at each place is what it was
  opened_value : Fits first table kept len → block < length table → get_or table block 0 ≡ 0 → (k : ℕ)
      → value_at first (set table block (length kept / 64)) (kept ++ take 64 kept) k ≡ value_at first table kept k
  opened_value fits inside none k =
      let number = length kept / 64 in
      let some : 64 ≤ length kept = omega (arith, fits.inside block) in
      let whole : number * 64 ≡ length kept = omega (arith, fits.whole) in
      ⊎_elim
      (λ (e : k / 64 ≡ block).
      let now : spot_of (set table block number) k ≡ length kept + k % 64 =
      omega (arith, get_or-set_at table block (k / 64) number 0 e inside, whole) in
      let was : spot_of table k ≡ k % 64 =
      omega (arith, ap (λ (b : ℕ). get_or table b 0) e ∙ none) in
      ap (λ (at : ℕ). get_or (kept ++ take 64 kept) at first) now
      ∙ get_or-append-add kept (take 64 kept) (k % 64) first
      ∙ get_or-take 64 kept (k % 64) first (omega arith)
      ∙ ap (λ (at : ℕ). get_or kept at first) (sym was))
      (λ (ne : k / 64 ≢ block).
      let same : spot_of (set table block number) k ≡ spot_of table k =
      ap (λ (n : ℕ). n * 64 + k % 64) (get_or-set_other table block (k / 64) number 0 ne) in
      ap (λ (at : ℕ). get_or (kept ++ take 64 kept) at first) same
      ∙ get_or_append_left kept (take 64 kept) first (spot_of table k) (omega (arith, fits.inside (k / 64))))
      (cases_eq (k / 64) block)

  -- so all its values are what they were
  pub opened_same : Fits first table kept len → block < length table → get_or table block 0 ≡ 0
      → values_in first (set table block (length kept / 64)) (kept ++ take 64 kept) len ≡ values_in first table kept len
  opened_same fits inside none =
      let next = value_at first (set table block (length kept / 64)) (kept ++ take 64 kept) in
      fill_by_all (value_at first table kept) (map next (range_with_len 0 len)) len first
      (length-map-range_with_len next 0 len)
      (λ k below.
      get_or-map-range_with_len next 0 len k k first below (omega arith) ∙ opened_value fits inside none k)

-- a block that is opened is kept as its own
pub opened : {T : Type 0} (table : List ℕ) (kept : List T) (block : ℕ) → block < length table → 64 ≤ length kept
    → get_or table block 0 ≡ 0
    → IsOwned table kept block (set table block (length kept / 64)) (kept ++ take 64 kept)
opened table kept block inside some none =
    record {
      own = omega (arith, get_or-set_at table block block (length kept / 64) 0 refl inside);
      fits = λ first len fits. opened_fits first table kept len block fits inside none;
      same = λ first len fits. opened_same first table kept len block fits inside none;
    }

-- a block that was kept as its own still is
pub owned : {T : Type 0} (table : List ℕ) (kept : List T) (block : ℕ) → get_or table block 0 ≢ 0
    → IsOwned table kept block table kept
owned table kept block some = record { own = omega arith; fits = λ first len fits. fits; same = λ first len fits. refl }

-- ---- a place that is written

module _ {T : Type 0} (first : T) (table : List ℕ) (kept : List T) (len place : ℕ) (v : T) where
  pub written_fits : Fits first table kept len → 1 ≤ get_or table (place / 64) 0
      → Fits first table (set kept (spot_of table place) v) len
  written_fits fits own =
      let long = length-set kept (spot_of table place) v in
      record {
        wide = fits.wide;
        whole = omega (arith, long, fits.whole);
        inside = λ b. omega (arith, long, fits.inside b);
        unwritten = λ spot below.
            let apart : spot ≢ spot_of table place = omega arith in
            get_or-set_other kept (spot_of table place) spot v first apart ∙ fits.unwritten spot below;
        apart = fits.apart;
      }

  -- another place lies elsewhere
  elsewhere : Fits first table kept len → 1 ≤ get_or table (place / 64) 0 → (k : ℕ) → k ≢ place
      → spot_of table k ≢ spot_of table place
  elsewhere fits own k ne same =
      let block : get_or table (place / 64) 0 ≡ get_or table (k / 64) 0 = omega arith in
      let one : place / 64 ≡ k / 64 = fits.apart (place / 64) (k / 64) own block in
      ne (omega arith)

  pub written_values : Fits first table kept len → 1 ≤ get_or table (place / 64) 0 → place < len
      → values_in first table (set kept (spot_of table place) v) len ≡ set (values_in first table kept len) place v
  written_values fits own inside =
      let spot = spot_of table place in
      let next = value_at first table (set kept spot v) in
      let before = values_in first table kept len in
      let there : spot < length kept = omega (arith, fits.inside (place / 64)) in
      let all : length before ≡ len = length-map-range_with_len (value_at first table kept) 0 len in
      sym
      (fill_by_all next (set before place v) len first (length-set before place v ∙ all)
      (λ k below.
      ⊎_elim
      (λ (e : k ≡ place).
      get_or-set_at before place k v first e (omega (arith, all))
      ∙ sym (get_or-set_at kept spot (spot_of table k) v first (ap (spot_of table) e) there))
      (λ (ne : k ≢ place).
      get_or-set_other before place k v first ne
      ∙ get_or-map-range_with_len (value_at first table kept) 0 len k k first below (omega arith)
      ∙ sym (get_or-set_other kept spot (spot_of table k) v first (elsewhere fits own k ne)))
      (cases_eq k place)))
