-- The home's blocks, of which one is held otherwise: so is its entry, and each block is where it was.
use Rattle.std.proofs.Common.{◌≡◌, ◌≢◌, ◌∙◌, ◌⊎◌, inl, inr, sym, ap, subst, ℕ, ◌<◌, List, [], length, map, get_or}
use Rattle.std.specs.Prelude.{slice_set}
use Rattle.std.proofs.lemmas.Bool.{cases_eq}
use Rattle.std.proofs.lemmas.List.{length-set, get_or-set_same, get_or-set_other, length-map, get_or_default}
use Rattle.std.proofs.Math.ListN.{get_or-map}
use Rattle.std.proofs.Math.Seq.{map-set_same}
use Rattle.image_mem.specs.Contents.{Contents}
use Rattle.msi_directory.specs.Blocks.{entry_at, no_entry}
use Rattle.msi_directory.specs.declared.entry.Entry.{Entry}
use Rattle.flat_state.specs.declared.block.HomeBlock.{HomeBlock}
use Rattle.flat_state.specs.Shows.{BlockShows, HomeShows, WordsKept, block_at, blocks_of, home_at, no_block}

-- a block by its place
pub block_is : (home : List HomeBlock) (i : ℕ) → block_at (blocks_of home) i ≡ (home_at home i).block
block_is home i = get_or-map (λ (b : HomeBlock). b.block) home i no_block

pub place_within : (home : List HomeBlock) (i : ℕ) → i < length (blocks_of home) → i < length home
place_within home i lies = subst (λ (k : ℕ). i < k) (length-map home (λ (x : HomeBlock). x.block)) lies

-- one that was read where there is one
pub in_home : (home : List HomeBlock) (i : ℕ) (b : HomeBlock) → i < length home → b ≡ get_or home i b →
    b ≡ home_at home i
in_home home i b within is = is ∙ get_or_default home i b no_block within

module _ (home home' : List HomeBlock) (place : ℕ) (b' : HomeBlock) (is : home' ≡ slice_set home place b')
    (same : b'.block ≡ (home_at home place).block) where
  pub blocks_same : blocks_of home' ≡ blocks_of home
  blocks_same = ap blocks_of is ∙ map-set_same (λ (x : HomeBlock). x.block) home place b' no_block same

  pub long_same : length home' ≡ length home
  long_same = ap length is ∙ length-set home place b'

  pub longer : (i : ℕ) → i < length home' → i < length home
  longer i within = subst (λ (n : ℕ). i < n) long_same within

  pub shorter : (i : ℕ) → i < length home → i < length home'
  shorter i within = subst (λ (n : ℕ). i < n) (sym long_same) within

  pub block_same : (i : ℕ) → (home_at home' i).block ≡ (home_at home i).block
  block_same i = sym (block_is home' i) ∙ (ap (λ (bs : List ℕ). block_at bs i) blocks_same ∙ block_is home i)

  pub here_now : place < length home → home_at home' place ≡ b'
  here_now lies = ap (λ (l : List HomeBlock). home_at l place) is ∙ get_or-set_same home place b' no_block lies

  pub elsewhere_now : (i : ℕ) → i ≢ place → home_at home' i ≡ home_at home i
  elsewhere_now i apart =
      ap (λ (l : List HomeBlock). home_at l i) is ∙ get_or-set_other home place i b' no_block apart

-- one block has the words that it had
pub words_same : (image : Contents) (home home' : List HomeBlock) (place : ℕ) (b' : HomeBlock)
    (memory : ℕ → List ℕ) → home' ≡ slice_set home place b' → b'.block ≡ (home_at home place).block →
    b'.words ≡ (home_at home place).words → WordsKept image home memory → WordsKept image home' memory
words_same image home home' place b' memory is same words kept =
    record {
      here = λ i lies. words_at i ∙ (kept.here i (longer home home' place b' is same i lies)
          ∙ ap memory (sym (block_same home home' place b' is same i)));
      others = λ b none. kept.others b (λ i lies at. none i (shorter home home' place b' is same i lies)
          (block_same home home' place b' is same i ∙ at));
    }
  where
    words_at : (i : ℕ) → (home_at home' i).words ≡ (home_at home i).words
    words_at i = sym (get_or-map (λ (x : HomeBlock). x.words) home' i no_block)
        ∙ (ap (λ (l : List HomeBlock). get_or (map (λ (x : HomeBlock). x.words) l) i []) is
        ∙ (ap (λ (l : List (List ℕ)). get_or l i []) (map-set_same (λ (x : HomeBlock). x.words) home place b' no_block
        words)
        ∙ get_or-map (λ (x : HomeBlock). x.words) home i no_block))

module _ {R : Type 0} where
  -- one block is held otherwise, and so is its entry
  pub home_set : (fresh : R) (home home' : List HomeBlock) (entries : List (Entry R)) (place : ℕ) (b' : HomeBlock)
      (e' : Entry R) → place < length home → home' ≡ slice_set home place b' → b'.block ≡ (home_at home place).block →
      BlockShows b' e' → HomeShows fresh home entries →
      HomeShows fresh home' (slice_set entries (home_at home place).block e')
  home_set fresh home home' entries place b' e' lies is same now shows =
      record {
        blocks = λ i within. at_place i (before i within) (cases_eq i place);
        within = λ i within. subst (λ (n : ℕ). (home_at home' i).block < n) (sym (length-set entries block e'))
            (subst (λ (x : ℕ). x < length entries) (sym (kept i)) (shows.within i (before i within)));
        once = λ i j wi wj eq. shows.once i j (before i wi) (before j wj) (sym (kept i) ∙ (eq ∙ kept j));
        others = λ b none. ap (λ (e : Entry R). e.stage) (get_or-set_other entries block b e' (no_entry fresh)
            (λ (at : b ≡ block). none place (shorter home home' place b' is same place lies) (kept place ∙ sym at)))
            ∙ shows.others b (λ i within at. none i (shorter home home' place b' is same i within) (kept i ∙ at));
      }
    where
      block : ℕ
      block = (home_at home place).block

      before : (i : ℕ) → i < length home' → i < length home
      before i within = longer home home' place b' is same i within

      kept : (i : ℕ) → (home_at home' i).block ≡ (home_at home i).block
      kept i = block_same home home' place b' is same i

      at_place : (i : ℕ) → i < length home → (i ≡ place) ⊎ (i ≢ place) →
          BlockShows (home_at home' i) (entry_at fresh (slice_set entries block e') (home_at home' i).block)
      at_place i within (inl at) =
          let here : home_at home' i ≡ b' = ap (home_at home') at ∙ here_now home home' place b' is same lies in
          let there : entry_at fresh (slice_set entries block e') (home_at home' i).block ≡ e' =
          ap (λ (x : ℕ). entry_at fresh (slice_set entries block e') x) (kept i ∙ ap (λ (x : ℕ). (home_at home x).block)
          at)
          ∙ get_or-set_same entries block e' (no_entry fresh) (shows.within place lies) in
          rw (there, here) now
      at_place i within (inr apart) =
          let here : home_at home' i ≡ home_at home i = elsewhere_now home home' place b' is same i apart in
          let there : entry_at fresh (slice_set entries block e') (home_at home' i).block
          ≡ entry_at fresh entries (home_at home i).block =
          ap (λ (x : ℕ). entry_at fresh (slice_set entries block e') x) (kept i)
          ∙ get_or-set_other entries block (home_at home i).block e' (no_entry fresh)
          (λ eq. apart (shows.once i place within lies eq)) in
          rw (there, here) (shows.blocks i within)
