-- What is kept after an entry was added or changed, and where a block stands.
use Rattle.std.proofs.Common.{◌≡◌, ◌∙◌, ℕ, suc, zero, ◌<◌, List, [], ◌∷◌, ◌++◌, Some, None, refl, sym, ap, subst}
use Rattle.std.proofs.Common.{length-set, slice_get}
use Rattle.std.specs.Prelude.{length, slice_index_or, slice_set}
use Rattle.std.specs.Cmp.{nat_eq_equiv}
use Rattle.std.specs.List.{IsDistinct}
use Rattle.std.specs.Map.{keys_of, values_of}
use Rattle.std.specs.Prelude.{nat_eq}
use Rattle.std.proofs.lemmas.List.{get_or_read, length_push, map_push}
use Rattle.std.proofs.lemmas.Option.{get_or_from_slice_get}
use Rattle.indexmap.specs.IndexMap.{IndexMap, insert_entry, keys, set_value_at, values, with_value_at}
use Rattle.indexmap.proofs.CallerLemmas.{index_map_len-with_value_at, keys-with_value_at}
use Rattle.indexmap.proofs.MapLemmas.{Missing-position, index-first, insert_entry-absent}
use Rattle.indexmap.proofs.RemoveLemmas.{own_first}
use Rattle.msi_directory.specs.Deeds.{Deed}
use Rattle.msi_directory.specs.KeptDeeds.{IsDoneAt}
use Rattle.msi_directory.specs.Entries.{answer_riding}
use Rattle.msi_directory.specs.Kept.{Kept, copy_of, entry_of, kept_at, kept_more, kept_with, place_of}
use Rattle.msi_directory.specs.declared.entry.Entry.{Entry}
use Rattle.msi_directory.specs.declared.entry.Served.{Served}
use Rattle.msi_directory.specs.declared.entry.Stage.{Stage}
use Rattle.msi_directory.specs.declared.home_copies.HomeCopy.{HomeCopy}
use Rattle.msi_directory.specs.Table.{is_free}

-- a block that has no entry goes last
added : (entries : List (ℕ × Stage)) (block : ℕ) (stage : Stage) → place_of (keys_of entries) block ≡ None
    → insert_entry nat_eq entries block stage ≡ entries ++ (block, stage) ∷ []
added entries block stage none = insert_entry-absent nat_eq block stage entries (Missing-position (nat_eq block) entries
    none).absent

-- the block whose entry is at a place stands there
stands_at : (entries : List (ℕ × Stage)) (place block : ℕ) (stage : Stage) → IsDistinct nat_eq (keys_of entries)
    → slice_get entries place ≡ Some (block, stage) → place_of (keys_of entries) block ≡ Some place
stands_at entries place block stage distinct at =
    index-first (nat_eq block) entries place (own_first nat_eq nat_eq_equiv entries place block stage distinct at)

values_set : (entries : List (ℕ × Stage)) (place : ℕ) (stage : Stage) →
    values_of (set_value_at entries place stage) ≡ slice_set (values_of entries) place stage
values_set [] place stage = refl
values_set (e ∷ es) zero stage = refl
values_set (e ∷ es) (suc place) stage = ap (λ rest. e.1 ∷ rest) (values_set es place stage)

-- the stages of the map m beside these copies
module _ {R S : Type 0} (m : IndexMap ℕ Stage S) (copies : List (HomeCopy R)) where
  abbrev pub kept_of : Kept R
  kept_of = record { blocks = keys m; stages = values m; copies = copies }

  -- a look at a place that has an entry of the block finds the block there
  pub seen_at : (now : Kept R) → kept_of ≡ now → IsDistinct nat_eq (keys m) → (place kept block : ℕ) (stage : Stage)
      → slice_get m.entries place ≡ Some (kept, stage) → kept ≡ block → Some place ≡ place_of now.blocks block
  seen_at now is distinct place kept block stage at same =
      sym (stands_at m.entries place kept stage distinct at) ∙ ap (place_of (keys m)) same
      ∙ ap (λ (k : Kept R). place_of k.blocks block) is

-- one more block's entry comes behind the others
module _ {R S : Type 0} (m m' : IndexMap ℕ Stage S) (copies copies' : List (HomeCopy R)) (block : ℕ) (e : Entry R)
    (none : place_of (keys m) block ≡ None)
    (stages : m'.entries ≡ insert_entry nat_eq m.entries block e.stage) (beside : copies' ≡ copies ++ copy_of e ∷ [])
  where
    entries_more : m'.entries ≡ m.entries ++ (block, e.stage) ∷ []
    entries_more = stages ∙ added m.entries block e.stage none

    pub more : kept_of m' copies' ≡ kept_more (kept_of m copies) block e
    more = rw (
      entries_more,
      beside,
      map_push (λ (p : ℕ × Stage). p.0) m.entries (block, e.stage),
      map_push (λ (p : ℕ × Stage). p.1) m.entries (block, e.stage),
    )

    pub more_counted : length copies ≡ length m.entries → length copies' ≡ length m'.entries
    more_counted same = rw (
      entries_more,
      beside,
      length_push m.entries (block, e.stage),
      length_push copies (copy_of e),
      same,
    )

-- the stage and the copy at a place are changed as a deed changes them
module _ {R S : Type 0} (done : Deed R) (m : IndexMap ℕ Stage S) (copies : List (HomeCopy R)) (now : Kept R)
    (is : kept_of m copies ≡ now)
    (place : ℕ) (stage : Stage) (copy : HomeCopy R)
    (stands : slice_get (values m) place ≡ Some stage) (within : place < length copies)
    (lies : copy ≡ slice_index_or copies place copy) where
  here : (past : Entry R) → kept_at now place past ≡ entry_of stage copy
  here past =
      subst (λ k. kept_at k place past ≡ entry_of stage copy) is
      (λ i. entry_of (get_or_from_slice_get (values m) place stage past.stage stands i)
      (sym (get_or_read copies place copy within lies (copy_of past)) i))

  changed : (stage' : Stage) (copy' : HomeCopy R) →
      entry_of stage' copy' ≡ done.after (entry_of stage copy) → (past : Entry R)
      → kept_of (with_value_at m place stage') (slice_set copies place copy') ≡ kept_with now place
      (done.after (kept_at now place past))
  changed stage' copy' after past =
      rw (here past, ← after, ← is, keys-with_value_at m place stage', values_set m.entries place stage')

  -- a deed that is done to the stage and the copy is done at the place
  pub done_at : (stage' : Stage) (copy' : HomeCopy R) (hand : R) (served : Served) →
      entry_of stage' copy' ≡ done.after (entry_of stage copy)
      → answer_riding hand served.answer ≡ done.answer (entry_of stage copy) → served.free ≡ is_free stage'
      → IsDoneAt done now (kept_of (with_value_at m place stage') (slice_set copies place copy')) place hand served
  done_at stage' copy' hand served after answered free =
      record {
        kept = changed stage' copy' after;
        answer = λ past. rw (here past) answered;
        free = λ past. rw (here past) (free ∙ ap (λ (e : Entry R). is_free e.stage) after);
      }

-- there are as many copies as stages then, too, and what is beside them is as it was
pub changed_counted : {R S Beside : Type 0} (m : IndexMap ℕ Stage S) (copies : List (HomeCopy R)) (place : ℕ)
    (stage' : Stage) (copy' : HomeCopy R)
    → (length copies ≡ length m.entries) × Beside
    → (length (slice_set copies place copy') ≡ length (with_value_at m place stage').entries) × Beside
changed_counted m copies place stage' copy' is = (
  length-set copies place copy' ∙ is.0 ∙ sym (index_map_len-with_value_at m place stage'),
  is.1,
)
