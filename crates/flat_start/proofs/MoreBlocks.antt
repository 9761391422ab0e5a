-- A block's entry behind all others, as the image has the block: what the flat state showed it shows.
use Rattle.std.proofs.Common.{◌≡◌, ◌≢◌, ◌∙◌, ◌⊎◌, inl, inr, refl, sym, ap, subst, ℕ, ◌+◌, ◌-◌, ◌<◌, ◌≤◌, ◌*◌, Bool}
use Rattle.std.proofs.Common.{true, false}
use Rattle.std.proofs.Common.{List, [], ◌∷◌, ◌++◌, length, map, arith}
use Rattle.std.specs.Prelude.{Err, Ok, OnErr, Result, nat_lt}
use Rattle.std.proofs.lemmas.Bool.{and_from, and_parts, cases_lt, lt-ltb, ltb-true}
use Rattle.std.proofs.Math.Seq.{get_or-append_seam}
use Rattle.std.proofs.lemmas.List.{get_or_append_left, length-append, map-append}
use Rattle.image_mem.specs.Contents.{Contents}
use Rattle.rtr_types.specs.declared.TheConstants.{BLOCK_WORDS}
use Rattle.rv_core.specs.declared.core_state.Core.{Core}
use Rattle.msi_cache.specs.Table.{Reply as Replying, Signal}
use Rattle.msi_directory.specs.Blocks.{block_count, entry_at}
use Rattle.msi_directory.specs.declared.entry.Entry.{Entry}
use Rattle.msi_memory.specs.declared.port.Port.{Port}
use Rattle.msi_state.specs.States.{PlainState}
use Rattle.flat_state.specs.declared.block.HomeBlock.{HomeBlock}
use Rattle.flat_state.specs.declared.flat.Flat.{Flat}
use Rattle.flat_state.specs.declared.message_ring.Message.{Message}
use Rattle.flat_state.specs.declared.node.Ask.{Ask}
use Rattle.flat_state.specs.declared.node.Node.{Node}
use Rattle.flat_state.specs.declared.reply_ring.Reply.{Reply}
use Rattle.flat_state.specs.Shows.{BlockShows, HomeShows, NodeShows, Stands, WordsKept, are_replied_placed}
use Rattle.flat_state.specs.Shows.{are_told_placed, asked_as, block_at, blocks_of, home_at, kept_message, kept_reply}
use Rattle.flat_state.specs.Shows.{kept_requests, no_block, node_at}
use Rattle.flat_state.specs.Shows.{replied_as, told_as}
use Rattle.flat_state.proofs.Frames.{node_same}
use Rattle.flat_start.specs.Starts.{block_start}

-- ---- places that there were

module _ (blocks : List ℕ) (b : ℕ) where
  abbrev more : List ℕ
  more = blocks ++ b ∷ []

  still_at : (i : ℕ) → i < length blocks → block_at more i ≡ block_at blocks i
  still_at i lies = get_or_append_left blocks (b ∷ []) 0 i lies

  longer : (i : ℕ) → i < length blocks → i < length more
  longer i lies = let e = length-append blocks (b ∷ []) in omega (arith, lies, e)

  longer_test : (i : ℕ) → nat_lt i (length blocks) ≡ true → nat_lt i (length more) ≡ true
  longer_test i is = lt-ltb i (length more) (longer i (ltb-true i (length blocks) is))

  messages_still : (messages : List Message) → are_told_placed blocks messages ≡ true →
      (map (kept_message more) messages ≡ map (kept_message blocks) messages) × (are_told_placed more messages ≡ true)
  messages_still [] are = (refl, refl)
  messages_still (m ∷ later) are =
      let parts = and_parts (nat_lt m.place (length blocks)) (are_told_placed blocks later) are in
      let rest = messages_still later parts.1 in (
        ap (λ (x : ℕ). (told_as m.told, x) ∷ map (kept_message more) later) (still_at m.place (ltb-true m.place (length
            blocks)
            parts.0)) ∙ ap (λ (l : List (Signal × ℕ)). kept_message blocks m ∷ l) rest.0,
        and_from _ _ (longer_test m.place parts.0) rest.1,
      )

  replies_still : (replies : List Reply) → are_replied_placed blocks replies ≡ true →
      (map (kept_reply more) replies ≡ map (kept_reply blocks) replies) × (are_replied_placed more replies ≡ true)
  replies_still [] are = (refl, refl)
  replies_still (m ∷ later) are =
      let parts = and_parts (nat_lt m.place (length blocks)) (are_replied_placed blocks later) are in
      let rest = replies_still later parts.1 in (
        ap (λ (x : ℕ). (replied_as m.replied, x) ∷ map (kept_reply more) later) (still_at m.place (ltb-true m.place
            (length blocks)
            parts.0)) ∙ ap (λ (l : List (Replying × ℕ)). kept_reply blocks m ∷ l) rest.0,
        and_from _ _ (longer_test m.place parts.0) rest.1,
      )

  requests_still : (asks : Bool) (ask : Ask) (place : ℕ) → (asks ≡ true → place < length blocks) →
      kept_requests more asks ask place ≡ kept_requests blocks asks ask place
  requests_still false ask place lies = refl
  requests_still true ask place lies =
      ap (λ (x : ℕ). (asked_as ask, x) ∷ []) (still_at place (lies refl))

module _ {R K : Type 0} where
  -- a node shows with one block more what it showed
  node_more : (image : Contents) (blocks : List ℕ) (b : ℕ) (n : Node) (core : Core) (p : Port R K) →
      NodeShows image blocks n core p → NodeShows image (blocks ++ b ∷ []) n core p
  node_more image blocks b n core p shows =
      record {
        core_is = shows.core_is;
        need = shows.need;
        op = shows.op;
        lines = shows.lines;
        requests = requests_still blocks b n.asks n.ask n.place shows.asked ∙ shows.requests;
        replies = (replies_still blocks b n.replies shows.replied).0 ∙ shows.replies;
        messages = (messages_still blocks b n.messages shows.told).0 ∙ shows.messages;
        placed = λ i within some. let old = shows.placed i within some in (
          longer blocks b _ old.0,
          still_at blocks b _ old.0 ∙ old.1,
        );
        asked = λ e. longer blocks b n.place (shows.asked e);
        replied = (replies_still blocks b n.replies shows.replied).1;
        told = (messages_still blocks b n.messages shows.told).1;
      }

-- ---- the home with one entry more

module _ (image : Contents) (home : List HomeBlock) (b : ℕ)
    (new : (i : ℕ) → i < length home → (home_at home i).block ≢ b) where
  abbrev later : List HomeBlock
  later = home ++ block_start image b ∷ []

  pub entry_kept : (i : ℕ) → i < length home → home_at (home ++ block_start image b ∷ []) i ≡ home_at home i
  entry_kept i lies = get_or_append_left home (block_start image b ∷ []) no_block i lies

  pub entry_new : home_at (home ++ block_start image b ∷ []) (length home) ≡ block_start image b
  entry_new = get_or-append_seam home (block_start image b) [] no_block

  last_or : (i : ℕ) → i < length later → (i < length home) ⊎ (i ≡ length home)
  last_or i lies = let e = length-append home (block_start image b ∷ []) in
      by (cases_lt i (length home)) (omega (arith, lies, e))
    where
      by : (i < length home) ⊎ (length home ≤ i) → i ≤ length home → (i < length home) ⊎ (i ≡ length home)
      by (inl low) most = inl low
      by (inr high) most = inr (omega (arith, high, most))

  there : length home < length later
  there = let e = length-append home (block_start image b ∷ []) in omega (arith, e)

  before : (i : ℕ) → i < length home → i < length later
  before i lies = let e = length-append home (block_start image b ∷ []) in omega (arith, lies, e)

  none_before : (x : ℕ) → ((i : ℕ) → i < length later → (home_at later i).block ≢ x) → (i : ℕ) → i < length home →
      (home_at home i).block ≢ x
  none_before x none i lies at = none i (before i lies) (ap (λ (y : HomeBlock). y.block) (entry_kept i lies) ∙ at)

  home_more : {R : Type 0} (fresh : R) (entries : List (Entry R)) →
      b < length entries → HomeShows fresh home entries → HomeShows fresh later entries
  home_more fresh entries within shows =
      record {
        blocks = λ i lies. by_block i (last_or i lies);
        within = λ i lies. by_within i (last_or i lies);
        once = λ i j li lj same. by_once i j (last_or i li) (last_or j lj) same;
        others = λ x none. shows.others x (none_before x none);
      }
    where
      by_block : (i : ℕ) → (i < length home) ⊎ (i ≡ length home) →
          BlockShows (home_at later i) (entry_at fresh entries (home_at later i).block)
      by_block i (inl low) = subst (λ (y : HomeBlock). BlockShows y (entry_at fresh entries y.block))
          (sym (entry_kept i low)) (shows.blocks i low)
      by_block i (inr last) = subst (λ (y : HomeBlock). BlockShows y (entry_at fresh entries y.block))
          (sym (ap (home_at later) last ∙ entry_new))
          (record { stage = sym (shows.others b new); empty = λ e. refl })

      by_within : (i : ℕ) → (i < length home) ⊎ (i ≡ length home) → (home_at later i).block < length entries
      by_within i (inl low) = subst (λ (y : HomeBlock). y.block < length entries) (sym (entry_kept i low))
          (shows.within i low)
      by_within i (inr last) = subst (λ (y : HomeBlock). y.block < length entries)
          (sym (ap (home_at later) last ∙ entry_new)) within

      block_last : (i : ℕ) → i ≡ length home → (home_at later i).block ≡ b
      block_last i last = ap (λ (y : HomeBlock). y.block) (ap (home_at later) last ∙ entry_new)

      block_low : (i : ℕ) → i < length home → (home_at later i).block ≡ (home_at home i).block
      block_low i low = ap (λ (y : HomeBlock). y.block) (entry_kept i low)

      by_once : (i j : ℕ) → (i < length home) ⊎ (i ≡ length home) → (j < length home) ⊎ (j ≡ length home) →
          (home_at later i).block ≡ (home_at later j).block → i ≡ j
      by_once i j (inl li) (inl lj) same =
          shows.once i j li lj (sym (block_low i li) ∙ (same ∙ block_low j lj))
      by_once i j (inl li) (inr last) same =
          absurd (new i li (sym (block_low i li) ∙ (same ∙ block_last j last)))
      by_once i j (inr last) (inl lj) same =
          absurd (new j lj (sym (block_low j lj) ∙ (sym same ∙ block_last i last)))
      by_once i j (inr last) (inr final) same = last ∙ sym final

  words_more : (memory : ℕ → List ℕ) → WordsKept image home memory → WordsKept image later memory
  words_more memory kept =
      record {
        here = λ i lies. by i (last_or i lies);
        others = λ x none. kept.others x (none_before x none);
      }
    where
      by : (i : ℕ) → (i < length home) ⊎ (i ≡ length home) →
          (home_at later i).words ≡ memory (home_at later i).block
      by i (inl low) = subst (λ (y : HomeBlock). y.words ≡ memory y.block) (sym (entry_kept i low)) (kept.here i low)
      by i (inr last) = subst (λ (y : HomeBlock). y.words ≡ memory y.block)
          (sym (ap (home_at later) last ∙ entry_new)) (sym (kept.others b new))

pub entry_stands : (f f' : Flat) (s : PlainState) (memory : ℕ → List ℕ) (b : ℕ) →
    ((i : ℕ) → i < length f.home.items → (home_at f.home.items i).block ≢ b) →
    b * BLOCK_WORDS < f.program.words →
    f'.program ≡ f.program → f'.nodes.items ≡ f.nodes.items →
    f'.home.items ≡ f.home.items ++ block_start f.program b ∷ [] → Stands f s memory → Stands f' s memory
entry_stands f f' s memory b new within program nodes home stands =
    record {
      holds = stands.holds;
      shows = record {
        image = program ∙ stands.shows.image;
        long = ap length nodes ∙ stands.shows.long;
        nodes = λ c lies. node_same _ _ _ _ _ _ _ _ _ blocks (ap (λ (l : List Node). node_at l c) nodes) refl refl
            (node_more s.image (blocks_of f.home.items) b (node_at f.nodes.items c) _ _ (stands.shows.nodes c lies));
        home = subst (λ (l : List HomeBlock). HomeShows tt l s.memory.home) (sym home)
            (home_more f.program f.home.items b new tt s.memory.home
            (subst (λ (n : ℕ). b < n) (sym stands.holds.blocks_there) inside) stands.shows.home);
      };
      words = subst (λ (l : List HomeBlock). WordsKept s.image l memory) (sym home)
          (subst (λ (i : Contents). WordsKept s.image (f.home.items ++ block_start i b ∷ []) memory)
          (sym stands.shows.image) (words_more s.image f.home.items b new memory stands.words));
      coherent = stands.coherent;
    }
  where
    blocks : blocks_of f'.home.items ≡ blocks_of f.home.items ++ b ∷ []
    blocks = ap blocks_of home ∙ map-append (λ (y : HomeBlock). y.block) f.home.items (block_start f.program b ∷ [])

    inside : b < block_count s.image.words
    inside = subst (λ (i : Contents). b < block_count i.words) stands.shows.image (omega (arith, within))

-- where it stands hangs on its program, its nodes and its entries alone
pub same_stands : (f f' : Flat) (s : PlainState) (memory : ℕ → List ℕ) → f'.program ≡ f.program →
    f'.nodes.items ≡ f.nodes.items → f'.home.items ≡ f.home.items → Stands f s memory → Stands f' s memory
same_stands f f' s memory program nodes home stands =
    record {
      holds = stands.holds;
      shows = record {
        image = program ∙ stands.shows.image;
        long = ap length nodes ∙ stands.shows.long;
        nodes = λ c lies. node_same _ _ _ _ _ _ _ _ _ (ap blocks_of home) (ap (λ (l : List Node). node_at l c) nodes)
            refl refl (stands.shows.nodes c lies);
        home = subst (λ (l : List HomeBlock). HomeShows tt l s.memory.home) (sym home) stands.shows.home;
      };
      words = subst (λ (l : List HomeBlock). WordsKept s.image l memory) (sym home) stands.words;
      coherent = stands.coherent;
    }

pub on_err : {T E : Type 0} (answer : Result T E) (P : Type 0) → P → OnErr answer P
on_err (Ok x) P holds = tt
on_err (Err e) P holds = holds
