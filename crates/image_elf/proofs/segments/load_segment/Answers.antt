-- A segment that passes all tests is loaded, and its range is free of the earlier ones; each refusal is the first.
use Rattle.std.proofs.Common.{◌≡◌, ◌≢◌, true, false, inr, arith}
use Rattle.std.specs.Prelude.{None, not}
use Rattle.std.proofs.lemmas.Bool.Decides.{nat_tests}
use Rattle.image_elf.specs.Headers.{header, is_loaded, range_end}
use Rattle.image_elf.specs.Faults.{header_fault, is_taken, is_within_file, is_within_memory}
use Rattle.image_elf.proofs.CellLemmas.{taken_is}
use Rattle.image_elf.proofs.FaultLemmas.{bad_overlap, no_fault}
use Rattle.image_elf.proofs.LoadLemmas.{none_more_by, one_more_by}
use Rattle.image_elf.proofs.segments.load_segment.Goals as goal
use Rattle.image_elf.proofs.segments.load_segment.Goals.{After-is_free}

-- the segment is loaded, lies within the file and the memory, and its range is looked for among the earlier ones
module _ (c : After-is_free) where
  same : c.nth_header-header.result ≡ header c.args.file.now c.args.index
  same = c.nth_header-header.ensures

  loaded : is_loaded c.nth_header-header.result ≡ true
  loaded = grind (arith, nat_tests)

  filed : is_within_file c.args.file.now c.nth_header-header.result ≡ true
  filed = grind (arith, nat_tests)

  placed : is_within_memory c.args.words c.nth_header-header.result ≡ true
  placed = grind (arith, nat_tests)

  taken : is_taken c.args.file.now c.args.index c.start.result c.end.result ≡ not c.is_free.result
  taken = taken_is c.args.file.now c.args.index c.args.cells.now c.start.result c.end.result c.requires.earlier
      c.is_free.result c.is_free.ensures

  fine : c.is_free.result ≡ true → header_fault c.args.file.now c.args.words c.args.index ≡ None
  fine free =
      let untaken : is_taken c.args.file.now c.args.index c.nth_header-header.result.vaddr
      (range_end c.nth_header-header.result) ≡ false = rw (c.start.ensures, c.end.ensures, free) at taken in
      no_fault c.args.file.now c.args.words c.args.index (rw same at loaded) (rw same at filed) (rw same at placed)
      (rw same at untaken)

pub returns-then-not-is_free : goal.returns-then-not-is_free
returns-then-not-is_free c =
    let here = (goal.at.returns-then-not-is_free c).After-is_free in
    let h = c.nth_header-header.result in
    let is = same here in
    let loads = loaded here in
    let files = filed here in
    let places = placed here in
    let takes = taken here in
    let overlaps : is_taken c.args.file.now c.args.index h.vaddr (range_end h) ≡ true =
    rw (c.start.ensures, c.end.ensures, c.if-not-is_free.true) at takes in
    inr (bad_overlap c.args.file.now c.args.words c.args.index (rw is at loads) (rw is at files) (rw is at places)
    (rw is at overlaps))

pub returns-in_ok-load : goal.returns-in_ok-load
returns-in_ok-load c =
    let here = (goal.at.returns-in_ok-load c).After-is_free in
    let h = c.nth_header-header.result in
    let there : h.memsz ≢ 0 = grind (arith, nat_tests) in (
      one_more_by c.args.file.now c.args.index h c.args.cells.now c.load.new.self (same here) c.requires.earlier
          (loaded here) there c.in_ok-load.ensures.length c.in_ok-load.ensures.cells,
      fine here c.if-not-is_free.false,
    )

pub returns-else-not-is_empty : goal.returns-else-not-is_empty
returns-else-not-is_empty c =
    let here = (goal.at.returns-else-not-is_empty c).After-is_free in
    let h = c.nth_header-header.result in
    let nothing : h.memsz ≡ 0 = grind (arith, nat_tests) in (
      none_more_by c.args.file.now c.args.index h c.args.cells.now (same here) c.requires.earlier (inr nothing),
      fine here c.if-not-is_free.false,
    )
