use Rattle.std.proofs.Common.{◌≡◌, ◌<◌, ◌≤◌, ℕ, pos, List, get_or, arith, refl, ◌∙◌, ap, sym}
use Rattle.std.specs.Prelude.{map, Option, unwrap_or}
use Rattle.std.specs.Int.{to_le_bytes, w32}
use Rattle.std.specs.List.{range_with_len}
use Rattle.rv_decode.specs.declared.op.Op.TheVariants.{Jal}
use Rattle.rv_decode.specs.Words.{encoding}
use Rattle.image_elf.specs.FlatImage.{flat_byte, flat_length, jump_length, jump_word}
use Rattle.image_elf.proofs.FlatLemmas.{jump_byte, other_byte}
use Rattle.image_elf.proofs.flattening.image_of.Goals as goal
use Rattle.image_elf.proofs.flattening.image_of.Goals.{then-address-jump_length, else-address-jump_length}
use Rattle.rtr_types.proofs.Ranges.{map_range_more}

pub loop-address-preserved : goal.loop-address-preserved
unfolding jump_word
loop-address-preserved c =
    let file = c.args.file.now in
    let address = c.loop-address.address in
    let more = map_range_more (flat_byte file) address in
    let word : c.jump_to.result ≡ jump_word file =
    c.jump_to.ensures ∙ ap (λ (e : ℕ). encoding (Jal 0 (pos e))) c.entry.ensures in
    let bytes : c.to_le_bytes-jump.result ≡ to_le_bytes w32 (jump_word file) =
    c.to_le_bytes-jump.ensures ∙ ap (λ (n : ℕ). to_le_bytes w32 n) word in
    let byte : c.if-address-jump_length.byte ≡ flat_byte file address =
    elim c.if-address-jump_length.branch [
      | then-address-jump_length w ↦
          let below : address < jump_length file =
          rw c.jump_length-jump_length.ensures at w.if-address-jump_length.true in
          w.byte-is ∙ ap (λ (bs : List ℕ). get_or bs address 0) bytes ∙ sym (jump_byte file address below)
      | else-address-jump_length w ↦
          let past : c.jump_length-jump_length.result ≤ address = omega arith in
          let after : jump_length file ≤ address = rw c.jump_length-jump_length.ensures at past in
          let cell = w.get.ensures ∙ c.requires.loaded.bytes address in
          w.byte-is ∙ w.unwrap_or-byte.ensures ∙ ap (λ (b : Option ℕ). unwrap_or b 0) cell
          ∙ sym (other_byte file address after)
    ] in
    rw (c.in_ok-push.ensures.items, c.loop-address.invariant, byte) (sym more)

pub returns : goal.returns
unfolding flat_length
returns c =
    let ended : c.loop-address.address ≡ c.max-length.result = omega arith in
    let long : c.max-length.result ≡ flat_length c.args.file.now =
    rw (c.max-length.ensures, c.jump_length-jump_length.ensures, c.len.ensures, c.requires.loaded.length) refl in
    c.loop-address.invariant ∙ ap (λ (n : ℕ). map (flat_byte c.args.file.now) (range_with_len 0 n)) (ended ∙ long)
