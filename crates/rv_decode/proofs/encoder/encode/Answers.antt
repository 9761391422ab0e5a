-- The word that `alu_immediate_word` built is the instruction's.
use Rattle.std.proofs.Common.{rules, FitsSigned, w32}
use Rattle.std.proofs.lemmas.Int.{to_z-of_z}
use Rattle.rv_decode.proofs.RoundTrip.{read_immediate}
use Rattle.rv_decode.proofs.encoder.encode.Goals as goal

pub returns-in-AluImm-clause-read_back : goal.returns-in-AluImm-clause-read_back
returns-in-AluImm-clause-read_back c =
    let whole : FitsSigned w32 c.in-AluImm.imm = search rules in
    read_immediate c.args.op.now c.in-AluImm.alu c.in-AluImm.rd c.in-AluImm.rs1 c.in-AluImm.imm
    c.alu_immediate_word.result c.in-AluImm.is c.requires
    (simp to_z-of_z at c.alu_immediate_word.ensures)
