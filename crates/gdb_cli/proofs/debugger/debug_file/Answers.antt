use Rattle.std.proofs.Common.{refl}
use Rattle.gdb_server.specs.declared.conversation.Streams.{Streams}
use Rattle.gdb_cli.proofs.SessionLemmas.{over_streams}
use Rattle.gdb_cli.proofs.debugger.debug_file.Goals as goal

pub returns : goal.returns
returns g c =
    let e = c.debug.ensures in (
      c.opener-file.result,
      (c.args.name, c.opener-file.ensures, refl),
      (
        c.debug.new.recording,
        record {
          debugs = over_streams {C = Streams g.row.I.Denot g.row.O.Denot} (λ s. g.I.Source.left s.input)
              (λ s. g.O.Sink.got s.output) c.args.which c.debug.result (g.F.Source.left c.opener-file.result)
              (g.F.Source.left c.debug.new.recording) c.args.streams.now c.debug.new.conversation e.answered;
          read_fault = e.read_fault;
          no_read_fault = e.no_read_fault;
          write_fault = e.write_fault;
          no_write_fault = e.no_write_fault;
          complete = e.complete;
        },
      ),
    )
