use Rattle.std.proofs.Common.{ℕ, List}
use Rattle.tb_records.specs.Transport.{Output}
use Rattle.tb_file_journal.specs.Scans.{HasRead}
use Rattle.tb_edge_file.specs.Following.{WritesGrown, IsReadOnFrom}
use Rattle.tb_edge_file.specs.Waiting.{Waits}
use Rattle.tb_edge_file.proofs.following.send_on.Given as goal

abbrev pub invariant-loop : goal.invariant-loop
invariant-loop g l = record {
  waits : Waits (λ at. g.O.Opener.pauses at l.fn.name) l.fn.opener l.opener;
  sends : (file : List ℕ) (start : Output) → WritesGrown (g.O.Reading.Device.holds l.fn.device) l.fn.after file l.fn.scan start (g.W.Sink.output l.fn.writer)
      → WritesGrown (g.O.Reading.Device.holds l.device) l.fn.after file l.scan start (g.W.Sink.output l.writer);
  cause : g.O.Reading.Device.tells → (read : List (List ℕ)) → HasRead read (g.O.Reading.Device.disk l.fn.device).seen l.fn.scan
      → IsReadOnFrom (g.O.Reading.Device.disk l.fn.device) (g.O.Reading.Device.disk l.device) l.scan;
}
