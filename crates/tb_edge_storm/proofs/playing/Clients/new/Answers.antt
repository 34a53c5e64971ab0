use Rattle.tb_edge_storm.proofs.Ready.{all_ready}
use Rattle.tb_edge_storm.proofs.playing.Clients.new.Goals as goal

pub returns-in-Ok : goal.returns-in-Ok
returns-in-Ok g c name these = all_ready name c.args.count c.args.ports.now.items c.next_client.new.ports.items _ c.in_ok-first.ensures c.in-Ok.ensures these
