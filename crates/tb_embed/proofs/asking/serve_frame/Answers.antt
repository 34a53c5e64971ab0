use Rattle.tb_embed.proofs.Frames.{frame_answered, spells_all}
use Rattle.tb_embed.proofs.asking.serve_frame.Goals as goal

pub returns-then-length-frame : goal.returns-then-length-frame
returns-then-length-frame c = frame_answered c.serve_request.result c.args.machine.now c.serve_request.new.machine c.args.moment c.args.frame.now c.serve_request.new.reply c.in-Ok.request
    (spells_all c.args.frame.now c.in-Ok.length c.in-Ok.request c.if-length-frame.true c.in-Ok.ensures.found.1) c.serve_request.ensures
