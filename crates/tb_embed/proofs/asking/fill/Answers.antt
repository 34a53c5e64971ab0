use Rattle.std.proofs.lemmas.Result.{err_from_is_err_and}
use Rattle.tb_embed.proofs.Filled.{given_done, given_broken}
use Rattle.tb_embed.proofs.asking.fill.Goals as goal

pub returns : goal.returns
returns c =
    let start = c.over-room.result in
    let room = c.serve_pair.new.writer in
    given_done _ start.bytes.ghost_name room.bytes.ghost_name start.at room.at start.stalls room.stalls start.halted room.halted start.held room.held start.bytes.now room.bytes.now _ c.args.machine.now c.serve_pair.new.machine (c.args.moment, c.args.request)
    c.over-room.ensures.same c.over-room.ensures.empty room.within room.full (search) c.at.result c.at.ensures c.in_ok-serve_pair.ensures

pub returns-in_err-serve_pair : goal.returns-in_err-serve_pair
returns-in_err-serve_pair c =
    let start = c.over-room.result in
    let room = c.serve_pair.new.writer in
    let p = err_from_is_err_and c.from_residual.result c.from_residual.ensures.1 in
    rw (p.1, p.2) (given_broken _ start.bytes.ghost_name room.bytes.ghost_name start.at room.at start.stalls room.stalls start.halted room.halted start.held room.held start.bytes.now room.bytes.now _ c.args.machine.now c.serve_pair.new.machine (c.args.moment, c.args.request)
    c.over-room.ensures.same c.over-room.ensures.empty room.within room.full (search) c.in_err-serve_pair.field-0.0 c.in_err-serve_pair.ensures)
