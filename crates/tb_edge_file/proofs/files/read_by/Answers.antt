use Rattle.tb_edge_file.proofs.files.read_by.Goals as goal

pub returns-then-quick : goal.returns-then-quick
returns-then-quick g c =
    rw c.if-quick.true
    (record { found_is = c.read_quickly.ensures.found; same = c.read_quickly.ensures.same; cause = c.read_quickly.ensures.cause })

pub returns : goal.returns
returns g c =
    rw c.if-quick.false
    (record { found_is = c.read_whole.ensures.found; same = c.read_whole.ensures.same; cause = c.read_whole.ensures.cause })
