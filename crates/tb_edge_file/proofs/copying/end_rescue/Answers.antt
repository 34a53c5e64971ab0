use Rattle.tb_edge_file.proofs.copying.end_rescue.Goals as goal

pub returns : goal.returns
returns g c = record { reported = c.report_rescued-reported.result; prints = c.report_rescued-reported.ensures; outcome_is = c.salvage_outcome.ensures }
