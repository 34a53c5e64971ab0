use Rattle.tb_edge_storm.proofs.storms.play.Given as goal

-- the opening that was just made
abbrev pub ghosts-storm_in : goal.ghosts-storm_in
ghosts-storm_in g a = record { opening = a.opening }
