use Rattle.tb_test_refusals.proofs.serve_published.Given as goal

-- the opening that was just made
abbrev pub ghosts-serve_opening : goal.ghosts-serve_opening
ghosts-serve_opening g a = record { opening = a.opening }
