use Rattle.tb_test_service.proofs.service.examples.places_of_each_port.Given as goal

-- the opening that was just made
abbrev pub ghosts-serve_all : goal.ghosts-serve_all
ghosts-serve_all g a = record { opening = a.opening }
