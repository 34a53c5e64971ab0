use Rattle.tb_test_service.proofs.published.examples.two_seats_and_a_told.Given as goal

-- the opening that was just made
abbrev pub ghosts-play_all : goal.ghosts-play_all
ghosts-play_all g a = record { opening = a.opening }
