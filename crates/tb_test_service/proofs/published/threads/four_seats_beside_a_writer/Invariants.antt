use Rattle.tb_test_service.proofs.published.threads.four_seats_beside_a_writer.Given as goal

-- the opening that was just made
abbrev pub ghosts-watch_writer : goal.ghosts-watch_writer
ghosts-watch_writer g a = record { opening = a.opening }
