use Rattle.tb_test_service.proofs.service.threads.seats_answer_while_held.Given as goal

-- the opening that was just made
abbrev pub ghosts-serve_beside : goal.ghosts-serve_beside
ghosts-serve_beside g a = record { opening = a.opening }
