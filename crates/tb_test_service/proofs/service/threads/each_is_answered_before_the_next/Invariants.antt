use Rattle.tb_test_service.proofs.service.threads.each_is_answered_before_the_next.Given as goal

-- the opening that was just made
abbrev pub ghosts-serve_beside : goal.ghosts-serve_beside
ghosts-serve_beside g a = record { opening = a.opening }
