use Rattle.tb_test_service.proofs.service.handovers.dropped_server_gives_back.Given as goal

-- the opening that was just made
abbrev pub ghosts-drop_server : goal.ghosts-drop_server
ghosts-drop_server g a = record { opening = a.opening }
