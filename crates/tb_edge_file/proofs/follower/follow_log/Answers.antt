use Rattle.tb_edge_file.proofs.follower.follow_log.Goals as goal

pub returns : goal.returns
returns g c = record {
  result = c.follow-followed.result;
  middle = _;
  followed = c.follow-followed.ensures.followed;
  passed = c.follow-followed.ensures.passed;
  sends = rw (c.followed_outcome.ensures, c.failed_pipe-pipe.ensures, c.failures-failures.ensures, c.failures.ensures) at c.send_replies.ensures;
}
