use Rattle.std.proofs.Common.{ℕ, List, sym, ap, subst, ◌∙◌}
use Rattle.std.specs.Prelude.{bit_xor}
use Rattle.tb_sectors.specs.Checksum.{remainder}
use Rattle.tb_sectors.proofs.Remainders.{AreBytes, bytes_behind, sixteen_of, rest_is}
use Rattle.tb_sectors.proofs.checksums.remainder_after.Goals as goal

pub loop-rest-preserved : goal.loop-rest-preserved
loop-rest-preserved c =
    let xs = c.loop-rest.rest.now in
    let small = c.loop-rest.invariant.bytes in
    let sum = bit_xor c.word_after-in-len16-up-3.result (bit_xor (bit_xor c.word_after.result c.word_after-in-len16-up.result) c.word_after-in-len16-up-2.result) in
    let here = sixteen_of c.loop-rest.sum c.from_le_bytes-first.result c.from_le_bytes-second.result c.from_le_bytes-third.result c.from_le_bytes-fourth.result
    c.word_after-in-len16-up-3.result c.word_after.result c.word_after-in-len16-up.result c.word_after-in-len16-up-2.result xs c.in-len16-up.len_at_least small
    c.from_le_bytes-first.ensures c.from_le_bytes-second.ensures c.from_le_bytes-third.ensures c.from_le_bytes-fourth.ensures
    c.word_after-in-len16-up-3.ensures c.word_after.ensures c.word_after-in-len16-up.ensures c.word_after-in-len16-up-2.ensures in
    record {
      sum = ap (λ (ys : List ℕ). remainder ys sum) (rest_is 16 xs) ∙ here ∙ c.loop-rest.invariant.sum;
      bytes = subst AreBytes (sym (rest_is 16 xs)) (bytes_behind 16 xs small);
    }
