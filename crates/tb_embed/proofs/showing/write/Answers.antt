use Rattle.std.proofs.Common.{ℕ, List, ◌++◌, ◌∙◌, sym, ap, arith, take, drop, length-take}
use Rattle.std.proofs.Math.Seq.{take-append_seam}
use Rattle.tb_embed.proofs.showing.write.Goals as goal

pub copy_from_slice-requires : goal.copy_from_slice-requires
copy_from_slice-requires c = omega (arith, length-take 128 c.args.room.now, c.told-bytes, c.requires)

pub returns-clause-written : goal.returns-clause-written
returns-clause-written c =
    let rest = drop 128 c.args.room.now in
    ap (λ (l : List ℕ). take 128 (l ++ rest)) c.copy_from_slice.ensures.after
    ∙ ap (λ (n : ℕ). take n (c.args.bytes.now ++ rest)) (sym c.told-bytes)
    ∙ take-append_seam c.args.bytes.now rest
