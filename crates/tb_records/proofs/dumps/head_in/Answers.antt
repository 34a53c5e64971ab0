use Rattle.std.proofs.Common.{◌≡◌, true, false, nat_eq, ◌++◌, take, refl, sym, ap, ◌∙◌, arith}
use Rattle.std.specs.List.{starts_with}
use Rattle.tb_records.specs.DumpBytes.{signature}
use Rattle.tb_records.specs.Numbers.{le_bytes, le_at}
use Rattle.tb_records.proofs.DumpAnswers.{signed, head_stands, spelled_head}
use Rattle.tb_records.proofs.dumps.head_in.Goals as goal

pub returns-then-not-starts_with-clause-none : goal.returns-then-not-starts_with-clause-none
returns-then-not-starts_with-clause-none c none profile clients_max rest few is =
    absurd (let both : true ≡ false = sym (signed profile clients_max rest) ∙ ap (λ l. starts_with nat_eq l signature) (sym is) ∙ sym c.starts_with.ensures.value ∙ c.if-not-starts_with.true in cc)

pub returns-in_err-profile-clause-none : goal.returns-in_err-profile-clause-none
returns-in_err-profile-clause-none c none profile clients_max rest few is =
    let there = head_stands profile clients_max rest few in
    absurd (c.in_err-profile.ensures.none refl profile (c.u32_at.ensures.number ∙ ap (le_at 4 8) is ∙ there.0))

pub returns-in_err-clients_max-clause-none : goal.returns-in_err-clients_max-clause-none
returns-in_err-clients_max-clause-none c none profile clients_max rest few is =
    let there = head_stands profile clients_max rest few in
    let number : c.u32_at-2.result ≡ clients_max = c.u32_at-2.ensures.number ∙ ap (le_at 4 12) is ∙ there.1.0 in
    absurd (let both : false ≡ true = c.in_err-clients_max.ensures.range.1 (omega (arith, number, few.0), omega (arith, number, few.1)) in cc)

pub returns-clause-some : goal.returns-clause-some
returns-clause-some c = (
  spelled_head c.args.bytes.now _ _ _ c.requires (sym c.starts_with.ensures.value ∙ c.if-not-starts_with.false) c.in_ok-profile.ensures.some c.u32_at.ensures.spelled
      (c.u32_at-2.ensures.spelled ∙ ap (λ n. take 12 c.args.bytes.now ++ le_bytes 4 n) (sym c.in_ok-clients_max.ensures.value)),
  let few = c.in_ok-clients_max.ensures.range.0 refl in (omega (arith, few.0, c.in_ok-clients_max.ensures.value), omega (arith, few.1, c.in_ok-clients_max.ensures.value)),
)
