use Rattle.tb_ledger.proofs.Common.{refl, ap, arith, Account, account_result_code, books_in, account_key, chained, recorded_account}
use Rattle.tb_ledger.proofs.Accepted.{new_account, plain_account}
use Rattle.tb_ledger.proofs.Refusals.{decides_none}
use Rattle.tb_ledger.proofs.Settled.{no_row, books_with_account, ledger_with_account}
use Rattle.tb_ledger.proofs.SoundLaws.{sound_account}
use Rattle.tb_ledger.proofs.kinds.account.AccountEvent.take.Goals as goal

pub add_account_row-requires : goal.add_account_row-requires
add_account_row-requires g c =
    let B = books_in c.args.work.now.rows in
    let stamped : Account → Account = λ a. record a { timestamp = c.args.time } in
    record {
      capacity = omega (arith, c.requires.ready.capacity);
      log = omega (arith, c.requires.ready.log);
      plain = ap stamped (plain_account B c.args.self.now c.in_ok-judge_account.ensures);
      fresh = no_row account_key (λ a. a.created) c.args.self.now.id c.args.work.now.rows.accounts.items (new_account B c.args.self.now c.in_ok-judge_account.ensures);
    }

pub returns-clause-takes : goal.returns-clause-takes
returns-clause-takes g c =
    let rows = c.args.work.now.rows in
    let B = books_in rows in
    let kept = c.requires.ready.kept in
    let ok = c.in_ok-judge_account.ensures in
    let a = recorded_account c.args.self.now c.args.time in
    let later = c.add_account_row.new.accounts.items in
    let added = ap (λ v. v.items) c.add_account_row.ensures.accounts in
    let noted = c.add_account_row.ensures.noted in
    record {
      judged = ok;
      done = books_with_account rows kept a later added;
      refused = tt;
      leaves = record {
        kept = ledger_with_account rows kept a later added (new_account B c.args.self.now ok) (sound_account B c.args.self.now c.args.time kept.sound ok);
        failed = refl;
        time = refl;
        grows = record {
          leads = λ noting. noted.leads noting (chained rows);
          noting = noted.noting;
          length = omega (arith, noted.length);
          capacity = noted.capacity;
        };
        capacity = record {
          accounts = omega (arith, ap (λ v. v.spare) c.add_account_row.ensures.accounts);
          transfers = omega arith;
          timeouts = omega arith;
          failed = omega arith;
          keeps_failed = refl;
        };
        results = refl;
      };
    }

pub returns-in_err-judge_account-clause-takes : goal.returns-in_err-judge_account-clause-takes
returns-in_err-judge_account-clause-takes g c = decides_none account_result_code _ _ c.args.work.now _ c.from_residual.result c.in_err-judge_account.field-0.0 c.requires.ready.kept c.from_residual.ensures.1 c.in_err-judge_account.ensures refl
