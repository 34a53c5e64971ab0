use Rattle.std.proofs.lemmas.Bool.{cases_lt}
use Rattle.std.proofs.Common.{⊎_elim, List, ℕ, length, take, drop, ◌≡◌, ◌≤◌, ◌<◌, ◌+◌, ◌-◌, ◌++◌, min, max, ◌∙◌, ap, sym, arith, length-drop, length-take}
use Rattle.tb_file_journal.specs.Snapshots.{behind_blocks}
use Rattle.tb_file_journal.proofs.BlockWalks.{drop_parts}
use Rattle.tb_file_journal.proofs.Closing.{nothing, put_over}
use Rattle.tb_file_journal.proofs.snapshots.close.Goals as goal

pub returns-clause-closes : goal.returns-clause-closes
returns-clause-closes c file there reads =
    let into = c.args.into.now in
    let left = c.saturating_sub-left.result in
    let told = c.min-told.result in
    let others = c.args.len - (c.args.end + 4) in
    let gap : left ≡ c.args.end - c.args.at = c.saturating_sub-left.ensures in
    let room : c.args.end - c.args.at < length into = omega (arith, c.if-left-into.false, gap) in
    let enough : c.args.end - c.args.at ≤ c.args.count = omega (arith, c.if-count-left.false, gap) in
    let is : told ≡ min (length into) (max c.args.len (c.args.end + 4) - c.args.at) = omega (arith, c.min-told.ensures, c.saturating_sub.ensures, c.max-shown.ensures) in
    let size : length (take (told - left) (drop left into)) ≡ told - left = omega (arith, is, length-take (told - left) (drop left into), length-drop left into) in
    let none_left : told - left ≤ 0 → c.put_behind.new.into ≡ take (told - (c.args.end - c.args.at)) (drop (c.args.at - c.args.end) (behind_blocks others)) =
    λ none.
    let at_end : 0 ≡ told - (c.args.end - c.args.at) = omega (arith, none, gap) in
    nothing c.put_behind.new.into (omega (arith, none, size, c.put_behind.auto.into)) ∙ ap (λ (k : ℕ). take k (drop (c.args.at - c.args.end) (behind_blocks others))) at_end in
    let fits : 0 < told - left → c.saturating_sub-2.result + length (take (told - left) (drop left into)) ≤ 4 + others = λ some. omega (arith, some, size, is, gap, c.saturating_sub-2.ensures, room) in
    let wrote : c.put_behind.new.into ≡ take (told - (c.args.end - c.args.at)) (drop (c.args.at - c.args.end) (behind_blocks others)) =
    ⊎_elim (λ some. c.put_behind.ensures others (fits some) ∙ ap (λ (k : ℕ). take k (drop c.saturating_sub-2.result (behind_blocks others))) (size ∙ ap (λ (k : ℕ). told - k) gap)
    ∙ ap (λ (k : ℕ). take (told - (c.args.end - c.args.at)) (drop k (behind_blocks others))) c.saturating_sub-2.ensures) none_left (cases_lt 0 (told - left)) in
    let far : left + (told - left) ≡ told = omega (arith, is, gap, room) in
    put_over c.args.count c.args.at c.args.end c.args.len file into there reads _ c.put_behind.new.into told room enough is wrote
    (ap (λ (l : List ℕ). take left into ++ (c.put_behind.new.into ++ l)) (sym (drop_parts left (told - left) into) ∙ ap (λ (k : ℕ). drop k into) far)
    ∙ ap (λ (k : ℕ). take k into ++ (c.put_behind.new.into ++ drop told into)) gap)
