use Rattle.std.proofs.Common.{◌<◌, ◌-◌, ◌∷◌, sym, ap, ◌∙◌, arith}
use Rattle.std.specs.Ordering.{nat_cmp}
use Rattle.std.specs.BTreeMap.{insert_entry}
use Rattle.std.specs.Map.{values_of}
use Rattle.avl_tree.specs.Map.{entries}
use Rattle.tb_sessions.proofs.Index.{inside, first_out, index_moved, moved_absent}
use Rattle.tb_sessions.proofs.Rising.{latest, first_commit, first_later, no_later, first_rises}
use Rattle.tb_sessions.proofs.eviction.bring_up.Goals as goal

pub insert_reserved-requires-clause-absent : goal.insert_reserved-requires-clause-absent
insert_reserved-requires-clause-absent c =
    let f = c.in-Some.ensures.behind in
    let same = inside (sym f.first ∙ sym c.in-Some-pop_first.ensures.pair) in
    let rest = c.in-Some-pop_first.ensures.rest ∙ ap (λ e. e ∷ entries c.pop_first.new.self) (sym same) in
    moved_absent c.loop-commit.invariant c.in-Some.commit f c.pop_first.new.self (first_out (entries c.loop-commit.clients) (entries c.pop_first.new.self) f.commit f.client rest)

pub loop-commit-smaller : goal.loop-commit-smaller
loop-commit-smaller c =
    let f = c.in-Some.ensures.behind in
    let rows = values_of (entries c.args.rows.now) in
    let same = inside (sym f.first ∙ sym c.in-Some-pop_first.ensures.pair) in
    let rest = c.in-Some-pop_first.ensures.rest ∙ ap (λ e. e ∷ entries c.pop_first.new.self) (sym same) in
    let put = c.insert_reserved.ensures.entries ∙ ap (λ k. insert_entry nat_cmp (entries c.pop_first.new.self) c.in-Some.commit k) (sym (ap (λ e. e.1) same)) in
    let less = first_later c.loop-commit.invariant c.in-Some.commit f in
    let most = no_later c.loop-commit.invariant f.client f.row f.here in
    let is = f.is in
    let rises = first_rises f.commit f.client c.in-Some.commit (entries c.loop-commit.clients) (entries c.pop_first.new.self) c.loop-commit.invariant.commits_rise rest less in
    let was = ap first_commit rest in
    let now = ap first_commit put in
    let smaller : latest rows - first_commit (entries c.insert_reserved.new.self) < latest rows - first_commit (entries c.loop-commit.clients) = omega (arith, less, most, is, rises, was, now) in
    smaller

pub loop-commit-preserved : goal.loop-commit-preserved
loop-commit-preserved c =
    let f = c.in-Some.ensures.behind in
    let same = inside (sym f.first ∙ sym c.in-Some-pop_first.ensures.pair) in
    let rest = c.in-Some-pop_first.ensures.rest ∙ ap (λ e. e ∷ entries c.pop_first.new.self) (sym same) in
    let put = c.insert_reserved.ensures.entries ∙ ap (λ k. insert_entry nat_cmp (entries c.pop_first.new.self) c.in-Some.commit k) (sym (ap (λ e. e.1) same)) in
    index_moved c.loop-commit.invariant c.in-Some.commit f c.pop_first.new.self (first_out (entries c.loop-commit.clients) (entries c.pop_first.new.self) f.commit f.client rest) put c.in-Some-pop_first.ensures.spare c.insert_reserved.ensures.spare
