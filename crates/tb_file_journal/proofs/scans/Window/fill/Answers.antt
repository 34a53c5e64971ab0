use Rattle.std.proofs.Common.{◌≡◌, ◌≤◌, ◌+◌, ◌-◌, ◌∙◌, ap, arith, slice_range, subst, sym, take, vec_len}
use Rattle.std.proofs.lemmas.Slice.{between_from_start}
use Rattle.tb_file_journal.specs.Reading.{ReadAhead, HasAhead}
use Rattle.tb_file_journal.proofs.Filling.{kept_in_front, filled}
use Rattle.tb_file_journal.proofs.scans.Window.fill.Goals as goal

pub returns-clause-ahead : goal.returns-clause-ahead
returns-clause-ahead g c file held same =
    let k = c.self.inside.filled - c.self.inside.used in
    let old = c.args.self.now.ahead in
    let moved = c.move_down.new.bytes.items in
    let buffer = c.read_behind.new.bytes.items in
    let view : slice_range c.self.inside.bytes.items c.self.inside.used c.self.inside.filled ≡ old = ap (λ (w : ReadAhead). w.ahead) c.self.view_is in
    let room : k ≤ vec_len c.move_down.new.bytes = omega (arith, c.self.invariant.2, c.self.inside.bytes.ok.0, c.move_down.ensures.len) in
    let all = c.read_behind.new.bytes.ok.0 in
    let front : take k buffer ≡ old =
    c.in_ok-count.ensures.front ∙ kept_in_front k (vec_len c.move_down.new.bytes) c.grow.new.bytes.items moved old room c.in_ok-grow.ensures.front (c.move_down.ensures.front ∙ view) in
    subst (HasAhead c.args.n c.args.at file) (sym (between_from_start buffer (k + c.in_ok-count.count)))
    (filled c.args.n c.args.at k c.in_ok-count.count file old buffer front (omega (arith, c.in_ok-count.ensures.within, all))
    (omega (arith, c.in_ok-grow.ensures.capacity, c.in_ok-count.ensures.len, all)) same (c.in_ok-count.ensures.read file held))
