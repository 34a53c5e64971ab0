use Rattle.std.proofs.Common.{◌≡◌, ◌≤◌, [], All, vec_len}
use Rattle.std.specs.Vec.{vec_capacity}
use Rattle.tb_published.proofs.publishing.take_seats.Given as goal

abbrev pub invariant-loop : goal.invariant-loop
invariant-loop g l = (l.publisher ≡ l.initial.publisher) × (vec_len l.seats ≡ l.counter) × (l.count ≤ vec_capacity l.seats) × All (λ s. s ≡ []) l.seats.items
