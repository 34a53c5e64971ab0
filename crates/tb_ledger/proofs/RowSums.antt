-- What a transfer's row gives to the sums of a side, and what they are after a change.
use Rattle.tb_ledger.proofs.Common.{◌≡◌, ◌≢◌, ℕ, ◌+◌, ◌≤◌, Bool, true, false, not, ◌&&◌, ◌||◌, eqb, ◌==◌, List, [], ◌∷◌, find, sum_by, if◌then◌else◌, Some, refl, arith, nat_tests, Transfer, sum_by-cons, put, replaced, Each, sum_by-put, sum_by-replaced, State, Open, Side, TransferRow, pending, voids, moves, is_open, transfer_row_key, row_holds, bit, pending_share, posted_share, closing_share, HasSide, gained, released, settled, CanTake, new_side}

pub both_hold : (a b : Bool) → a && b ≡ true → (a ≡ true) × (b ≡ true)
both_hold true b e = (refl, e)
both_hold false b e = absurd (cc)

-- a side that is held closed no more, and one that may be
closed_less : (s c : Bool) (n after : ℕ) → bit s ≡ n → after + bit c ≡ n → bit (s && not c) ≡ after
closed_less true true n after is e = omega arith
closed_less true false n after is e = omega arith
closed_less false true n after is e = absurd (omega arith)
closed_less false false n after is e = omega arith

closed_more : (s c : Bool) (n after : ℕ) → bit s ≡ n → after ≡ bit c + n → (c ≡ true → s ≡ false) → bit (s || c) ≡ after
closed_more true true n after is e free = absurd (let no_room = free refl in cc)
closed_more true false n after is e free = omega arith
closed_more false true n after is e free = omega arith
closed_more false false n after is e free = omega arith

-- an account that no transfer names
pub no_sums : (side : Transfer → ℕ) (closes : Transfer → Bool) (transfers : List TransferRow) (id : ℕ) → Each (λ t. side t.recorded ≢ id) transfers → HasSide side closes transfers id new_side
no_sums side closes [] id others = record { pending = refl; posted = refl; held_closed = refl; fit = omega arith }
no_sums side closes (t ∷ ts) id others =
    let e : eqb (side t.recorded) id ≡ false = let other : side t.recorded ≢ id = others.0 in grind (arith, nat_tests) in
    let rest = no_sums side closes ts id others.1 in
    let held : pending_share side id t ≡ 0 = rw e refl in
    let moved : posted_share side id t ≡ 0 = rw e refl in
    let closing : closing_share side closes id t ≡ 0 = rw e refl in record {
      pending = omega (arith, sum_by-cons (pending_share side id) t ts, held, rest.pending);
      posted = omega (arith, sum_by-cons (posted_share side id) t ts, moved, rest.posted);
      held_closed = omega (arith, sum_by-cons (closing_share side closes id) t ts, closing, rest.held_closed);
      fit = omega arith;
    }

module _ (side : Transfer → ℕ) (closes : Transfer → Bool) (transfers : List TransferRow) where
  -- a pending transfer p that holds gets the state s
  module _ (p : TransferRow) (s : State) (found : find (λ q. transfer_row_key q == transfer_row_key p) transfers ≡ Some p) (holds_p : row_holds p ≡ true) (over : is_open s ≡ false) where
    abbrev freed : List TransferRow
    freed = replaced transfer_row_key (settled s p) transfers

    total_freed : (f : TransferRow → ℕ) → sum_by f freed + f p ≡ sum_by f transfers + f (settled s p)
    total_freed f = sum_by-replaced transfer_row_key f (settled s p) p transfers found

    is_pending : pending p.recorded ≡ true
    is_pending = (both_hold (pending p.recorded) (is_open p.state) holds_p).0

    holds_no_more : row_holds (settled s p) ≡ false
    holds_no_more = rw (is_pending, over) refl

    gives_nothing : (id : ℕ) (b : Bool) → pending_share side id (settled s p) ≡ 0
    gives_nothing id b = by (eqb (side p.recorded) id) (row_holds (settled s p)) holds_no_more
      where
        by : (e h : Bool) → h ≡ false → (if e && h then p.recorded.amount else 0) ≡ 0
        by true h e = rw e refl
        by false h e = refl

    closes_nothing : (id : ℕ) → closing_share side closes id (settled s p) ≡ 0
    closes_nothing id = by (eqb (side p.recorded) id) (row_holds (settled s p)) holds_no_more
      where
        by : (e h : Bool) → h ≡ false → bit (e && (h && closes p.recorded)) ≡ 0
        by true h e = rw e refl
        by false h e = refl

    pub released_here : (x : Side) → HasSide side closes transfers (side p.recorded) x → HasSide side closes freed (side p.recorded) (released closes p.recorded x)
    released_here x has =
        let id = side p.recorded in
        let e : eqb (side p.recorded) (side p.recorded) ≡ true = grind (arith, nat_tests) in
        let gave : pending_share side id p ≡ p.recorded.amount = rw (e, holds_p) refl in
        let held : closing_share side closes id p ≡ bit (closes p.recorded) = rw (e, holds_p) refl in
        let moved : posted_share side id (settled s p) ≡ posted_share side id p = refl in record {
          pending = omega (arith, total_freed (pending_share side id), gave, gives_nothing id true, has.pending);
          posted = omega (arith, total_freed (posted_share side id), moved, has.posted);
          held_closed = closed_less x.held_closed (closes p.recorded) _ _ has.held_closed (omega (arith, total_freed (closing_share side closes id), held, closes_nothing id));
          fit = omega (arith, has.fit);
        }

    -- the amount was there
    pub held_enough : (x : Side) → HasSide side closes transfers (side p.recorded) x → p.recorded.amount ≤ x.pending
    held_enough x has =
        let id = side p.recorded in
        let e : eqb (side p.recorded) (side p.recorded) ≡ true = grind (arith, nat_tests) in
        let gave : pending_share side id p ≡ p.recorded.amount = rw (e, holds_p) refl in
        omega (arith, total_freed (pending_share side id), gave, gives_nothing id true, has.pending)

    pub released_other : (id : ℕ) (x : Side) → side p.recorded ≢ id → HasSide side closes transfers id x → HasSide side closes freed id x
    released_other id x other has =
        let e : eqb (side p.recorded) id ≡ false = grind (arith, nat_tests) in
        let gave : pending_share side id p ≡ 0 = rw e refl in
        let held : closing_share side closes id p ≡ 0 = rw e refl in
        let moved : posted_share side id (settled s p) ≡ posted_share side id p = refl in record {
          pending = omega (arith, total_freed (pending_share side id), gave, gives_nothing id true, has.pending);
          posted = omega (arith, total_freed (posted_share side id), moved, has.posted);
          held_closed = omega (arith, total_freed (closing_share side closes id), held, closes_nothing id, has.held_closed);
          fit = has.fit;
        }

  -- a transfer is recorded; if it is pending, it holds
  module _ (t : Transfer) where
    abbrev row : TransferRow
    row = record { recorded = t; state = Open }

    abbrev more : List TransferRow
    more = put transfer_row_key row transfers

    total_more : (f : TransferRow → ℕ) → sum_by f more ≡ f row + sum_by f transfers
    total_more f = sum_by-put transfer_row_key f row transfers

    pending_here : (b : Bool) → (if true && (b && true) then t.amount else 0) ≡ (if b then t.amount else 0)
    pending_here true = refl
    pending_here false = refl

    closing_here : (b c : Bool) → bit (true && ((b && true) && c)) ≡ bit (b && c)
    closing_here true c = refl
    closing_here false c = refl

    parts_fit : (p v : Bool) → (if p then t.amount else 0) + (if not p && not v then t.amount else 0) ≤ t.amount
    parts_fit true v = omega arith
    parts_fit false true = omega arith
    parts_fit false false = omega arith

    pub gained_here : (x : Side) → CanTake closes t x → HasSide side closes transfers (side t) x → HasSide side closes more (side t) (gained closes t x)
    gained_here x takes has =
        let id = side t in
        let e : eqb (side t) (side t) ≡ true = grind (arith, nat_tests) in
        let gives : pending_share side id row ≡ (if pending t then t.amount else 0) = rw e (pending_here (pending t)) in
        let moved : posted_share side id row ≡ (if moves t then t.amount else 0) = rw e refl in
        let closing : closing_share side closes id row ≡ bit (pending t && closes t) = rw e (closing_here (pending t) (closes t)) in record {
          pending = omega (arith, total_more (pending_share side id), gives, has.pending);
          posted = omega (arith, total_more (posted_share side id), moved, has.posted);
          held_closed = closed_more x.held_closed (pending t && closes t) _ _ has.held_closed (omega (arith, total_more (closing_share side closes id), closing)) takes.1;
          fit = omega (arith, takes.0, parts_fit (pending t) (voids t));
        }

    pub gained_other : (id : ℕ) (x : Side) → side t ≢ id → HasSide side closes transfers id x → HasSide side closes more id x
    gained_other id x other has =
        let e : eqb (side t) id ≡ false = grind (arith, nat_tests) in
        let gives : pending_share side id row ≡ 0 = rw e refl in
        let moved : posted_share side id row ≡ 0 = rw e refl in
        let closing : closing_share side closes id row ≡ 0 = rw e refl in record {
          pending = omega (arith, total_more (pending_share side id), gives, has.pending);
          posted = omega (arith, total_more (posted_share side id), moved, has.posted);
          held_closed = omega (arith, total_more (closing_share side closes id), closing, has.held_closed);
          fit = has.fit;
        }
