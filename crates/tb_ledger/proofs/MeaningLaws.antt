-- What counts in the sums, proved.
use Rattle.tb_ledger.proofs.Common.{◌≡◌, ◌≢◌, ℕ, ◌+◌, ◌<◌, Bool, true, false, not, ◌&&◌, ◌||◌, cond, if◌then◌else◌, eqb, leb, ◌==◌, List, [], ◌∷◌, find, sum_by, Some, refl, sym, ap, subst, ◌∙◌, arith, nat_tests, and_parts, and_from, sum_by-cons, Transfer, put, Rising, sum_by-same, sum_by-put, find-put_other, each-map, none-found, none-fails, Books, pending, posts, voids, resolves, resolver, expires_at, is_due, state_of, is_open, holds, moves, transfer_at, debit, credit, pending_on, posted_on, recorded_transfer, filled, transfer_key, IsHeld, HeldWhileOpen, SettlesSide, SettlesBoth, FoundPending}
use Rattle.tb_ledger.proofs.Sides.{open_parts, open_from, not_true, share_none, share_whole, no_more}
use Rattle.tb_ledger.proofs.SoundLaws.{filled_flags}
use Rattle.tb_ledger.proofs.VerdictLaws.{recorded_pending, filled_pending_id}

pub held_while_open : HeldWhileOpen
held_while_open B p = (leads, back)
  where
    not_named : (r : Transfer) → (resolves r && (r.pending_id == p.id)) ≡ false → resolves r ≡ true → r.pending_id ≢ p.id
    not_named r fails is same = let e : eqb r.pending_id p.id ≡ true = grind (arith, nat_tests) in let both = and_from (resolves r) (eqb r.pending_id p.id) is e in (cc)

    fails_of : (r : Transfer) → (resolves r ≡ true → r.pending_id ≢ p.id) → (resolves r && (r.pending_id == p.id)) ≡ false
    fails_of r other = not_true (resolves r && (r.pending_id == p.id)) (λ both. let parts = and_parts (resolves r) (eqb r.pending_id p.id) both in let e : eqb r.pending_id p.id ≡ true = parts.1 in let same : r.pending_id ≡ p.id = grind (arith, nat_tests) in other parts.0 same)

    in_time_of : (dated late : Bool) → not (p.timeout == 0) ≡ dated → leb (expires_at p) B.time ≡ late → (dated && late) ≡ false → p.timeout ≢ 0 → B.time < expires_at p
    in_time_of true true d l due some = absurd (cc)
    in_time_of true false d l due some = grind (arith, nat_tests)
    in_time_of false late d l due some = absurd (grind (arith, nat_tests))

    not_due : (dated late : Bool) → not (p.timeout == 0) ≡ dated → leb (expires_at p) B.time ≡ late → (p.timeout ≢ 0 → B.time < expires_at p) → (dated && late) ≡ false
    not_due false late d l early = refl
    not_due true false d l early = refl
    not_due true true d l early = let some : p.timeout ≢ 0 = grind (arith, nat_tests) in let less = early some in absurd (grind (arith, nat_tests))

    leads : holds B p ≡ true → IsHeld B p
    leads is =
        let parts = and_parts (pending p) (is_open (state_of B p)) is in
        let open_then = open_parts (resolver B p) (is_due B.time p) parts.1 in record {
          is_pending = parts.0;
          unresolved = each-map (λ r. (resolves r && (r.pending_id == p.id)) ≡ false) (λ r. resolves r ≡ true → r.pending_id ≢ p.id) B.transfers not_named (none-fails (λ r. resolves r && (r.pending_id == p.id)) B.transfers open_then.0);
          in_time = in_time_of (not (p.timeout == 0)) (leb (expires_at p) B.time) refl refl open_then.1;
        }

    back : IsHeld B p → holds B p ≡ true
    back held =
        let none = none-found (λ r. resolves r && (r.pending_id == p.id)) B.transfers (each-map (λ r. resolves r ≡ true → r.pending_id ≢ p.id) (λ r. (resolves r && (r.pending_id == p.id)) ≡ false) B.transfers fails_of held.unresolved) in
        and_from (pending p) (is_open (state_of B p)) held.is_pending (open_from (resolver B p) (is_due B.time p) none (not_due (not (p.timeout == 0)) (leb (expires_at p) B.time) refl refl held.in_time))

-- less by n at the record of a key, and the same elsewhere
less_at : {X : Type 0} (key : X → ℕ) (f g : X → ℕ) (n id : ℕ) (p : X) (xs : List X) → Rising key xs → ((x : X) → key x ≢ id → f x ≡ g x) → f p + n ≡ g p → find (λ x. key x == id) xs ≡ Some p → sum_by f xs + n ≡ sum_by g xs
less_at key f g n id p [] rising same less found = absurd (cc)
less_at key f g n id p (x ∷ xs) rising same less found = by (eqb (key x) id) refl (less_at key f g n id p xs rising.1 same less) found
  where
    by : (b : Bool) → eqb (key x) id ≡ b → (find (λ x. key x == id) xs ≡ Some p → sum_by f xs + n ≡ sum_by g xs) → cond b (Some x) (find (λ x. key x == id) xs) ≡ Some p → sum_by f (x ∷ xs) + n ≡ sum_by g (x ∷ xs)
    by true e later is =
        let it : x ≡ p = cc in
        let has : key x ≡ id = grind (arith, nat_tests) in
        let rest = sum_by-same f g xs (each-map (λ y. key x < key y) (λ y. f y ≡ g y) xs (λ y above. same y (let other : key y ≢ id = omega arith in other)) rising.0) in
        omega (arith, sum_by-cons f x xs, sum_by-cons g x xs, ap f it, ap g it, rest)
    by false e later is = let other : key x ≢ id = grind (arith, nat_tests) in omega (arith, sum_by-cons f x xs, sum_by-cons g x xs, same x other, later is)

-- the books with a transfer more
abbrev with_one : Books → Transfer → Books
with_one B f = record B { transfers = put transfer_key f B.transfers }

-- one side
settles_on : (side other : Transfer → ℕ) (B : Books) (f : Transfer) (found : FoundPending B f) → resolves f ≡ true → Rising transfer_key B.transfers → side f ≡ side found.p → SettlesSide side B f found.p
settles_on side other B f found is rising same = record { pending_leaves = leaves; posted_comes = comes }
  where
    still : (t : Transfer) → t.id ≢ f.pending_id → holds (with_one B f) t ≡ holds B t
    still t differs =
        let e : eqb f.pending_id t.id ≡ false = grind (arith, nat_tests) in
        let fails : (resolves f && (f.pending_id == t.id)) ≡ false = rw (is, e) refl in
        rw (find-put_other transfer_key (λ r. resolves r && (r.pending_id == t.id)) f B.transfers fails) refl

    leaves : (id : ℕ) → pending_on side (with_one B f) id + (if side found.p == id then found.p.amount else 0) ≡ pending_on side B id
    leaves id =
        let itself : holds (with_one B f) f ≡ false = subst (λ b. (b && is_open (state_of (with_one B f) f)) ≡ false) (sym found.not_pending) refl in
        let none : (if (side f == id) && holds (with_one B f) f then f.amount else 0) ≡ 0 = share_none (eqb (side f) id) (holds (with_one B f) f) f.amount itself in
        let gone : (if (side found.p == id) && holds (with_one B f) found.p then found.p.amount else 0) ≡ 0 = share_none (eqb (side found.p) id) (holds (with_one B f) found.p) found.p.amount (no_more side other (λ a. true) B f found.p found.named found.held is found.not_pending) in
        let whole : (if (side found.p == id) && holds B found.p then found.p.amount else 0) ≡ (if side found.p == id then found.p.amount else 0) = share_whole (eqb (side found.p) id) (holds B found.p) found.p.amount found.held in
        let less = less_at transfer_key (λ t. if (side t == id) && holds (with_one B f) t then t.amount else 0) (λ t. if (side t == id) && holds B t then t.amount else 0) (if side found.p == id then found.p.amount else 0) f.pending_id found.p B.transfers rising (λ t differs. ap (λ h. if (side t == id) && h then t.amount else 0) (still t differs)) (omega (arith, gone, whole)) found.named in
        omega (arith, sum_by-put transfer_key (λ t. if (side t == id) && holds (with_one B f) t then t.amount else 0) f B.transfers, none, less)

    posts_or : (p v : Bool) → (p || v) ≡ true → (p && v) ≡ false → not v ≡ p
    posts_or true true a b = absurd (cc)
    posts_or true false a b = refl
    posts_or false true a b = refl
    posts_or false false a b = absurd (cc)

    comes : (id : ℕ) → posted_on side (with_one B f) id ≡ posted_on side B id + (if (side found.p == id) && posts f then f.amount else 0)
    comes id =
        let moving : moves f ≡ posts f = ap (λ b. not b && not (voids f)) found.not_pending ∙ posts_or (posts f) (voids f) is found.not_both in
        let share : (if (side f == id) && moves f then f.amount else 0) ≡ (if (side found.p == id) && posts f then f.amount else 0) = ap (λ m. if (side f == id) && m then f.amount else 0) moving ∙ ap (λ k. if (k == id) && posts f then f.amount else 0) same in
        omega (arith, sum_by-put transfer_key (λ t. if (side t == id) && moves t then t.amount else 0) f B.transfers, share)

-- an accepted post or void, as it is recorded
pub settles_both : SettlesBoth
settles_both B t time rise is ok = record {
  p = found.p;
  named = ap (transfer_at B) (sym pending_id) ∙ found.named;
  held = found.held;
  debits = settles_on debit credit B r found resolving rise.transfers found.debit_same;
  credits = settles_on credit debit B r found resolving rise.transfers found.credit_same;
}
  where
    r : Transfer
    r = recorded_transfer B t time

    as_filled : r ≡ record (filled B t) { timestamp = time }
    as_filled = rw is refl

    found : FoundPending B r
    found = subst (FoundPending B) (sym as_filled) (recorded_pending B t (filled B t) time is ok refl)

    pending_id : r.pending_id ≡ t.pending_id
    pending_id = ap (λ f. f.pending_id) as_filled ∙ filled_pending_id B t

    resolving : resolves r ≡ true
    resolving = ap resolves as_filled ∙ ap (λ flags. resolves (record t { flags = flags })) (filled_flags B t) ∙ is
