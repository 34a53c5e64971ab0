-- What holds of each row, through an admission and of the row that a lookup finds.
use Rattle.std.proofs.Common.{◌≡◌, ◌≢◌, ℕ, ◌<◌, ◌==◌, true, false, cond, List, [], ◌∷◌, ◌++◌, find, is_some, Option, Some, None, refl, ap, ◌∙◌, arith, eqb, eq-eqb, ne_eqb}
use Rattle.std.proofs.lemmas.Bool.{cond_both}
use Rattle.tb_records.specs.Ordered.{put, replaced, Each, Rising}
use Rattle.tb_records.proofs.ByKey.{each-both, each-find, each-put, each-replaced, found_key, none-fails, rising-put, rising-replaced, rising-taken_out}
use Rattle.tb_sessions.specs.declared.rows.Row.{Row}
use Rattle.tb_sessions.specs.Judged.{client_of, row_of}
use Rattle.tb_sessions.specs.Admission.{driven_out, without, admitted}
use Rattle.tb_sessions.proofs.LaterRows.{each_without, absent_without}

-- what is there is one
pub some_one : {X : Type 0} {x y : X} → Some x ≡ Some y → x ≡ y
some_one e = cc

pub each_snoc : {X : Type 0} (P : X → Type 0) (xs : List X) (x : X) → Each P xs → P x → Each P (xs ++ x ∷ [])
each_snoc P [] x each p = (p, tt)
each_snoc P (y ∷ ys) x each p = (each.0, each_snoc P ys x each.1 p)

-- each is the one that is found by its key
pub each_found : {X : Type 0} (key : X → ℕ) (xs : List X) → Rising key xs → Each (λ x. find (λ y. eqb (key y) (key x)) xs ≡ Some x) xs
each_found key [] rising = tt
each_found key (x ∷ xs) rising = (
  ap (λ b. cond b (Some x) (find (λ y. eqb (key y) (key x)) xs)) (eq-eqb (key x) (key x) refl),
  each-both (λ z. key x < key z) (λ z. find (λ y. eqb (key y) (key z)) xs ≡ Some z) (λ z. find (λ y. eqb (key y) (key z)) (x ∷ xs) ≡ Some z) xs
      (λ z less found. ap (λ b. cond b (Some x) (find (λ y. eqb (key y) (key z)) xs)) (ne_eqb (key x) (key z) (omega arith)) ∙ found) rising.0 (each_found key xs rising.1),
)

-- an admission

rising_without : (gone : Option Row) (rows : List Row) → Rising client_of rows → Rising client_of (without gone rows)
rising_without None rows rising = rising
rising_without (Some gone) rows rising = rising-taken_out client_of (client_of gone) rows rising

-- a client without a row stays without one
pub still_absent : (gone : Option Row) (rows : List Row) (client : ℕ) → row_of rows client ≡ None → row_of (without gone rows) client ≡ None
still_absent None rows client absent = absent
still_absent (Some gone) rows client absent = absent_without rows client (client_of gone) absent

none_of : {X : Type 0} (o : Option X) → is_some o ≡ false → o ≡ None
none_of None e = refl
none_of (Some x) e = absurd cc

module _ (clients_max : ℕ) (rows : List Row) (row : Row) where
  -- what need not hold of the client's old row
  pub each_admitted_apart : (P : Row → Type 0) → Rising client_of rows → P row → Each (λ (other : Row). client_of other ≢ client_of row → P other) rows → Each P (admitted clients_max rows row)
  each_admitted_apart P rising p each =
      cond_both (is_some (row_of rows (client_of row))) (replaced client_of row rows) (put client_of row (without (driven_out clients_max rows) rows)) (Each P)
      (λ _. each-replaced client_of (λ (other : Row). client_of other ≢ client_of row → P other) P row rows rising p (λ other apart q. q apart) each)
      (λ e. each-put client_of P row (without (driven_out clients_max rows) rows) p
      (each_without P (driven_out clients_max rows) rows
      (each-both (λ (other : Row). (client_of other == client_of row) ≡ false) (λ (other : Row). client_of other ≢ client_of row → P other) P rows
      (λ other off q. q (λ same. let on : eqb (client_of other) (client_of row) ≡ true = eq-eqb (client_of other) (client_of row) same in absurd cc))
      (none-fails (λ (other : Row). client_of other == client_of row) rows (none_of (row_of rows (client_of row)) e)) each)))

  pub rising_admitted : Rising client_of rows → Rising client_of (admitted clients_max rows row)
  rising_admitted rising =
      cond_both (is_some (row_of rows (client_of row))) (replaced client_of row rows) (put client_of row (without (driven_out clients_max rows) rows)) (Rising client_of)
      (λ _. rising-replaced client_of row rows rising)
      (λ e. rising-put client_of row (without (driven_out clients_max rows) rows)
      (still_absent (driven_out clients_max rows) rows (client_of row) (none_of (row_of rows (client_of row)) e))
      (rising_without (driven_out clients_max rows) rows rising))

-- the row that a lookup finds is its client's, and what holds of each row holds of it
pub row_found : (P : Row → Type 0) (rows : List Row) (client : ℕ) (row : Row) → Each P rows → row_of rows client ≡ Some row → P row × (client_of row ≡ client)
row_found P rows client row each found = (each-find P (λ (other : Row). client_of other == client) row rows each found, found_key client_of client row rows found)
