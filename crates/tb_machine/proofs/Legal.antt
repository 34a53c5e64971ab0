-- Legal histories: their prefixes, their ends, and one entry more.
use Rattle.std.proofs.Common.{◌≡◌, ℕ, List, [], ◌∷◌, ◌++◌, fold, refl, IsTrue}
use Rattle.tb_records.specs.declared.limits.Profile.{Profile}
use Rattle.tb_machine.specs.declared.entries.Entry.{Entry}
use Rattle.tb_machine.specs.Histories.{State, start, fits, step, LegalFrom, IsLegal, after}

pub fold_append : {A B : Type 0} (f : B → A → B) (b : B) (xs ys : List A) → fold f b (xs ++ ys) ≡ fold f (fold f b xs) ys
fold_append f b [] ys = refl
fold_append f b (x ∷ xs) ys = fold_append f (f b x) xs ys

pub fold_snoc : {A B : Type 0} (f : B → A → B) (b : B) (xs : List A) (x : A) → fold f b (xs ++ x ∷ []) ≡ f (fold f b xs) x
fold_snoc f b xs x = fold_append f b xs (x ∷ [])

-- a legal history and what may follow it
pub legal_join : (S : State) (h m : List Entry) → LegalFrom S h → LegalFrom (fold step S h) m → LegalFrom S (h ++ m)
legal_join S [] m legal more = more
legal_join S (e ∷ es) m legal more = (legal.0, legal_join (step S e) es m legal.1 more)

pub legal_split : (S : State) (h m : List Entry) → LegalFrom S (h ++ m) → LegalFrom S h × LegalFrom (fold step S h) m
legal_split S [] m legal = (tt, legal)
legal_split S (e ∷ es) m legal = let parts = legal_split (step S e) es m legal.1 in ((legal.0, parts.0), parts.1)

module _ (profile : Profile) (clients_max : ℕ) where
  pub after_snoc : (h : List Entry) (e : Entry) → after profile clients_max (h ++ e ∷ []) ≡ step (after profile clients_max h) e
  after_snoc h e = fold_snoc step (start profile clients_max) h e

  -- one entry more
  pub legal_snoc : (h : List Entry) (e : Entry) → IsLegal profile clients_max h → IsTrue (fits (after profile clients_max h) e) → IsLegal profile clients_max (h ++ e ∷ [])
  legal_snoc h e legal next = legal_join (start profile clients_max) h (e ∷ []) legal (next, tt)

  -- a prefix
  pub legal_front : (h m : List Entry) → IsLegal profile clients_max (h ++ m) → IsLegal profile clients_max h
  legal_front h m legal = (legal_split (start profile clients_max) h m legal).0

  -- an entry at its place
  pub legal_at : (front : List Entry) (e : Entry) (rest : List Entry) → IsLegal profile clients_max (front ++ e ∷ rest) → IsTrue (fits (after profile clients_max front) e)
  legal_at front e rest legal = (legal_split (start profile clients_max) front (e ∷ rest) legal).1.0
