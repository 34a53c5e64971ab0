-- The exchange that adds an entry keeps the rule of the book.
use Rattle.std.proofs.Common.{◌≡◌, ℕ, ◌+◌, ◌<◌, ◌==◌, Bool, true, false, List, [], ◌∷◌, ◌++◌, length, refl, ap, sym, subst, arith, inl, length-append, None, IsTrue, MatchBool, eq-eqb}
use Rattle.std.proofs.lemmas.List.{append-nil}
use Rattle.std.proofs.lemmas.Bool.Decides.{nat_tests}
use mathlib.Core.List.{IsPrefix}
use prog.Atomic.{either}
use Rattle.logbook.specs.Pages.{Cell, cell, keeps, no_nib, View, Step, step, Moves, Goes}
use Rattle.tb_machine.specs.declared.entries.Entry.{Entry}
use Rattle.tb_records.specs.declared.limits.Profile.{Profile}
use Rattle.tb_machine.specs.Histories.{fits, IsLegal, after}
use Rattle.tb_machine.proofs.Legal.{legal_snoc}
use Rattle.tb_published.specs.private.Counting.{CountsEntries, Adds}
use Rattle.tb_published.proofs.Prefixes.{prefix_whole}

abbrev shown : List Entry → List Entry
shown log = []

abbrev moved : List Entry → List Entry → ℕ → Type 0
moved xs ys n = Unit {0}

adds_goes : (log v : List Entry) (e : Entry) (old : ℕ) → length v ≡ old → IsPrefix v log
    → (b : Bool) → (length log == old) ≡ b
    → Goes CountsEntries shown moved 0 (v, (no_nib, None)) (λ n. either (n == old) (old + 1) n) (Adds (step 0 old (old + 1) e) (v, (no_nib, None))) ((length log, true) ∷ (0, true) ∷ []) log
adds_goes log v e old len pre true is =
    let here : length log ≡ old = grind (arith, nat_tests) in
    let same : v ≡ log = prefix_whole v log pre (omega arith) in
    let n : either (length log == old) (old + 1) (length log) ≡ length (log ++ e ∷ []) = rw is (omega (arith, length-append log (e ∷ []))) in (
      keeps,
      e ∷ [],
      None,
      tt,
      record { words = ap (λ (k : ℕ). (k, true) ∷ (0, true) ∷ []) n },
      inl (refl, refl),
      rw is (ap (λ w. w ++ e ∷ []) (sym same)),
    )
adds_goes log v e old len pre false is =
    let all : log ++ [] ≡ log = append-nil log in
    let n : either (length log == old) (old + 1) (length log) ≡ length (log ++ []) = rw is (ap length (sym all)) in (
      keeps,
      [],
      None,
      tt,
      record { words = ap (λ (k : ℕ). (k, true) ∷ (0, true) ∷ []) n },
      inl (refl, refl),
      rw is (ap length all),
    )

-- whatever the book is, the exchange adds the entry to all that was seen, or finds that the history is longer
pub adds_moves : (v : List Entry) (e : Entry) (old : ℕ) → length v ≡ old
    → Moves CountsEntries shown moved 0 (v, (no_nib, None)) (λ n. either (n == old) (old + 1) n) (Adds (step 0 old (old + 1) e) (v, (no_nib, None)))
adds_moves v e old len cs log kept pre away =
    let P : List Cell → Type 0 = λ c. (0 < length c) × ((cell c 0).1 ≡ true) × Goes CountsEntries shown moved 0 (v, (no_nib, None)) (λ n. either (n == old) (old + 1) n) (Adds (step 0 old (old + 1) e) (v, (no_nib, None))) c log in
    subst P (sym kept.words) (omega arith, refl, adds_goes log v e old len pre (length log == old) refl)

-- if the count was the one expected, the entry was added
pub added : (s : Step Entry) (v : View Entry ℕ) (found : ℕ) (w : View Entry ℕ) → found ≡ s.old → Adds s v found w → w.0 ≡ v.0 ++ s.ask ∷ []
added s v found w same adds = subst (λ b. MatchBool b (w.0 ≡ v.0 ++ s.ask ∷ []) (length w.0 ≡ found)) (eq-eqb found s.old same) adds

-- and the front with it is legal
pub front_on : (profile : Profile) (clients_max count : ℕ) (log grown : List Entry) (e : Entry) → (count ≡ length log) × IsLegal profile clients_max log
    → IsTrue (fits (after profile clients_max log) e) → grown ≡ log ++ e ∷ [] → (count + 1 ≡ length grown) × IsLegal profile clients_max grown
front_on profile clients_max count log grown e was next is = (
  omega (arith, was.0, ap length is, length-append log (e ∷ [])),
  subst (IsLegal profile clients_max) (sym is) (legal_snoc profile clients_max log e was.1 next),
)
