-- The book of an opening: a word that counts the entries of a history which only grows.
use Rattle.std.specs.Prelude.{ℕ, ◌≡◌, ◌==◌, true, List, [], ◌∷◌, ◌++◌, length, MatchBool}
use Rattle.logbook.specs.Pages.{Cell, Step, View, Book, Named}
use Rattle.tb_machine.specs.declared.entries.Entry.{Entry}

-- the first word is the number of the entries; a book has two words, and this one leaves the second at 0
pub record CountsEntries (cells : List Cell) (log : List Entry) : Type 0 where
  pub words : cells ≡ (length log, true) ∷ (0, true) ∷ []

abbrev pub named_head : Book → Named
named_head b = record { tracked = true; key = 0; book = b }

-- the entry was added to all that had been seen, or the count was another
abbrev pub Adds : Step Entry → View Entry ℕ → ℕ → View Entry ℕ → Type 0
Adds s v found w = MatchBool (found == s.old) (w.0 ≡ v.0 ++ s.ask ∷ []) (length w.0 ≡ found)
