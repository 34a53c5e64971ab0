-- The posts and voids of a history: in which books each is judged, and that the accepted ones settle.
use Rattle.std.specs.Prelude.{ℕ, true, ◌≡◌, ◌⊎◌, List, [], ◌∷◌, Option}
use Rattle.tb_records.specs.declared.records.Transfer.{Transfer}
use Rattle.tb_records.specs.declared.bodies.Body.TheVariants.{CreateTransfers}
use Rattle.tb_records.specs.declared.limits.Profile.{Profile}
use Rattle.tb_ledger.specs.Batches.{Kind, Timed, transfer_events, timed, chains, chain_after}
use Rattle.tb_ledger.specs.Books.{Books, resolves}
use Rattle.tb_ledger.specs.Meanings.{SettlesNamed}
use Rattle.tb_ledger.specs.Sound.{IdsRise}
use Rattle.tb_ledger.specs.Verdicts.{transfer_verdict, recorded_transfer}
use Rattle.tb_machine.specs.declared.entries.Entry.{Entry}
use Rattle.tb_machine.specs.Histories.{State, at_time}
use Rattle.tb_machine.specs.Dumps.{after_with}
use Rattle.tb_machine.specs.MarkedLaws.{next_in}

module _ {E : Type 0} (kind : Kind E) where
  -- in a chain that begins with the books B, the event x is judged in the books C: each event before it was accepted
  abbrev pub JudgedIn : Books → List (Timed E) → Timed E → Books → Type 0
  JudgedIn B [] x C = ⊥
  JudgedIn B (y ∷ ys) x C = ((y ≡ x) × (B ≡ C)) ⊎ ((kind.verdict B y.0 y.1 ≡ 0) × JudgedIn (kind.recorded B y.0 y.1) ys x C)

  -- the same in one of the chains of a batch
  abbrev pub JudgedAmong : Books → List (List (Timed E)) → Timed E → Books → Type 0
  JudgedAmong B [] x C = ⊥
  JudgedAmong B (chain ∷ chains) x C = JudgedIn B chain x C ⊎ JudgedAmong (chain_after kind B chain).books chains x C

-- the transfer t of the entry e, with its timestamp, is judged in the books C
abbrev pub IsJudged : State → Entry → Transfer → ℕ → Books → Type 0
IsJudged S e t timestamp C =
    (events : List Transfer) × (e.request.body ≡ CreateTransfers events)
    × JudgedAmong transfer_events (at_time S.books e.time) (chains transfer_events (timed e.time events)) (t, timestamp) C

-- in the books after entries, with or without a mark, each id is unique
abbrev pub IdsRiseAfter : Type 0
IdsRiseAfter = (profile : Profile) (clients_max : ℕ) (mark : Option ℕ) (h : List Entry) → IdsRise (after_with profile clients_max mark h).books

-- each accepted post or void of an entry that follows others settles, as it is recorded
abbrev pub PostsAndVoidsSettle : Type 0
PostsAndVoidsSettle = (profile : Profile) (clients_max : ℕ) (mark : Option ℕ) (h : List Entry) (e : Entry) (t : Transfer) (timestamp : ℕ) (C : Books)
    → IsJudged (next_in profile clients_max mark h) e t timestamp C → resolves t ≡ true → transfer_verdict C t timestamp ≡ 0
    → SettlesNamed C t (recorded_transfer C t timestamp)
