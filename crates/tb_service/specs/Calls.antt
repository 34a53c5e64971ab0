-- What a call offers.
use Rattle.std.specs.Prelude.{◌≡◌, ◌⊎◌, List, [], ◌∷◌, ◌++◌}
use mathlib.Core.List.{IsPrefix}
use Rattle.tb_records.specs.declared.replies.Status.TheVariants as status
use Rattle.tb_records.specs.Messages.{Message}
use Rattle.tb_machine.specs.declared.entries.Entry.{Entry}
use Rattle.tb_machine.specs.Histories.{answer_to}
use Rattle.tb_published.specs.Openings.{Opening, LegalIn, after_in}
use Rattle.tb_service.specs.Ports.{Offers}

-- After some list between the two, which the seat was asked with, the answer to the request was NotYet.
pub record WasNotYet (o : Opening) (old new : List Entry) (request : Message) : Type 0 where
  pub seen : List Entry
  pub begins : IsPrefix old seen
  pub grows : IsPrefix seen new
  pub legal : LegalIn o seen
  pub waits : (answer_to (after_in o seen) request).status ≡ status.NotYet

-- A call offered nothing, or it offered the request once, when the answer was NotYet.
abbrev pub OffersOnce : Opening → List Entry → List Entry → Message → Offers → Offers → Type 0
OffersOnce o old new request before after =
    (after.offered ≡ before.offered) ⊎ ((after.offered ≡ before.offered ++ request ∷ []) × WasNotYet o old new request)
