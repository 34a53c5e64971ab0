-- What ports offered is all that a run enters.
use Rattle.std.proofs.Common.{◌≡◌, ℕ, suc, List, [], ◌∷◌, ◌++◌, sym, subst, arith}
use Rattle.std.specs.List.{All}
use Rattle.tb_records.specs.Messages.{Message}
use Rattle.tb_records.specs.Ordered.{Each}
use Rattle.tb_machine.specs.declared.entries.Entry.{Entry}
use Rattle.tb_service.specs.OfferedLaws.{HasOwner, GrowsByOffers}
use Rattle.tb_caller.specs.Endpoints.{IsAmong}
use Rattle.tb_caller.specs.Calls.{NoneInvented}
use Rattle.tb_caller_laws.specs.PortCalls.{OffersSent, InService}
use Rattle.tb_caller_laws.proofs.Seats.{in_seats}

each_of_owned : {X : Type 0} (P Q : X → Type 0) (xs : List X) → ((x : X) → P x → Q x) → All P xs → Each Q xs
each_of_owned P Q [] f all = tt
each_of_owned P Q (x ∷ xs) f all = (f x (all 0 x (omega arith)), each_of_owned P Q xs f (λ k d within. all (suc k) d (omega (arith, within))))

pub each_join : {X : Type 0} (P : X → Type 0) (xs ys : List X) → Each P xs → Each P ys → Each P (xs ++ ys)
each_join P [] ys one two = two
each_join P (x ∷ xs) ys one two = (one.0, each_join P xs ys one.1 two)

-- a request that a port offered was sent
sent_by_owner : (id : ℕ) (sent : List Message) (count : ℕ) (offered : ℕ → List Message) (r : Message) → OffersSent id sent count offered → HasOwner count offered r → r.client ≡ id → IsAmong r sent
sent_by_owner id sent count offered r offers owner =
    subst (λ (m : Message). m.client ≡ id → IsAmong m sent) owner.offers.2 (offers owner.port owner.made owner.offers.0 r owner.offers.1)

pub none_invented : (id : ℕ) (sent : List Message) (count : ℕ) (offered : ℕ → List Message) (before h : List Entry)
    → GrowsByOffers count offered before h → NoneInvented id sent before → OffersSent id sent count offered → NoneInvented id sent h
none_invented id sent count offered before h grows none offers =
    subst (NoneInvented id sent) (sym grows.grown)
    (each_join (λ (e : Entry). e.request.client ≡ id → IsAmong e.request sent) before grows.more none
    (each_of_owned (λ (e : Entry). HasOwner count offered e.request) (λ (e : Entry). e.request.client ≡ id → IsAmong e.request sent) grows.more
    (λ e owner. sent_by_owner id sent count offered e.request offers owner) grows.owned))

pub in_service : InService
in_service o before h count offered id sent returned legal grows own none offers taken given =
    in_seats o h id sent returned legal own (none_invented id sent count offered before h grows none offers) taken given
