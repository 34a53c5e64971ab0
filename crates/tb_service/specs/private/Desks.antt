-- What a desk does with orders.
use Rattle.std.specs.Prelude.{ℕ, ◌≡◌, ◌<◌, List, ◌++◌}
use Rattle.std.specs.List.{All}
use Rattle.crossbeam_channel.specs.Claims.{Pass, view}
use Rattle.tb_service.specs.declared.orders.Order.{Order}
use Rattle.tb_service.specs.declared.rule.View.{View}
use Rattle.tb_service.specs.declared.clerk.Clerk.{Clerk}
use Rattle.tb_service.specs.Names.{service_of}
use Rattle.tb_service.specs.Places.{requests}
use Rattle.tb_published.specs.Openings.{Opening}
use Rattle.tb_service.specs.Clerks.{ServesMore}
use Rattle.tb_service.specs.declared.gates.Gate as gates
use Rattle.tb_service.specs.declared.gates.Moments as moments
use Rattle.tb_service.specs.declared.server.Desk.{Desk}

-- Orders of ports that were made were taken at the inbox, and their requests had their turns at the clerk; the number of ports and the name stay.
pub record ServesOrders {J W M G : Type 0} (o : Opening) (tells : M → ℕ → M → Type 0) (passes : G → ℕ → G → Type 0)
    (before : Pass Order View) (old : Clerk J W M G) (after : Pass Order View) (new : Clerk J W M G) : Type 0 where
  pub orders : List Order
  pub taken : (view after).taken ≡ (view before).taken ++ orders
  pub owned : All (λ (order : Order). order.port < (view before).ports) orders
  pub served : ServesMore o tells passes old (requests orders) new
  pub made : (view after).ports ≡ (view before).ports
  pub named : service_of after ≡ service_of before

-- the same by a desk
abbrev pub DeskServes : {J W M G : Type 0} {its : moments.Ghosts M} {gate : gates.Ghosts G} → Opening → (M → ℕ → M → Type 0)
    → (G → ℕ → G → Type 0) → Desk J W M G its gate → Desk J W M G its gate → Type 0
DeskServes o tells passes old new = ServesOrders o tells passes old.inbox.pass old.clerk new.inbox.pass new.clerk
