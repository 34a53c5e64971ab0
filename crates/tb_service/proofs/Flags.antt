-- The server's flags say which ports were closed.
use Rattle.std.proofs.Common.{◌≡◌, ◌≢◌, ℕ, ◌<◌, Bool, true, false, ◌==◌, ◌&&◌, ◌||◌, List, [], ◌∷◌, ◌++◌, length, slice_index_or, slice_set, refl, sym, ap, ◌∙◌, eq-eqb}
use Rattle.std.proofs.lemmas.List.{get_or-set_same, get_or-set_other}
use mathlib.Core.Logic.{dite}
use native.Mathlib.Decide.{ℕ_discrete}
use Rattle.tb_service.specs.declared.orders.Order.{Order}
use Rattle.tb_service.specs.declared.orders.What.{What}
use Rattle.tb_service.specs.declared.orders.What.TheVariants.{One, Many, Close}
use Rattle.tb_service.specs.Sent.{closes, is_port_closed}
use Rattle.tb_service.proofs.SentOrders.{is_port_closed-append, is_port_closed-other}

pub not_close : (what : What) → what ≢ Close → closes what ≡ false
not_close (One request) other = refl
not_close (Many batch) other = refl
not_close Close other = absurd (other refl)

or_true : (b : Bool) → (b || true) ≡ true
or_true true = refl
or_true false = refl

or_false : (b : Bool) → (b || false) ≡ b
or_false true = refl
or_false false = refl

and_false : (b : Bool) → (b && false) ≡ false
and_false true = refl
and_false false = refl

module _ (taken : List Order) (o : Order) (flags : List Bool) (before : (p : ℕ) → is_port_closed p taken ≡ slice_index_or flags p false) where
  -- a close was taken
  pub flags_set : closes o.what ≡ true → o.port < length flags → (p : ℕ) → is_port_closed p (taken ++ o ∷ []) ≡ slice_index_or (slice_set flags o.port true) p false
  flags_set close there p = dite (ℕ_discrete o.port p)
      (λ own.
      is_port_closed-append p taken (o ∷ [])
      ∙ ap (λ (b : Bool). is_port_closed p taken || ((b && closes o.what) || false)) (eq-eqb o.port p own)
      ∙ ap (λ (b : Bool). is_port_closed p taken || (b || false)) close
      ∙ or_true (is_port_closed p taken)
      ∙ sym (ap (λ (k : ℕ). slice_index_or (slice_set flags o.port true) k false) (sym own) ∙ get_or-set_same flags o.port true false there))
      (λ other. is_port_closed-other taken o p other ∙ before p ∙ sym (get_or-set_other flags o.port p true false (λ e. other (sym e))))

  -- requests were taken
  pub flags_kept : closes o.what ≡ false → (p : ℕ) → is_port_closed p (taken ++ o ∷ []) ≡ slice_index_or flags p false
  flags_kept close p =
      is_port_closed-append p taken (o ∷ [])
      ∙ ap (λ (b : Bool). is_port_closed p taken || ((o.port == p && b) || false)) close
      ∙ ap (λ (b : Bool). is_port_closed p taken || (b || false)) (and_false (o.port == p))
      ∙ or_false (is_port_closed p taken)
      ∙ before p
