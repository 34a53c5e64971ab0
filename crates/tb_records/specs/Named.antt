-- Search by a number.
use Rattle.std.specs.Prelude.{◌≡◌, ◌↔◌, Option, Some}

-- the result is the only thing of which this holds; None if there is no such thing
abbrev pub IsOnly : {X : Type 0} → Option X → (X → Type 0) → Type 0
IsOnly {X} result Holds = (x : X) → (result ≡ Some x) ↔ Holds x
