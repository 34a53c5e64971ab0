-- What a walk over a range of keys calls.
use Rattle.std.specs.Prelude.{◌≡◌, ◌&&◌, List}
use Rattle.std.specs.List.{filter, FoldsTo}
use Rattle.std.specs.Fn.{Mut, Called}
use Rattle.std.specs.Ordering.{is_le}
use Rattle.std.specs.declared.cmp.Ordering.{Ordering}
use denote.Ref.{Bor}

-- the pairs with low ≤ key ≤ high, in their order
abbrev pub between : {K V : Type 0} → (K → K → Ordering) → K → K → List (K × V) → List (K × V)
between cmp low high es = filter (λ e. is_le (cmp low e.0) && is_le (cmp e.0 high)) es

-- a call on references to the key and the value of e took the closure from f to g
pub record CalledAtEntry {F K V : Type 0} (c : Mut F (Bor K × (Bor V × Unit {0})) (Unit {0})) (f : F) (e : K × V) (g : F) : Type 0 where
  pub key : Bor K
  pub value : Bor V
  pub shows : (key.now ≡ e.0) × (value.now ≡ e.1)
  pub called : Called c f (key, (value, tt)) tt g

-- calls on the pairs es, each once and in their order, took the closure from f to g
abbrev pub VisitsTo : {F K V : Type 0} → Mut F (Bor K × (Bor V × Unit {0})) (Unit {0}) → F → List (K × V) → F → Type 0
VisitsTo c f es g = FoldsTo (CalledAtEntry c) f es g
