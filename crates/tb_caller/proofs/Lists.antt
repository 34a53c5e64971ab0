-- What is among a list.
use Rattle.std.proofs.Common.{◌≡◌, inl, inr, List, [], ◌∷◌, ◌++◌, map, refl, sym, subst}
use Rattle.tb_records.specs.Ordered.{Each}
use Rattle.tb_caller.specs.Endpoints.{IsAmong}

pub each_among : {X : Type 0} (P : X → Type 0) (x : X) (xs : List X) → Each P xs → IsAmong x xs → P x
each_among P x [] each is = absurd is
each_among P x (y ∷ ys) each (inl same) = subst P (sym same) each.0
each_among P x (y ∷ ys) each (inr rest) = each_among P x ys each.1 rest

pub each_of_all : {X : Type 0} (P : X → Type 0) (xs : List X) → ((x : X) → IsAmong x xs → P x) → Each P xs
each_of_all P [] all = tt
each_of_all P (x ∷ xs) all = (all x (inl refl), each_of_all P xs (λ y is. all y (inr is)))

pub each_before : {X : Type 0} (P : X → Type 0) (front rest : List X) → Each P (front ++ rest) → Each P front
each_before P [] rest each = tt
each_before P (x ∷ xs) rest each = (each.0, each_before P xs rest each.1)

pub among_before : {X : Type 0} (x : X) (xs ys : List X) → IsAmong x xs → IsAmong x (xs ++ ys)
among_before x [] ys is = absurd is
among_before x (y ∷ xs) ys (inl same) = inl same
among_before x (y ∷ xs) ys (inr later) = inr (among_before x xs ys later)

-- what is among the images is an image
pub among_map : {X Y : Type 0} (f : X → Y) (y : Y) (xs : List X) → IsAmong y (map f xs) → (x : X) × IsAmong x xs × (y ≡ f x)
among_map f y [] is = absurd is
among_map f y (x ∷ xs) (inl same) = (x, inl refl, same)
among_map f y (x ∷ xs) (inr later) = let found = among_map f y xs later in (found.0, inr found.1, found.2)
