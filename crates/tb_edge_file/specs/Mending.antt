-- A file whose first bytes are read as those of a journal, whatever they are.
use Rattle.std.specs.Prelude.{ℕ, ◌≡◌, ◌++◌, List, [], ◌∷◌, codes, refl}
use Rattle.tb_file_journal.specs.declared.devices.Device as devices
use Rattle.tb_file_journal.specs.Contents.{magic, latch_closed}
use Rattle.tb_file_journal.specs.Real.{untold}
use Rattle.tb_edge_file.specs.declared.mending.Mended.{Mended}
use Rattle.tb_edge_file.specs.Ends.{KnownReading, known_reading}

-- bytes written over the first ones of others, as far as these go
abbrev pub overlaid : List ℕ → List ℕ → List ℕ
overlaid [] bytes = bytes
overlaid (x ∷ xs) [] = []
overlaid (x ∷ xs) (y ∷ ys) = x ∷ overlaid xs ys

-- a file with its first bytes replaced by those of a journal
abbrev pub mended : List ℕ → List ℕ
mended file = overlaid magic file

-- the file whose bytes reads return: the one that the device holds, mended
abbrev pub IsMended : (List ℕ → Type 0) → List ℕ → Type 0
IsMended holds file = (own : List ℕ) × holds own × (file ≡ mended own)

-- the device of such a file: it reports nothing of what its calls do
abbrev pub mended_device : {D : Type 0} → devices.Ghosts D → devices.Ghosts (Mended D)
mended_device its = record {
  tells = ⊥;
  disk = λ it. untold;
  holds = λ it. IsMended (its.holds it.device);
  aside = λ at bytes. Unit {0};
}

-- such a file as one that is read: all that is in it is what reads return
abbrev pub mended_reading : {D : Type 0} → devices.Ghosts D → KnownReading (Mended D)
mended_reading its = known_reading (mended_device its) (mended_device its).holds

-- rows

pub a_byte_is_mended : mended (codes "TBJ" ++ 0 ∷ codes "NL02" ++ latch_closed) ≡ magic ++ latch_closed
a_byte_is_mended = refl

pub a_short_file_stays_short : mended (codes "ab") ≡ codes "TB"
a_short_file_stays_short = refl
