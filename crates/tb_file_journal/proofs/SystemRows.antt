-- Examples of the system's calls that transfer less than requested.
use Rattle.std.specs.Prelude.{ℕ, true, List, [], ◌∷◌, Ok, refl}
use Rattle.std.proofs.Common.{arith, inl}
use Rattle.tb_file_journal.specs.Device.{Disk}
use Rattle.tb_file_journal.specs.System.{Preads, Pwrites}

-- a disk with these bytes, that no sync has kept yet
abbrev fresh : List ℕ → Disk
fresh bytes = record { seen = bytes; may_leave = λ left. Unit {0}; moment = 0; left_since = λ t left. Unit {0}; failures = λ fault. 0; sound = true }

-- a write of two bytes that takes one
pub a_short_write : Pwrites 1 (8 ∷ 9 ∷ []) (Ok 1) (fresh (7 ∷ 7 ∷ 7 ∷ [])) (fresh (7 ∷ 8 ∷ 7 ∷ []))
a_short_write = record {
  some = λ asked. omega arith;
  written = refl;
  interrupted = λ is. absurd (cc);
  changes = record {
    crash = λ left _. (left, tt, record { before = refl; after = refl; no_shorter = omega arith; no_longer = omega arith });
    still = λ left _. tt;
    time = record { later = omega arith; nothing_else = λ t left le since. inl since; keeps = λ t left le since. since };
    sound = refl;
  };
  counts = record { ok = λ fault. refl; interrupted = λ is fault. refl; failed = tt };
}

-- a read of three bytes that gives two is not the end
pub a_short_read : Preads 0 (5 ∷ 6 ∷ 0 ∷ []) (Ok 2) (fresh (5 ∷ 6 ∷ 7 ∷ [])) (fresh (5 ∷ 6 ∷ 7 ∷ []))
a_short_read = record {
  bytes = refl;
  end = λ is. absurd (cc);
  looks = record {
    seen = refl;
    crash = λ left _. tt;
    time = record { later = omega arith; nothing_else = λ t left le since. inl since; keeps = λ t left le since. since };
    sound = refl;
  };
  counts = record { ok = λ fault. refl; interrupted = λ is fault. refl; failed = tt };
}
