-- The pairs of a content, one more at a time.
use Rattle.std.proofs.Common.{◌≡◌, ℕ, ◌+◌, ◌≤◌, List, [], ◌∷◌, ◌++◌, length, Some, Ok, Err, refl, sym, ap, ◌∙◌, arith, append_assoc, append-nil, length-append, subst, None}
use Rattle.std.proofs.lemmas.Grind.{flat_map-append}
use Rattle.tb_records.specs.declared.faults.FrameFault.{FrameFault}
use Rattle.tb_records.specs.Numbers.{le_bytes}
use Rattle.tb_records.proofs.Sizes.{length-le_bytes}
use Rattle.tb_records.specs.Frames.{request_bytes}
use Rattle.tb_records.specs.Inputs.{IsTimed, TimedAnswered, timed_bytes}
use Rattle.tb_machine.specs.Scripts.{Pair}
use Rattle.tb_machine.proofs.Rows.{each_snoc}
use Rattle.tb_log.specs.Format.{content_of}
use Rattle.tb_log.specs.Entries.{pair_fault, BeginsWithPairs, IsPairs, IsNoPairs}

-- one pair more
pub begins_on : (ps : List Pair) (p : Pair) (content left rest : List ℕ) → BeginsWithPairs ps content left → TimedAnswered (Ok (Some p)) left rest → BeginsWithPairs (ps ++ p ∷ []) content rest
begins_on ps p content left rest front read = record {
  spelled = front.spelled ∙ ap (λ (bs : List ℕ). content_of ps ++ bs) read.0
      ∙ sym (append_assoc (content_of ps) (timed_bytes p) rest)
      ∙ ap (λ (bs : List ℕ). bs ++ rest) (ap (λ (bs : List ℕ). content_of ps ++ bs) (sym (append-nil (timed_bytes p))) ∙ sym (flat_map-append timed_bytes ps (p ∷ [])));
  fit = each_snoc IsTimed ps p front.fit (read.1, read.2);
}

-- a content has no more pairs than bytes

pair_some : (p : Pair) → 1 ≤ length (timed_bytes p)
pair_some p = omega (arith, length-append (le_bytes 8 p.0) (request_bytes p.1), length-le_bytes 8 p.0)

pairs_few : (ps : List Pair) → length ps ≤ length (content_of ps)
pairs_few [] = omega arith
pairs_few (p ∷ ps) = omega (arith, pair_some p, pairs_few ps, length-append (timed_bytes p) (content_of ps))

pub begins_few : (ps : List Pair) (content left : List ℕ) → BeginsWithPairs ps content left → length ps ≤ length content
begins_few ps content left front = omega (arith, pairs_few ps, ap length front.spelled, length-append (content_of ps) left)

-- a content that is tested

pub record Checked (k : ℕ) (content left : List ℕ) : Type 0 where
  pub pairs : List Pair
  pub count : length pairs ≡ k
  pub front : BeginsWithPairs pairs content left

pub checked_none : (content : List ℕ) → Checked 0 content content
checked_none content = record { pairs = []; count = refl; front = record { spelled = refl; fit = tt } }

pub checked_on : (k : ℕ) (p : Pair) (content left rest : List ℕ) → Checked k content left → TimedAnswered (Ok (Some p)) left rest → Checked (k + 1) content rest
checked_on k p content left rest so_far read = record {
  pairs = so_far.pairs ++ p ∷ [];
  count = omega (arith, length-append so_far.pairs (p ∷ []), so_far.count);
  front = begins_on so_far.pairs p content left rest so_far.front read;
}

pub checked_few : (k : ℕ) (content left : List ℕ) → Checked k content left → k ≤ length content
checked_few k content left so_far = omega (arith, so_far.count, begins_few so_far.pairs content left so_far.front)

pub checked_all : (k : ℕ) (content left rest : List ℕ) → Checked k content left → TimedAnswered (Ok None) left rest → IsPairs content
checked_all k content left rest so_far end = (so_far.pairs, subst (BeginsWithPairs so_far.pairs content) end.0 so_far.front)

pub checked_bad : (k position : ℕ) (content left rest : List ℕ) (cause : FrameFault) → Checked k content left → TimedAnswered (Err cause) left rest → IsNoPairs (pair_fault position cause) position content
checked_bad k position content left rest cause so_far read = record {
  pairs = so_far.pairs;
  left = left;
  front = so_far.front;
  cause = cause;
  rest = rest;
  read = read;
  fault_is = refl;
}
