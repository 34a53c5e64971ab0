-- Bytes that are sent and passed on, and lines that are reported.
use Rattle.std.proofs.Common.{◌≡◌, ◌-◌, ◌<◌, ℕ, zero, suc, List, [], ◌++◌, Result, Ok, Err, codes, take, sym, subst, refl, append-nil, inl, inr, arith}
use Rattle.tb_records.specs.declared.faults.FrameFault.{FrameFault}
use Rattle.tb_records.specs.Transport.{Output, Sent, CutOff, IsSent}
use Rattle.tb_records.proofs.Sendings.{sent_rest}
use Rattle.tb_edge_words.specs.declared.faults.Wrong.{Wrong}
use Rattle.tb_edge_words.specs.Words.{word_fault_text}
use Rattle.tb_edge_file.specs.ExitStatuses.{said_text, wrong_line, cut_line, PassesOn, SaysLine, PrintsCut, PrintsMade}

sent_passed : (xs : List ℕ) (old mid new : Output) → Sent xs old mid → Sent [] mid new → Sent xs old new
sent_passed xs old mid new one two = sent_rest xs [] old mid new xs (append-nil xs) one (Ok tt) two

-- bytes that are sent and passed on are reported as a line
pub said : (xs line : List ℕ) (r : Result (Unit {0}) FrameFault) (old mid new : Output) → line ≡ xs → IsSent r xs old mid → PassesOn r mid new → SaysLine line old new
said xs line (Ok done) old mid new same sent passed = inl (subst (λ (l : List ℕ). Sent l old new) (sym same) (sent_passed xs old mid new sent passed.0), passed.1)
said xs line (Err fault) old mid new same sent passed =
    inr (subst (λ (o : Output). CutOff line old o) (sym passed) (subst (λ (l : List ℕ). CutOff l old mid) (sym same) sent.1))

-- bytes that were cut off are some
pub cut_printed : (bytes at : ℕ) (r : Result (Unit {0}) FrameFault) (before mid after : Output) → 0 < bytes → IsSent r (cut_line bytes at) before mid → PassesOn r mid after
    → PrintsCut bytes at before after
cut_printed zero at r before mid after some sent passed = absurd (omega (arith, some))
cut_printed (suc more) at r before mid after some sent passed = said _ _ r before mid after refl sent passed

-- words and what is wrong with them
pub wrong_sent : (wrong : Wrong) (words shown : List (List ℕ)) (what : List ℕ) (r : Result (Unit {0}) FrameFault) (old new : Output)
    → shown ≡ take wrong.shown words → what ≡ word_fault_text wrong.fault
    → IsSent r (codes "tbd: Usage:" ++ said_text shown what) old new → IsSent r (wrong_line wrong words) old new
wrong_sent wrong words shown what r old new same_shown same_what sent = rw (← same_shown, ← same_what) sent

-- what was cut off is reported, with the place where the records end
pub printed_cut : (cut len bytes at : ℕ) (before after : Output) → bytes ≡ cut → at ≡ len - bytes - 4 → PrintsCut bytes at before after → PrintsCut cut (len - cut - 4) before after
printed_cut cut len bytes at before after same place told = rw (← same, ← place) told

-- the same place decides whether a ledger was made
pub printed_made : (cut len bytes at : ℕ) (path : List ℕ) (before after : Output) → bytes ≡ cut → at ≡ len - bytes - 4 → PrintsMade at path before after
    → PrintsMade (len - cut - 4) path before after
printed_made cut len bytes at path before after same place told = rw (← same, ← place) told
