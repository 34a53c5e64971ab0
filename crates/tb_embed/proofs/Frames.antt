-- Frames that are whole, and bytes that are no frame.
use Rattle.std.proofs.Common.{◌≡◌, ℕ, List, [], length, take, Some, None, Ok, inl, inr, sym, ap, ◌∙◌, subst, arith, append-nil}
use Rattle.std.proofs.lemmas.List.{take_all}
use Rattle.tb_records.specs.Messages.{Message}
use Rattle.tb_records.specs.Frames.{Spells, request_bytes, request_fault}
use Rattle.tb_records.proofs.Spellings.{spelled_sound, found_only}
use Rattle.tb_machine.specs.Histories.{State}
use Rattle.tb_embed.specs.declared.outcomes.Outcome.{Outcome}
use Rattle.tb_embed.specs.declared.outcomes.Outcome.TheVariants.{Done, NoMemory, TimeExhausted, TooSmall}
use Rattle.tb_embed.specs.Calls.{IsMalformed, AnswersCall, AnswersFrame}

spelled_fault : (bytes : List ℕ) (r : Message) → Spells bytes r → request_fault bytes ≡ None
spelled_fault bytes r spells = ap request_fault (spells.bytes_are ∙ sym (append-nil (request_bytes r))) ∙ spelled_sound r [] spells.is

pub whole_frame : (bytes : List ℕ) (r : Message) → Spells bytes r → IsMalformed bytes → ⊥
whole_frame bytes r spells (inl (fault, e)) = let wrong : None ≡ Some fault = sym (spelled_fault bytes r spells) ∙ e in absurd cc
whole_frame bytes r spells (inr (n, s, short, other)) =
    let same = found_only (Ok (s, n)) bytes bytes [] r (omega arith, other) spells (sym (append-nil bytes)) in
    absurd omega (arith, same.1)

-- a request's frame gets the answer that the request gets
pub frame_answered : (outcome : Outcome) (S T : State) (moment : ℕ) (bytes room : List ℕ) (r : Message) → Spells bytes r → AnswersCall outcome S T (moment, r) room → AnswersFrame outcome S T moment bytes room
frame_answered (Done n) S T moment bytes room r spells right = (r, spells, right)
frame_answered NoMemory S T moment bytes room r spells right = (r, spells, right)
frame_answered TimeExhausted S T moment bytes room r spells right = (r, spells, right)
frame_answered (TooSmall n) S T moment bytes room r spells right = (r, spells, right)
frame_answered outcome S T moment bytes room r spells right = absurd right

pub spells_all : (bytes : List ℕ) (n : ℕ) (r : Message) → n ≡ length bytes → Spells (take n bytes) r → Spells bytes r
spells_all bytes n r e spells = subst (λ (l : List ℕ). Spells l r) (take_all n bytes (omega (arith, e))) spells
