-- What a room holds once a request was served into it.
use Rattle.std.proofs.Common.{◌≡◌, ℕ, ◌≤◌, Bool, true, List, ◌∷◌, length, take, Result, Ok, Err, sym, ap, ◌∙◌, subst, arith, min, length-take}
use Rattle.std.proofs.lemmas.List.{take_all}
use Rattle.tb_machine.specs.declared.serving.RunFault.{RunFault}
use Rattle.tb_machine.specs.declared.serving.RunFault.TheVariants as fault
use Rattle.tb_machine.specs.Histories.{State}
use Rattle.tb_machine.specs.Scripts.{Pair}
use Rattle.tb_machine.specs.Runs.{answer_bytes, AnswersPair}
use Rattle.tb_embed.specs.private.Filling.{FillsRoom, room_output}

named_same : (named name : ℕ) (front bytes : List ℕ) → named ∷ front ≡ name ∷ bytes → (named ≡ name) × (front ≡ bytes)
named_same named name front bytes e = (cc, cc)

-- a room before and after; the caller's bytes are the room's if its name is still that of the caller's reference
module _ (lent name named empty at stalled stalls : ℕ) (was is kept held : Bool) (start room bytes : List ℕ) (S T : State) (p : Pair)
    (same : name ≡ lent) (at_start : empty ≡ 0) (within : at ≤ length room) (full : is ≡ true → at ≡ length room) (back : lent ≡ named → bytes ≡ room) where
  abbrev Served : Result (Unit {0}) RunFault → Type 0
  Served result = AnswersPair result S T p (room_output name empty start stalled was kept) (room_output named at room stalls is held)

  abbrev Begun : Result (Unit {0}) RunFault → Type 0
  Begun result = AnswersPair result S T p (room_output name 0 start stalled was kept) (room_output named at room stalls is held)

  begun : (result : Result (Unit {0}) RunFault) → Served result → Begun result
  begun result turn = subst (λ (n : ℕ). AnswersPair result S T p (room_output name n start stalled was kept) (room_output named at room stalls is held)) at_start turn

  bytes_are : named ≡ name → room ≡ bytes
  bytes_are e = sym (back (sym (e ∙ same)))

  pub given_done : (n : ℕ) → n ≡ at → Served (Ok tt) → FillsRoom (Ok n) S T p bytes
  given_done n e turn =
      let found = begun (Ok tt) turn in
      let grown = named_same named name (take at room) (answer_bytes S p) found.2.grown in
      subst (λ (k : ℕ). FillsRoom (Ok k) S T p bytes) (sym e) (subst (FillsRoom (Ok at) S T p) (bytes_are grown.0) (found.0, found.1, within, record { bytes_are = grown.1; is = found.3 }))

  broken : (f : RunFault) → Begun (Err f) → FillsRoom (Err f) S T p bytes
  broken (fault.Frame f) found =
      let grown = named_same named name (take at room) (take found.3.count (answer_bytes S p)) found.3.grown in
      let all : take at room ≡ room = take_all at room (omega (arith, full found.3.refused.last)) in
      subst (FillsRoom (Err (fault.Frame f)) S T p) (bytes_are grown.0) (found.0, found.1, (found.3.count, sym all ∙ grown.1))
  broken fault.NoMemory found = (found.0, found.1, found.2)
  broken fault.TimeExhausted found = (found.0, found.1, found.2)
  broken fault.TooLong found = absurd found

  pub given_broken : (f : RunFault) → Served (Err f) → FillsRoom (Err f) S T p bytes
  given_broken f turn = broken f (begun (Err f) turn)

-- a prefix of the answer that fills the room is all of it, if the room is long enough
pub filled_whole : (answer room : List ℕ) (n len : ℕ) → room ≡ take n answer → len ≡ length answer → len ≤ length room → take len room ≡ answer
filled_whole answer room n len e is long =
    let short : length room ≡ min n (length answer) = ap length e ∙ length-take n answer in
    ap (take len) (e ∙ take_all n answer (omega (arith, short, is, long))) ∙ take_all len answer (omega (arith, is))
