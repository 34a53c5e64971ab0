-- The premises of the worked schedule.
use Rattle.std.proofs.Common.{ℕ, zero, suc, inl, inr, List, [], ◌∷◌, refl, arith}
use Rattle.std.specs.List.{All}
use mathlib.Core.List.{IsPrefix}
use Rattle.tb_records.specs.declared.limits.Profile.TheVariants.{One}
use Rattle.tb_records.specs.Frames.{IsId, IsRequest}
use Rattle.tb_records.specs.Messages.{Message}
use Rattle.tb_records.specs.ReplyFrames.{reply_bytes}
use Rattle.tb_machine.specs.declared.entries.Entry.{Entry}
use Rattle.tb_machine.specs.Dumps.{IsLegalWith}
use Rattle.tb_machine.specs.ReplyLaws.{HoldRequests}
use Rattle.tb_caller.specs.Endpoints.{IsAmong}
use Rattle.tb_caller.specs.Networks.{IsReadFrom}
use Rattle.tb_caller.specs.Worked.{worked_register, worked_lookup, first, second_entry, mark, answer_in, BothReturn, LookupWaits}
use Rattle.tb_caller.proofs.Frames.{answer_has_frame}

register_is : IsRequest worked_register
register_is = record { client = omega arith; session = omega arith; request = omega arith; items = tt; lawful = refl }

lookup_is : IsRequest worked_lookup
lookup_is = record { client = omega arith; session = omega arith; request = omega arith; items = one; lawful = refl }
  where
    one : All IsId (5 ∷ [])
    one zero d within = omega arith
    one (suc k) d within = absurd (omega (arith, within))

abbrev both : List Entry
both = first ∷ second_entry ∷ []

legal : IsLegalWith One 4 mark both
legal = ((refl, tt), (refl, tt))

requests : HoldRequests both
requests = (register_is, (lookup_is, tt))

-- an answer is read from its frame
read : (given : List (List ℕ)) (seen : List Entry) (r : Message) → IsPrefix seen both → IsRequest r → IsAmong (reply_bytes (answer_in seen r)) given → IsReadFrom given (answer_in seen r)
read given seen r prefix is among = record {
  frame = reply_bytes (answer_in seen r);
  was_given = among;
  spells = record { bytes_are = refl; is = answer_has_frame One 4 mark seen both r legal requests prefix is };
}

pub both_return : BothReturn
both_return = (
  (
    (refl, tt),
    (
      ((refl, tt, register_is), tt),
      (
        (((refl, tt), tt), register_is, λ ours. inl refl),
        (
          (([], refl), register_is),
          (
            (inl refl, read _ (first ∷ []) worked_register (second_entry ∷ [], refl) register_is (inl refl)),
            (
              (refl, tt),
              (
                (tt, tt),
                (
                  ((refl, refl, lookup_is), tt),
                  (
                    (([], refl), lookup_is),
                    (
                      (((refl, tt), (refl, tt)), lookup_is, λ ours. inl refl),
                      (
                        (tt, tt),
                        (
                          ((refl, refl, lookup_is), tt),
                          (
                            (([], refl), lookup_is),
                            (
                              (inl refl, read _ (first ∷ []) worked_lookup (second_entry ∷ [], refl) lookup_is (inr (inl refl))),
                              (
                                (inl refl, read _ both worked_lookup ([], refl) lookup_is (inl refl)),
                                tt,
                              ),
                            ),
                          ),
                        ),
                      ),
                    ),
                  ),
                ),
              ),
            ),
          ),
        ),
      ),
    ),
  ),
  refl,
)

pub lookup_waits : LookupWaits
lookup_waits = record {
  runs = (
    (refl, tt),
    (
      ((refl, tt, register_is), tt),
      (
        (((refl, tt), tt), register_is, λ ours. inl refl),
        (
          (([], refl), register_is),
          (
            (inl refl, read _ (first ∷ []) worked_register (second_entry ∷ [], refl) register_is (inl refl)),
            ((refl, tt), ((tt, tt), (((refl, refl, lookup_is), tt), tt))),
          ),
        ),
      ),
    ),
  );
  waits = refl;
  has = (_, refl, refl);
}
