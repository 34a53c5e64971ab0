-- The premises of the worked schedule.
use Rattle.std.proofs.Common.{◌≡◌, ◌<◌, ◌^◌, ◌+◌, ◌&&◌, ℕ, zero, suc, inl, true, false, List, [], ◌∷◌, ◌++◌, length, refl, sym, ap, ◌∙◌, IsTrue, arith, ltb, ltb-true, append_assoc, append-nil}
use Rattle.std.specs.List.{All, AllByRecursion, list_all, flat_map}
use Rattle.tb_records.specs.declared.limits.Profile.TheVariants.{One}
use Rattle.tb_records.specs.DumpBytes.{numbers_bytes}
use Rattle.tb_records.specs.Frames.{header_bytes, body_bytes, IsId, IsRequest}
use Rattle.tb_records.specs.Numbers.{le_bytes}
use Rattle.tb_records.specs.RecordBytes.{IsAccount}
use Rattle.tb_records.specs.ReplyFrames.{IsReply}
use Rattle.tb_sessions.specs.Judged.{class_of}
use Rattle.tb_file_journal.specs.Contents.{Fits, block, blocks_length, front, latch_closed, magic, contents}
use Rattle.tb_file_journal.specs.Contents.Front.{Ends}
use Rattle.tb_file_journal.proofs.Blocks.{walk-blocks}
use Rattle.tb_file_journal.proofs.BlockWalks.{ended}
use Rattle.tb_machine.specs.declared.entries.Entry.{Entry}
use Rattle.tb_machine.specs.Dumps.{dumped}
use Rattle.tb_machine.specs.Histories.{State, fits, is_new}
use Rattle.tb_machine.specs.Recording.{IsRecord}
use Rattle.tb_machine.specs.Scripts.{Pair, entry_of, has_time}
use Rattle.tb_machine.proofs.Judging.{both_of}
use Rattle.tb_file.specs.Keeping.{History, history_state, longer, head_record, records_of, IsKeepable, IsLedger}
use Rattle.tb_file.specs.Rounds.{entries_from, answers_from, reply_bytes_from, IsServed, AreServed}
use Rattle.tb_file.specs.Moments.{AtAMoment}
use Rattle.tb_file.proofs.Lasting.{keepable_longer}
use Rattle.tb_file.proofs.Pairs.{replies_join}
use Rattle.tb_caller.specs.Streams.{IsReadIn}
use Rattle.tb_caller_laws.specs.Worked.{register, lookup, file_of, empty, kept, torn_block, reads, then, reply_of, reply_in, IsWorked}
use Rattle.tb_caller_laws.proofs.Crashes.{replies_spelled}

-- files

small_bytes : (bs : List ℕ) → list_all (λ b. ltb b 256) bs ≡ true → AllByRecursion (λ byte. byte < 256) bs
small_bytes [] e = tt
small_bytes (b ∷ bs) e = let both = both_of (ltb b 256) (list_all (λ b. ltb b 256) bs) e in (ltb-true b 256 both.0, small_bytes bs both.1)

file_is : (h : History) (torn : List ℕ) → IsKeepable h → AllByRecursion Fits (records_of h) → front (latch_closed ++ torn) ≡ Ends → IsLedger h (file_of h torn)
file_is h torn keepable fits ends = record {
  reads = ap contents (append_assoc magic (flat_map block (records_of h) ++ latch_closed) torn ∙ ap (λ l. magic ++ l) (append_assoc (flat_map block (records_of h)) latch_closed torn))
      ∙ walk-blocks (records_of h) 8 (latch_closed ++ torn) fits
      ∙ ended (records_of h) (8 + blocks_length (records_of h)) (latch_closed ++ torn) ends;
  keepable = keepable;
}

-- requests, and the pairs that are served

register_seven : IsRequest (register 7)
register_seven = record { client = omega arith; session = omega arith; request = omega arith; items = tt; lawful = refl }

register_eight : IsRequest (register 8)
register_eight = record { client = omega arith; session = omega arith; request = omega arith; items = tt; lawful = refl }

five : All IsId (5 ∷ [])
five zero d within = omega arith
five (suc k) d within = absurd (omega (arith, within))

first_lookup : IsRequest (lookup 7 1 1)
first_lookup = record { client = omega arith; session = omega arith; request = omega arith; items = five; lawful = refl }

second_lookup : IsRequest (lookup 7 1 2)
second_lookup = record { client = omega arith; session = omega arith; request = omega arith; items = five; lawful = refl }

last_lookup : IsRequest (lookup 8 3 1)
last_lookup = record { client = omega arith; session = omega arith; request = omega arith; items = five; lawful = refl }

none : All IsAccount []
none k d within = absurd (omega (arith, within))

-- a pair that is entered, and one that is not
entered_pair : (S : State) (p : Pair) → IsTrue (fits S (entry_of S p)) → has_time S p ≡ true → IsRecord (dumped (entry_of S p)) (entry_of S p) → IsReply (reply_of S p) → IsServed S p
entered_pair S p legal time recorded reply = record { timely = λ _. time; legal = λ _. legal; recorded_is = λ _. recorded; reply = reply }

known_pair : (S : State) (p : Pair) → is_new (class_of S.rows p.1) ≡ false → IsReply (reply_of S p) → IsServed S p
known_pair S p known reply = record {
  timely = λ new. absurd (let two : true ≡ false = sym new ∙ known in cc);
  legal = λ is. absurd (let two : true ≡ false = sym is ∙ ap (λ b. b && has_time S p) known in cc);
  recorded_is = λ is. absurd (let two : true ≡ false = sym is ∙ ap (λ b. b && has_time S p) known in cc);
  reply = reply;
}

abbrev pub S0 : State
S0 = history_state empty

pub register_served : IsServed S0 (10, register 7)
register_served = entered_pair S0 (10, register 7) refl refl (record { bytes_are = refl; commit_fits = omega arith; time_fits = omega arith; request = register_seven })
    (record { client = omega arith; session = omega arith; request = omega arith; commit = omega arith; body = tt; right = refl })

pub lost_served : IsServed (history_state kept) (20, lookup 7 1 1)
lost_served = entered_pair (history_state kept) (20, lookup 7 1 1) refl refl (record { bytes_are = refl; commit_fits = omega arith; time_fits = omega arith; request = first_lookup })
    (record { client = omega arith; session = omega arith; request = omega arith; commit = omega arith; body = none; right = refl })

pub served_one : IsServed (then 0) (30, lookup 7 1 1)
served_one = entered_pair (then 0) (30, lookup 7 1 1) refl refl (record { bytes_are = refl; commit_fits = omega arith; time_fits = omega arith; request = first_lookup })
    (record { client = omega arith; session = omega arith; request = omega arith; commit = omega arith; body = none; right = refl })

served_two : IsServed (then 1) (40, lookup 7 1 1)
served_two = known_pair (then 1) (40, lookup 7 1 1) refl
    (record { client = omega arith; session = omega arith; request = omega arith; commit = omega arith; body = none; right = refl })

served_three : IsServed (then 2) (50, register 8)
served_three = entered_pair (then 2) (50, register 8) refl refl (record { bytes_are = refl; commit_fits = omega arith; time_fits = omega arith; request = register_eight })
    (record { client = omega arith; session = omega arith; request = omega arith; commit = omega arith; body = tt; right = refl })

served_four : IsServed (then 3) (60, lookup 7 1 2)
served_four = known_pair (then 3) (60, lookup 7 1 2) refl
    (record { client = omega arith; session = omega arith; request = omega arith; commit = omega arith; body = tt; right = refl })

served_five : IsServed (then 4) (70, lookup 8 3 1)
served_five = entered_pair (then 4) (70, lookup 8 3 1) refl refl (record { bytes_are = refl; commit_fits = omega arith; time_fits = omega arith; request = last_lookup })
    (record { client = omega arith; session = omega arith; request = omega arith; commit = omega arith; body = none; right = refl })

-- histories that may be kept, and their files

keepable_empty : IsKeepable empty
keepable_empty = record { clients = (omega arith, omega arith); legal = tt; recorded_are = tt }

pub keepable_kept : IsKeepable kept
keepable_kept = keepable_longer empty ((10, register 7) ∷ []) keepable_empty (register_served, tt)

pub served_reads : AreServed (history_state kept) (reads 5)
served_reads = (served_one, (served_two, (served_three, (served_four, (served_five, tt)))))

abbrev pub after : ℕ → History
after n = longer kept (entries_from (history_state kept) (reads n))

fits_entry : (e : Entry) → length (dumped e) < 2 ^ 24 → list_all (λ b. ltb b 256) (dumped e) ≡ true → Fits (dumped e)
fits_entry e short bytes = record { short = short; bytes = small_bytes (dumped e) bytes }

head_fits : Fits (head_record One 1)
head_fits = record { short = omega arith; bytes = small_bytes (head_record One 1) refl }

fits_first : Fits (dumped (entry_of S0 (10, register 7)))
unfolding le_bytes numbers_bytes header_bytes body_bytes
fits_first = fits_entry (entry_of S0 (10, register 7)) (omega arith) refl

fits_second : Fits (dumped (entry_of (then 0) (30, lookup 7 1 1)))
unfolding le_bytes numbers_bytes header_bytes body_bytes
fits_second = fits_entry (entry_of (then 0) (30, lookup 7 1 1)) (omega arith) refl

fits_third : Fits (dumped (entry_of (then 2) (50, register 8)))
unfolding le_bytes numbers_bytes header_bytes body_bytes
fits_third = fits_entry (entry_of (then 2) (50, register 8)) (omega arith) refl

fits_last : Fits (dumped (entry_of (then 4) (70, lookup 8 3 1)))
unfolding le_bytes numbers_bytes header_bytes body_bytes
fits_last = fits_entry (entry_of (then 4) (70, lookup 8 3 1)) (omega arith) refl

pub file_empty : IsLedger empty (file_of empty [])
file_empty = file_is empty [] keepable_empty (head_fits, tt) refl

pub file_kept : (torn : List ℕ) → front (latch_closed ++ torn) ≡ Ends → IsLedger kept (file_of kept torn)
file_kept torn ends = file_is kept torn keepable_kept (head_fits, (fits_first, tt)) ends

-- moments

first_moment : AtAMoment empty ((10, register 7) ∷ []) (file_of kept []) (reply_in S0 (10, register 7))
first_moment = record { pairs = (10, register 7) ∷ []; others = []; all_are = refl; file_is = file_kept [] refl; unsent = []; replies = sym (append-nil (reply_in S0 (10, register 7))) }

pub power_loss : AtAMoment empty ((10, register 7) ∷ (20, lookup 7 1 1) ∷ []) (file_of kept torn_block) (reply_in S0 (10, register 7))
power_loss = record {
  pairs = (10, register 7) ∷ [];
  others = (20, lookup 7 1 1) ∷ [];
  all_are = refl;
  file_is = file_kept torn_block refl;
  unsent = [];
  replies = sym (append-nil (reply_in S0 (10, register 7)));
}

abbrev pub K : State
K = history_state kept

module _ (n : ℕ) (sent : List ℕ) (told : reply_bytes_from K (reads n) ≡ sent) where
  pub moment : IsLedger (after n) (file_of (after n) []) → AtAMoment kept (reads n) (file_of (after n) []) sent
  moment file = record { pairs = reads n; others = []; all_are = sym (append-nil (reads n)); file_is = file; unsent = []; replies = told ∙ sym (append-nil sent) }

  -- the next reply
  told_next : (p : Pair) → reply_bytes_from K (reads n ++ p ∷ []) ≡ sent ++ reply_in (then n) p
  told_next p = replies_join K (reads n) (p ∷ []) ∙ ap (λ l. l ++ reply_in (then n) p) told

  reads_next : (p : Pair) → AreServed K (reads n) → IsReply (reply_of (then n) p) → IsReadIn (sent ++ reply_in (then n) p) (reply_of (then n) p)
  reads_next p served is = record {
    earlier = answers_from K (reads n);
    rest = [];
    bytes_are = ap (λ l. l ++ reply_in (then n) p) (sym told);
    spelled = replies_spelled K (reads n) served;
    is = is;
  }

abbrev sent_one : List ℕ
sent_one = reply_in (then 0) (30, lookup 7 1 1)

abbrev sent_two : List ℕ
sent_two = sent_one ++ reply_in (then 1) (40, lookup 7 1 1)

abbrev sent_three : List ℕ
sent_three = sent_two ++ reply_in (then 2) (50, register 8)

abbrev sent_four : List ℕ
sent_four = sent_three ++ reply_in (then 3) (60, lookup 7 1 2)

abbrev sent_five : List ℕ
sent_five = sent_four ++ reply_in (then 4) (70, lookup 8 3 1)

told_one : reply_bytes_from K (reads 1) ≡ sent_one
told_one = refl

told_two : reply_bytes_from K (reads 2) ≡ sent_two
told_two = told_next 1 sent_one told_one (40, lookup 7 1 1)

told_three : reply_bytes_from K (reads 3) ≡ sent_three
told_three = told_next 2 sent_two told_two (50, register 8)

told_four : reply_bytes_from K (reads 4) ≡ sent_four
told_four = told_next 3 sent_three told_three (60, lookup 7 1 2)

told_five : reply_bytes_from K (reads 5) ≡ sent_five
told_five = told_next 4 sent_four told_four (70, lookup 8 3 1)

pub keepable_after : (n : ℕ) → AreServed K (reads n) → IsKeepable (after n)
keepable_after n served = keepable_longer kept (reads n) keepable_kept served

file_one : IsLedger (after 1) (file_of (after 1) [])
file_one = file_is (after 1) [] (keepable_after 1 (served_one, tt)) (head_fits, (fits_first, (fits_second, tt))) refl

file_two : IsLedger (after 2) (file_of (after 2) [])
file_two = file_is (after 2) [] (keepable_after 2 (served_one, (served_two, tt))) (head_fits, (fits_first, (fits_second, tt))) refl

file_three : IsLedger (after 3) (file_of (after 3) [])
file_three = file_is (after 3) [] (keepable_after 3 (served_one, (served_two, (served_three, tt)))) (head_fits, (fits_first, (fits_second, (fits_third, tt)))) refl

file_four : IsLedger (after 4) (file_of (after 4) [])
file_four = file_is (after 4) [] (keepable_after 4 (served_one, (served_two, (served_three, (served_four, tt))))) (head_fits, (fits_first, (fits_second, (fits_third, tt)))) refl

pub file_five : IsLedger (after 5) (file_of (after 5) [])
file_five = file_is (after 5) [] (keepable_after 5 served_reads) (head_fits, (fits_first, (fits_second, (fits_third, (fits_last, tt))))) refl

-- what is heard

pub heard_first : IsReadIn (reply_in S0 (10, register 7)) (reply_of S0 (10, register 7))
heard_first = record { earlier = []; rest = []; bytes_are = refl; spelled = tt; is = register_served.reply }

heard_two : IsReadIn sent_two (reply_of (then 1) (40, lookup 7 1 1))
heard_two = reads_next 1 sent_one told_one (40, lookup 7 1 1) (served_one, tt) served_two.reply

heard_three : IsReadIn sent_three (reply_of (then 2) (50, register 8))
heard_three = reads_next 2 sent_two told_two (50, register 8) (served_one, (served_two, tt)) served_three.reply

heard_four : IsReadIn sent_four (reply_of (then 3) (60, lookup 7 1 2))
heard_four = reads_next 3 sent_three told_three (60, lookup 7 1 2) (served_one, (served_two, (served_three, tt))) served_four.reply

heard_five : IsReadIn sent_five (reply_of (then 4) (70, lookup 8 3 1))
heard_five = reads_next 4 sent_four told_four (70, lookup 8 3 1) (served_one, (served_two, (served_three, (served_four, tt)))) served_five.reply

pub is_worked : IsWorked
is_worked = record {
  begins = record { new = file_empty; others = tt };
  runs = (
    (file_empty, tt),
    (
      (refl, tt),
      (
        ((refl, tt, register_seven), tt),
        (
          (register_served, (register_seven, λ ours. inl refl)),
          (
            ((file_of kept [], first_moment), tt),
            (
              (inl refl, inl heard_first),
              (
                (refl, tt),
                (
                  (tt, tt),
                  (
                    ((refl, refl, first_lookup), tt),
                    (
                      (lost_served, (first_lookup, λ ours. inl refl)),
                      (
                        (power_loss, tt),
                        (
                          (tt, tt),
                          (
                            (file_kept torn_block refl, tt),
                            (
                              ((refl, refl, first_lookup), tt),
                              (
                                (served_one, (first_lookup, λ ours. inl refl)),
                                (
                                  ((file_of (after 1) [], moment 1 sent_one told_one file_one), tt),
                                  (
                                    ((refl, refl, first_lookup), tt),
                                    (
                                      (served_two, (first_lookup, λ ours. inl refl)),
                                      (
                                        ((file_of (after 2) [], moment 2 sent_two told_two file_two), tt),
                                        (
                                          (inl refl, inl heard_two),
                                          (
                                            (refl, tt),
                                            (
                                              ((refl, tt, register_eight), tt),
                                              (
                                                (served_three, (register_eight, λ ours. inl refl)),
                                                (
                                                  ((file_of (after 3) [], moment 3 sent_three told_three file_three), tt),
                                                  (
                                                    (inl refl, inl heard_three),
                                                    (
                                                      (refl, tt),
                                                      (
                                                        (tt, tt),
                                                        (
                                                          ((refl, refl, second_lookup), tt),
                                                          (
                                                            (served_four, (second_lookup, λ ours. inl refl)),
                                                            (
                                                              ((file_of (after 4) [], moment 4 sent_four told_four file_four), tt),
                                                              (
                                                                (inl refl, inl heard_four),
                                                                (
                                                                  (refl, tt),
                                                                  (
                                                                    ((refl, tt, last_lookup), tt),
                                                                    (
                                                                      (served_five, (last_lookup, λ ours. inl refl)),
                                                                      (
                                                                        ((file_of (after 5) [], moment 5 sent_five told_five file_five), tt),
                                                                        (
                                                                          (inl refl, inl heard_five),
                                                                          tt,
                                                                        ),
                                                                      ),
                                                                    ),
                                                                  ),
                                                                ),
                                                              ),
                                                            ),
                                                          ),
                                                        ),
                                                      ),
                                                    ),
                                                  ),
                                                ),
                                              ),
                                            ),
                                          ),
                                        ),
                                      ),
                                    ),
                                  ),
                                ),
                              ),
                            ),
                          ),
                        ),
                      ),
                    ),
                  ),
                ),
              ),
            ),
          ),
        ),
      ),
    ),
  );
  seven = refl;
  ended = refl;
  eight = refl;
  history = refl;
  entries = refl;
}
