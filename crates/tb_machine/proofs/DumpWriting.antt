-- A whole dump: the pairs so far, and one more.
use Rattle.std.proofs.Common.{◌≡◌, ℕ, ◌+◌, ◌<◌, ◌≤◌, ◌⊎◌, Bool, true, false, cond, ◌&&◌, List, [], ◌∷◌, ◌++◌, length, Option, Some, None, inl, inr, eq-eqb, ne_eqb, ltb, ltb-true, leb-true, refl, sym, ap, subst, ◌∙◌, arith, append_assoc, append-nil, length-append}
use Rattle.std.proofs.lemmas.Bool.{lt-ltb, le-ltb, cases_lt}
use Rattle.tb_records.specs.declared.limits.Profile.TheVariants.{One}
use Rattle.tb_records.specs.DumpBytes.{head_bytes, mark_bytes, entry_bytes, IsClients}
use Rattle.tb_records.specs.Inputs.{IsTimed}
use Rattle.tb_records.specs.Transport.{Input, Output, Sent}
use Rattle.tb_records.specs.declared.limits.TheConstants.{LAST_MOMENT}
use Rattle.tb_ledger.specs.Books.{profile_of}
use Rattle.tb_sessions.specs.declared.rows.Row.{Row}
use Rattle.tb_sessions.specs.Judged.{row_of}
use Rattle.tb_machine.specs.declared.entries.Entry.{Entry}
use Rattle.tb_machine.specs.Histories.{State, start, step, to_two, row_at}
use Rattle.tb_machine.specs.Scripts.{Pair, entry_of, has_time}
use Rattle.tb_machine.specs.Runs.{Reads, is_new_in, PairAnswered}
use Rattle.tb_machine.specs.Dumps.{dumped, history_bytes, IsDumpedEntry, IsPlace, DumpSpells, after_with, place_in, after_at}
use Rattle.tb_machine.specs.DumpRuns.{marks_at, mark_before, changed_profile, added_bytes, DumpsPair, history_made, DumpsHistory}
use Rattle.tb_machine.proofs.Rows.{some_one, each_snoc}
use Rattle.tb_machine.proofs.Lawful.{executed_time}
use Rattle.tb_machine.proofs.Running.{reads_none, reads_one, reads_snoc, sends_none, history_snoc, times_snoc, Working, Joined, Joins}
use Rattle.tb_machine.proofs.Marked.{profile_step, bytes_snoc, spells_more, with_snoc, bytes_marked, with_marked}
use Rattle.tb_machine.proofs.DumpReading.{entry_stored}

-- one entry

module _ (at : Option ℕ) (S U T : State) (e : Entry) (due : Bool) (due_is : due ≡ marks_at at S.commit) (changes : U ≡ changed_profile due S) (entered : T ≡ step U e) where
  stepped : T ≡ step (changed_profile due S) e
  stepped = entered ∙ ap (λ (V : State). step V e) changes

  -- the state after an entry, and what is written of it
  pub entry_made : T ≡ step (changed_profile (marks_at at S.commit) S) e
  entry_made = stepped ∙ ap (λ (b : Bool). step (changed_profile b S) e) due_is

  pub row_made : (client : ℕ) → client ≡ e.request.client → row_of T.rows client ≡ Some (row_at (changed_profile due S) e)
  row_made client is = entry_stored (changed_profile due S) T e client stepped is

  pub bytes_made : (client : ℕ) (row : Row) → client ≡ e.request.client → row_of T.rows client ≡ Some row
      → mark_before due ++ entry_bytes e.commit e.time row.request ≡ mark_before (marks_at at S.commit) ++ dumped e
  bytes_made client row is found =
      let row_is : row ≡ row_at (changed_profile due S) e = some_one (sym found ∙ row_made client is) in
      λ i. mark_before (due_is i) ++ entry_bytes e.commit e.time (row_is i).request

-- the place of the mark

module _ (at : Option ℕ) where
  -- the mark stays where it is, or comes with the entry
  pub record Stays (h : List Entry) (e : Entry) : Type 0 where
    pub same : place_in at (h ++ e ∷ []) ≡ place_in at h
    pub unmarked : marks_at at (length h) ≡ false

  pub record Comes (h : List Entry) (e : Entry) : Type 0 where
    pub here : place_in at (h ++ e ∷ []) ≡ Some (length h)
    pub none : place_in at h ≡ None
    pub marked : marks_at at (length h) ≡ true

pub place_cases : (at : Option ℕ) (h : List Entry) (e : Entry) → Stays at h e ⊎ Comes at h e
place_cases None h e = inl (record { same = refl; unmarked = refl })
place_cases (Some a) h e =
    let longer : length (h ++ e ∷ []) ≡ length h + 1 = length-append h (e ∷ []) in
    elim (cases_lt a (length h)) [
      | inl before ↦ inl (record {
        same = ap (λ b. cond b (Some a) None) (lt-ltb a (length (h ++ e ∷ [])) (omega (arith, longer, before)) ∙ sym (lt-ltb a (length h) before));
        unmarked = ne_eqb a (length h) (omega (arith, before));
      })
      | inr behind ↦ elim (cases_lt (length h) a) [
        | inl later ↦ inl (record {
          same = ap (λ b. cond b (Some a) None) (le-ltb a (length (h ++ e ∷ [])) (omega (arith, longer, later)) ∙ sym (le-ltb a (length h) behind));
          unmarked = ne_eqb a (length h) (omega (arith, later));
        })
        | inr at_most ↦
            let is : a ≡ length h = omega (arith, behind, at_most) in
            inr (record {
              here = ap (λ b. cond b (Some a) None) (lt-ltb a (length (h ++ e ∷ [])) (omega (arith, longer, is))) ∙ ap Some is;
              none = ap (λ b. cond b (Some a) None) (le-ltb a (length h) behind);
              marked = eq-eqb a (length h) is;
            })
      ]
    ]

-- a mark is among the entries
pub placed : (at : Option ℕ) (h : List Entry) → IsPlace One (place_in at h) h
placed None h = tt
placed (Some a) h = by (ltb a (length h)) refl
  where
    by : (b : Bool) → ltb a (length h) ≡ b → IsPlace One (cond b (Some a) None) h
    by true is = (refl, let less = ltb-true a (length h) is in omega (arith, less))
    by false is = tt

module _ (clients_max : ℕ) (at : Option ℕ) (h : List Entry) (e : Entry) where
  -- the state after one more entry
  pub at_snoc : after_at One clients_max at (h ++ e ∷ []) ≡ step (changed_profile (marks_at at (length h)) (after_at One clients_max at h)) e
  at_snoc = elim (place_cases at h e) [
    | inl stays ↦
        ap (λ place. after_with One clients_max place (h ++ e ∷ [])) stays.same
        ∙ with_snoc One clients_max (place_in at h) h e (placed at h)
        ∙ ap (λ b. step (changed_profile b (after_at One clients_max at h)) e) (sym stays.unmarked)
    | inr comes ↦
        ap (λ place. after_with One clients_max place (h ++ e ∷ [])) comes.here
        ∙ with_snoc One clients_max (Some (length h)) h e (refl, omega arith)
        ∙ ap (λ (V : State). step V e) (with_marked One clients_max h ∙ ap (λ place. to_two (after_with One clients_max place h)) (sym comes.none))
        ∙ ap (λ b. step (changed_profile b (after_at One clients_max at h)) e) (sym comes.marked)
  ]

  -- and its bytes
  pub bytes_at_snoc : history_bytes (place_in at (h ++ e ∷ [])) (h ++ e ∷ []) ≡ history_bytes (place_in at h) h ++ (mark_before (marks_at at (length h)) ++ dumped e)
  bytes_at_snoc = elim (place_cases at h e) [
    | inl stays ↦
        ap (λ place. history_bytes place (h ++ e ∷ [])) stays.same
        ∙ bytes_snoc One (place_in at h) h e (placed at h)
        ∙ ap (λ b. history_bytes (place_in at h) h ++ (mark_before b ++ dumped e)) (sym stays.unmarked)
    | inr comes ↦
        ap (λ place. history_bytes place (h ++ e ∷ [])) comes.here
        ∙ bytes_snoc One (Some (length h)) h e (refl, omega arith)
        ∙ ap (λ l. l ++ dumped e) (bytes_marked One clients_max h)
        ∙ append_assoc (history_bytes None h) mark_bytes (dumped e)
        ∙ sym (λ i. history_bytes (comes.none i) h ++ (mark_before (comes.marked i) ++ dumped e))
  ]

module _ (clients_max : ℕ) (at : Option ℕ) where
  abbrev behind : List Entry → State
  behind h = after_at One clients_max at h

  abbrev added : List Entry → Entry → List ℕ
  added h e = mark_before (marks_at at (length h)) ++ dumped e

  -- what holds of the state after the history so far: profile 1 serves up to the mark
  pub record Kept (h : List Entry) : Type 0 where
    pub count : (behind h).commit ≡ length h
    pub late : (behind h).commit ≤ (behind h).books.time
    pub by_one : place_in at h ≡ None → profile_of (behind h).books ≡ One

  kept_snoc : (h : List Entry) (e : Entry) → Kept h → e.commit ≡ (behind h).commit + 1 → (behind h).books.time < e.time → Kept (h ++ e ∷ [])
  kept_snoc h e kept next later =
      let is = at_snoc clients_max at h e in
      let commit = ap (λ (S : State). S.commit) is in
      let time : (behind (h ++ e ∷ [])).books.time ≡ e.time = ap (λ (S : State). S.books.time) is ∙ executed_time (changed_profile (marks_at at (length h)) (behind h)).books e.request.body e.time in
      record {
        count = omega (arith, commit, next, kept.count, length-append h (e ∷ []));
        late = omega (arith, commit, time, next, later, kept.late);
        by_one = λ none. elim (place_cases at h e) [
          | inl stays ↦
              ap (λ (S : State). profile_of S.books) (is ∙ ap (λ b. step (changed_profile b (behind h)) e) stays.unmarked)
              ∙ profile_step (behind h) e ∙ kept.by_one (sym stays.same ∙ none)
          | inr comes ↦ absurd (let both : Some (length h) ≡ None = sym comes.here ∙ none in cc)
        ];
      }

  -- a dump's loop: k pairs were dumped

  abbrev pub Stands : ℕ → List Pair → Type 0
  Stands k ps = (length ps ≡ k) × Kept (history_made clients_max at ps)

  abbrev pub Dumping : ℕ → State → Input → Input → Output → Output → Type 0
  Dumping = Working Reads (DumpsHistory clients_max at) (λ ps. behind (history_made clients_max at ps)) Stands

  pub dumping_none : (S : State) (i : Input) (first written : Output) → IsClients clients_max → S ≡ start One clients_max → Sent (head_bytes One clients_max) first written → Dumping 0 S i i first written
  dumping_none S i first written few is sent = record {
    items = [];
    state_is = is ∙ sym begun;
    stands = (refl, record { count = ap (λ (V : State). V.commit) begun; late = omega (arith, ap (λ (V : State). V.commit) begun); by_one = λ _. ap (λ (V : State). profile_of V.books) begun });
    done = record {
      bytes = head_bytes One clients_max;
      read = reads_none i;
      gives = record {
        times = tt;
        spelled = record {
          bytes_are = sym (ap (λ place. head_bytes One clients_max ++ history_bytes place []) (unplaced at) ∙ append-nil (head_bytes One clients_max));
          clients = few;
          entries = tt;
          marked = placed at [];
        };
      };
      sent = sent;
    };
  }
    where
      unplaced : (at : Option ℕ) → place_in at [] ≡ None
      unplaced None = refl
      unplaced (Some a) = ap (λ b. cond b (Some a) None) (le-ltb a 0 (omega arith))

      begun : behind [] ≡ start One clients_max
      begun = ap (λ place. after_with One clients_max place []) (unplaced at)

  module _ (k : ℕ) (ps : List Pair) (T : State) (bytes : List ℕ) (before after : Input) (written next : Output) (p : Pair) (stands : Stands k ps) (gives : DumpsHistory clients_max at ps bytes)
      (read : Reads (ps ++ p ∷ []) before after) where
    abbrev h : List Entry
    h = history_made clients_max at ps

    abbrev Goal : Type 0
    Goal = Joined Reads (DumpsHistory clients_max at) (λ qs. behind (history_made clients_max at qs)) Stands (k + 1) T bytes before after written next

    more : length (ps ++ p ∷ []) ≡ k + 1
    more = omega (arith, stands.0, length-append ps (p ∷ []))

    -- a pair that is not new
    joins_known : is_new_in (behind h) p ≡ false → T ≡ behind h → next ≡ written → Goal
    joins_known known stays silent =
        let same : history_made clients_max at (ps ++ p ∷ []) ≡ h = history_snoc behind ps p ∙ ap (λ b. cond (b && has_time (behind h) p) (h ++ entry_of (behind h) p ∷ []) h) known in
        record {
          items = ps ++ p ∷ [];
          state_is = stays ∙ ap behind (sym same);
          stands = (more, subst Kept (sym same) stands.1);
          read = read;
          added = [];
          gives = record {
            times = times_snoc behind [] ps p gives.times (λ new. absurd (let both : true ≡ false = sym new ∙ known in cc));
            spelled = subst (λ (m : List Entry). DumpSpells (bytes ++ []) One clients_max m (place_in at m)) (sym same) (subst (λ l. DumpSpells l One clients_max h (place_in at h)) (sym (append-nil bytes)) gives.spelled);
          };
          sent = subst (λ (o : Output). Sent [] written o) (sym silent) (sends_none written);
        }

    -- a new one
    joins_new : IsTimed p → is_new_in (behind h) p ≡ true → has_time (behind h) p ≡ true → T ≡ step (changed_profile (marks_at at (behind h).commit) (behind h)) (entry_of (behind h) p)
        → Sent (added_bytes at (behind h) p) written next → Goal
    joins_new fits new timely stepped sent =
        let e : Entry = entry_of (behind h) p in
        let kept : Kept h = stands.1 in
        let same : history_made clients_max at (ps ++ p ∷ []) ≡ h ++ e ∷ [] = history_snoc behind ps p ∙ ap (λ b. cond b (h ++ e ∷ []) h) (ap (λ b. b && has_time (behind h) p) new ∙ timely) in
        let in_range : e.time ≤ LAST_MOMENT = leb-true e.time LAST_MOMENT timely in
        record {
          items = ps ++ p ∷ [];
          state_is = stepped ∙ ap (λ n. step (changed_profile (marks_at at n) (behind h)) e) kept.count ∙ sym (at_snoc clients_max at h e) ∙ ap behind (sym same);
          stands = (more, subst Kept (sym same) (kept_snoc h e kept refl (omega arith)));
          read = read;
          added = added h e;
          gives = record {
            times = times_snoc behind [] ps p gives.times (λ _. timely);
            spelled = subst (λ (m : List Entry). DumpSpells (bytes ++ added h e) One clients_max m (place_in at m)) (sym same)
                (spells_more One clients_max h (h ++ e ∷ []) (place_in at h) (place_in at (h ++ e ∷ [])) bytes (added h e) gives.spelled (bytes_at_snoc clients_max at h e)
                (each_snoc IsDumpedEntry h e gives.spelled.entries (record { entry = omega arith; commit_fits = omega (arith, kept.late, in_range); time_fits = omega (arith, in_range); request = fits.1 }))
                (placed at (h ++ e ∷ [])));
          };
          sent = subst (λ n. Sent (mark_before (marks_at at n) ++ dumped e) written next) kept.count sent;
        }

  pub dumping_joins : Joins Reads (DumpsHistory clients_max at) (λ ps. behind (history_made clients_max at ps)) Stands PairAnswered (DumpsPair at)
  dumping_joins k ps T bytes before middle after written next stands read gives n =
      let p = n.item in
      let all = reads_snoc ps p before middle after read (reads_one p middle after n.read.1 n.read.2) in
      elim n.act [
        | inl known ↦ joins_known k ps T bytes before after written next p stands gives all known.0 known.1 known.2
        | inr new ↦ joins_new k ps T bytes before after written next p stands gives all n.read.0 new.0 new.1 new.2 new.3
      ]
