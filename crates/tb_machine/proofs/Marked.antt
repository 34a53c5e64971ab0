-- Histories with a mark: one entry more, and the mark at the end.
use Rattle.std.proofs.Common.{◌≡◌, ℕ, ◌≤◌, List, [], ◌∷◌, ◌++◌, length, take, drop, fold, flat_map, Option, Some, None, refl, sym, ap, subst, ◌∙◌, IsTrue, arith, append_assoc, append-nil, length-append}
use Rattle.std.proofs.lemmas.Grind.{flat_map-append}
use Rattle.std.proofs.lemmas.List.{take-append-le, drop-append-le, take_all, drop_all}
use Rattle.tb_records.specs.declared.bodies.Body.{Body}
use Rattle.tb_records.specs.declared.bodies.Body.TheVariants.{CreateAccounts, CreateTransfers}
use Rattle.tb_records.specs.declared.limits.Profile.{Profile}
use Rattle.tb_records.specs.declared.limits.Profile.TheVariants.{One, Two}
use Rattle.tb_records.specs.DumpBytes.{head_bytes, mark_bytes}
use Rattle.tb_records.specs.Ordered.{Each}
use Rattle.tb_ledger.specs.Books.{Books, profile_of}
use Rattle.tb_ledger.proofs.Profiles.{profile_accounts, profile_transfers}
use Rattle.tb_machine.specs.declared.entries.Entry.{Entry}
use Rattle.tb_machine.specs.Histories.{State, start, executed, fits, reply_at, step, to_two, LegalFrom}
use Rattle.tb_machine.specs.Dumps.{dumped, history_bytes, IsDumpedEntry, IsPlace, DumpSpells, replies_along, marked_after, after_with, IsLegalWith, replies_with}
use Rattle.tb_machine.proofs.Legal.{fold_snoc, legal_join}

-- the profile that a state goes by

profile_executed : (B : Books) (body : Body) (time : ℕ) → profile_of (executed B body time) ≡ profile_of B
profile_executed B (CreateAccounts events) time = profile_accounts B events time
profile_executed B (CreateTransfers events) time = profile_transfers B events time
profile_executed B body time = refl

pub profile_step : (S : State) (e : Entry) → profile_of (step S e).books ≡ profile_of S.books
profile_step S e = profile_executed S.books e.request.body e.time

pub profile_start : (profile : Profile) (clients_max : ℕ) → profile_of (start profile clients_max).books ≡ profile
profile_start One clients_max = refl
profile_start Two clients_max = refl

-- replies

along_snoc : (S : State) (h : List Entry) (e : Entry) → replies_along S (h ++ e ∷ []) ≡ replies_along S h ++ reply_at (fold step S h) e ∷ []
along_snoc S [] e = refl
along_snoc S (x ∷ xs) e = ap (λ l. reply_at S x ∷ l) (along_snoc (step S x) xs e)

-- one entry more

module _ (h : List Entry) (e : Entry) (n : ℕ) (within : n ≤ length h) where
  front_same : take n (h ++ e ∷ []) ≡ take n h
  front_same = take-append-le n h (e ∷ []) within

  behind_more : drop n (h ++ e ∷ []) ≡ drop n h ++ e ∷ []
  behind_more = drop-append-le n h (e ∷ []) within

pub bytes_snoc : (profile : Profile) (place : Option ℕ) (h : List Entry) (e : Entry) → IsPlace profile place h → history_bytes place (h ++ e ∷ []) ≡ history_bytes place h ++ dumped e
bytes_snoc profile None h e place = flat_map-append dumped h (e ∷ []) ∙ ap (λ l. flat_map dumped h ++ l) (append-nil (dumped e))
bytes_snoc profile (Some n) h e place =
    let front = flat_map dumped (take n h) in
    let behind = flat_map dumped (drop n h) in
    (λ i. flat_map dumped (front_same h e n place.1 i) ++ (mark_bytes ++ flat_map dumped (behind_more h e n place.1 i)))
    ∙ ap (λ l. front ++ (mark_bytes ++ l)) (flat_map-append dumped (drop n h) (e ∷ []) ∙ ap (λ l. behind ++ l) (append-nil (dumped e)))
    ∙ ap (λ l. front ++ l) (sym (append_assoc mark_bytes behind (dumped e)))
    ∙ sym (append_assoc front (mark_bytes ++ behind) (dumped e))

pub place_snoc : (profile : Profile) (place : Option ℕ) (h : List Entry) (e : Entry) → IsPlace profile place h → IsPlace profile place (h ++ e ∷ [])
place_snoc profile None h e place = tt
place_snoc profile (Some n) h e place = (place.0, omega (arith, place.1, length-append h (e ∷ [])))

-- a dump whose history is encoded in so many more bytes
pub spells_more : (profile : Profile) (clients_max : ℕ) (h m : List Entry) (place other : Option ℕ) (bytes more : List ℕ) → DumpSpells bytes profile clients_max h place
    → history_bytes other m ≡ history_bytes place h ++ more → Each IsDumpedEntry m → IsPlace profile other m → DumpSpells (bytes ++ more) profile clients_max m other
spells_more profile clients_max h m place other bytes more spells is entries marked = record {
  bytes_are = ap (λ l. l ++ more) spells.bytes_are ∙ append_assoc (head_bytes profile clients_max) (history_bytes place h) more ∙ ap (λ l. head_bytes profile clients_max ++ l) (sym is);
  clients = spells.clients;
  entries = entries;
  marked = marked;
}

module _ (profile : Profile) (clients_max : ℕ) where
  pub with_snoc_in : (n : ℕ) (h : List Entry) (e : Entry) → n ≤ length h → after_with profile clients_max (Some n) (h ++ e ∷ []) ≡ step (after_with profile clients_max (Some n) h) e
  with_snoc_in n h e within =
      (λ i. fold step (marked_after profile clients_max (front_same h e n within i)) (behind_more h e n within i))
      ∙ fold_snoc step (marked_after profile clients_max (take n h)) (drop n h) e

  pub with_snoc : (place : Option ℕ) (h : List Entry) (e : Entry) → IsPlace profile place h → after_with profile clients_max place (h ++ e ∷ []) ≡ step (after_with profile clients_max place h) e
  with_snoc None h e place = fold_snoc step (start profile clients_max) h e
  with_snoc (Some n) h e place = with_snoc_in n h e place.1

  pub legal_snoc_in : (n : ℕ) (h : List Entry) (e : Entry) → n ≤ length h → IsLegalWith profile clients_max (Some n) h → IsTrue (fits (after_with profile clients_max (Some n) h) e) → IsLegalWith profile clients_max (Some n) (h ++ e ∷ [])
  legal_snoc_in n h e within legal next =
      subst (λ (front : List Entry). LegalFrom (start profile clients_max) front × LegalFrom (marked_after profile clients_max front) (drop n (h ++ e ∷ []))) (sym (front_same h e n within))
      (legal.0, subst (λ (behind : List Entry). LegalFrom (marked_after profile clients_max (take n h)) behind) (sym (behind_more h e n within)) (legal_join (marked_after profile clients_max (take n h)) (drop n h) (e ∷ []) legal.1 (next, tt)))

  pub legal_with_snoc : (place : Option ℕ) (h : List Entry) (e : Entry) → IsPlace profile place h → IsLegalWith profile clients_max place h → IsTrue (fits (after_with profile clients_max place h) e) → IsLegalWith profile clients_max place (h ++ e ∷ [])
  legal_with_snoc None h e place legal next = legal_join (start profile clients_max) h (e ∷ []) legal (next, tt)
  legal_with_snoc (Some n) h e place legal next = legal_snoc_in n h e place.1 legal next

  pub replies_with_snoc : (place : Option ℕ) (h : List Entry) (e : Entry) → IsPlace profile place h
      → replies_with profile clients_max place (h ++ e ∷ []) ≡ replies_with profile clients_max place h ++ reply_at (after_with profile clients_max place h) e ∷ []
  replies_with_snoc None h e place = along_snoc (start profile clients_max) h e
  replies_with_snoc (Some n) h e place =
      let front = replies_along (start profile clients_max) (take n h) in
      let S = marked_after profile clients_max (take n h) in
      (λ i. replies_along (start profile clients_max) (front_same h e n place.1 i) ++ replies_along (marked_after profile clients_max (front_same h e n place.1 i)) (behind_more h e n place.1 i))
      ∙ ap (λ l. front ++ l) (along_snoc S (drop n h) e)
      ∙ sym (append_assoc front (replies_along S (drop n h)) (reply_at (fold step S (drop n h)) e ∷ []))

  -- a mark at the end

  all_front : (h : List Entry) → take (length h) h ≡ h
  all_front h = take_all (length h) h (omega arith)

  none_behind : (h : List Entry) → drop (length h) h ≡ []
  none_behind h = drop_all (length h) h (omega arith)

  pub bytes_marked : (h : List Entry) → history_bytes (Some (length h)) h ≡ history_bytes None h ++ mark_bytes
  bytes_marked h =
      (λ i. flat_map dumped (all_front h i) ++ (mark_bytes ++ flat_map dumped (none_behind h i)))
      ∙ ap (λ l. flat_map dumped h ++ l) (append-nil mark_bytes)

  pub with_marked : (h : List Entry) → after_with profile clients_max (Some (length h)) h ≡ to_two (after_with profile clients_max None h)
  with_marked h = λ i. fold step (marked_after profile clients_max (all_front h i)) (none_behind h i)

  pub legal_marked : (h : List Entry) → IsLegalWith profile clients_max None h → IsLegalWith profile clients_max (Some (length h)) h
  legal_marked h legal =
      subst (λ (front : List Entry). LegalFrom (start profile clients_max) front × LegalFrom (marked_after profile clients_max front) (drop (length h) h)) (sym (all_front h))
      (legal, subst (λ (behind : List Entry). LegalFrom (marked_after profile clients_max h) behind) (sym (none_behind h)) tt)

  pub replies_marked : (h : List Entry) → replies_with profile clients_max (Some (length h)) h ≡ replies_with profile clients_max None h
  replies_marked h =
      (λ i. replies_along (start profile clients_max) (all_front h i) ++ replies_along (marked_after profile clients_max (all_front h i)) (none_behind h i))
      ∙ append-nil (replies_along (start profile clients_max) h)
