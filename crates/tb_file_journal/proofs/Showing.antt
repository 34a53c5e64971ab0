-- What a snapshot shows, and what it shows later.
use Rattle.std.proofs.Common.{◌≡◌, ◌≢◌, inl, inr, ⊎_elim, ℕ, ◌+◌, ◌-◌, ◌≤◌, Bool, true, false, List, [], ◌∷◌, ◌++◌, length, take, drop, replicate, refl, sym, ◌∙◌, ap, subst, arith, length-drop, length-append}
use Rattle.std.proofs.lemmas.List.{append-nil, take-take, take_at, take_all, drop-take, length-take-le, length-replicate}
use Rattle.std.proofs.lemmas.Bool.{cases_lt}
use Rattle.std.specs.Int.{w32, from_le_bytes}
use Rattle.tb_file_journal.specs.Device.{ReadsAt}
use Rattle.tb_file_journal.specs.Contents.{latch_closed, is_closed, Front, Ends, Spoiled, Whole, front, Damaged, Records, contents, records_end}
use Rattle.tb_file_journal.specs.Scans.{BeginsWith}
use Rattle.tb_file_journal.specs.Reading.{HasAhead, asked_bytes}
use Rattle.tb_file_journal.specs.Growing.{Extends, Later, Grown}
use Rattle.tb_file_journal.specs.Snapshots.{Snapped, behind_blocks, EndsAt, HasDamageBefore, BlocksLeadTo, IsFinal, ShowsBlocks, ShowsOf, HoldsBytes}
use Rattle.tb_file_journal.proofs.BlockWalks.{ended, latch_there}
use Rattle.tb_file_journal.proofs.Committing.{blocks_length-append}
use Rattle.tb_file_journal.proofs.ScanSteps.{goes_on, next_none, next_damaged, one_more}
use Rattle.tb_file_journal.proofs.Steps.{closed_front}
use Rattle.tb_file_journal.proofs.Fronts.{at_least, asked_told, front_told}
use Rattle.tb_file_journal.proofs.Growths.{extends_later, later_extends, final_later, damaged_final, damage_final, later_same, later_then, begins_part, begins_later, leads_within, leads_kept, leads_later}

-- as many bytes as are needed decide what is at their head

asked_least : (l : List ℕ) → 11 ≤ asked_bytes l
asked_least [] = omega arith
asked_least (w ∷ []) = omega arith
asked_least (w ∷ x ∷ []) = omega arith
asked_least (w ∷ x ∷ y ∷ []) = omega arith
asked_least (w ∷ x ∷ y ∷ z ∷ []) = omega arith
asked_least (w ∷ x ∷ y ∷ z ∷ a ∷ []) = omega arith
asked_least (w ∷ x ∷ y ∷ z ∷ a ∷ b ∷ []) = omega arith
asked_least (w ∷ x ∷ y ∷ z ∷ a ∷ b ∷ c ∷ rest) = at_least (is_closed w x y z) (from_le_bytes w32 (a ∷ b ∷ c ∷ 0 ∷ []))

front_same : (m : ℕ) (l k : List ℕ) → take m k ≡ take m l → asked_bytes l ≤ m → front k ≡ front l
front_same m l k same le =
    let four : 7 ≤ m = omega (arith, le, asked_least l) in
    let asks : asked_bytes k ≡ asked_bytes l = sym (asked_told m k four) ∙ ap asked_bytes same ∙ asked_told m l four in
    sym (front_told m k (omega (arith, asks, le))) ∙ ap front same ∙ front_told m l le

-- a latch that is closed was closed before

pub closed_before : (end : ℕ) (a b : List ℕ) → BlocksLeadTo end a → Later a b → front (drop end b) ≡ Ends → front (drop end a) ≡ Ends
closed_before end a b leads after closed = by (front (drop end a)) refl
  where
    as_final : (f : Front) → front (drop end a) ≡ f → IsFinal (contents a) → f ≡ Ends
    as_final f is final =
        let same : b ≡ a = final_later a b final after in
        sym is ∙ ap (λ (l : List ℕ). front (drop end l)) (sym same) ∙ closed

    of_whole : (r : List ℕ) → front (drop end a) ≡ Whole r → EndsAt end a → ⊥
    of_whole r is ends =
        let rs = ends.records in
        let here : front (drop (records_end rs) a) ≡ Whole r = subst (λ (k : ℕ). front (drop k a) ≡ Whole r) ends.is is in
        let there : front (drop (records_end rs) b) ≡ Ends = subst (λ (k : ℕ). front (drop k b) ≡ Ends) ends.is closed in
        let longer : BeginsWith (rs ++ r ∷ []) b = begins_later (rs ++ r ∷ []) a b (one_more rs a ends.begins r here) after in
        let all : contents b ≡ Records rs = next_none rs b (begins_later rs a b ends.begins after) there in
        let part = begins_part (rs ++ r ∷ []) rs b longer all in
        absurd (omega (arith, ap length part.1, length-append (rs ++ r ∷ []) part.0, length-append rs (r ∷ [])))

    by : (f : Front) → front (drop end a) ≡ f → front (drop end a) ≡ Ends
    by Ends is = is
    by Spoiled is = ⊎_elim
        (λ ends. is ∙ as_final Spoiled is (damaged_final a (records_end ends.records) (next_damaged ends.records a ends.begins (subst (λ (k : ℕ). front (drop k a) ≡ Spoiled) ends.is is))))
        (λ past. is ∙ as_final Spoiled is (damage_final end a past)) leads
    by (Whole r) is = ⊎_elim
        (λ ends. absurd (of_whole r is ends))
        (λ past. is ∙ as_final (Whole r) is (damage_final end a past)) leads

-- the blocks that are shown

pub length-behind : (others : ℕ) → length (behind_blocks others) ≡ 4 + others
length-behind others = omega (arith, length-append latch_closed (replicate others 0), length-replicate {A = ℕ} others 0)

module _ (end len : ℕ) (file shown : List ℕ) (shows : ShowsBlocks end len file shown) where
  within : end ≤ length file
  within = leads_within end file shows.leads

  long : length (take end file) ≡ end
  long = length-take-le end file within

  abbrev others : ℕ
  others = len - (end + 4)

  pub room : end + 4 ≤ length file
  room = omega (arith, within, (latch_there (drop end file) shows.closed).0, length-drop end file)

  pub shown_length : length shown ≡ length file
  shown_length = omega (arith, room, shows.sized, ap length shows.is, length-append (take end file) (behind_blocks others), long, length-behind others)

  pub shown_blocks : take end shown ≡ take end file
  shown_blocks = ap (take end) shows.is ∙ take_at (take end file) (behind_blocks others) end long

  of_records : EndsAt end file → contents shown ≡ contents file
  of_records ends =
      let rs = ends.records in
      let here : front (drop (records_end rs) file) ≡ Ends = subst (λ (k : ℕ). front (drop k file) ≡ Ends) ends.is shows.closed in
      let cut : shown ≡ take (records_end rs) file ++ behind_blocks others = subst (λ (k : ℕ). shown ≡ take k file ++ behind_blocks others) ends.is shows.is in
      ap contents cut ∙ goes_on rs file ends.begins (behind_blocks others) ∙ ended rs (records_end rs) (behind_blocks others) (closed_front (replicate others 0))
      ∙ sym (next_none rs file ends.begins here)

  of_damage : HasDamageBefore end file → contents shown ≡ contents file
  of_damage past =
      let rs = past.records in
      let d = records_end rs in
      let m = end - d in
      let far : end ≡ d + m = omega (arith, past.before) in
      let same : take (d + m) shown ≡ take (d + m) file = subst (λ (k : ℕ). take k shown ≡ take k file) far shown_blocks in
      let behind : take m (drop d shown) ≡ take m (drop d file) = sym (drop-take d m shown) ∙ ap (drop d) same ∙ drop-take d m file in
      let before : take d shown ≡ take d file =
      sym (take-take d end shown (omega (arith, past.before))) ∙ ap (take d) shown_blocks ∙ take-take d end file (omega (arith, past.before)) in
      let begins : BeginsWith rs shown = ap (λ (l : List ℕ). contents (l ++ latch_closed)) before ∙ past.begins in
      let bad : front (drop d shown) ≡ Spoiled = front_same m (drop d file) (drop d shown) behind (omega (arith, past.before)) ∙ past.damaged in
      next_damaged rs shown begins bad ∙ sym (next_damaged rs file past.begins past.damaged)

  pub blocks_contents : contents shown ≡ contents file
  blocks_contents = ⊎_elim of_records of_damage shows.leads

pub shown_contents : (closed : Bool) (end len : ℕ) (file shown : List ℕ) → ShowsOf closed end len file shown → contents shown ≡ contents file
shown_contents true end len file shown shows = blocks_contents end len file shown shows
shown_contents false end len file shown shows = ap contents shows.is

pub shown_size : (closed : Bool) (end len : ℕ) (file shown : List ℕ) → ShowsOf closed end len file shown → length shown ≡ length file
shown_size true end len file shown shows = shown_length end len file shown shows
shown_size false end len file shown shows = ap length shows.is

-- what is shown begins every later file

blocks_prefix : (end len : ℕ) (met shown last : List ℕ) (records : List (List ℕ)) → ShowsBlocks end len met shown → Later met last → contents met ≡ Records records
    → take (records_end records) last ≡ take (records_end records) shown
blocks_prefix end len met shown last records shows after is = ⊎_elim of_ends of_past shows.leads
  where
    of_ends : EndsAt end met → take (records_end records) last ≡ take (records_end records) shown
    of_ends ends =
        let here : front (drop (records_end ends.records) met) ≡ Ends = subst (λ (k : ℕ). front (drop k met) ≡ Ends) ends.is shows.closed in
        let e : Records ends.records ≡ Records records = sym (next_none ends.records met ends.begins here) ∙ is in
        let same : ends.records ≡ records = cc in
        subst (λ (k : ℕ). take k last ≡ take k shown) (ends.is ∙ ap records_end same)
        (leads_kept end met last shows.leads after ∙ sym (shown_blocks end len met shown shows))

    of_past : HasDamageBefore end met → take (records_end records) last ≡ take (records_end records) shown
    of_past past = let clash : Records records ≡ Damaged (records_end past.records) = sym is ∙ next_damaged past.records met past.begins past.damaged in absurd (cc)

pub shown_prefix : (closed : Bool) (end len : ℕ) (met shown last : List ℕ) (records : List (List ℕ)) → ShowsOf closed end len met shown → Later met last
    → contents shown ≡ Records records → Extends records shown last
shown_prefix true end len met shown last records shows after is =
    let was : contents met ≡ Records records = sym (blocks_contents end len met shown shows) ∙ is in
    let grown = extends_later records met last was after in
    record { more = grown.more; reads = grown.reads; same = blocks_prefix end len met shown last records shows after was }
shown_prefix false end len met shown last records shows after is =
    absurd (subst IsFinal (ap contents (sym shows.is) ∙ is) shows.final)

-- a later end

module _ (end len : ℕ) (met shown now : List ℕ) (shows : ShowsBlocks end len met shown) (after : Later met now) where
  -- if the latch is still closed
  still_damaged : (again : List ℕ) → ShowsBlocks end (length now) now again → HasDamageBefore end met → Later shown again
  still_damaged again more past =
      let same : now ≡ met = final_later met now (damage_final end met past) after in
      let size : length now ≡ len = ap length same ∙ sym shows.sized in
      let is : again ≡ shown = more.is ∙ ap (λ (l : List ℕ). take end l ++ behind_blocks (length now - (end + 4))) same
      ∙ ap (λ (n : ℕ). take end met ++ behind_blocks (n - (end + 4))) size ∙ sym shows.is in
      subst (Later shown) (sym is) (later_same shown)

  still_records : (again : List ℕ) → ShowsBlocks end (length now) now again → EndsAt end met → Later shown again
  still_records again more ends =
      let rs = ends.records in
      let here : front (drop (records_end rs) met) ≡ Ends = subst (λ (k : ℕ). front (drop k met) ≡ Ends) ends.is shows.closed in
      let there : front (drop (records_end rs) now) ≡ Ends = subst (λ (k : ℕ). front (drop k now) ≡ Ends) ends.is more.closed in
      later_extends rs shown again (blocks_contents end len met shown shows ∙ next_none rs met ends.begins here) (record {
        more = [];
        reads = blocks_contents end (length now) now again more ∙ next_none rs now (begins_later rs met now ends.begins after) there ∙ ap Records (sym (append-nil rs));
        same = subst (λ (k : ℕ). take k again ≡ take k shown) ends.is
            (shown_blocks end (length now) now again more ∙ leads_kept end met now shows.leads after ∙ sym (shown_blocks end len met shown shows));
      })

  pub shows_still : front (drop end now) ≡ Ends → (again : List ℕ) × ShowsBlocks end (length now) now again × Later shown again
  shows_still closed =
      let again = take end now ++ behind_blocks (length now - (end + 4)) in
      let more : ShowsBlocks end (length now) now again = record { leads = leads_later end met now shows.leads after; closed = closed; sized = refl; is = refl } in
      (again, more, ⊎_elim (still_records again more) (still_damaged again more) shows.leads)

  module _ (opened : front (drop end now) ≢ Ends) (next : Bool) (last size : ℕ) (later again : List ℕ) (since : Later now later) (more : ShowsOf next last size later again) where
    -- the earlier blocks are records, because blocks were added after them
    past_damage : HasDamageBefore end met → Later shown again
    past_damage past =
        let same : now ≡ met = final_later met now (damage_final end met past) after in
        absurd (opened (subst (λ (l : List ℕ). front (drop end l) ≡ Ends) (sym same) shows.closed))

    past_records : (ends : EndsAt end met) → Later shown again
    past_records ends =
        let rs = ends.records in
        let here : front (drop (records_end rs) met) ≡ Ends = subst (λ (k : ℕ). front (drop k met) ≡ Ends) ends.is shows.closed in
        let was : contents met ≡ Records rs = next_none rs met ends.begins here in
        let grown = extends_later rs met later was (later_then met now later after since) in
        let reads : contents again ≡ Records (rs ++ grown.more) = shown_contents next last size later again more ∙ grown.reads in
        let fewer : end ≤ records_end (rs ++ grown.more) = omega (arith, ends.is, blocks_length-append rs grown.more) in
        later_extends rs shown again (blocks_contents end len met shown shows ∙ was) (record {
          more = grown.more;
          reads = reads;
          same = subst (λ (k : ℕ). take k again ≡ take k shown) ends.is
              (front_of next more (rs ++ grown.more) grown.reads fewer ∙ leads_kept end met later shows.leads (later_then met now later after since) ∙ sym (shown_blocks end len met shown shows));
        })
      where
        by_leads : (whole : List (List ℕ)) → contents later ≡ Records whole → end ≤ records_end whole → (blocks : ShowsBlocks last size later again) → EndsAt last later → end ≤ last
        by_leads whole is le blocks ends =
            let there : front (drop (records_end ends.records) later) ≡ Ends = subst (λ (k : ℕ). front (drop k later) ≡ Ends) ends.is blocks.closed in
            let e : Records ends.records ≡ Records whole = sym (next_none ends.records later ends.begins there) ∙ is in
            let same : ends.records ≡ whole = cc in
            omega (arith, ends.is, ap records_end same, le)

        front_of : (next : Bool) → ShowsOf next last size later again → (whole : List (List ℕ)) → contents later ≡ Records whole → end ≤ records_end whole → take end again ≡ take end later
        front_of false all whole is le = ap (take end) all.is
        front_of true blocks whole is le =
            let behind : end ≤ last = ⊎_elim (by_leads whole is le blocks)
            (λ past. let clash : Records whole ≡ Damaged (records_end past.records) = sym is ∙ next_damaged past.records later past.begins past.damaged in absurd (cc)) blocks.leads in
            sym (take-take end last again behind) ∙ ap (take end) (shown_blocks last size later again blocks) ∙ take-take end last later behind

    pub shows_more : Later shown again
    shows_more = ⊎_elim past_records past_damage shows.leads

-- a snapshot whose file has grown

module _ {G : Type 0} (grows : G → List ℕ → Type 0) (old : Snapped G) (now : G) (shown : List ℕ) (held : HoldsBytes grows old shown) where
  pub held_grown : {P : List ℕ → Type 0} → Grown (grows now) held.file P → HoldsBytes grows (record { file = now; end = old.end; len = old.len; closed = old.closed }) shown
  held_grown grown = record {
    file = grown.later;
    now = grown.now;
    shows = record { met = held.shows.met; since = later_then held.shows.met held.file grown.later held.shows.since grown.after; shows = held.shows.shows };
  }

-- reads of it

pub reads_ahead : (count at : ℕ) (file into : List ℕ) → 11 ≤ length into → ReadsAt count at file into → HasAhead 11 at file (take count into)
reads_ahead count at file into some reads =
    let long : length (take count into) ≡ count = length-take-le count into (omega (arith, reads.counts)) in
    record {
      same = reads.bytes ∙ ap (λ (k : ℕ). take k (drop at file)) (sym long);
      enough = ⊎_elim
          (λ less. inr (reads.bytes ∙ take_all count (drop at file) (omega (arith, reads.counts, less, some))))
          (λ le. inl (omega (arith, le, long))) (cases_lt count 11);
    }
