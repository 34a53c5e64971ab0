-- How blocks are followed by their lengths.
use Rattle.std.proofs.Common.{◌≡◌, ◌≢◌, ◌⊎◌, inl, inr, ⊎_elim, ℕ, ◌+◌, ◌-◌, ◌≤◌, ◌<◌, Bool, List, [], ◌∷◌, ◌++◌, length, drop, refl, sym, ◌∙◌, subst, arith, if◌then◌else◌, length-drop}
use Rattle.std.proofs.lemmas.Grind.{common_steps}
use Rattle.std.specs.Int.{w32, from_le_bytes}
use Rattle.tb_file_journal.specs.Contents.{is_closed, Front, Ends, Spoiled, Whole, behind_latch, front, contents, records_end}
use Rattle.tb_file_journal.specs.Reading.{HasAhead, asked_bytes}
use Rattle.tb_file_journal.specs.private.Hops.{HopsTo, LeadsFrom, HasPiece}
use Rattle.tb_file_journal.specs.declared.hops.Hop.{Hop}
use Rattle.tb_file_journal.specs.declared.hops.Hop.TheVariants as hops
use Rattle.tb_file_journal.specs.Growing.{Later}
use Rattle.tb_file_journal.specs.Snapshots.{EndsAt, HasDamageBefore, BlocksLeadTo, IsFinal}
use Rattle.tb_file_journal.proofs.BlockWalks.{stays_behind}
use Rattle.tb_file_journal.proofs.Committing.{blocks_length-append}
use Rattle.tb_file_journal.proofs.ScanSteps.{next_damaged, one_more, ahead_behind}
use Rattle.tb_file_journal.proofs.Growths.{final_later, damaged_final, damage_final, leads_within, leads_later}

-- a whole block is as long as its length says

behind_size : (closed : Bool) (n : ℕ) (f : Front) (r : List ℕ) → (f ≡ Whole r → n ≡ length r) → (if closed then Ends else f) ≡ Whole r → (if closed then 11 else 11 + n) ≡ 11 + length r
behind_size closed n f r count is = grind (arith, common_steps)

never : (b : Bool) (r : List ℕ) → (if b then Ends else Spoiled) ≡ Whole r → ⊥
never b r is = grind (arith, common_steps)

pub asked_whole : (bytes r : List ℕ) → front bytes ≡ Whole r → asked_bytes bytes ≡ 11 + length r
asked_whole [] r is = absurd (cc)
asked_whole (w ∷ []) r is = absurd (cc)
asked_whole (w ∷ x ∷ []) r is = absurd (cc)
asked_whole (w ∷ x ∷ y ∷ []) r is = absurd (cc)
asked_whole (w ∷ x ∷ y ∷ z ∷ []) r is = absurd (never (is_closed w x y z) r is)
asked_whole (w ∷ x ∷ y ∷ z ∷ a ∷ []) r is = absurd (never (is_closed w x y z) r is)
asked_whole (w ∷ x ∷ y ∷ z ∷ a ∷ b ∷ []) r is = absurd (never (is_closed w x y z) r is)
asked_whole (w ∷ x ∷ y ∷ z ∷ a ∷ b ∷ c ∷ []) r is = absurd (never (is_closed w x y z) r is)
asked_whole (w ∷ x ∷ y ∷ z ∷ a ∷ b ∷ c ∷ s ∷ []) r is = absurd (never (is_closed w x y z) r is)
asked_whole (w ∷ x ∷ y ∷ z ∷ a ∷ b ∷ c ∷ s ∷ t ∷ []) r is = absurd (never (is_closed w x y z) r is)
asked_whole (w ∷ x ∷ y ∷ z ∷ a ∷ b ∷ c ∷ s ∷ t ∷ u ∷ []) r is = absurd (never (is_closed w x y z) r is)
asked_whole (w ∷ x ∷ y ∷ z ∷ a ∷ b ∷ c ∷ s ∷ t ∷ u ∷ v ∷ rest) r is =
    let size = a ∷ b ∷ c ∷ [] in
    let sum = from_le_bytes w32 (s ∷ t ∷ u ∷ v ∷ []) in
    behind_size (is_closed w x y z) (from_le_bytes w32 (size ++ 0 ∷ [])) (behind_latch size sum rest) r (λ whole. (stays_behind size sum rest r whole).count) is

-- after the records that a file begins with

module _ (at : ℕ) (file later : List ℕ) (after : Later file later) (opened : front (drop at file) ≢ Ends) where
  abbrev next : ℕ
  next = at + asked_bytes (drop at file)

  -- a whole block
  one_further : (ends : EndsAt at file) (r : List ℕ) → front (drop at file) ≡ Whole r → EndsAt next file
  one_further ends r is = record {
    records = ends.records ++ r ∷ [];
    begins = one_more ends.records file ends.begins r (subst (λ (k : ℕ). front (drop k file) ≡ Whole r) ends.is is);
    is = omega (arith, ends.is, asked_whole (drop at file) r is, blocks_length-append ends.records (r ∷ []));
  }

  -- one with another checksum
  over_damage : (ends : EndsAt at file) → front (drop at file) ≡ Spoiled → next ≤ length later → HasDamageBefore next file
  over_damage ends is within =
      let here : front (drop (records_end ends.records) file) ≡ Spoiled = subst (λ (k : ℕ). front (drop k file) ≡ Spoiled) ends.is is in
      let same = final_later file later (damaged_final file (records_end ends.records) (next_damaged ends.records file ends.begins here)) after in
      record {
        records = ends.records;
        begins = ends.begins;
        damaged = here;
        before = subst (λ (k : ℕ). k + asked_bytes (drop k file) ≤ next) ends.is (let e : next ≤ next = omega arith in e);
        within = subst (λ (l : List ℕ). next ≤ length l) same within;
      }

  past_damage : (past : HasDamageBefore at file) → next ≤ length later → HasDamageBefore next file
  past_damage past within =
      let same = final_later file later (damage_final at file past) after in
      record {
        records = past.records;
        begins = past.begins;
        damaged = past.damaged;
        before = omega (arith, past.before);
        within = subst (λ (l : List ℕ). next ≤ length l) same within;
      }

  pub leads_further : BlocksLeadTo at file → next ≤ length later → BlocksLeadTo next file
  leads_further leads within = ⊎_elim (λ ends. by ends (front (drop at file)) refl) (λ past. inr (past_damage past within)) leads
    where
      by : (ends : EndsAt at file) (f : Front) → front (drop at file) ≡ f → BlocksLeadTo next file
      by ends Ends is = absurd (opened is)
      by ends Spoiled is = inr (over_damage ends is within)
      by ends (Whole r) is = inl (one_further ends r is)

  -- a block that is not whole
  pub leads_no_further : BlocksLeadTo at file → (front (drop at file) ≡ Spoiled) ⊎ (length later < next) → IsFinal (contents file)
  leads_no_further leads broken = ⊎_elim (λ ends. by ends (front (drop at file)) refl) (λ past. damage_final at file past) leads
    where
      by : (ends : EndsAt at file) (f : Front) → front (drop at file) ≡ f → IsFinal (contents file)
      by ends Ends is = absurd (opened is)
      by ends Spoiled is = damaged_final file (records_end ends.records) (next_damaged ends.records file ends.begins (subst (λ (k : ℕ). front (drop k file) ≡ Spoiled) ends.is is))
      by ends (Whole r) is = ⊎_elim
          (λ spoiled. let clash : Whole r ≡ Spoiled = sym is ∙ spoiled in absurd (cc))
          (λ short. let there = leads_within next later (leads_later next file later (inl (one_further ends r is)) after) in absurd (omega (arith, short, there)))
          broken

-- how far the blocks of a piece were followed

pub record IsFollowed (at len : ℕ) (piece : List ℕ) (end : ℕ) (rest : List ℕ) : Type 0 where
  pub begins : at ≤ end
  pub place : end + length rest ≡ at + length piece
  pub leads : (file later : List ℕ) → HasPiece at file later piece len → BlocksLeadTo at file → BlocksLeadTo end file × HasAhead 11 end file rest

pub followed_first : (at len : ℕ) (piece : List ℕ) → IsFollowed at len piece at piece
followed_first at len piece = record { begins = omega arith; place = refl; leads = λ file later has leads. (leads, has.ahead) }

module _ (at len : ℕ) (piece : List ℕ) (end : ℕ) (rest : List ℕ) (followed : IsFollowed at len piece end rest) where
  module _ (next : ℕ) (hop : (file : List ℕ) → HasAhead 11 end file rest → HopsTo (hops.Further next) end file len) where
    leads_to : (file later : List ℕ) → HasPiece at file later piece len → BlocksLeadTo at file → BlocksLeadTo next file
    leads_to file later has leads =
        let before = followed.leads file later has leads in
        let there = hop file before.1 in
        subst (λ (k : ℕ). BlocksLeadTo k file) (sym there.1)
        (leads_further end file later has.after there.0 before.0 (omega (arith, there.1, there.2, has.counts)))

    pub followed_next : end < next → 11 ≤ length rest → next - end ≤ length rest - 11 → (behind : List ℕ) → behind ≡ drop (next - end) rest → IsFollowed at len piece next behind
    followed_next further some room behind is =
        let k = next - end in
        let long : length (drop k rest) ≡ length rest - k = length-drop k rest in
        subst (IsFollowed at len piece next) (sym is) (record {
          begins = omega (arith, followed.begins, further);
          place = omega (arith, followed.place, long, further, some, room);
          leads = λ file later has leads. (
            leads_to file later has leads,
            record {
              same = ahead_behind k end next file rest (omega (arith, some, room)) (omega (arith, further)) (followed.leads file later has leads).1.same;
              enough = inl (omega (arith, long, some, room));
            },
          );
        })

    pub leads_on : (file later : List ℕ) → HasPiece at file later piece len → BlocksLeadTo at file → BlocksLeadTo next later
    leads_on file later has leads = leads_later next file later (leads_to file later has leads) has.after

  pub leads_from : (hop : Hop) → ((file : List ℕ) → HasAhead 11 end file rest → HopsTo hop end file len)
      → (file later : List ℕ) → HasPiece at file later piece len → BlocksLeadTo at file → LeadsFrom hop file later
  leads_from (hops.Further next) hop file later has leads = leads_on next hop file later has leads
  leads_from (hops.Closed last) hop file later has leads =
      let before = followed.leads file later has leads in
      let there = hop file before.1 in
      subst (λ (k : ℕ). BlocksLeadTo k file × (front (drop k file) ≡ Ends)) (sym there.0) (before.0, there.1)
  leads_from hops.Broken hop file later has leads =
      let before = followed.leads file later has leads in
      let there = hop file before.1 in
      leads_no_further end file later has.after there.0 before.0 (⊎_elim (λ spoiled. inl spoiled) (λ short. inr (omega (arith, short, has.counts))) there.1)
