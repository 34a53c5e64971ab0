-- A legal history, with or without a mark, leads through the states in which its entries are executed.
use Rattle.std.proofs.Common.{◌≡◌, ℕ, ◌<◌, ◌≤◌, Bool, true, false, cond, leb, leb-true, List, [], ◌∷◌, ◌++◌, length, take, drop, fold, Option, Some, None, refl, sym, ap, ◌∙◌, subst, IsTrue, arith, append_assoc, append-nil, length-append, length-take, take-append-drop}
use Rattle.std.proofs.lemmas.Bool.Decides.{nat_tests}
use Rattle.std.proofs.lemmas.List.{take_all, drop_all}
use Rattle.tb_records.specs.declared.limits.Profile.{Profile}
use Rattle.tb_machine.specs.declared.entries.Entry.{Entry}
use Rattle.tb_machine.specs.Histories.{State, start, fits, step, to_two, LegalFrom, IsLegal, after}
use Rattle.tb_machine.specs.Dumps.{IsPlace, marked_after, after_with, IsLegalWith}
use Rattle.tb_machine.specs.MarkedLaws.{next_in}
use Rattle.tb_machine.proofs.Judging.{MayCome, may_come, comes}
use Rattle.tb_machine.proofs.Legal.{after_snoc}
use Rattle.tb_machine.proofs.Marked.{with_marked, with_snoc_in}
use Rattle.tb_machine.proofs.ReachedBy.{ReachedBy, LeadsTo, leads_split, started, reached_after}

-- two states with the same rows and the same commit number
pub record Alike (S T : State) : Type 0 where
  pub rows : S.rows ≡ T.rows
  pub commit : S.commit ≡ T.commit

alike_same : (S T : State) → S ≡ T → Alike S T
alike_same S T is = record { rows = ap (λ (S : State). S.rows) is; commit = ap (λ (S : State). S.commit) is }

-- entries lead on if each step leads from such a prefix to such a prefix
leads_by : (state : List Entry → State) (Covers : List Entry → Type 0)
    → ((p : List Entry) (e : Entry) → Covers p → Covers (p ++ e ∷ []) × (state (p ++ e ∷ []) ≡ step (state p) e))
    → (p es : List Entry) → Covers p → LegalFrom (state p) es → LeadsTo state p es
leads_by state Covers on p [] covers legal = tt
leads_by state Covers on p (e ∷ es) covers legal =
    let (more, is) = on p e covers in (
      record {
        may = may_come (state p) e legal.0;
        rows = ap (λ (S : State). S.rows) is;
        commit = ap (λ (S : State). S.commit) is;
      },
      leads_by state Covers on (p ++ e ∷ []) es more (subst (λ (S : State). LegalFrom S es) (sym is) legal.1),
    )

module _ (profile : Profile) (clients_max : ℕ) where
  module _ (n : ℕ) where
    abbrev N : List Entry → State
    N = next_in profile clients_max (Some n)

    early : (p : List Entry) → length p < n → N p ≡ after profile clients_max p
    early p less =
        let fails : leb n (length p) ≡ false = grind (arith, nat_tests) in
        ap (λ b. after_with profile clients_max (cond b (Some n) None) p) fails

    late : (p : List Entry) → n ≤ length p → N p ≡ after_with profile clients_max (Some n) p
    late p within =
        let holds : leb n (length p) ≡ true = grind (arith, nat_tests) in
        ap (λ b. after_with profile clients_max (cond b (Some n) None) p) holds

    at_mark : (p : List Entry) → n ≡ length p → N p ≡ to_two (after profile clients_max p)
    at_mark p here =
        late p (omega (arith, here))
        ∙ ap (λ k. after_with profile clients_max (Some k) p) here
        ∙ with_marked profile clients_max p

    up_to : (p : List Entry) → length p ≤ n → Alike (N p) (after profile clients_max p)
    up_to p le = by (leb n (length p)) refl
      where
        by : (b : Bool) → leb n (length p) ≡ b → Alike (N p) (after profile clients_max p)
        by true e =
            let is : N p ≡ to_two (after profile clients_max p) = at_mark p (omega (arith, leb-true n (length p) e, le)) in
            record { rows = ap (λ (S : State). S.rows) is; commit = ap (λ (S : State). S.commit) is }
        by false e = let less : length p < n = grind (arith, nat_tests) in alike_same (N p) (after profile clients_max p) (early p less)

    -- entries up to the mark, and those after it
    front_leads : (p a b : List Entry) → length (p ++ a) ≤ n → LegalFrom (after profile clients_max p) a → LeadsTo N (p ++ a) b → LeadsTo N p (a ++ b)
    front_leads p [] b le legal later = subst (λ l. LeadsTo N l b) (append-nil p) later
    front_leads p (e ∷ es) b le legal later =
        let less : length p < n = omega (arith, le, length-append p (e ∷ es)) in
        let most : length (p ++ e ∷ []) ≤ n = omega (arith, less, length-append p (e ∷ [])) in
        let is : after profile clients_max (p ++ e ∷ []) ≡ step (after profile clients_max p) e = after_snoc profile clients_max p e in
        let same = early p less in
        let behind = up_to (p ++ e ∷ []) most in (
          record {
            may = subst (λ (S : State). MayCome S e) (sym same) (may_come (after profile clients_max p) e legal.0);
            rows = behind.rows ∙ ap (λ (S : State). S.rows) is ∙ ap (λ (S : State). (step S e).rows) (sym same);
            commit = behind.commit ∙ ap (λ (S : State). S.commit) is;
          },
          front_leads (p ++ e ∷ []) es b
              (subst (λ l. length l ≤ n) (sym (append_assoc p (e ∷ []) es)) le)
              (subst (λ (S : State). LegalFrom S es) (sym is) legal.1)
              (subst (λ l. LeadsTo N l b) (sym (append_assoc p (e ∷ []) es)) later),
        )

    -- entries after the mark
    behind_leads : (p es : List Entry) → n ≤ length p → LegalFrom (N p) es → LeadsTo N p es
    behind_leads p es within legal = leads_by N (λ q. n ≤ length q) on p es within legal
      where
        on : (q : List Entry) (e : Entry) → n ≤ length q → (n ≤ length (q ++ e ∷ [])) × (N (q ++ e ∷ []) ≡ step (N q) e)
        on q e within =
            let more : n ≤ length (q ++ e ∷ []) = omega (arith, within, length-append q (e ∷ [])) in
            (more, late (q ++ e ∷ []) more ∙ with_snoc_in profile clients_max n q e within ∙ ap (λ (S : State). step S e) (sym (late q within)))

    mark_leads : (h : List Entry) → IsLegal profile clients_max (take n h) → LegalFrom (marked_after profile clients_max (take n h)) (drop n h) → LeadsTo N [] h
    mark_leads h front behind =
        subst (λ l. LeadsTo N [] l) (take-append-drop n h)
        (front_leads [] (take n h) (drop n h) (omega (arith, length-take n h)) front (by (leb n (length h)) refl))
      where
        by : (b : Bool) → leb n (length h) ≡ b → LeadsTo N (take n h) (drop n h)
        by true e =
            let here : n ≡ length (take n h) = omega (arith, length-take n h, leb-true n (length h) e) in
            behind_leads (take n h) (drop n h) (omega (arith, here)) (subst (λ (S : State). LegalFrom S (drop n h)) (sym (at_mark (take n h) here)) behind)
        by false e =
            let less : length h < n = grind (arith, nat_tests) in
            subst (λ l. LeadsTo N (take n h) l) (sym (drop_all n h (omega (arith, less)))) tt

    past : (h : List Entry) → length h ≤ n → after_with profile clients_max (Some n) h ≡ to_two (after profile clients_max h)
    past h le = λ i. fold step (marked_after profile clients_max (take_all n h le i)) (drop_all n h le i)

  pub legal_leads : (mark : Option ℕ) (h : List Entry) → IsLegalWith profile clients_max mark h → LeadsTo (next_in profile clients_max mark) [] h
  legal_leads None h legal = leads_by (after profile clients_max) (λ p. Unit {0}) (λ p e covers. (tt, after_snoc profile clients_max p e)) [] h tt legal
  legal_leads (Some n) h legal = mark_leads n h legal.0 legal.1

  -- at the end of a history
  pub whole_alike : (mark : Option ℕ) (h : List Entry) → Alike (after_with profile clients_max mark h) (next_in profile clients_max mark h)
  whole_alike None h = record { rows = refl; commit = refl }
  whole_alike (Some n) h = by (leb n (length h)) refl
    where
      by : (b : Bool) → leb n (length h) ≡ b → Alike (after_with profile clients_max (Some n) h) (next_in profile clients_max (Some n) h)
      by true e = alike_same (after_with profile clients_max (Some n) h) (N n h) (sym (late n h (leb-true n (length h) e)))
      by false e =
          let less : length h < n = grind (arith, nat_tests) in
          let is : after_with profile clients_max (Some n) h ≡ to_two (after profile clients_max h) = past n h (omega (arith, less)) in
          let same : N n h ≡ after profile clients_max h = early n h less in
          record {
            rows = ap (λ (S : State). S.rows) is ∙ sym (ap (λ (S : State). S.rows) same);
            commit = ap (λ (S : State). S.commit) is ∙ sym (ap (λ (S : State). S.commit) same);
          }

  begins_empty : (mark : Option ℕ) → Alike (next_in profile clients_max mark []) (start profile clients_max)
  begins_empty None = record { rows = refl; commit = refl }
  begins_empty (Some n) = up_to n [] (omega arith)

  pub begun : (mark : Option ℕ) → ReachedBy (next_in profile clients_max mark) []
  begun mark = let empty = begins_empty mark in started (next_in profile clients_max mark) empty.rows empty.commit

  pub reached_with : (mark : Option ℕ) (h : List Entry) → IsLegalWith profile clients_max mark h → ReachedBy (next_in profile clients_max mark) h
  reached_with mark h legal = reached_after (next_in profile clients_max mark) [] h (begun mark) (legal_leads mark h legal)

  -- a mark that is among the entries or at their end is met
  pub next_whole : (mark : Option ℕ) (h : List Entry) → IsPlace profile mark h → next_in profile clients_max mark h ≡ after_with profile clients_max mark h
  next_whole None h place = refl
  next_whole (Some n) h place = late n h place.1

  -- an entry of a legal history may come next at its place
  pub comes_next : (mark : Option ℕ) (h : List Entry) (e : Entry) (more : List Entry) → IsLegalWith profile clients_max mark (h ++ e ∷ more) → IsTrue (fits (next_in profile clients_max mark h) e)
  comes_next mark h e more legal =
      comes (next_in profile clients_max mark h) e (leads_split (next_in profile clients_max mark) [] h (e ∷ more) (legal_leads mark (h ++ e ∷ more) legal)).1.0.may
