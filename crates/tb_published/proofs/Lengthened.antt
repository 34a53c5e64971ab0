-- A front with one entry more than another of its opening.
use Rattle.std.proofs.Common.{◌≡◌, ◌+◌, List, [], ◌∷◌, ◌++◌, length, sym, ap, ◌∙◌, subst, arith, IsTrue, length-append}
use mathlib.Core.List.{IsPrefix}
use Rattle.tb_machine.specs.declared.entries.Entry.{Entry}
use Rattle.tb_machine.specs.Histories.{fits, step}
use Rattle.tb_machine.proofs.Legal.{after_snoc, legal_front, legal_at}
use Rattle.tb_published.specs.Openings.{Opening, LegalIn, after_in}
use Rattle.tb_published.specs.private.Prefixes.{Prefix, Agree, prefix_state, EndsWith}
use Rattle.tb_published.proofs.Prefixes.{prefix_shorter, prefix_whole}
use Rattle.tb_published.proofs.Shown.{shorter_begins}

pub one_more : (xs ys : List Entry) (e : Entry) → IsPrefix xs ys → EndsWith ys e → length ys ≡ length xs + 1 → ys ≡ xs ++ e ∷ []
one_more xs ys e pre ends len =
    let count : length ys ≡ length ends.0 + 1 = ap length ends.1 ∙ length-append ends.0 (e ∷ []) in
    let before = prefix_shorter ends.0 xs ys (e ∷ [], sym ends.1) pre (omega arith) in
    let same : ends.0 ≡ xs = prefix_whole ends.0 xs before (omega arith) in
    ends.1 ∙ ap (λ (l : List Entry). l ++ e ∷ []) same

pub next_fits : (o : Opening) (h m : List Entry) (e : Entry) → m ≡ h ++ e ∷ [] → LegalIn o m → IsTrue (fits (after_in o h) e)
next_fits o h m e is legal = legal_at o.profile o.clients_max h e [] (subst (LegalIn o) is legal)

pub next_state : (o : Opening) (h m : List Entry) (e : Entry) → m ≡ h ++ e ∷ [] → after_in o m ≡ step (after_in o h) e
next_state o h m e is = ap (after_in o) is ∙ after_snoc o.profile o.clients_max h e

pub comes : (l m : Prefix) (e : Entry) → m.opening ≡ l.opening → LegalIn m.opening m.list → Agree l m → EndsWith m.list e
    → length m.list ≡ length l.list + 1 → IsTrue (fits (prefix_state l) e) × (prefix_state m ≡ step (prefix_state l) e)
comes l m e same legal agree ends len =
    let pre = (shorter_begins l m agree (omega arith)).1 in
    let is = one_more l.list m.list e pre ends len in (
      next_fits l.opening l.list m.list e is (subst (λ (o : Opening). LegalIn o m.list) same legal),
      ap (λ (o : Opening). after_in o m.list) same ∙ next_state l.opening l.list m.list e is,
    )

-- a prefix of a legal history is legal
pub legal_prefix : (o : Opening) (h m : List Entry) → IsPrefix h m → LegalIn o m → LegalIn o h
legal_prefix o h m p legal = legal_front o.profile o.clients_max h p.0 (subst (LegalIn o) (sym p.1) legal)
