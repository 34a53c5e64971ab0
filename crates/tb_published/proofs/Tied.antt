-- What a publisher keeps, through its calls.
use Rattle.std.proofs.Common.{◌≡◌, ◌≤◌, length, ⊎_elim, false, List, [], ◌∷◌, ◌++◌, is_some, Option, Some, None, MatchOption, Result, Ok, Err, refl, sym, ap, ◌∙◌, subst, append-nil}
use mathlib.Core.List.{IsPrefix}
use Rattle.std.specs.Option.{option_to_list}
use Rattle.tb_machine.specs.declared.entries.Entry.{Entry}
use Rattle.tb_machine.specs.Histories.{State}
use Rattle.tb_machine.proofs.Legal.{fold_append}
use Rattle.tb_published.specs.Openings.{Opening, OneBegins}
use Rattle.tb_published.specs.private.Prefixes.{Prefix, with_entry}
use Rattle.tb_published.specs.private.PostedEntries.{PostedEntry, TwoCopies, FollowsPrefix, prefix_after, and_waiting}
use Rattle.tb_published.specs.private.Sharing.{Swapped}
use Rattle.tb_published.specs.private.Ties.{Ties}
use Rattle.tb_published.proofs.Prefixes.{prefix_self, prefix_trans, prefix_whole}
use Rattle.tb_published.proofs.Shown.{posted_extend}

-- the copies show a prefix of the history
pub shown_front : {o : Opening} {h : List Entry} {S : State} {offered : Prefix} {copies : TwoCopies} → Ties o h S offered copies → IsPrefix copies.shown.list h
shown_front {o} {h} {S} {offered} {copies} t =
    let shown = copies.shown in
    prefix_trans shown.list offered.list h (subst (λ (l : Prefix). IsPrefix shown.list l.list) t.leads (posted_extend shown copies.posted t.follows).1) t.offered_is

-- if a list is no longer than what they show, and one of the two begins with the other, the list is a prefix of the history too
pub within_history : {o : Opening} {h : List Entry} {S : State} {offered : Prefix} {copies : TwoCopies} (xs : List Entry)
    → Ties o h S offered copies → OneBegins copies.shown.list xs → length xs ≤ length copies.shown.list → IsPrefix xs h
within_history {o} {h} {S} {offered} {copies} xs t one less =
    let shown = copies.shown in
    ⊎_elim (λ (p : IsPrefix shown.list xs). subst (λ (ys : List Entry). IsPrefix ys h) (prefix_whole shown.list xs p less) (shown_front t))
    (λ (p : IsPrefix xs shown.list). prefix_trans xs shown.list h p (shown_front t)) one

-- posted entries, one part after another

pub follows_split : (l : Prefix) (os more : List PostedEntry) → FollowsPrefix l (os ++ more) → FollowsPrefix l os × FollowsPrefix (prefix_after l os) more
follows_split l [] more follows = (tt, follows)
follows_split l (o ∷ os) more follows = let parts = follows_split o.front os more follows.1 in ((follows.0, parts.0), parts.1)

pub follows_join : (l : Prefix) (os more : List PostedEntry) → FollowsPrefix l os → FollowsPrefix (prefix_after l os) more → FollowsPrefix l (os ++ more)
follows_join l [] more first then_it = then_it
follows_join l (o ∷ os) more first then_it = (first.0, follows_join o.front os more first.1 then_it)

pub after_join : (l : Prefix) (os more : List PostedEntry) → prefix_after l (os ++ more) ≡ prefix_after (prefix_after l os) more
after_join l os more = fold_append (λ _ (o : PostedEntry). o.front) l os more

module _ {o : Opening} {h : List Entry} {S : State} where
  -- one more posted entry
  tied_offer : (offered : Prefix) (copies : TwoCopies) (posted : PostedEntry) (grown : Prefix) → Ties o h S offered copies
      → posted.front ≡ grown → grown ≡ with_entry offered posted.entry → IsPrefix grown.list h → Ties o h S grown (and_waiting copies (Some posted))
  tied_offer offered copies posted grown t front is pre = record {
    legal = t.legal;
    machine_is = t.machine_is;
    named = ap (λ (l : Prefix). l.opening) is ∙ t.named;
    offered_is = pre;
    seen_is = t.seen_is;
    follows = follows_join copies.shown copies.posted (posted ∷ []) t.follows (subst (λ (l : Prefix). posted.front ≡ with_entry l posted.entry) (sym t.leads) (front ∙ is), tt);
    leads = after_join copies.shown copies.posted (posted ∷ []) ∙ front;
  }

  -- if none waits, there are no more
  tied_alone : (offered : Prefix) (copies : TwoCopies) → Ties o h S offered (and_waiting copies None) → Ties o h S offered copies
  tied_alone offered copies t = subst (λ (os : List PostedEntry). Ties o h S offered (record copies { posted = os })) (append-nil copies.posted) t

  -- the next entry was posted, or no entry
  pub tied_pick : (offered : Prefix) (copies : TwoCopies) (waiting next : Option PostedEntry) (grown : Prefix) → is_some waiting ≡ false
      → Ties o h S offered (and_waiting copies waiting)
      → MatchOption next (grown ≡ offered) (λ (posted : PostedEntry). (posted.front ≡ grown) × (grown ≡ with_entry offered posted.entry) × IsPrefix grown.list h)
      → Ties o h S grown (and_waiting copies next)
  tied_pick offered copies (Some posted) next grown idle t is = absurd cc
  tied_pick offered copies None None grown idle t is = subst (λ (l : Prefix). Ties o h S l (and_waiting copies None)) (sym is) t
  tied_pick offered copies None (Some posted) grown idle t is = tied_offer offered copies posted grown (tied_alone offered copies t) is.0 is.1 is.2

  -- what a swap leaves
  pub tied_swap : {E : Type 0} (result : Result (Unit {0}) E) (offered : Prefix) (copies : TwoCopies) (waiting : Option PostedEntry) (after : TwoCopies)
      → Ties o h S offered (and_waiting copies waiting) → Swapped result copies after
      → Ties o h S offered (and_waiting after waiting) × IsPrefix copies.shown.list after.shown.list
  tied_swap (Ok done) offered copies waiting after t swapped =
      let more : List PostedEntry = option_to_list waiting in
      let prefix : Prefix = prefix_after copies.shown copies.posted in
      let parts = follows_split copies.shown copies.posted more t.follows in
      subst (λ (c : TwoCopies). Ties o h S offered (and_waiting c waiting) × IsPrefix copies.shown.list c.shown.list) (sym swapped) (
        record {
          legal = t.legal;
          machine_is = t.machine_is;
          named = t.named;
          offered_is = t.offered_is;
          seen_is = refl;
          follows = parts.1;
          leads = sym (after_join copies.shown copies.posted more) ∙ t.leads;
        },
        (posted_extend copies.shown copies.posted parts.0).1,
      )
  tied_swap (Err e) offered copies waiting after t swapped =
      subst (λ (c : TwoCopies). Ties o h S offered (and_waiting c waiting) × IsPrefix copies.shown.list c.shown.list) (sym swapped) (t, prefix_self copies.shown.list)
