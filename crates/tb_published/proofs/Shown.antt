-- The steps of readers and of the publisher keep the rule of the copies.
use Rattle.std.proofs.Common.{◌≡◌, ◌≢◌, ℕ, ◌+◌, ◌≤◌, inl, inr, ⊎_elim, cond, eq-eqb, List, [], ◌∷◌, length, set, fold, Option, Some, None, IfSome, Result, Ok, Err, MatchResult, refl, sym, ap, ◌∙◌, subst, length-append}
use mathlib.Core.Option.{some}
use lib.ListN.{get_elem?}
use Rattle.crossbeam_utils.specs.Register.{Admits, Turns, TurnsAt, Forks, Merges}
use Rattle.atomic_table.proofs.Lists.{at_set, at_snoc}
use Rattle.tb_published.specs.private.Prefixes.{Prefix, Agree, IsPrefixOf, with_entry}
use Rattle.tb_published.specs.private.PostedEntries.{PostedEntry, absorbed, FollowsPrefix, prefix_after}
use Rattle.tb_published.specs.private.Sharing.{ShowsToReaders, Sees, Swapped}
use Rattle.tb_published.proofs.Prefixes.{prefix_self, prefix_trans, prefix_shorter}

-- prefixes

pub begins_self : (l : Prefix) → IsPrefixOf l l
begins_self l = (refl, prefix_self l.list)

pub begins_trans : (l m n : Prefix) → IsPrefixOf l m → IsPrefixOf m n → IsPrefixOf l n
begins_trans l m n first then_it = (first.0 ∙ then_it.0, prefix_trans l.list m.list n.list first.1 then_it.1)

-- the shorter of two that agree begins the longer
pub shorter_begins : (l m : Prefix) → Agree l m → length l.list ≤ length m.list → IsPrefixOf l m
shorter_begins l m agree less =
    ⊎_elim (λ (mine : IsPrefixOf l m). mine) (λ (its : IsPrefixOf m l). (sym its.0, prefix_shorter l.list m.list l.list (prefix_self l.list) its.1 less)) agree

pub agree_back : {l m : Prefix} → Agree l m → Agree m l
agree_back agree = ⊎_elim (λ p. inr p) (λ p. inl p) agree

some_one : {X : Type 0} {x y : X} → Some x ≡ Some y → x ≡ y
some_one e = cc

none_some : {X : Type 0} (x : X) → None ≡ Some x → ⊥
none_some x e = cc

-- one step

-- a reader or the publisher moves on to what is shown, which begins with all that was shown before
pub sees : (seat : ℕ) (v : Option Prefix) (x y : Prefix) → IsPrefixOf x y → TurnsAt ShowsToReaders seat v x y Sees
sees seat v x y up views shows at = (
  Some y,
  (λ j l e.
      ⊎_elim (λ (t : (j ≡ seat) × (Some y ≡ Some l)). subst (λ (z : Prefix). IsPrefixOf z y) (some_one t.1) (begins_self y))
      (λ (t : (j ≢ seat) × (get_elem? views j ≡ some (Some l))). begins_trans l x y (shows j l t.1) up)
      (at_set views seat j (Some y) (Some l) e)),
  (refl, before v at),
)
  where
    before : (v : Option Prefix) → get_elem? views seat ≡ some v → IfSome v (λ l. IsPrefixOf l y)
    before None at = tt
    before (Some l) at = begins_trans l x y (shows seat l at) up

pub looks : (seat : ℕ) (v : Option Prefix) → Turns ShowsToReaders seat v (λ x. x) Sees
looks seat v x = sees seat v x x (begins_self x)

-- a place that has seen nothing
pub admits : Admits ShowsToReaders None
admits x views shows seat l at = ⊎_elim (shows seat l) (λ e. absurd (none_some l e)) (at_snoc views None (Some l) seat at)

-- the publisher tells what it has seen, and a place that has seen nothing copies it
pub forks : (seat : ℕ) (v : Option Prefix) → Forks ShowsToReaders seat v v v
forks seat v x views shows here j l at =
    ⊎_elim (λ e.
    ⊎_elim (λ (t : (j ≡ seat) × (v ≡ Some l)). shows seat l (here ∙ ap some t.1))
    (λ (t : (j ≢ seat) × (get_elem? views j ≡ some (Some l))). shows j l t.1)
    (at_set views seat j v (Some l) e))
    (λ (same : v ≡ Some l). shows seat l (here ∙ ap some same))
    (at_snoc (set views seat v) v (Some l) j at)

pub merges : (seat : ℕ) (v : Option Prefix) (other : ℕ) (w : Option Prefix) → Merges ShowsToReaders seat v other w w None
merges seat v other w x views shows here apart there j l at =
    let its : get_elem? views other ≡ some w = ⊎_elim (λ (t : (other ≡ seat) × (w ≡ w)). absurd (apart t.0)) (λ (t : (other ≢ seat) × (get_elem? views other ≡ some w)). t.1) (at_set views seat other w w there) in
    ⊎_elim (λ (t : (j ≡ other) × (None ≡ Some l)). absurd (none_some l t.1))
    (λ (t : (j ≢ other) × (get_elem? (set views seat w) j ≡ some (Some l))).
    ⊎_elim (λ (u : (j ≡ seat) × (w ≡ Some l)). shows other l (its ∙ ap some u.1))
    (λ (u : (j ≢ seat) × (get_elem? views j ≡ some (Some l))). shows j l u.1)
    (at_set views seat j w (Some l) t.1))
    (at_set (set views seat w) other j None (Some l) at)

-- what a publisher posts

absorbed_next : (l : Prefix) (o : PostedEntry) → o.front ≡ with_entry l o.entry → absorbed l o ≡ o.front
absorbed_next l o is = ap (λ b. cond b o.front l) (eq-eqb (length o.front.list) (length l.list + 1) (ap (λ (m : Prefix). length m.list) is ∙ length-append l.list (o.entry ∷ [])))

-- a copy that takes in the posted entries after it has the last one's front
pub absorb_all : (l : Prefix) (os : List PostedEntry) → FollowsPrefix l os → fold absorbed l os ≡ prefix_after l os
absorb_all l [] follows = refl
absorb_all l (o ∷ os) follows = ap (λ (m : Prefix). fold absorbed m os) (absorbed_next l o follows.0) ∙ absorb_all o.front os follows.1

pub posted_extend : (l : Prefix) (os : List PostedEntry) → FollowsPrefix l os → IsPrefixOf l (prefix_after l os)
posted_extend l [] follows = begins_self l
posted_extend l (o ∷ os) follows =
    begins_trans l o.front (prefix_after o.front os)
    (subst (λ (m : Prefix). IsPrefixOf l m) (sym follows.0) (refl, (o.entry ∷ [], refl)))
    (posted_extend o.front os follows.1)

-- a swap of copies with them
pub turns : (seat : ℕ) (v : Option Prefix) (l : Prefix) (os : List PostedEntry) → FollowsPrefix l os → (next : Prefix) → next ≡ fold absorbed l os → TurnsAt ShowsToReaders seat v l next Sees
turns seat v l os follows next is = sees seat v l next (subst (λ (m : Prefix). IsPrefixOf l m) (sym (is ∙ absorb_all l os follows)) (posted_extend l os follows))

-- what a swap leaves
pub swapped : {E : Type 0} (result : Result (Unit {0}) E) (l : Prefix) (os : List PostedEntry) (v : Option Prefix) (m : Prefix) (left : List PostedEntry) (w : Option Prefix) → FollowsPrefix l os
    → MatchResult result (λ _. (m ≡ fold absorbed l os) × (left ≡ [])) (λ _. (m ≡ l) × (left ≡ os))
    → MatchResult result (λ _. Sees v l m w) (λ _. w ≡ v)
    → Swapped result (record { shown = l; posted = os; seen = v }) (record { shown = m; posted = left; seen = w })
swapped (Ok done) l os v m left w follows values rule =
    let is : m ≡ prefix_after l os = values.0 ∙ absorb_all l os follows in
    let seen : w ≡ Some (prefix_after l os) = rule.0 ∙ ap Some is in
    λ i. record { shown = is i; posted = values.1 i; seen = seen i }
swapped (Err e) l os v m left w follows values rule = λ i. record { shown = values.0 i; posted = values.1 i; seen = rule i }
