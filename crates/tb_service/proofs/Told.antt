-- If each state has one next moment, a run's moments are pinned, and so is the history that results.
use Rattle.std.proofs.Common.{◌≡◌, ℕ, suc, ◌+◌, ◌<◌, List, [], ◌∷◌, ◌++◌, length, Option, Some, None, refl, sym, ap, subst, ◌∙◌, arith}
use Rattle.tb_records.specs.Messages.{Message}
use Rattle.tb_machine.specs.Scripts.{Pair}
use Rattle.tb_published.specs.declared.faults.TakeFault.{TakeFault}
use Rattle.tb_published.specs.Openings.{Opening}
use Rattle.tb_service.specs.History.{accepted_in, Turn, requests_at, moments_at, unless, pairs_kept, at_place, refused_from, StepsLead}
use Rattle.tb_service.specs.ToldLaws.{IsOneWay, OneList, OneOutcome}

pub one_list : {S : Type 0} (step : S → ℕ → S → Type 0) → IsOneWay step → OneList step
one_list step one x y z [] [] a b e = (refl, sym a ∙ b)
one_list step one x y z [] (l ∷ ls) a b e = absurd (omega (arith, e))
one_list step one x y z (k ∷ ks) [] a b e = absurd (omega (arith, e))
one_list {S} step one x y z (k ∷ ks) (l ∷ ls) a b e =
    let here = one x a.0 b.0 k l a.1 b.1 in
    let behind : StepsLead step b.0 ks y = subst (λ (s : S). StepsLead step s ks y) here.1 a.2 in
    let rest = one_list step one b.0 y z ks ls behind b.2 (omega (arith, e)) in
    (ap (λ (n : ℕ). n ∷ ks) here.0 ∙ ap (λ (ns : List ℕ). l ∷ ns) rest.0, rest.1)

-- what is left out from a place on is named by that place or a later one

left_out : (n m : ℕ) (f : TakeFault) (g : Option TakeFault) (more rest : List (ℕ × TakeFault)) → n < m → (more ≡ (n, f) ∷ rest → ⊥) → at_place m g ++ more ≡ (n, f) ∷ rest → ⊥
left_out n m f None more rest h later e = later e
left_out n m f (Some g) more rest h later e =
    let both : (m, g) ≡ (n, f) = cc in
    let same : m ≡ n = ap (λ (p : ℕ × TakeFault). p.0) both in
    absurd (omega (arith, h, same))

none_earlier : (n m : ℕ) (f : TakeFault) (ts : List Turn) (rest : List (ℕ × TakeFault)) → n < m → refused_from m ts ≡ (n, f) ∷ rest → ⊥
none_earlier n m f [] rest h e = absurd cc
none_earlier n m f (t ∷ ts) rest h e = left_out n m f t.fault (refused_from (m + 1) ts) rest h (none_earlier n (m + 1) f ts rest (omega (arith, h))) e

-- turns with the same requests and moments, and the same ones left out, keep the same

kept_by : (n : ℕ) (f g : Option TakeFault) (p q : Pair) (ts us : List Turn) → p ≡ q → (refused_from (n + 1) ts ≡ refused_from (n + 1) us → pairs_kept ts ≡ pairs_kept us)
    → at_place n f ++ refused_from (n + 1) ts ≡ at_place n g ++ refused_from (n + 1) us → unless f p ++ pairs_kept ts ≡ unless g q ++ pairs_kept us
kept_by n None None p q ts us same later e = ap (λ (r : Pair). r ∷ pairs_kept ts) same ∙ ap (λ (rs : List Pair). q ∷ rs) (later e)
kept_by n None (Some g) p q ts us same later e = absurd (none_earlier n (n + 1) g ts (refused_from (n + 1) us) (omega arith) e)
kept_by n (Some f) None p q ts us same later e = absurd (none_earlier n (n + 1) f us (refused_from (n + 1) ts) (omega arith) (sym e))
kept_by n (Some f) (Some g) p q ts us same later e = let rest : refused_from (n + 1) ts ≡ refused_from (n + 1) us = cc in later rest

same_kept : (n : ℕ) (ts us : List Turn) → requests_at ts ≡ requests_at us → moments_at ts ≡ moments_at us → refused_from n ts ≡ refused_from n us → pairs_kept ts ≡ pairs_kept us
same_kept n [] [] rs ms fs = refl
same_kept n [] (u ∷ us) rs ms fs = absurd cc
same_kept n (t ∷ ts) [] rs ms fs = absurd cc
same_kept n (t ∷ ts) (u ∷ us) rs ms fs =
    let m : t.moment ≡ u.moment = cc in
    let r : t.request ≡ u.request = cc in
    let moments : moments_at ts ≡ moments_at us = cc in
    let requests : requests_at ts ≡ requests_at us = cc in
    kept_by n t.fault u.fault (t.moment, t.request) (u.moment, u.request) ts us (λ i. (m i, r i)) (same_kept (n + 1) ts us requests moments) fs

as_many : (ts : List Turn) → length (moments_at ts) ≡ length (requests_at ts)
as_many [] = refl
as_many (t ∷ ts) = ap suc (as_many ts)

pub one_outcome : {M G : Type 0} (o : Opening) (tells : M → ℕ → M → Type 0) (passes : G → ℕ → G → Type 0) → IsOneWay tells → OneOutcome o tells passes
one_outcome {M} o tells passes one before taken refused history other a b =
    let ts = a.serves.turns in
    let us = b.serves.turns in
    let requests : requests_at ts ≡ requests_at us = a.serves.served ∙ sym b.serves.served in
    let long : length (moments_at ts) ≡ length (moments_at us) = as_many ts ∙ (ap (λ (rs : List Message). length rs) requests ∙ sym (as_many us)) in
    let told = one_list tells one before.moments a.moments b.moments (moments_at ts) (moments_at us) a.serves.moments b.serves.moments long in
    let keeps = same_kept 1 ts us requests told.0 (a.serves.refusals ∙ sym b.serves.refusals) in
    sym a.serves.history ∙ (ap (λ (ps : List Pair). accepted_in o before.history ps) keeps ∙ b.serves.history)
