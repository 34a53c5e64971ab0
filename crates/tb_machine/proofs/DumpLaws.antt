-- No encoding of a dump has two decodings.
use Rattle.std.proofs.Common.{◌≡◌, ℕ, List, [], ◌∷◌, ◌++◌, length, take, drop, flat_map, Option, Some, None, refl, sym, ap, subst, ◌∙◌, arith, append_assoc, append-nil, length-append, length-take, take-append-drop}
use Rattle.tb_records.specs.declared.limits.Profile.{Profile}
use Rattle.tb_records.specs.DumpBytes.{mark_bytes, numbers_bytes}
use Rattle.tb_records.specs.Frames.{request_bytes}
use Rattle.tb_records.specs.Ordered.{Each}
use Rattle.tb_records.proofs.DumpAnswers.{one_head, one_numbers, length-numbers}
use Rattle.tb_records.proofs.Spellings.{spelled_once}
use Rattle.tb_machine.specs.declared.entries.Entry.{Entry}
use Rattle.tb_machine.specs.Dumps.{dumped, history_bytes, IsDumpedEntry, IsPlace, OneDump}

-- an entry has one encoding, which is not a prefix of any other
one_entry : (e f : Entry) (xs ys : List ℕ) → IsDumpedEntry e → IsDumpedEntry f → dumped e ++ xs ≡ dumped f ++ ys → (e ≡ f) × (xs ≡ ys)
one_entry e f xs ys fits other is =
    let apart : numbers_bytes e.commit e.time ++ (request_bytes e.request ++ xs) ≡ numbers_bytes f.commit f.time ++ (request_bytes f.request ++ ys) =
    sym (append_assoc (numbers_bytes e.commit e.time) (request_bytes e.request) xs) ∙ is ∙ append_assoc (numbers_bytes f.commit f.time) (request_bytes f.request) ys in
    let numbers = one_numbers e.commit e.time f.commit f.time _ _ fits.commit_fits fits.time_fits other.commit_fits other.time_fits apart in
    let frame = spelled_once e.request f.request xs ys fits.request other.request numbers.2 in
    ((λ i. record { commit = numbers.0 i; time = numbers.1 i; request = frame.0 i }), frame.1)

-- no entry is at the prefix of the bytes
abbrev Ends : List ℕ → Type 0
Ends b = (e : Entry) (rest : List ℕ) → IsDumpedEntry e → b ≡ dumped e ++ rest → ⊥

nothing_ends : Ends []
nothing_ends e rest fits is = absurd (omega (arith, ap length is, length-append (dumped e) rest, length-append (numbers_bytes e.commit e.time) (request_bytes e.request), length-numbers e.commit e.time))

mark_ends : (more : List ℕ) → Ends (mark_bytes ++ more)
mark_ends more e rest fits is =
    let numbers = one_numbers 0 2 e.commit e.time more (request_bytes e.request ++ rest) (omega arith) (omega arith) fits.commit_fits fits.time_fits
    (is ∙ append_assoc (numbers_bytes e.commit e.time) (request_bytes e.request) rest) in
    absurd (omega (arith, numbers.0, fits.entry))

-- entries, as far as there are entries
one_row : (h k : List Entry) (xs ys : List ℕ) → Each IsDumpedEntry h → Each IsDumpedEntry k → Ends xs → Ends ys → flat_map dumped h ++ xs ≡ flat_map dumped k ++ ys → (h ≡ k) × (xs ≡ ys)
one_row [] [] xs ys all each ends stops is = (refl, is)
one_row [] (f ∷ k) xs ys all each ends stops is = absurd (ends f (flat_map dumped k ++ ys) each.0 (is ∙ append_assoc (dumped f) (flat_map dumped k) ys))
one_row (e ∷ h) [] xs ys all each ends stops is = absurd (stops e (flat_map dumped h ++ xs) all.0 (sym is ∙ append_assoc (dumped e) (flat_map dumped h) xs))
one_row (e ∷ h) (f ∷ k) xs ys all each ends stops is =
    let first = one_entry e f (flat_map dumped h ++ xs) (flat_map dumped k ++ ys) all.0 each.0 (sym (append_assoc (dumped e) (flat_map dumped h) xs) ∙ is ∙ append_assoc (dumped f) (flat_map dumped k) ys) in
    let rest = one_row h k xs ys all.1 each.1 ends stops first.1 in
    ((λ i. first.0 i ∷ rest.0 i), rest.1)

pub each_split : {X : Type 0} (P : X → Type 0) (xs ys : List X) → Each P (xs ++ ys) → Each P xs × Each P ys
each_split P [] ys each = (tt, each)
each_split P (x ∷ xs) ys each = let rest = each_split P xs ys each.1 in ((each.0, rest.0), rest.1)

parts : (n : ℕ) (h : List Entry) → Each IsDumpedEntry h → Each IsDumpedEntry (take n h) × Each IsDumpedEntry (drop n h)
parts n h each = each_split IsDumpedEntry (take n h) (drop n h) (subst (Each IsDumpedEntry) (sym (take-append-drop n h)) each)

whole_row : (h k : List Entry) → Each IsDumpedEntry h → Each IsDumpedEntry k → flat_map dumped h ≡ flat_map dumped k → h ≡ k
whole_row h k all each is = (one_row h k [] [] all each nothing_ends nothing_ends (append-nil (flat_map dumped h) ∙ is ∙ sym (append-nil (flat_map dumped k)))).0

no_mark : (more : List ℕ) → [] ≡ mark_bytes ++ more → ⊥
no_mark more is = absurd (omega (arith, ap length is, length-append mark_bytes more, length-numbers 0 2))

one_history : (p q : Profile) (h k : List Entry) (place other : Option ℕ) → Each IsDumpedEntry h → Each IsDumpedEntry k → IsPlace p place h → IsPlace q other k → history_bytes place h ≡ history_bytes other k → (h ≡ k) × (place ≡ other)
one_history p q h k None None all each here there is = (whole_row h k all each is, refl)
one_history p q h k None (Some m) all each here there is =
    let behind = mark_bytes ++ flat_map dumped (drop m k) in
    absurd (no_mark (flat_map dumped (drop m k)) (one_row h (take m k) [] behind all (parts m k each).0 nothing_ends (mark_ends (flat_map dumped (drop m k))) (append-nil (flat_map dumped h) ∙ is)).1)
one_history p q h k (Some n) None all each here there is =
    let behind = mark_bytes ++ flat_map dumped (drop n h) in
    absurd (no_mark (flat_map dumped (drop n h)) (sym (one_row (take n h) k behind [] (parts n h all).0 each (mark_ends (flat_map dumped (drop n h))) nothing_ends (is ∙ sym (append-nil (flat_map dumped k)))).1))
one_history p q h k (Some n) (Some m) all each here there is =
    let mine = flat_map dumped (drop n h) in
    let yours = flat_map dumped (drop m k) in
    let fronts = one_row (take n h) (take m k) (mark_bytes ++ mine) (mark_bytes ++ yours) (parts n h all).0 (parts m k each).0 (mark_ends mine) (mark_ends yours) is in
    let marks = one_numbers 0 2 0 2 mine yours (omega arith) (omega arith) (omega arith) (omega arith) fronts.1 in
    let behind : drop n h ≡ drop m k = whole_row (drop n h) (drop m k) (parts n h all).1 (parts m k each).1 marks.2 in
    let same : n ≡ m = omega (arith, here.1, there.1, length-take n h, length-take m k, ap length fronts.0) in
    (sym (take-append-drop n h) ∙ (λ i. fronts.0 i ++ behind i) ∙ take-append-drop m k, ap Some same)

pub one_dump : OneDump
one_dump bytes p q m n h k place other mine yours =
    let heads = one_head p q m n (history_bytes place h) (history_bytes other k) mine.clients yours.clients (sym mine.bytes_are ∙ yours.bytes_are) in
    let rest = one_history p q h k place other mine.entries yours.entries mine.marked yours.marked heads.2 in
    (heads.0, heads.1, rest.0, rest.1)
