-- A crash amid the commit of one batch: what a reader finds.
use Rattle.std.proofs.Common.{◌≡◌, ◌⊎◌, inl, inr, ⊎_elim, ℕ, zero, suc, ◌+◌, ◌≤◌, ◌<◌, ap, Bool, true, false, List, [], ◌∷◌, ◌++◌, length, take, flat_map, refl, sym, ◌∙◌, arith, Some, append_assoc, length-append}
use Rattle.std.specs.Prelude.{nat_lt, nat_le, ◌==◌, ◌&&◌, ◌||◌, if◌then◌else◌}
use Rattle.std.proofs.lemmas.List.{append-nil}
use Rattle.std.proofs.Math.Seq.{take-append_seam, take-length}
use Rattle.std.proofs.lemmas.Bool.Decides.{nat_tests}
use Rattle.tb_sectors.specs.Stamped.{Stamped, blank, Taken, follows, with_sector, begins_in, Verdict, Ends, Damaged, read_on, stream_of, Batch, batch_bytes, grown, further, goes_on, further_sectors, new_after, after_last, with_batch, sector_at}

-- tests

is_next : (m n b : ℕ) → 0 < n → n ≡ m + b → (nat_lt 0 n && n == m + b) ≡ true
is_next m n b pos is = grind (arith, nat_tests)

not_next : (m n b : ℕ) → b ≡ 0 → m < n → (nat_lt 0 n && n == m + b) ≡ false
not_next m n b none less = grind (arith, nat_tests)

at_most : (a b : ℕ) → a ≤ b → nat_le a b ≡ true
at_most a b le = grind (arith, nat_tests)

above : (a b : ℕ) → b < a → nat_le a b ≡ false
above a b less = grind (arith, nat_tests)

-- one sector

-- a sector follows
pub record IsNext (taken : Taken) (s : Stamped) : Type 0 where
  pub stamped : 0 < s.number
  pub number : s.number ≡ taken.number + s.begun
  pub ready : taken.closed ≡ false
  pub stays : s.closed ≡ false

pub follows_next : (t : Taken) (s : Stamped) → IsNext t s → follows t s ≡ true
follows_next t s next = is_next t.number s.number s.begun next.stamped next.number

pub takes : (t : Taken) (s : Stamped) (rest : List Stamped) → IsNext t s → read_on t (s ∷ rest) ≡ read_on (with_sector t s) rest
takes t s rest next =
    ap (λ (c : Bool). if c then Ends t else if follows t s then read_on (with_sector t s) rest else if begins_in (s ∷ rest) then Damaged t.count else Ends t) next.ready
    ∙ ap (λ (b : Bool). if b then read_on (with_sector t s) rest else if begins_in (s ∷ rest) then Damaged t.count else Ends t) (follows_next t s next)

none_begins : (left : List Stamped) → ((k : ℕ) → (sector_at left k).begun ≡ 0) → begins_in left ≡ false
none_begins [] h = refl
none_begins (s ∷ rest) h = ap (λ (n : ℕ). nat_lt 0 n || begins_in rest) (h 0) ∙ none_begins rest (λ k. h (suc k))

stops : (t : Taken) (left : List Stamped) → ((k : ℕ) → (sector_at left k).begun ≡ 0) → follows t (sector_at left 0) ≡ false → read_on t left ≡ Ends t
stops t [] h off = refl
stops t (s ∷ rest) h off =
    ap (λ (b : Bool). if t.closed then Ends t else if b then read_on (with_sector t s) rest else if begins_in (s ∷ rest) then Damaged t.count else Ends t) off
    ∙ ap (λ (b : Bool). if t.closed then Ends t else if b then Damaged t.count else Ends t) (none_begins (s ∷ rest) h)
    ∙ either_end t.closed
  where
    either_end : (c : Bool) → (if c then Ends t else Ends t) ≡ Ends t
    either_end true = refl
    either_end false = refl

-- the sectors of a batch after its first one

further_begun : (n : ℕ) (pieces : List (List ℕ)) (k : ℕ) → (sector_at (further_sectors n pieces) k).begun ≡ 0
further_begun n [] k = refl
further_begun n (p ∷ more) zero = refl
further_begun n (p ∷ more) (suc k) = further_begun n more k

further_unlike : (t : Taken) (n : ℕ) (pieces : List (List ℕ)) → t.number < n → follows t (sector_at (further_sectors n pieces) 0) ≡ false
further_unlike t n [] less = refl
further_unlike t n (p ∷ more) less = not_next t.number n 0 refl less

part_begun : (n : ℕ) (pieces : List (List ℕ)) (left : List Stamped)
    → ((k : ℕ) → (sector_at left k ≡ blank) ⊎ (sector_at left k ≡ sector_at (further_sectors n pieces) k)) → (k : ℕ) → (sector_at left k).begun ≡ 0
part_begun n pieces left h k = ⊎_elim (λ e. ap (λ (s : Stamped). s.begun) e) (λ e. ap (λ (s : Stamped). s.begun) e ∙ further_begun n pieces k) (h k)

blank_stops : (t : Taken) (s : Stamped) → s ≡ blank → follows t s ≡ false
blank_stops t s e = ap (follows t) e

all_blank : (t : Taken) (left : List Stamped) → ((k : ℕ) → (sector_at left k ≡ blank) ⊎ (sector_at left k ≡ blank)) → read_on t left ≡ Ends t
all_blank t left h =
    stops t left (λ k. ⊎_elim (λ e. ap (λ (s : Stamped). s.begun) e) (λ e. ap (λ (s : Stamped). s.begun) e) (h k))
    (⊎_elim (λ e. blank_stops t (sector_at left 0) e) (λ e. blank_stops t (sector_at left 0) e) (h 0))

next_further : (t : Taken) (n : ℕ) (p : List ℕ) (more : Bool) → t.closed ≡ false → t.number ≡ n → 0 < n → IsNext t (further n p more)
next_further t n p more ready same pos = record { stamped = pos; number = omega (arith, same); ready = ready; stays = refl }

takes_further : (t : Taken) (n : ℕ) (p : List ℕ) (more : Bool) (s : Stamped) (rest : List Stamped) → t.closed ≡ false → t.number ≡ n → 0 < n → s ≡ further n p more
    → read_on t (s ∷ rest) ≡ read_on (with_sector t (further n p more)) rest
takes_further t n p more s rest ready same pos e =
    ap (λ (x : Stamped). read_on t (x ∷ rest)) e ∙ takes t (further n p more) rest (next_further t n p more ready same pos)

-- a sector in which the batch goes on completes nothing; the last one completes all
further_keeps : (t : Taken) (n : ℕ) (p : List ℕ) → (with_sector t (further n p true)).whole ≡ t.whole
further_keeps t n p = ap (λ (b : Bool). if b then t.all ++ take (length p + 1) p else t.whole) (above (length p + 1) (length p) (omega arith))

further_completes : (t : Taken) (n : ℕ) (p : List ℕ) → (with_sector t (further n p false)).whole ≡ t.all ++ p
further_completes t n p =
    ap (λ (b : Bool). if b then t.all ++ take (length p) p else t.whole) (at_most (length p) (length p) (omega arith)) ∙ ap (λ (l : List ℕ). t.all ++ l) (take-length p)

either_way : (v w : Verdict) (a b c d : List ℕ) → v ≡ w → a ≡ c → b ≡ d
    → (stream_of w ≡ Some a) ⊎ (stream_of w ≡ Some b) → (stream_of v ≡ Some c) ⊎ (stream_of v ≡ Some d)
either_way v w a b c d e f g h = ⊎_elim (λ x. inl (ap stream_of e ∙ x ∙ ap Some f)) (λ x. inr (ap stream_of e ∙ x ∙ ap Some g)) h

rest_or_none : (t : Taken) (n : ℕ) (pieces : List (List ℕ)) (left : List Stamped) → t.closed ≡ false → t.number ≡ n → 0 < n
    → ((k : ℕ) → (sector_at left k ≡ blank) ⊎ (sector_at left k ≡ sector_at (further_sectors n pieces) k))
    → (stream_of (read_on t left) ≡ Some t.whole) ⊎ (stream_of (read_on t left) ≡ Some (t.all ++ flat_map (λ (bytes : List ℕ). bytes) pieces))
rest_or_none t n [] left ready same pos h = inl (ap stream_of (all_blank t left h))
rest_or_none t n (p ∷ more) [] ready same pos h = inl refl
rest_or_none t n (p ∷ []) (s ∷ rest) ready same pos h =
    ⊎_elim
    (λ e. inl (ap stream_of (stops t (s ∷ rest) (part_begun n (p ∷ []) (s ∷ rest) h) (blank_stops t s e))))
    (λ e. inr (ap stream_of (takes_further t n p false s rest ready same pos e ∙ all_blank (with_sector t (further n p false)) rest (λ k. h (suc k)))
    ∙ ap Some (further_completes t n p ∙ ap (λ (l : List ℕ). t.all ++ l) (sym (append-nil p)))))
    (h 0)
rest_or_none t n (p ∷ q ∷ more) (s ∷ rest) ready same pos h =
    ⊎_elim
    (λ e. inl (ap stream_of (stops t (s ∷ rest) (part_begun n (p ∷ q ∷ more) (s ∷ rest) h) (blank_stops t s e))))
    (λ e. either_way (read_on t (s ∷ rest)) (read_on (with_sector t (further n p true)) rest) (with_sector t (further n p true)).whole _ t.whole _
    (takes_further t n p true s rest ready same pos e) (further_keeps t n p) (append_assoc t.all p (flat_map (λ (bytes : List ℕ). bytes) (q ∷ more)))
    (rest_or_none (with_sector t (further n p true)) n (q ∷ more) rest refl refl pos (λ k. h (suc k))))
    (h 0)

-- its first sector

next_grown : (t : Taken) (o : Stamped) (p : List ℕ) (more : Bool) → t.closed ≡ false → o.number ≡ t.number + o.begun → IsNext t (grown o p more)
next_grown t o p more ready is = record { stamped = omega arith; number = omega (arith, is); ready = ready; stays = refl }

grown_keeps : (t : Taken) (o : Stamped) (p : List ℕ) → (with_sector t (grown o p true)).whole ≡ t.all ++ o.bytes
grown_keeps t o p =
    ap (λ (b : Bool). if b then t.all ++ take (length o.bytes) (o.bytes ++ p) else t.whole)
    (at_most (length o.bytes) (length (o.bytes ++ p)) (omega (arith, length-append o.bytes p)))
    ∙ ap (λ (l : List ℕ). t.all ++ l) (take-append_seam o.bytes p)

grown_completes : (t : Taken) (o : Stamped) (p : List ℕ) → (with_sector t (grown o p false)).whole ≡ t.all ++ (o.bytes ++ p)
grown_completes t o p =
    ap (λ (b : Bool). if b then t.all ++ take (length (o.bytes ++ p)) (o.bytes ++ p) else t.whole) (at_most (length (o.bytes ++ p)) (length (o.bytes ++ p)) (omega arith))
    ∙ ap (λ (l : List ℕ). t.all ++ l) (take-length (o.bytes ++ p))

grown_or_none : (t : Taken) (o : Stamped) (first : List ℕ) (more : List (List ℕ)) (s : Stamped) (rest : List Stamped) → t.closed ≡ false → o.number ≡ t.number + o.begun
    → s ≡ grown o first (goes_on more)
    → ((k : ℕ) → (sector_at rest k ≡ blank) ⊎ (sector_at rest k ≡ sector_at (further_sectors (o.number + 1) more) k))
    → (stream_of (read_on t (s ∷ rest)) ≡ Some (t.all ++ o.bytes)) ⊎ (stream_of (read_on t (s ∷ rest)) ≡ Some (t.all ++ (o.bytes ++ (first ++ flat_map (λ (bytes : List ℕ). bytes) more))))
grown_or_none t o first [] s rest ready is e h =
    inr (ap stream_of (ap (λ (x : Stamped). read_on t (x ∷ rest)) e ∙ takes t (grown o first false) rest (next_grown t o first false ready is)
    ∙ all_blank (with_sector t (grown o first false)) rest h)
    ∙ ap Some (grown_completes t o first ∙ ap (λ (l : List ℕ). t.all ++ (o.bytes ++ l)) (sym (append-nil first))))
grown_or_none t o first (q ∷ more) s rest ready is e h =
    let joined = flat_map (λ (bytes : List ℕ). bytes) (q ∷ more) in
    either_way (read_on t (s ∷ rest)) (read_on (with_sector t (grown o first true)) rest) (with_sector t (grown o first true)).whole ((t.all ++ (o.bytes ++ first)) ++ joined)
    (t.all ++ o.bytes) (t.all ++ (o.bytes ++ (first ++ joined)))
    (ap (λ (x : Stamped). read_on t (x ∷ rest)) e ∙ takes t (grown o first true) rest (next_grown t o first true ready is))
    (grown_keeps t o first)
    (append_assoc t.all (o.bytes ++ first) joined ∙ ap (λ (l : List ℕ). t.all ++ l) (append_assoc o.bytes first joined))
    (rest_or_none (with_sector t (grown o first true)) (o.number + 1) (q ∷ more) rest refl refl (omega arith) h)

-- a journal at rest: each sector follows, and the last batch is whole

abbrev pub IsAtRest : Taken → List Stamped → Type 0
IsAtRest t [] = t.whole ≡ t.all
IsAtRest t (s ∷ rest) = IsNext t s × IsAtRest (with_sector t s) rest

abbrev pub sector_bytes : List Stamped → List ℕ
sector_bytes [] = []
sector_bytes (s ∷ rest) = s.bytes ++ sector_bytes rest

-- what is at rest is read
pub at_rest_reads : (t : Taken) (sectors : List Stamped) → IsAtRest t sectors → stream_of (read_on t sectors) ≡ Some (t.all ++ sector_bytes sectors)
at_rest_reads t [] whole = ap Some (whole ∙ sym (append-nil t.all))
at_rest_reads t (s ∷ rest) (next, more) =
    ap stream_of (takes t s rest next) ∙ at_rest_reads (with_sector t s) rest more ∙ ap Some (append_assoc t.all s.bytes (sector_bytes rest))

-- the last sector, and what a batch puts there and after it

pub not_blank : (s : Stamped) → 0 < s.number → blank ≡ s → ⊥
not_blank s pos e = let zero_number : 0 ≡ s.number = ap (λ (x : Stamped). x.number) e in omega arith

last_or_none : (t : Taken) (s : Stamped) (shares : Bool) (first : List ℕ) (more : List (List ℕ)) (left : List Stamped) → IsNext t s → (with_sector t s).whole ≡ t.all ++ s.bytes
    → ((k : ℕ) → (sector_at left k ≡ sector_at (s ∷ []) k) ⊎ (sector_at left k ≡ sector_at (after_last s (record { shares = shares; first = first; more = more })) k))
    → (stream_of (read_on t left) ≡ Some (t.all ++ s.bytes)) ⊎ (stream_of (read_on t left) ≡ Some (t.all ++ (s.bytes ++ (first ++ flat_map (λ (bytes : List ℕ). bytes) more))))
last_or_none t s true first more [] next whole h = absurd (⊎_elim (λ e. not_blank s next.stamped e) (λ e. not_blank (grown s first (goes_on more)) (omega arith) e) (h 0))
last_or_none t s true first more (x ∷ rest) next whole h =
    ⊎_elim
    (λ e. inl (ap stream_of (ap (λ (y : Stamped). read_on t (y ∷ rest)) e ∙ takes t s rest next
    ∙ stops (with_sector t s) rest (part_begun (s.number + 1) more rest (λ k. h (suc k)))
    (⊎_elim (λ e. blank_stops (with_sector t s) (sector_at rest 0) e)
    (λ e. ap (follows (with_sector t s)) e ∙ further_unlike (with_sector t s) (s.number + 1) more (omega arith)) (h 1)))
    ∙ ap Some whole))
    (λ e. grown_or_none t s first more x rest next.ready next.number e (λ k. h (suc k)))
    (h 0)
last_or_none t s false first more [] next whole h = absurd (⊎_elim (λ e. not_blank s next.stamped e) (λ e. not_blank s next.stamped e) (h 0))
last_or_none t s false first more (x ∷ []) next whole h =
    let e : x ≡ s = ⊎_elim (λ e. e) (λ e. e) (h 0) in
    inl (ap stream_of (ap (λ (y : Stamped). read_on t (y ∷ [])) e ∙ takes t s [] next) ∙ ap Some whole)
last_or_none t s false first more (x ∷ y ∷ rest) next whole h =
    let e : x ≡ s = ⊎_elim (λ e. e) (λ e. e) (h 0) in
    let joined = flat_map (λ (bytes : List ℕ). bytes) more in
    let after = with_sector t s in
    let goes : read_on t (x ∷ y ∷ rest) ≡ read_on after (y ∷ rest) = ap (λ (z : Stamped). read_on t (z ∷ y ∷ rest)) e ∙ takes t s (y ∷ rest) next in
    ⊎_elim
    (λ b. inl (ap stream_of (goes ∙ stops after (y ∷ rest)
    (λ k. cons_begun y rest (ap (λ (z : Stamped). z.begun) b) (part_begun (s.number + 1) more rest (λ j. h (suc (suc j)))) k) (blank_stops after y b)) ∙ ap Some whole))
    (λ g. either_way (read_on t (x ∷ y ∷ rest)) (read_on after (y ∷ rest)) (after.all ++ []) (after.all ++ ([] ++ (first ++ joined))) (t.all ++ s.bytes) (t.all ++ (s.bytes ++ (first ++ joined)))
    goes (append-nil after.all) (append_assoc t.all s.bytes (first ++ joined))
    (grown_or_none after (new_after s.number) first more y rest next.stays (omega arith) g (λ k. h (suc (suc k)))))
    (h 1)
  where
    cons_begun : (y : Stamped) (rest : List Stamped) → y.begun ≡ 0 → ((k : ℕ) → (sector_at rest k).begun ≡ 0) → (k : ℕ) → (sector_at (y ∷ rest) k).begun ≡ 0
    cons_begun y rest here there zero = here
    cons_begun y rest here there (suc k) = there k

-- a batch is there whole, or nothing of it is, and all before it are
pub batch_or_none : (t : Taken) (sectors : List Stamped) (batch : Batch) (left : List Stamped) → IsAtRest t sectors
    → ((k : ℕ) → (sector_at left k ≡ sector_at sectors k) ⊎ (sector_at left k ≡ sector_at (with_batch sectors batch) k))
    → (stream_of (read_on t left) ≡ Some (t.all ++ sector_bytes sectors)) ⊎ (stream_of (read_on t left) ≡ Some (t.all ++ (sector_bytes sectors ++ batch_bytes batch)))
batch_or_none t [] batch left rests h = inl (ap stream_of (all_blank t left h) ∙ ap Some (rests ∙ sym (append-nil t.all)))
batch_or_none t (s ∷ []) batch left (next, rests) h =
    either_way (read_on t left) (read_on t left) (t.all ++ s.bytes) (t.all ++ (s.bytes ++ batch_bytes batch)) (t.all ++ (s.bytes ++ [])) (t.all ++ ((s.bytes ++ []) ++ batch_bytes batch)) refl
    (ap (λ (l : List ℕ). t.all ++ l) (sym (append-nil s.bytes))) (ap (λ (l : List ℕ). t.all ++ (l ++ batch_bytes batch)) (sym (append-nil s.bytes)))
    (last_or_none t s batch.shares batch.first batch.more left next rests h)
batch_or_none t (s ∷ r ∷ more) batch [] (next, rests) h = absurd (⊎_elim (λ e. not_blank s next.stamped e) (λ e. not_blank s next.stamped e) (h 0))
batch_or_none t (s ∷ r ∷ more) batch (x ∷ left) (next, rests) h =
    let e : x ≡ s = ⊎_elim (λ e. e) (λ e. e) (h 0) in
    let bytes = sector_bytes (r ∷ more) in
    either_way (read_on t (x ∷ left)) (read_on (with_sector t s) left) ((t.all ++ s.bytes) ++ bytes) ((t.all ++ s.bytes) ++ (bytes ++ batch_bytes batch))
    (t.all ++ (s.bytes ++ bytes)) (t.all ++ ((s.bytes ++ bytes) ++ batch_bytes batch))
    (ap (λ (z : Stamped). read_on t (z ∷ left)) e ∙ takes t s left next)
    (append_assoc t.all s.bytes bytes)
    (append_assoc t.all s.bytes (bytes ++ batch_bytes batch) ∙ ap (λ (l : List ℕ). t.all ++ l) (sym (append_assoc s.bytes bytes (batch_bytes batch))))
    (batch_or_none (with_sector t s) (r ∷ more) batch left rests (λ k. h (suc k)))

-- what has the sectors of a journal at rest, and blank ones after them, is read as that journal
pub same_reads : (t : Taken) (sectors left : List Stamped) → IsAtRest t sectors → ((k : ℕ) → sector_at left k ≡ sector_at sectors k)
    → stream_of (read_on t left) ≡ Some (t.all ++ sector_bytes sectors)
same_reads t [] left whole h = ap stream_of (all_blank t left (λ k. inl (h k))) ∙ ap Some (whole ∙ sym (append-nil t.all))
same_reads t (s ∷ rest) [] (next, more) h = absurd (not_blank s next.stamped (h 0))
same_reads t (s ∷ rest) (x ∷ left) (next, more) h =
    ap (λ (y : Stamped). stream_of (read_on t (y ∷ left))) (h 0) ∙ ap stream_of (takes t s left next)
    ∙ same_reads (with_sector t s) rest left more (λ k. h (suc k)) ∙ ap Some (append_assoc t.all s.bytes (sector_bytes rest))
