-- What is read of a dump, by where its reading ended.
use Rattle.std.proofs.Common.{◌≡◌, true, nat_eq, ℕ, ◌^◌, ◌<◌, ◌≤◌, List, [], ◌∷◌, ◌++◌, length, take, drop, Option, Some, None, Result, Ok, Err, OnOk, inl, inr, refl, sym, ap, subst, ◌∙◌, arith, length-append, length-take, drop_at, append_assoc, append-nil, take_all}
use Rattle.std.proofs.lemmas.Bool.Decides.{Decides-eqb}
use Rattle.std.proofs.lemmas.List.{drop_all}
use Rattle.std.proofs.lemmas.Slice.Eq.{slice_eq-Decides}
use Rattle.std.specs.List.{starts_with}
use Rattle.tb_records.specs.declared.dumps.DumpFault.TheVariants.{Head, Mark, Frame}
use Rattle.tb_records.specs.declared.dumps.DumpItem.TheVariants as item
use Rattle.tb_records.specs.declared.faults.FrameFault.{FrameFault}
use Rattle.tb_records.specs.declared.faults.FrameFault.TheVariants.{Short, Device}
use Rattle.tb_records.specs.declared.limits.Profile.{Profile}
use Rattle.tb_records.specs.DumpBytes.{signature, profile_number, head_bytes, numbers_bytes, IsClients, HasNoHead, HeadAnswers, ItemAnswers, ItemFaulted, Begins, IsDumped}
use Rattle.tb_records.specs.private.DumpNumbers.{ReadsNumbers, IsHead}
use Rattle.tb_records.specs.Frames.{length_at, request_bytes, IsRequest}
use Rattle.tb_records.specs.Messages.{Message}
use Rattle.tb_records.specs.Inputs.{Answers, Faulted}
use Rattle.tb_records.specs.Numbers.{le_bytes}
use Rattle.tb_records.proofs.Sizes.{length-le_bytes}
use Rattle.tb_records.specs.private.Reading.{Filled, Lost}
use Rattle.tb_records.specs.declared.dumps.DumpHead.{DumpHead}
use Rattle.tb_records.proofs.FrameFaults.{cut_header}
use Rattle.tb_records.proofs.NumberBytes.{split_at}
use Rattle.tb_records.proofs.Rows.{Fit, Stand, row_bytes, row_stands, one_row}

-- heads

-- it begins with the signature
pub signed : (profile : Profile) (clients_max : ℕ) (rest : List ℕ) → starts_with nat_eq (head_bytes profile clients_max ++ rest) signature ≡ true
unfolding head_bytes
signed profile clients_max rest = refl

pub length-head : (profile : Profile) (clients_max : ℕ) → length (head_bytes profile clients_max) ≡ 16
unfolding head_bytes
length-head profile clients_max = simp (length-append, length-le_bytes)

-- the numbers of a head
abbrev head_row : Profile → ℕ → List ℕ
head_row profile clients_max = profile_number profile ∷ clients_max ∷ []

head_fits : (profile : Profile) (clients_max : ℕ) → IsClients clients_max → Fit (4 ∷ 4 ∷ []) (head_row profile clients_max)
head_fits profile clients_max few = grind arith

-- they are in bytes that begin with it
pub head_stands : (profile : Profile) (clients_max : ℕ) (rest : List ℕ) → IsClients clients_max → Stand (4 ∷ 4 ∷ []) (head_row profile clients_max) 8 (head_bytes profile clients_max ++ rest)
unfolding head_bytes le_bytes
head_stands profile clients_max rest few = row_stands (4 ∷ 4 ∷ []) (head_row profile clients_max) 8 signature rest refl (head_fits profile clients_max few)

-- too few bytes for a head
short_head : (b : List ℕ) → length b < 16 → HasNoHead b
short_head b few profile clients_max rest is e = absurd (grind (arith, length-append, length-head))

-- more bytes after them make no head
no_head_more : (b more : List ℕ) → length b ≡ 16 → HasNoHead b → HasNoHead (b ++ more)
no_head_more b more long none profile clients_max rest is e =
    none profile clients_max [] is ((split_at b (head_bytes profile clients_max) more rest (long ∙ sym (length-head profile clients_max)) e).0 ∙ sym (append-nil (head_bytes profile clients_max)))

-- the head is cut
pub cut_head : (buf : List ℕ) (n : ℕ) (old new : Option (List ℕ)) → n < 16 → length buf ≡ 16 → Filled n buf old new → HeadAnswers (Err Head) old new
cut_head buf n None new h long f = tt
cut_head buf n (Some old) None h long f = absurd f.bytes
cut_head buf n (Some old) (Some new) h long f =
    let left : old ≡ take n buf ++ new = f.bytes in
    let none : new ≡ [] = f.end (omega arith) in
    let size : length old ≡ n = omega (arith, ap length left, ap length none, length-append (take n buf) new, length-take n buf) in
    (short_head old (omega (arith, size)), none ∙ sym (drop_all 16 old (omega (arith, size))))

-- 16 bytes that are no head
pub other_head : (buf : List ℕ) (n : ℕ) (old new : Option (List ℕ)) → 16 ≤ n → length buf ≡ 16 → Filled n buf old new → HasNoHead buf → HeadAnswers (Err Head) old new
other_head buf n None new h long f none = tt
other_head buf n (Some old) None h long f none = absurd f.bytes
other_head buf n (Some old) (Some new) h long f none =
    let left : old ≡ buf ++ new = subst (λ l. old ≡ l ++ new) (take_all n buf (omega arith)) f.bytes in
    (subst HasNoHead (sym left) (no_head_more buf new long none), sym (drop_at buf new 16 long) ∙ ap (drop 16) (sym left))

-- the reader failed within the head
pub lost_head : (fault : FrameFault) (old new : Option (List ℕ)) → fault ≡ Device → Lost 16 old new → HeadAnswers (Err (Frame fault)) old new
lost_head fault None new is lost = tt
lost_head fault (Some old) None is lost = absurd lost.bytes
lost_head fault (Some old) (Some new) is lost = subst (λ f. HeadAnswers (Err (Frame f)) (Some old) (Some new)) (sym is) (lost.front, lost.short, lost.bytes)

-- a head was read
pub whole_head : (buf : List ℕ) (n : ℕ) (head : DumpHead) (old new : Option (List ℕ)) → 16 ≤ n → length buf ≡ 16 → Filled n buf old new → IsHead buf head → HeadAnswers (Ok head) old new
whole_head buf n head None new h long f is = tt
whole_head buf n head (Some old) None h long f is = absurd f.bytes
whole_head buf n head (Some old) (Some new) h long f is =
    (f.bytes ∙ ap (λ l. l ++ new) (take_all n buf (omega arith) ∙ is.0), is.1)

-- marks and entries

pub length-numbers : (first second : ℕ) → length (numbers_bytes first second) ≡ 16
unfolding numbers_bytes
length-numbers first second = simp (length-append, length-le_bytes)

-- an entry's numbers were read, and what follows them
begins : (commit time : ℕ) (old mid : List ℕ) → (commit ≡ 0 → ⊥) → old ≡ numbers_bytes commit time ++ mid → Begins old mid
begins commit time old mid some left = record { commit = commit; time = time; entry = omega arith; bytes = left }

pub no_frame : (commit time : ℕ) (old mid new : Option (List ℕ)) → (commit ≡ 0 → ⊥) → ReadsNumbers commit time old mid → Answers (Ok None) mid new → ItemAnswers (Err (Frame Short)) old new
no_frame commit time old mid new some read rest = grind (arith, cut_header)

pub bad_frame : (fault : FrameFault) (commit time : ℕ) (old mid new : Option (List ℕ)) → (commit ≡ 0 → ⊥) → ReadsNumbers commit time old mid → Answers (Err fault) mid new → ItemAnswers (Err (Frame fault)) old new
bad_frame fault commit time None mid new some read rest = tt
bad_frame fault commit time (Some old) None new some read rest = absurd read.bytes
bad_frame fault commit time (Some old) (Some mid) None some read rest = absurd rest
bad_frame fault commit time (Some old) (Some mid) (Some new) some read rest = by fault (begins commit time old mid some read.bytes) read.bytes rest
  where
    by : (fault : FrameFault) → Begins old mid → old ≡ numbers_bytes commit time ++ mid → Faulted fault mid new → ItemFaulted (Frame fault) old new
    by Device begun left rest =
        let behind : drop 16 old ≡ mid = ap (drop 16) left ∙ drop_at (numbers_bytes commit time) mid 16 (length-numbers commit time) in (
          numbers_bytes commit time ++ rest.0,
          omega (arith, length-append (numbers_bytes commit time) rest.0, length-numbers commit time, rest.1, ap length_at behind),
          left ∙ ap (λ l. numbers_bytes commit time ++ l) rest.2 ∙ sym (append_assoc (numbers_bytes commit time) rest.0 new),
        )
    by Short begun left rest = inr (mid, begun, (rest.1, rest.2))
    by fault begun left rest = (mid, begun, rest)

-- the reader failed within the two numbers
pub lost_numbers : (fault : FrameFault) (old new : Option (List ℕ)) → fault ≡ Device → Lost 16 old new → ItemAnswers (Err (Frame fault)) old new
lost_numbers fault None new is lost = tt
lost_numbers fault (Some old) None is lost = absurd lost.bytes
lost_numbers fault (Some old) (Some new) is lost = subst (λ f. ItemAnswers (Err (Frame f)) (Some old) (Some new)) (sym is) (lost.front, omega (arith, lost.short), lost.bytes)

-- the two numbers are cut
pub cut_numbers : (buf : List ℕ) (n : ℕ) (old new : Option (List ℕ)) → (n ≡ 0 → ⊥) → n < 16 → length buf ≡ 16 → Filled n buf old new → ItemAnswers (Err (Frame Short)) old new
cut_numbers buf n None new some h long f = tt
cut_numbers buf n (Some old) None some h long f = absurd f.bytes
cut_numbers buf n (Some old) (Some new) some h long f =
    let left : old ≡ take n buf ++ new = f.bytes in
    let none : new ≡ [] = f.end (omega arith) in
    let size : length old ≡ n = omega (arith, ap length left, ap length none, length-append (take n buf) new, length-take n buf) in
    inl ((omega (arith, size), omega (arith, size)), none)

-- a mark was read, or another number in its place
pub read_mark : (commit time : ℕ) (old new : Option (List ℕ)) → commit ≡ 0 → time ≡ 2 → ReadsNumbers commit time old new → ItemAnswers (Ok (Some item.Mark)) old new
read_mark commit time None new zero two read = tt
read_mark commit time (Some old) None zero two read = absurd read.bytes
read_mark commit time (Some old) (Some new) zero two read = read.bytes ∙ (λ i. numbers_bytes (zero i) (two i) ++ new)

pub no_mark : (commit time : ℕ) (old new : Option (List ℕ)) → commit ≡ 0 → (time ≡ 2 → ⊥) → ReadsNumbers commit time old new → ItemAnswers (Err Mark) old new
no_mark commit time None new zero other read = tt
no_mark commit time (Some old) None zero other read = absurd read.bytes
no_mark commit time (Some old) (Some new) zero other read = (time, read.bytes ∙ (λ i. numbers_bytes (zero i) time ++ new), read.second_fits, other)

-- an entry was read
pub whole_entry : (commit time : ℕ) (r : Message) (old mid new : Option (List ℕ)) → (commit ≡ 0 → ⊥) → ReadsNumbers commit time old mid → Answers (Ok (Some r)) mid new
    → ItemAnswers (Ok (Some (item.Entry commit time r))) old new
whole_entry commit time r None mid new some read rest = tt
whole_entry commit time r (Some old) None new some read rest = absurd read.bytes
whole_entry commit time r (Some old) (Some mid) None some read rest = absurd rest
whole_entry commit time r (Some old) (Some mid) (Some new) some read rest = (
  read.bytes ∙ ap (λ l. numbers_bytes commit time ++ l) rest.0 ∙ sym (append_assoc (numbers_bytes commit time) (request_bytes r) new),
  record { entry = omega arith; commit_fits = read.first_fits; time_fits = read.second_fits; request = rest.1 },
)

-- the numbers of an entry that was sent fit
pub entry_fits : (commit time : ℕ) (r : Message) (result : Result (Unit {0}) FrameFault) → commit < 2 ^ 64 → time < 2 ^ 64 → OnOk result (IsRequest r)
    → OnOk result (0 < commit → IsDumped commit time r)
entry_fits commit time r (Ok x) commit_fits time_fits is = λ some. record {
  entry = some;
  commit_fits = commit_fits;
  time_fits = time_fits;
  request = is;
}
entry_fits commit time r (Err fault) commit_fits time_fits is = tt

-- the numbers that 16 bytes encode
pub two_numbers : (buf : List ℕ) (n : ℕ) (first second : ℕ) (old new : Option (List ℕ)) → 16 ≤ n → length buf ≡ 16 → Filled n buf old new
    → take 8 buf ≡ take 0 buf ++ le_bytes 8 first → take 16 buf ≡ take 8 buf ++ le_bytes 8 second → first < 2 ^ 64 → second < 2 ^ 64 → ReadsNumbers first second old new
unfolding numbers_bytes
two_numbers buf n first second old new h long f first_bytes second_bytes first_fits second_fits =
    let all = take_all n buf (omega arith) in
    let whole = take_all 16 buf (omega arith) in
    grind arith

-- the head that 16 bytes encode
pub spelled_head : (buf : List ℕ) (number clients_max : ℕ) (profile : Profile) → length buf ≡ 16 → starts_with nat_eq buf signature ≡ true → number ≡ profile_number profile
    → take 12 buf ≡ take 8 buf ++ le_bytes 4 number → take 16 buf ≡ take 12 buf ++ le_bytes 4 clients_max → buf ≡ head_bytes profile clients_max
unfolding head_bytes
spelled_head buf number clients_max profile long is_signed is_number f g =
    let first : signature ≡ take 8 buf = (slice_eq-Decides Decides-eqb signature (take 8 buf) (starts_with nat_eq buf signature) refl).0 is_signed in
    cc (take_all 16 buf (omega arith), first)

-- one reading

pub one_head : (p q : Profile) (m n : ℕ) (xs ys : List ℕ) → IsClients m → IsClients n → head_bytes p m ++ xs ≡ head_bytes q n ++ ys → (p ≡ q) × (m ≡ n) × (xs ≡ ys)
unfolding head_bytes le_bytes
one_head p q m n xs ys few_m few_n e =
    let cut = split_at signature signature (row_bytes (4 ∷ 4 ∷ []) (head_row p m) ++ xs) (row_bytes (4 ∷ 4 ∷ []) (head_row q n) ++ ys) refl e in
    let same = one_row (4 ∷ 4 ∷ []) (head_row p m) (head_row q n) xs ys refl refl (head_fits p m few_m) (head_fits q n few_n) cut.1 in
    let profile : p ≡ q = grind arith in
    (profile, cc same.0, same.1)

pub one_numbers : (a b c d : ℕ) (xs ys : List ℕ) → a < 2 ^ 64 → b < 2 ^ 64 → c < 2 ^ 64 → d < 2 ^ 64 → numbers_bytes a b ++ xs ≡ numbers_bytes c d ++ ys → (a ≡ c) × (b ≡ d) × (xs ≡ ys)
unfolding numbers_bytes le_bytes
one_numbers a b c d xs ys fit_a fit_b fit_c fit_d e =
    let same = one_row (8 ∷ 8 ∷ []) (a ∷ b ∷ []) (c ∷ d ∷ []) xs ys refl refl (fit_a, (fit_b, tt)) (fit_c, (fit_d, tt)) e in
    (cc same.0, cc same.0, same.1)
