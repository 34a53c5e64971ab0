-- Buffers that are filled or emptied piece by piece, and counts that rise.
use Rattle.std.proofs.Common.{◌≡◌, ℕ, ◌*◌, [], ◌∷◌, get_or, flat_map, All, subst, Option, ◌+◌, ◌-◌, ◌<◌, ◌≤◌, min, List, ◌++◌, length, take, drop, sym, ap, ◌∙◌, append_assoc, arith, length-append}
use Rattle.std.proofs.lemmas.List.{take-append-le, take-append-drop, take_min, drop_more, append-nil}
use Rattle.std.proofs.lemmas.Grind.{common_steps, flat_map-append}
use Rattle.std.proofs.lemmas.List.Elements.{All-append, All-cons, All-nil}
use Rattle.std.proofs.KnownBytes.{Appends-trans, Consumes-trans}
use Rattle.std.specs.Io.KnownBytes.{Appends, Consumes}
use Rattle.std.proofs.Math.Nat.{mul_comm, mul-le-mul_right, add-mul}
use Rattle.tb_records.proofs.ItemBytes.{length_items}
use Rattle.tb_records.specs.declared.faults.FrameFault.{FrameFault}
use Rattle.tb_records.specs.declared.faults.FrameFault.TheVariants.{Short, Device}
use Rattle.std.proofs.Math.Seq.{take-add, take-append-add}
use Rattle.std.proofs.lemmas.Bool.Decides.{nat_tests}
use Rattle.std.proofs.lemmas.Slice.{between_to_end, take-put_mid}
use Rattle.std.specs.List.{between}
use borrow.Rule.Slice.PartMut.{put_mid}
use Rattle.tb_records.specs.Transport.{Output, Takes, Refuses, CutOff}
use Rattle.tb_records.specs.private.Reading.{ReadFault, BodyFault}

-- a beginning that was filled, and then a part of the rest
pub filled : (at n k : ℕ) (xs ys : List ℕ) → at ≤ length xs → n ≤ length ys → take (at + n) (put_mid at k xs ys) ≡ take at xs ++ take n ys
filled at n k xs ys h hn = grind (arith, common_steps, take-append-add, take-append-le)

-- a beginning that was taken, and then a part of the rest
pub taken : (at n end : ℕ) (xs : List ℕ) → length xs ≤ end → take (at + n) xs ≡ take at xs ++ take n (between at end xs)
taken at n end xs h = grind (arith, take-add, between_to_end)

-- a writer that takes something does not stall
pub flows : (n : ℕ) (bytes : List ℕ) (mid new : Output) → (n ≡ 0 → ⊥) → Takes n bytes mid new → new.stalled ≡ mid.stalled
flows n bytes mid new h takes = grind (arith, nat_tests)

-- a refusal after results that were not refusals
pub refuses_since : (old mid new : Output) → mid.failed ≡ old.failed → mid.stalled ≡ old.stalled → Refuses mid new → Refuses old new
refuses_since old mid new counted flowed refuses = grind arith

-- the buffer holds what was read into its rest
pub put_mid-long : (at n : ℕ) (xs ys : List ℕ) → at ≤ length xs → n ≤ length ys → at + n ≤ length (put_mid at (length xs - at) xs ys)
put_mid-long at n xs ys h hn = grind (arith, common_steps)

-- no more was taken than was left
pub between-long : (at n : ℕ) (xs : List ℕ) → at ≤ length xs → n ≤ length (between at (length xs) xs) → at + n ≤ length xs
between-long at n xs h hn = grind (arith, common_steps)

-- one item more
pub one_more : {X : Type 0} (items : List X) (k : ℕ) (x : X) → k < length items → x ≡ get_or items k x → take (k + 1) items ≡ take k items ++ x ∷ []
one_more items k x h e =
    let next : take 1 (drop k items) ≡ x ∷ [] = ap (take 1) (drop_more items k x h ∙ ap (λ y. y ∷ drop (k + 1) items) (sym e)) in
    take-add k 1 items ∙ ap (λ l. take k items ++ l) next

-- one item more fits
pub fit_more : {X : Type 0} (Fits : X → Type 0) (items : List X) (k : ℕ) (x : X) → k < length items → x ≡ get_or items k x → Fits x → All Fits (take k items) → All Fits (take (k + 1) items)
fit_more Fits items k x h e fits all =
    subst (All Fits) (sym (one_more items k x h e))
    (All-append Fits (take k items) (x ∷ []) all (All-cons Fits x [] fits (All-nil Fits)))

-- the encoding of one item more
pub spelled_more : {X : Type 0} (spelling : X → List ℕ) (items : List X) (k : ℕ) (x : X) → k < length items → x ≡ get_or items k x
    → flat_map spelling (take (k + 1) items) ≡ flat_map spelling (take k items) ++ spelling x
spelled_more spelling items k x h e =
    ap (flat_map spelling) (one_more items k x h e)
    ∙ flat_map-append spelling (take k items) (x ∷ [])
    ∙ ap (λ l. flat_map spelling (take k items) ++ l) (append-nil (spelling x))

-- one item more was appended
pub appended_more : {X : Type 0} (spelling : X → List ℕ) (items : List X) (k : ℕ) (x : X) (old done new bytes : List ℕ) → k < length items → x ≡ get_or items k x
    → done ≡ old ++ flat_map spelling (take k items) → new ≡ done ++ bytes → bytes ≡ spelling x → new ≡ old ++ flat_map spelling (take (k + 1) items)
appended_more spelling items k x old done new bytes h e before pushed is =
    pushed
    ∙ (λ i. before i ++ is i)
    ∙ append_assoc old (flat_map spelling (take k items)) (spelling x)
    ∙ ap (λ l. old ++ l) (sym (spelled_more spelling items k x h e))

-- one item more has room behind those before it
pub item_room : (size k count at long : ℕ) → k < count → at ≡ size * k → count * size ≤ long → at + size ≤ long
item_room size k count at long h place block =
    let next : (k + 1) * size ≤ count * size = mul-le-mul_right size (omega arith) in
    omega (arith, add-mul k 1 size, mul_comm size k, next)

-- a part of the buffer was written over
pub put_long : (at k : ℕ) (xs ys : List ℕ) → at + k ≤ length xs → length ys ≡ k → length (put_mid at k xs ys) ≡ length xs
put_long at k xs ys h long = grind (arith, common_steps)

-- the bytes of the items that are left are those of one and of the others
pub rows_left : (size count k : ℕ) → k < count → size * (count - k) ≡ size * (count - (k + 1)) + size
rows_left size count k h =
    let more : count - k ≡ count - (k + 1) + 1 = omega arith in
    ap (λ n. size * n) more ∙ omega arith

-- one item was written behind those before it
pub item_put : {X : Type 0} (spelling : X → List ℕ) (items : List X) (x : X) (k at n m : ℕ) (block part : List ℕ) → k < length items → x ≡ get_or items k x → part ≡ spelling x
    → n ≡ length part → at ≤ length block → take at block ≡ flat_map spelling (take k items) → take (at + n) (put_mid at m block part) ≡ flat_map spelling (take (k + 1) items)
item_put spelling items x k at n m block part h e is long within done =
    take-put_mid at m block part (at + n) (omega arith) within
    ∙ (λ i. done i ++ is i)
    ∙ sym (spelled_more spelling items k x h e)

-- items were read after others
pub items_read : {X : Type 0} (spelling : X → List ℕ) (items more : List X) (bytes : List ℕ) (a b c : Option (List ℕ))
    → flat_map spelling more ≡ flat_map spelling items ++ bytes → Consumes a b (flat_map spelling items) → Consumes b c bytes → Consumes a c (flat_map spelling more)
items_read spelling items more bytes a b c e one two = subst (Consumes a c) (sym e) (Consumes-trans a b c (flat_map spelling items) bytes one two)

-- so many items have room in the buffer
pub part_within : (n at_once size bytes long : ℕ) → n ≤ at_once → bytes ≡ size → at_once * size ≤ long → n * bytes ≤ long
part_within n at_once size bytes long few is buffer =
    let all : n * size ≤ at_once * size = mul-le-mul_right size few in
    let same : n * bytes ≡ n * size = ap (λ k. n * k) is in
    omega arith

-- bytes were cut off in one of their parts
pub cut_off_in : (front bytes rest whole : List ℕ) (old mid new : Output)
    → whole ≡ front ++ (bytes ++ rest) → Appends old.written mid.written front → mid.failed ≡ old.failed → mid.stalled ≡ old.stalled
    → CutOff bytes mid new → CutOff whole old new
cut_off_in front bytes rest whole old mid new parts grown counted flowed cut =
    let n = min cut.count (length bytes) in
    let here : take (length front + n) whole ≡ front ++ take cut.count bytes =
    ap (take (length front + n)) parts
    ∙ take-append-add front (bytes ++ rest) n
    ∙ ap (λ l. front ++ l) (take-append-le n bytes rest (omega arith) ∙ take_min cut.count bytes) in
    record {
      count = length front + n;
      grown = subst (Appends old.written new.written) (sym here) (Appends-trans old.written mid.written new.written front (take cut.count bytes) grown cut.grown);
      refused = refuses_since old mid new counted flowed cut.refused;
    }

-- the encodings of a list in three parts
pub spellings_in : {X : Type 0} (spelling : X → List ℕ) (front part rest items : List X) → items ≡ front ++ (part ++ rest)
    → flat_map spelling items ≡ flat_map spelling front ++ (flat_map spelling part ++ flat_map spelling rest)
spellings_in spelling front part rest items parts = grind (arith, flat_map-append)

-- two parts of a row, cut at one place
pub rejoined : {X : Type 0} (n : ℕ) (xs front more : List X) → front ≡ take n xs → more ≡ drop n xs → front ++ more ≡ xs
rejoined n xs front more e f = grind (arith, take-append-drop)

-- items of one size
pub length-items : {X : Type 0} (spelling : X → List ℕ) (size : ℕ) (items : List X) → ((x : X) → length (spelling x) ≡ size) → length (flat_map spelling items) ≡ length items * size
length-items spelling size items each = length_items spelling size each items ∙ mul_comm size (length items)

-- items, and n more, have no more bytes than all
spread : {X : Type 0} (items : List X) (n count size : ℕ) → length items + n ≤ count → length items * size + n * size ≤ count * size
spread items n count size h =
    let all : (length items + n) * size ≤ count * size = mul-le-mul_right size h in
    omega (arith, add-mul (length items) n size, all)

-- a row of items, of which n more could not be read
pub items_cut : {X : Type 0} (fault : FrameFault) (spelling : X → List ℕ) (count size n long : ℕ) (items : List X) (a b c : Option (List ℕ))
    → length items + n ≤ count → long ≡ n * size → ((x : X) → length (spelling x) ≡ size) → Consumes a b (flat_map spelling items)
    → ReadFault fault long b c → BodyFault fault (count * size) a c
items_cut Short spelling count size n long items a b c h same each bytes cut =
    let front = flat_map spelling items in
    let fits : length items * size + n * size ≤ count * size = spread items n count size h in
    record {
      rest = front ++ cut.rest;
      short = omega (arith, length-append front cut.rest, length-items spelling size items each, cut.short);
      bytes = Consumes-trans a b c front cut.rest bytes cut.bytes;
      end = cut.end;
    }
items_cut Device spelling count size n long items a b c h same each bytes cut =
    let front = flat_map spelling items in
    let fits : length items * size + n * size ≤ count * size = spread items n count size h in
    record {
      front = front ++ cut.front;
      short = omega (arith, length-append front cut.front, length-items spelling size items each, cut.short);
      bytes = Consumes-trans a b c front cut.front bytes cut.bytes;
    }
items_cut fault spelling count size n long items a b c h same each bytes cut = absurd cut
