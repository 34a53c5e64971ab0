-- What is read of blocks that end at a closed latch, and of what is shown after it.
use Rattle.std.proofs.Common.{◌≡◌, ⊎_elim, ℕ, ◌+◌, ◌-◌, ◌≤◌, ◌<◌, min, max, List, [], ◌∷◌, ◌++◌, length, take, drop, replicate, refl, sym, ◌∙◌, ap, arith, length-append, length-drop, append_assoc, take-append-drop}
use Rattle.std.proofs.lemmas.List.{append-nil, take-take, drop-take, take_at, drop_at, take_all, drop_all, length-take-le, take-replicate, drop-replicate, length-replicate}
use Rattle.std.proofs.lemmas.Bool.{cases_lt}
use Rattle.tb_file_journal.specs.Device.{ReadsAt}
use Rattle.tb_file_journal.specs.Contents.{latch_closed}
use Rattle.tb_file_journal.specs.Snapshots.{behind_blocks}
use Rattle.tb_file_journal.proofs.BlockWalks.{take_parts, drop_parts}
use Rattle.tb_file_journal.proofs.Showing.{length-behind}

pub nothing : (l : List ℕ) → length l ≡ 0 → l ≡ []
nothing [] is = refl
nothing (x ∷ l) is = absurd (omega (arith, is))

-- the first bytes of two lists, of which the first is not long enough
take_over : (m : ℕ) (xs ys : List ℕ) → length xs ≤ m → take m (xs ++ ys) ≡ xs ++ take (m - length xs) ys
take_over m xs ys le =
    let n = length xs in
    let k = m - n in
    let far : m ≡ n + k = omega (arith, le) in
    ap (λ (j : ℕ). take j (xs ++ ys)) far ∙ take_parts n k (xs ++ ys) ∙ ap (λ (l : List ℕ). l ++ take k (drop n (xs ++ ys))) (take_at xs ys n refl)
    ∙ ap (λ (l : List ℕ). xs ++ take k l) (drop_at xs ys n refl)

-- what is left of the first list after its first elements are dropped
drop_within : (m : ℕ) (xs ys : List ℕ) → m ≤ length xs → drop m (xs ++ ys) ≡ drop m xs ++ ys
drop_within m xs ys le =
    ap (λ (l : List ℕ). drop m (l ++ ys)) (sym (take-append-drop m xs)) ∙ ap (drop m) (append_assoc (take m xs) (drop m xs) ys)
    ∙ drop_at (take m xs) (drop m xs ++ ys) m (length-take-le m xs le)

take_within : (m : ℕ) (xs ys : List ℕ) → m ≤ length xs → take m (xs ++ ys) ≡ take m xs
take_within m xs ys le =
    sym (take-take m (length xs) (xs ++ ys) le) ∙ ap (take m) (take_at xs ys (length xs) refl)

-- a latch and zeros, from so many of their bytes on

module _ (skip count others : ℕ) (room : skip + count ≤ 4 + others) where
  pub zeros_alone : 4 ≤ skip → replicate count 0 ≡ take count (drop skip (behind_blocks others))
  zeros_alone past =
      let k = skip - 4 in
      let far : skip ≡ 4 + k = omega (arith, past) in
      let behind : drop skip (behind_blocks others) ≡ replicate (others - k) 0 =
      ap (λ (n : ℕ). drop n (behind_blocks others)) far ∙ drop_parts 4 k (behind_blocks others) ∙ drop-replicate k others 0 in
      sym (ap (take count) behind ∙ take-replicate count (others - k) 0 (omega (arith, past, room)))

  module _ (n : ℕ) (before : skip < 4) (is : n ≡ min count (4 - skip)) where
    abbrev latch_left : List ℕ
    latch_left = drop skip latch_closed

    latch_long : length latch_left ≡ 4 - skip
    latch_long = length-drop skip latch_closed

    latch_behind : drop skip (behind_blocks others) ≡ latch_left ++ replicate others 0
    latch_behind = drop_within skip latch_closed (replicate others 0) (omega (arith, before))

    pub latch_first : take n latch_left ++ drop n (replicate count 0) ≡ take count (drop skip (behind_blocks others))
    latch_first = ⊎_elim few many (cases_lt count (4 - skip))
      where
        few : count < 4 - skip → take n latch_left ++ drop n (replicate count 0) ≡ take count (drop skip (behind_blocks others))
        few less =
            let all : n ≡ count = omega (arith, is, less) in
            ap (λ (l : List ℕ). take n latch_left ++ l) (drop_all n (replicate count 0) (omega (arith, length-replicate {A = ℕ} count 0, all)))
            ∙ append-nil (take n latch_left) ∙ ap (λ (k : ℕ). take k latch_left) all
            ∙ sym (ap (take count) latch_behind ∙ take_within count latch_left (replicate others 0) (omega (arith, latch_long, less)))

        many : 4 - skip ≤ count → take n latch_left ++ drop n (replicate count 0) ≡ take count (drop skip (behind_blocks others))
        many enough =
            let some : n ≡ 4 - skip = omega (arith, is, enough) in
            let rest = count - length latch_left in
            ap (λ (l : List ℕ). l ++ drop n (replicate count 0)) (take_all n latch_left (omega (arith, latch_long, some)))
            ∙ ap (λ (l : List ℕ). latch_left ++ l) (drop-replicate n count 0 ∙ ap (λ (k : ℕ). replicate k 0) (omega (arith, latch_long, some)))
            ∙ sym (ap (take count) latch_behind ∙ take_over count latch_left (replicate others 0) (omega (arith, latch_long, enough))
            ∙ ap (λ (l : List ℕ). latch_left ++ l) (take-replicate rest others 0 (omega (arith, latch_long, enough, room, before))))

-- reads

module _ (count at end len : ℕ) (file read : List ℕ) (there : end ≤ length file) (reads : ReadsAt count at file read) where
  abbrev others : ℕ
  others = len - (end + 4)

  abbrev shown : List ℕ
  shown = take end file ++ behind_blocks others

  long : length (take end file) ≡ end
  long = length-take-le end file there

  size : length shown ≡ end + (4 + others)
  size = omega (arith, length-append (take end file) (behind_blocks others), long, length-behind others)

  abbrev left : ℕ
  left = end - at

  -- the read reaches past the blocks
  module _ (into put : List ℕ) (told : ℕ) (room : left < length read) (enough : left ≤ count) (is : told ≡ min (length read) (max len (end + 4) - at)) where
    abbrev behind : List ℕ
    behind = behind_blocks others

    within_told : told ≤ length read
    within_told = omega (arith, is)

    far : told ≡ left + (told - left)
    far = omega (arith, is, room)

    many : told ≤ length shown - at
    many = omega (arith, is, size)

    front_read : take left read ≡ take left (drop at file)
    front_read = sym (take-take left count read enough) ∙ ap (take left) reads.bytes ∙ take-take left count (drop at file) enough

    front_long : length (take left read) ≡ left
    front_long = length-take-le left read (omega (arith, room))

    -- what is shown from the offset on
    within_blocks : at ≤ end → drop at shown ≡ take left (drop at file) ++ drop (at - end) behind
    within_blocks le =
        let place : at + left ≡ end = omega (arith, le) in
        let none : at - end ≡ 0 = omega (arith, le) in
        drop_within at (take end file) behind (omega (arith, long, le))
        ∙ ap (λ (l : List ℕ). l ++ behind) (ap (λ (k : ℕ). drop at (take k file)) (sym place) ∙ drop-take at left file)
        ∙ ap (λ (k : ℕ). take left (drop at file) ++ drop k behind) (sym none)

    past_blocks : end < at → drop at shown ≡ take left (drop at file) ++ drop (at - end) behind
    past_blocks past =
        let place : at ≡ end + (at - end) = omega (arith, past) in
        let none : left ≡ 0 = omega (arith, past) in
        ap (λ (k : ℕ). drop k shown) place ∙ drop_parts end (at - end) shown ∙ ap (drop (at - end)) (drop_at (take end file) behind end long)
        ∙ ap (λ (k : ℕ). take k (drop at file) ++ drop (at - end) behind) (sym none)

    shown_from : drop at shown ≡ take left (drop at file) ++ drop (at - end) behind
    shown_from = ⊎_elim past_blocks within_blocks (cases_lt end at)

    pub put_over : put ≡ take (told - left) (drop (at - end) behind) → into ≡ take left read ++ (put ++ drop told read) → ReadsAt told at shown into
    put_over wrote over =
        let long_put : length put ≡ told - left = ap length wrote ∙ length-take-le (told - left) (drop (at - end) behind) (omega (arith, ap length shown_from, length-append (take left (drop at file)) (drop (at - end) behind), ap length front_read, front_long, length-drop at shown, many)) in
        let both : take told into ≡ take left read ++ put =
        ap (take told) (over ∙ sym (append_assoc (take left read) put (drop told read)))
        ∙ take_at (take left read ++ put) (drop told read) told (omega (arith, length-append (take left read) put, front_long, long_put, far)) in
        record {
          counts = omega (arith, is, size, length-drop at shown, ap length over, length-append (take left read) (put ++ drop told read), length-append put (drop told read), length-drop told read, front_long, long_put, within_told, far);
          bytes = both ∙ ap (λ (l : List ℕ). l ++ put) front_read ∙ ap (λ (l : List ℕ). take left (drop at file) ++ l) wrote
              ∙ sym (ap (take told) shown_from
              ∙ take_over told (take left (drop at file)) (drop (at - end) behind) (omega (arith, ap length front_read, front_long, far))
              ∙ ap (λ (k : ℕ). take left (drop at file) ++ take (told - k) (drop (at - end) behind)) (sym (ap length front_read) ∙ front_long));
        }
