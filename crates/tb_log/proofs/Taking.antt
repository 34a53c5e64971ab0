-- What is read in parts, and an entry after its numbers.
use Rattle.std.proofs.Common.{◌≡◌, ◌⊎◌, inl, inr, ℕ, ◌+◌, ◌≤◌, ◌<◌, List, [], ◌∷◌, ◌++◌, length, length-append, length-take, take, slice_index, Option, Some, None, Result, Ok, Err, MatchOption, refl, sym, ap, subst, ◌∙◌, arith, take_all, append_assoc}
use Rattle.std.specs.Io.KnownBytes.{Consumes}
use Rattle.std.proofs.KnownBytes.{Consumes-trans}
use Rattle.std.proofs.lemmas.Bool.Decides.{nat_tests}
use Rattle.tb_records.specs.Numbers.{le_bytes}
use Rattle.tb_records.proofs.Sizes.{length-le_bytes}
use Rattle.tb_records.specs.Transport.{Input, risen}
use Rattle.tb_log.specs.declared.faults.LogFault.{LogFault}
use Rattle.tb_log.specs.declared.faults.LogFault.TheVariants.{Device, NoMemory, Short, Damaged}
use Rattle.tb_log.specs.declared.entries.Head.{Head}
use Rattle.tb_log.specs.Format.{content_max, numbers, checksum_of, summed, number_bytes}
use Rattle.tb_log.specs.Entries.{ReaderFails, head_fault, ReadsEntry, IsShort, LacksEntryMemory, IsDamaged, IsNoPairs, RefusesEntry}
use Rattle.tb_log.specs.Steps.{IsFilledBy, ReadsOnly, EndsWithin, Misses, entry_head_bytes, ReadsContent, MissesContent}

-- a buffer that was filled whole
pub all_filled : (n : ℕ) (buffer : List ℕ) (before after : Input) → length buffer ≤ n → IsFilledBy n buffer before after → ReadsOnly buffer before after
all_filled n buffer before after long filled = record {
  consumed = subst (Consumes before.left after.left) (take_all n buffer long) filled.bytes;
  counted = filled.counted;
}

pub none_filled : (buffer : List ℕ) (before after : Input) → IsFilledBy 0 buffer before after → ReadsOnly [] before after
none_filled buffer before after filled = record { consumed = filled.bytes; counted = filled.counted }

one_byte : (xs : List ℕ) → length xs ≡ 1 → xs ≡ slice_index xs 0 ∷ []
one_byte [] long = absurd (omega arith)
one_byte (x ∷ []) long = refl
one_byte (x ∷ y ∷ ys) long = absurd (omega arith)

pub one_filled : (n : ℕ) (buffer : List ℕ) (before after : Input) → length buffer ≡ 1 → 1 ≤ n → IsFilledBy n buffer before after → ReadsOnly (slice_index buffer 0 ∷ []) before after
one_filled n buffer before after long some filled =
    subst (λ (bs : List ℕ). ReadsOnly bs before after) (one_byte buffer long) (all_filled n buffer before after (omega arith) filled)

-- one part and then another
pub takes_then : (xs ys : List ℕ) (a b c : Input) → ReadsOnly xs a b → ReadsOnly ys b c → ReadsOnly (xs ++ ys) a c
takes_then xs ys a b c one two = record {
  consumed = Consumes-trans a.left b.left c.left xs ys one.consumed two.consumed;
  counted = two.counted ∙ one.counted;
}

-- a fault after what was read
pub breaks_since : (fault : LogFault) (a b c : Input) → b.failed ≡ a.failed → ReaderFails fault b c → ReaderFails fault a c
breaks_since Device a b c counted breaks = record { rose = breaks.rose ∙ ap risen counted; last = breaks.last }
breaks_since fault a b c counted breaks = absurd breaks

-- the end of the input after what was read
ends_since : (n m : ℕ) (xs : List ℕ) (fault : LogFault) (a b c : Input) → ReadsOnly xs a b → length xs + n ≤ m → EndsWithin n fault b c → EndsWithin m fault a c
ends_since n m xs fault a b c one le ends = record {
  bytes = xs ++ ends.bytes;
  few = omega (arith, ends.few, le, length-append xs ends.bytes);
  cut = record {
    read = Consumes-trans a.left b.left c.left xs ends.bytes one.consumed ends.cut.read;
    end = ends.cut.end;
    fault_is = ends.cut.fault_is;
    counted = ends.cut.counted ∙ one.counted;
  };
}

-- bytes that were missed after others are missed from both
missed_since : (n m : ℕ) (xs : List ℕ) (fault : LogFault) (a b c : Input) → ReadsOnly xs a b → length xs + n ≤ m → Misses n fault b c → Misses m fault a c
missed_since n m xs fault a b c one le (inl breaks) = inl (breaks_since fault a b c one.counted breaks)
missed_since n m xs fault a b c one le (inr ends) = inr (ends_since n m xs fault a b c one le ends)

pub missed_whole : (n m : ℕ) (fault : LogFault) (a b : Input) → n ≡ m → Misses n fault a b → Misses m fault a b
missed_whole n m fault a b same misses = subst (λ (k : ℕ). Misses k fault a b) same misses

pub misses_by : (n : ℕ) (fault : LogFault) (a b : Input) → ReaderFails fault a b → Misses n fault a b
misses_by n fault a b breaks = inl breaks

-- a buffer that was not filled whole
pub cut_short : (n : ℕ) (buffer : List ℕ) (a b : Input) → n < length buffer → IsFilledBy n buffer a b → Misses (length buffer) Short a b
cut_short n buffer a b short filled = inr (record {
  bytes = take n buffer;
  few = omega (arith, short, length-take n buffer);
  cut = record { read = filled.bytes; end = filled.end short; fault_is = refl; counted = filled.counted };
})

-- the numbers of an entry

number_long : (n x : ℕ) → length (number_bytes n x) ≡ n
unfolding number_bytes le_bytes
number_long n x = length-le_bytes n x

pub position_missed : (fault : LogFault) (a b : Input) → Misses 8 fault a b → Misses 16 fault a b
position_missed fault a b (inl breaks) = inl breaks
position_missed fault a b (inr ends) = inr (record { bytes = ends.bytes; few = omega (arith, ends.few); cut = ends.cut })

pub length_missed : (position : ℕ) (fault : LogFault) (a b c : Input) → ReadsOnly (number_bytes 8 position) a b → Misses 4 fault b c → Misses 16 fault a c
length_missed position fault a b c one misses =
    missed_since 4 16 (number_bytes 8 position) fault a b c one (omega (arith, number_long 8 position)) misses

pub sum_missed : (position long : ℕ) (fault : LogFault) (a b c d : Input) → ReadsOnly (number_bytes 8 position) a b → ReadsOnly (number_bytes 4 long) b c → Misses 4 fault c d → Misses 16 fault a d
sum_missed position long fault a b c d one two misses =
    missed_since 4 16 (numbers position long) fault a c d (takes_then (number_bytes 8 position) (number_bytes 4 long) a b c one two)
    (omega (arith, length-append (number_bytes 8 position) (number_bytes 4 long), number_long 8 position, number_long 4 long)) misses

pub takes_head : (head : Head) (a b c d : Input) → ReadsOnly (number_bytes 8 head.position) a b → ReadsOnly (number_bytes 4 head.length) b c → ReadsOnly (number_bytes 4 head.checksum) c d → ReadsOnly (entry_head_bytes head) a d
takes_head head a b c d position long sum =
    takes_then (numbers head.position head.length) (number_bytes 4 head.checksum) a c d
    (takes_then (number_bytes 8 head.position) (number_bytes 4 head.length) a b c position long) sum

-- numbers without a fault are those of the next entry
pub record IsNext (last position long : ℕ) : Type 0 where
  pub next : position ≡ last + 1
  pub few : long ≤ content_max

pub next_entry : (last position long : ℕ) → head_fault last position long ≡ None → IsNext last position long
next_entry last position long none = record { next = grind (arith, nat_tests); few = grind (arith, nat_tests) }

-- what was judged
pub sound_of : (o : Option LogFault) (r : Result (Unit {0}) LogFault) (x : Unit {0}) → MatchOption o (r ≡ Ok tt) (λ (f : LogFault). r ≡ Err f) → r ≡ Ok x → o ≡ None
sound_of None r x judged is = refl
sound_of (Some f) r x judged is = absurd cc

-- an entry by its numbers and its content
module _ (head : Head) (last : ℕ) (a b c : Input) (numbered : ReadsOnly (entry_head_bytes head) a b) (sound : head_fault last head.position head.length ≡ None) where
  next : IsNext last head.position head.length
  next = next_entry last head.position head.length sound

  whole : (content : List ℕ) → length content ≡ head.length → entry_head_bytes head ++ content ≡ summed (last + 1) head.checksum content
  unfolding number_bytes
  whole content long =
      append_assoc (numbers head.position head.length) (number_bytes 4 head.checksum) content
      ∙ ap (λ (n : ℕ). numbers head.position n ++ number_bytes 4 head.checksum ++ content) (sym long)
      ∙ ap (λ (p : ℕ). numbers p (length content) ++ number_bytes 4 head.checksum ++ content) next.next

  pub entry_read : (content : List ℕ) → ReadsContent head content b c → (head.position ≡ last + 1) × ReadsEntry content last a c
  entry_read content is = (
    next.next,
    record {
      few = omega (arith, is.long, next.few);
      bytes = subst (Consumes a.left c.left)
          (whole content is.long ∙ ap (λ (s : ℕ). summed (last + 1) s content) (is.sum ∙ ap (λ (p : ℕ). checksum_of p content) next.next))
          (takes_then (entry_head_bytes head) content a b c numbered is.read).consumed;
      counted = is.read.counted ∙ numbered.counted;
    },
  )

  damaged : (fault : LogFault) → MissesContent head fault b c → IsDamaged fault last a c
  damaged fault is = record {
    content = is.content;
    sum = head.checksum;
    bytes = subst (Consumes a.left c.left) (whole is.content is.long) (takes_then (entry_head_bytes head) is.content a b c numbered is.read).consumed;
    wrong = λ same. is.wrong (same ∙ ap (λ (p : ℕ). checksum_of p is.content) (sym next.next));
    fault_is = is.fault_is ∙ ap Damaged next.next;
    counted = is.read.counted ∙ numbered.counted;
  }

  -- the input ended within the content
  cut_off : (fault : LogFault) → EndsWithin head.length fault b c → IsShort fault last a c
  unfolding number_bytes
  cut_off fault ends = record {
    bytes = entry_head_bytes head ++ ends.bytes;
    cut = record {
      read = Consumes-trans a.left b.left c.left (entry_head_bytes head) ends.bytes numbered.consumed ends.cut.read;
      end = ends.cut.end;
      fault_is = ends.cut.fault_is;
      counted = ends.cut.counted ∙ numbered.counted;
    };
    part = inr (record {
      long = head.length;
      sum = head.checksum;
      part = ends.bytes;
      spelled = append_assoc (numbers head.position head.length) (number_bytes 4 head.checksum) ends.bytes
          ∙ ap (λ (p : ℕ). numbers p head.length ++ number_bytes 4 head.checksum ++ ends.bytes) next.next;
      few = ends.few;
      fits = next.few;
    });
  }

  -- there was no memory for the content
  no_room : (fault : LogFault) → fault ≡ NoMemory → c ≡ b → LacksEntryMemory fault last a c
  no_room fault is same = record {
    long = head.length;
    sum = head.checksum;
    fits = next.few;
    bytes = subst (Consumes a.left c.left) (ap (λ (p : ℕ). numbers p head.length ++ number_bytes 4 head.checksum) next.next)
        (subst (λ (i : Input). Consumes a.left i.left (entry_head_bytes head)) (sym same) numbered.consumed);
    fault_is = is;
    counted = ap (λ (i : Input). i.failed) same ∙ numbered.counted;
  }

  pub entry_lost : (fault : LogFault) → Misses head.length fault b c ⊎ MissesContent head fault b c ⊎ ((fault ≡ NoMemory) × (c ≡ b)) → RefusesEntry fault last a c
  entry_lost fault (inl (inl breaks)) = inl (breaks_since fault a b c numbered.counted breaks)
  entry_lost fault (inl (inr ends)) = inr (inr (inr (inr (inl (cut_off fault ends)))))
  entry_lost fault (inr (inl misses)) = inr (inr (inl (damaged fault misses)))
  entry_lost fault (inr (inr (is, same))) = inr (inr (inr (inr (inr (no_room fault is same)))))

pub entry_bad : (fault : LogFault) (position last : ℕ) (content : List ℕ) (a b : Input) → (position ≡ last + 1) × ReadsEntry content last a b → IsNoPairs fault position content → RefusesEntry fault last a b
entry_bad fault position last content a b read bad = inr (inr (inr (inl (record {
  content = content;
  entry = read.1;
  bad = subst (λ (p : ℕ). IsNoPairs fault p content) read.0 bad;
}))))

-- the input ended within the numbers of an entry, or they were not read
pub head_lost : (fault : LogFault) (last : ℕ) (a b : Input) → Misses 16 fault a b → RefusesEntry fault last a b
head_lost fault last a b (inl breaks) = inl breaks
head_lost fault last a b (inr ends) = inr (inr (inr (inr (inl (record { bytes = ends.bytes; cut = ends.cut; part = inl ends.few })))))

pub entry_wrong : (head : Head) (fault : LogFault) (last : ℕ) (a b : Input) → ReadsOnly (entry_head_bytes head) a b → head_fault last head.position head.length ≡ Some fault → RefusesEntry fault last a b
entry_wrong head fault last a b numbered is = inr (inl (record {
  position = head.position;
  long = head.length;
  sum = head.checksum;
  bytes = numbered.consumed;
  fault_is = is;
  counted = numbered.counted;
}))
