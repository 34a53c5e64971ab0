-- What a file has, by its first 13 bytes.
use Rattle.std.specs.List.{starts_with}
use Rattle.std.specs.Cmp.Lexicographic.{pointwise}
use Rattle.std.proofs.Common.{◌≡◌, ℕ, ◌<◌, ◌==◌, ◌&&◌, ◌||◌, Bool, true, false, if◌then◌else◌, nat_eq, zero, suc, List, [], ◌∷◌, length, take, drop, min, refl, ◌∙◌, ap, arith}
use Rattle.std.proofs.lemmas.List.{take-take, take_min}
use Rattle.tb_file_journal.specs.declared.opening.FileContent.{FileContent}
use Rattle.tb_file_journal.specs.declared.opening.FileContent.TheVariants as content
use Rattle.tb_file_journal.specs.Device.{ReadsAt}
use Rattle.tb_file_journal.specs.Contents.{NotAJournal, magic, journal_of, walk, contents}
use Rattle.tb_file_journal.specs.Creating.{is_torn_from, is_blank, file_content}

-- bytes after more than the first ones decide nothing
torn_take : (n : ℕ) (bytes first : List ℕ) → length first < n → is_torn_from (take n bytes) first ≡ is_torn_from bytes first
torn_take zero bytes first long = absurd (omega (arith, long))
torn_take (suc n) [] first long = refl
torn_take (suc n) (byte ∷ bytes) [] long = refl
torn_take (suc n) (byte ∷ bytes) (own ∷ first) long = ap (λ (b : Bool). (byte == 0 || byte == own) && b) (torn_take n bytes first (omega (arith, long)))

begins_take : (file : List ℕ) → starts_with nat_eq (take 13 file) magic ≡ starts_with nat_eq file magic
begins_take file = ap (λ (l : List ℕ). pointwise nat_eq magic l) (take-take 8 13 file (omega arith))

content_take : (file : List ℕ) → file_content (take 13 file) ≡ file_content file
content_take file =
    ap (λ (b : Bool). if b then content.Blank else if starts_with nat_eq (take 13 file) magic then content.Journal else content.Other) (torn_take 13 file (journal_of []) (omega arith))
    ∙ ap (λ (b : Bool). if is_blank file then content.Blank else if b then content.Journal else content.Other) (begins_take file)

pub content_read : (count : ℕ) (file into : List ℕ) → length into ≡ 13 → ReadsAt count 0 file into → file_content (take count into) ≡ file_content file
content_read count file into long reads =
    let all : take count file ≡ take 13 file = ap (λ (n : ℕ). take n file) (reads.counts ∙ ap (λ (n : ℕ). min n (length file)) long) ∙ take_min 13 file in
    ap file_content (reads.bytes ∙ all) ∙ content_take file

-- what it has says whether it is blank, and whether it is a journal

abbrev chosen : Bool → Bool → FileContent
chosen blank begins = if blank then content.Blank else if begins then content.Journal else content.Other

chosen_blank : (blank begins : Bool) → chosen blank begins ≡ content.Blank → blank ≡ true
chosen_blank true begins is = refl
chosen_blank false true is = absurd (cc)
chosen_blank false false is = absurd (cc)

chosen_journal : (blank begins : Bool) → chosen blank begins ≡ content.Journal → blank ≡ false
chosen_journal false begins is = refl
chosen_journal true begins is = absurd (cc)

chosen_other : (blank begins : Bool) → chosen blank begins ≡ content.Other → (blank ≡ false) × (begins ≡ false)
chosen_other false false is = (refl, refl)
chosen_other false true is = absurd (cc)
chosen_other true begins is = absurd (cc)

pub content_blank : (file : List ℕ) → file_content file ≡ content.Blank → is_blank file ≡ true
content_blank file is = chosen_blank (is_blank file) (starts_with nat_eq file magic) is

pub content_journal : (file : List ℕ) → file_content file ≡ content.Journal → is_blank file ≡ false
content_journal file is = chosen_journal (is_blank file) (starts_with nat_eq file magic) is

pub content_other : (file : List ℕ) → file_content file ≡ content.Other → (is_blank file ≡ false) × (contents file ≡ NotAJournal)
content_other file is =
    let other = chosen_other (is_blank file) (starts_with nat_eq file magic) is in
    (other.0, ap (λ (b : Bool). if b then walk 0 8 (drop 8 file) else NotAJournal) other.1)
