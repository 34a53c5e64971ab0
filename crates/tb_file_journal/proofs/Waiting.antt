-- Records that wait, as blocks.
use Rattle.std.proofs.Common.{rules, ◌≡◌, ℕ, suc, ◌+◌, ◌<◌, ◌≤◌, ◌^◌, List, [], ◌∷◌, ◌++◌, length, get_or, flat_map, sym, ◌∙◌, ap, subst, arith, length-append, append_assoc}
use Rattle.std.proofs.lemmas.Grind.{flat_map-append}
use Rattle.std.proofs.lemmas.List.{append-nil}
use Rattle.std.specs.List.{AllByRecursion}
use Rattle.tb_file_journal.specs.Contents.{Fits, latch_closed, block, at_rest, content_records, blocks_length}
use Rattle.tb_file_journal.specs.private.Batches.{waiting_in, IsBatch}
use Rattle.tb_file_journal.proofs.Blocks.{walk-at_rest, length-blocks}

all_small : (bytes : List ℕ) → ((i : ℕ) → get_or bytes i 0 < 256) → AllByRecursion (λ byte. byte < 256) bytes
all_small [] small = tt
all_small (byte ∷ bytes) small = (small 0, all_small bytes (λ i. small (suc i)))

pub all_fit : (content : List ℕ) → length content < 2 ^ 24 → ((i : ℕ) → get_or content i 0 < 256) → Fits content
all_fit content short small = record { short = short; bytes = all_small content small }

fit_all : (records more : List (List ℕ)) → AllByRecursion Fits records → AllByRecursion Fits more
    → AllByRecursion Fits (records ++ more)
fit_all [] more fits others = others
fit_all (r ∷ records) more fits others = (fits.0, fit_all records more fits.1 others)

-- blocks that fit are read as their records
pub reads_waiting : (records : List (List ℕ)) → AllByRecursion Fits records → waiting_in (at_rest records) ≡ records
reads_waiting records fits = ap content_records (walk-at_rest records 0 fits)

-- a record takes 8 bytes at least
pub many_blocks : (records : List (List ℕ)) → length records ≤ blocks_length records
many_blocks [] = omega arith
many_blocks (r ∷ records) = omega (arith, many_blocks records)

pub length-at_rest : (records : List (List ℕ)) → length (at_rest records) ≡ blocks_length records + 4
length-at_rest records = length-append (flat_map block records) latch_closed ∙ ap (λ (n : ℕ). n + 4) (length-blocks records)

pub fewer : (bytes : List ℕ) (many : ℕ) → IsBatch bytes many → many + 1 ≤ length bytes
fewer bytes many is = omega (arith, is.counts, ap length is.spells, length-at_rest (waiting_in bytes), many_blocks (waiting_in bytes))

-- one more record
module _ (old new content : List ℕ) (many : ℕ) (is : IsBatch old many) (fits : Fits content) (adds : (front : List ℕ) → old ≡ front ++ latch_closed → new ≡ front ++ (block content ++ latch_closed)) where
  abbrev olds : List (List ℕ)
  olds = waiting_in old

  abbrev news : List (List ℕ)
  news = olds ++ content ∷ []

  all_news : AllByRecursion Fits news
  all_news = fit_all olds (content ∷ []) is.fits (fits, tt)

  spelled : new ≡ at_rest news
  spelled = search (rules, append_assoc, append-nil, flat_map-append)

  pub one_more : waiting_in new ≡ news
  one_more = ap waiting_in spelled ∙ reads_waiting news all_news

  pub batch_of_more : IsBatch new (many + 1)
  batch_of_more = record {
    spells = spelled ∙ ap at_rest (sym one_more);
    fits = subst (AllByRecursion Fits) (sym one_more) all_news;
    counts = ap (λ (n : ℕ). n + 1) is.counts ∙ sym (length-append olds (content ∷ [])) ∙ ap length (sym one_more);
  }
