-- What was read of a whole file.
use Rattle.std.proofs.Common.{◌≡◌, ◌-◌, ℕ, List, length, Result, Ok, refl, sym, ap, ◌∙◌, subst}
use Rattle.tb_file_journal.specs.declared.reading.Extent.{Extent}
use Rattle.tb_file_journal.specs.declared.reading.Refusal.{Refusal}
use Rattle.tb_file_journal.specs.Contents.{Contents, Records, contents, content_records, recorded, records_end}
use Rattle.tb_file_journal.specs.Reading.{extent_of}
use Rattle.tb_machine.specs.Histories.{State}
use Rattle.tb_machine.proofs.RepeatLaws.{commit_is}
use Rattle.tb_file.specs.declared.recovering.Rules.{Rules}
use Rattle.tb_file.specs.Quick.{IsInOrder}
use Rattle.tb_file.specs.Reading.{IsHistory}
use Rattle.tb_edge_file.specs.Summaries.{IsFound, IsFoundQuick}

same_extent : (a b : Extent) (found : Result Extent Refusal) → found ≡ Ok a → found ≡ Ok b → b ≡ a
same_extent a b found one two = cc

-- where records end and how many they are
pub extent_is : (file : List ℕ) (records : List (List ℕ)) (extent : Extent) → contents file ≡ Records records → extent_of (contents file) ≡ Ok extent
    → (extent.count ≡ length (recorded file)) × (extent.end ≡ records_end (recorded file))
extent_is file records extent reads found =
    let P : Contents → Type 0 = λ c. extent_of c ≡ Ok extent → (extent.count ≡ length (content_records c)) × (extent.end ≡ records_end (content_records c)) in
    subst P (sym reads) (λ is.
    let same = same_extent (record { end = records_end records; count = length records }) extent (extent_of (Records records)) refl is in
    (ap (λ (e : Extent). e.count) same, ap (λ (e : Extent). e.end) same)) found

module _ (rules : Rules) (S : State) (extent : Extent) (entries time : ℕ) (file : List ℕ) where
  pub found_is : IsHistory rules S file → extent_of (contents file) ≡ Ok extent → entries ≡ S.commit → time ≡ S.books.time
      → IsFound (record { rules = rules; records = extent.count; entries = entries; time = time; end = extent.end }) file
  found_is is read as_commit as_time =
      let h = is.history in
      let ends = extent_is file _ extent is.stands.reads read in
      record {
        history = h;
        stands = is.stands;
        profile = sym is.profile;
        clients = sym is.clients;
        records = ends.0;
        entries = as_commit ∙ ap (λ (T : State). T.commit) is.state ∙ commit_is h.profile h.clients_max h.entries is.stands.keepable.legal;
        time = as_time ∙ ap (λ (T : State). T.books.time) is.state;
        end = ends.1;
      }

module _ (rules : Rules) (time entries : ℕ) (extent : Extent) (file : List ℕ) where
  pub quick_is : IsInOrder rules time file → extent_of (contents file) ≡ Ok extent → entries ≡ extent.count - 1
      → IsFoundQuick (record { rules = rules; records = extent.count; entries = entries; time = time; end = extent.end }) file
  quick_is is read few =
      let ends = extent_is file _ extent is.reads read in
      record { in_order = is; records = ends.0; entries = few ∙ ap (λ (n : ℕ). n - 1) ends.0; end = ends.1 }
