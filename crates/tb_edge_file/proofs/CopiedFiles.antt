-- What is reported of a file that was copied.
use Rattle.std.proofs.Common.{◌≡◌, ℕ, List, Option, None, Some, Result, Ok, Err, refl, ap, subst, ◌∙◌}
use Rattle.tb_file_journal.specs.declared.devices.Device as devices
use Rattle.tb_file.specs.declared.faults.StartFault.{StartFault}
use Rattle.tb_file.specs.declared.reading_on.ReadOn.{ReadOn}
use Rattle.tb_file.specs.declared.salvaging.Salvaged.{Salvaged}
use Rattle.tb_file.specs.Salvaging.{IsSalvaged}
use Rattle.tb_machine.specs.Histories.{State}
use Rattle.tb_machine.proofs.RepeatLaws.{commit_is}
use Rattle.tb_edge_file.specs.declared.copies.Copied.{Copied}
use Rattle.tb_edge_file.specs.declared.rescues.Finished.{Finished}
use Rattle.tb_edge_file.specs.declared.rescues.Rescued.{Rescued}
use Rattle.tb_edge_file.specs.Copies.{IsCopy, EndsCopy, all_copied, copied_of, rescued_of}
use Rattle.tb_edge_file.specs.declared.faults.KeepCommandFault.{KeepCommandFault}
use Rattle.tb_edge_file.specs.ExitStatuses.{started_fault}
use Rattle.tb_edge_file.specs.Naming.{Names}

abbrev pub made : {N : Type 0} → Finished N → Result (Finished N) KeepCommandFault
made file = Ok file

pub copy_is : {N : Type 0} (its : devices.Ghosts N) (holds : List ℕ → Type 0) (len : ℕ) (salvaged : Salvaged N)
    → IsSalvaged its.tells its.disk holds salvaged → IsCopy its holds len salvaged (copied_of len salvaged)
copy_is its holds len salvaged is =
    let h = is.history in
    record {
      history = h;
      keeper = is.keeper;
      taken = is.taken;
      entries = ap (λ (T : State). T.commit) is.keeper.state ∙ commit_is h.profile h.clients_max h.entries is.keeper.keepable.legal;
      time = ap (λ (T : State). T.books.time) is.keeper.state;
      end = refl;
      behind = refl;
      damage = refl;
    }

-- the new file has what was copied, if that is not refused
pub finished : {E N : Type 0} (its : devices.Ghosts E) (asked : Option StartFault) (c copied : Copied) (d device : N) (from : E) → None ≡ asked → c ≡ copied → d ≡ device
    → EndsCopy its asked copied device (Ok (all_copied c d)) from from
finished {E} {N} its asked c copied d device from none same is =
    subst (λ (a : Option StartFault). EndsCopy its a copied device (Ok (all_copied c d)) from from) none
    (ap (λ (it : Copied). made (all_copied it d)) same ∙ ap (λ (it : N). made (all_copied copied it)) is, refl)

-- or it is, and it is said why
pub refused : {E N : Type 0} (its : devices.Ghosts E) (asked : Option StartFault) (fault : StartFault) (copied : Copied) (device : N) (named : KeepCommandFault) (from after : E) → Some fault ≡ asked
    → Names its (started_fault fault) named from after → EndsCopy its asked copied device (Err named) from after
refused its asked fault copied device named from after is names =
    subst (λ (a : Option StartFault). EndsCopy its a copied device (Err named) from after) is (named, refl, names)

-- the same of what was read on
pub rescued : {N : Type 0} (found : Rescued) (copied c : Copied) (S : State) (on : ReadOn) (d device : N) → found ≡ rescued_of copied S on → copied ≡ c → d ≡ device
    → made (record { device = d; rescued = found }) ≡ made (record { device = device; rescued = rescued_of c S on })
rescued {N} found copied c S on d device is same at =
    ap (λ (it : Rescued). made (record { device = d; rescued = it })) (is ∙ ap (λ (it : Copied). rescued_of it S on) same)
    ∙ ap (λ (it : N). made (record { device = it; rescued = rescued_of c S on })) at
