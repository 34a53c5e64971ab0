-- Files of one number have one device and one inode.
use Rattle.std.proofs.Common.{◌≡◌, ℕ, ◌+◌, ◌*◌, ◌/◌, ◌%◌, ◌<◌, sym, ◌∙◌, ap}
use Rattle.std.proofs.lemmas.Nat.{div-mul-add, mod-mul-add}

module _ (device inode device' inode' size : ℕ) (small : inode < size) (small' : inode' < size) (same : device * size + inode ≡ device' * size + inode') where
  pub one_device : device ≡ device'
  one_device = sym (div-mul-add device size inode small) ∙ ap (λ n. n / size) same ∙ div-mul-add device' size inode' small'

  pub one_inode : inode ≡ inode'
  one_inode = sym (mod-mul-add device size inode small) ∙ ap (λ n. n % size) same ∙ mod-mul-add device' size inode' small'
