-- The versions of a sector since the last sync.
use Rattle.std.proofs.Common.{◌≡◌, inl, inr, ⊎_elim, ℕ, ap, List, [], ◌∷◌, ◌∙◌}
use Rattle.tb_sectors.specs.Sectors.{sector, IsAVersion, EachSectorIsAVersion}

-- a sector that is as in another file has the versions that it has there
as_there : (k : ℕ) (synced : List ℕ) (writes : List (List ℕ)) (d left : List ℕ) → sector k left ≡ sector k d → IsAVersion k synced writes d → IsAVersion k synced writes left
as_there k synced [] d left same version = same ∙ version
as_there k synced (newest ∷ earlier) d left same version =
    ⊎_elim (λ e. inl (same ∙ e)) (λ was. inr (as_there k synced earlier d left same was)) version

pub each_sector_is_a_version : EachSectorIsAVersion
each_sector_is_a_version synced [] left is k = ap (sector k) is
each_sector_is_a_version synced (newest ∷ earlier) left (d, was, mixed) k =
    ⊎_elim (λ old. inr (as_there k synced earlier d left old (each_sector_is_a_version synced earlier d was k))) (λ new. inl new) (mixed.each k)
