-- Headers that are written field after field.
use Rattle.std.proofs.Common.{◌≡◌, replicate, refl}
use Rattle.tb_records.specs.Numbers.{le_bytes}

-- two numbers of zeros are one row of zero bytes
pub zeros_2 : le_bytes 2 0 ≡ replicate 2 0
unfolding le_bytes
zeros_2 = refl

pub zeros_4 : le_bytes 4 0 ≡ replicate 4 0
unfolding le_bytes
zeros_4 = refl
