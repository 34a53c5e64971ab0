-- What is reported if bytes that a start cuts off were not copied.
use Rattle.std.specs.Prelude.{ℕ, List, codes}
use Rattle.tb_edge_file.specs.declared.asides.Uncopied.{Uncopied}
use Rattle.tb_edge_file.specs.declared.asides.Uncopied.TheVariants.{Full, Forbidden, TooMany, Taken, Failed}

-- why, after the path of the file, and what to do about it
abbrev pub uncopied_text : Uncopied → List ℕ
uncopied_text Full = codes ": the disk is full; free space for a copy of its torn bytes, or start with --drop-torn"
uncopied_text Forbidden = codes ": no permission to copy its torn bytes next to it; allow that, or start with --drop-torn"
uncopied_text TooMany = codes " has 16 copies of torn bytes next to it; move them elsewhere, or start with --drop-torn"
uncopied_text Taken = codes ": another file has the name of the copy of its torn bytes; move it elsewhere, or start with --drop-torn"
uncopied_text Failed = codes ": its torn bytes were not copied; look at the disk, or start with --drop-torn"
