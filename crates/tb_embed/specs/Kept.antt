-- What a handle owns: the box of its server, or nothing.
use base.Fml.{Fml, ftrue}
use denote.RawPtr.{Ptr}
use Rattle.std.specs.Prelude.{Option, None, Some}
use Rattle.std.specs.Box.Ownership.{box_owns}
use Rattle.std.specs.Global.{Global}
use Rattle.std.specs.contracts.impls.GlobalAllocator.TheImpl.{ghosts}
use Rattle.tb_embed.specs.contracts.held.Server.{the_row}

abbrev pub kept : Global → Ptr → Option the_row.Denot → Fml
kept alloc at None = ftrue
kept alloc at (Some server) = box_owns (ghosts.dealloc_token alloc) the_row at server
