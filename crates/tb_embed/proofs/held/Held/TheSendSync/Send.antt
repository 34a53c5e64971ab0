-- A handle may go to another thread: it owns its server's box or nothing, and a server may.
use mir.Raw.{raw}
use base.Shift.{Keyless}
use denote.Memory.{lone}
use denote.RawPtr.{Ptr}
use denote.Struct.Struct.{exits_of}
use denote.Struct.Owning.{shape, fields, to}
use denote.Param.Send.{IsSend, AllSend, owning_send, struct_send, sendable}
use Rattle.std.specs.Prelude.{Option, None, Some}
use Rattle.std.specs.declared.alloc.Global.{Global}
use Rattle.std.proofs.Crossing.{frees}
use Rattle.std.proofs.alloc.Global.TheSendSync as handle
use Rattle.std_alloc.proofs.SendSync.{quiet, lies}
use Rattle.tb_embed.specs.Kept.{kept}
use Rattle.tb_embed.specs.contracts.held.Server as Server
use Rattle.tb_embed.proofs.held.Server.TheSendSync.{the_send as server}
use Rattle.tb_embed.specs.contracts.held.Held.{the_row, the_type}

kept_keyless : (alloc : Global) (at : Ptr) (state : Option Server.the_row.Denot) → Keyless (kept alloc at state)
kept_keyless alloc at None = tt
kept_keyless alloc at (Some x) = (lies Server.the_row server at x, frees.frees alloc (raw (lone Server.the_row.mir)) at)

pub send : IsSend the_row
send =
    let all : AllSend (fields the_type) = (search sendable, (handle.the_field_send, tt)) in
    owning_send the_type all (λ d. kept_keyless d.alloc d.at d.state)
    (λ k. quiet (to the_type) (exits_of k (fields the_type)) ((struct_send (shape the_type) all).leaving k))
