-- What is counted of a std writer behind a buffer, and what its `finish` returns.
use Rattle.std.specs.Prelude.{ℕ, true, ◌||◌, ◌&&◌, ◌==◌, not, [], Result, if◌then◌else◌}
use Rattle.tb_records.specs.declared.faults.FrameFault.{FrameFault}
use Rattle.tb_records.specs.Transport.{Counted, Output, IsSent, uncounted, risen}

-- what is held back was sent, or the writer failed; no byte is put
abbrev pub SendsHeld : Result (Unit {0}) FrameFault → Output → Output → Type 0
SendsHeld result before after = IsSent result [] before after

-- a writer, with its counts
abbrev pub Watched : Type 0 → Type 0
Watched W = Counted W

-- nothing was counted yet
abbrev pub outgoing : {W : Type 0} → W → Counted W
outgoing inner = uncounted inner

-- this many of the bytes that were put were taken
abbrev pub took : {W : Type 0} → ℕ → ℕ → Counted W → Counted W
took count offered w = record w {
  stalls = if count == 0 && not (offered == 0) then risen w.stalls else w.stalls;
  halted = count == 0 && not (offered == 0);
  held = w.held || not (count == 0);
}

-- a put or the last flush failed
abbrev pub failed : {W : Type 0} → Counted W → Counted W
failed w = record w { failures = risen w.failures; halted = true }
