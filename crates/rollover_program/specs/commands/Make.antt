-- `make N`: the trace that is made of a number is written.
use Rattle.std.specs.Prelude.{ℕ, [], ◌∷◌}
use Rattle.lan_base.specs.Faults.{Rose}
use Rattle.trace_maker.specs.Made.{made}
use Rattle.replay.specs.Sinks.{Sunk, Wrote, BrokeOff}
use Rattle.rollover_program.specs.declared.status.Status.{Status}
use Rattle.rollover_program.specs.declared.status.Status.TheVariants.{Done, WriteFault, Memory}

-- the text of a number was written; a fault of the sink, and want of memory, leave a part of it
abbrev pub EndsMade : ℕ → Sunk → Sunk → Status → Type 0
EndsMade n old new Done = Wrote (made n ∷ []) old new
EndsMade n old new WriteFault = Rose old.faults new.faults × BrokeOff (made n ∷ []) old new
EndsMade n old new Memory = BrokeOff (made n ∷ []) old new
EndsMade n old new status = ⊥
