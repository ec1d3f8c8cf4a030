-- What is remembered of a step that told nothing and changed nothing.
use Rattle.std.specs.Prelude.{Option, Some, None}
use Rattle.receive_channels.specs.declared.still.StillStep.{StillStep}
use Rattle.receive_channels.specs.Channels.{ChannelSet, IsStill}

-- the same step again tells nothing and changes nothing
abbrev pub IsStillAt : Option StillStep → ChannelSet → Type 0
IsStillAt None s = Unit {0}
IsStillAt (Some still) s = IsStill (record { scis = still.scis.items; keys = still.keys.items }) s
