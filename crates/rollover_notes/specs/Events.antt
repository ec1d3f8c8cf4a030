-- What was read of a rollover: a history of events, newest first.
use Rattle.std.specs.Prelude.{ℕ}
use Rattle.lan_base.specs.declared.key_id.KeyId.{KeyId}
use Rattle.member_notes.specs.Spoken.{Spoken}
use Rattle.use_notes.specs.declared.frame.RightFrame.{RightFrame}

pub data Event : Type 0 where
  -- in a group, under an identifier, a right MKPDU gave the SAK of the key of this number
  Gave : ℕ → KeyId → ℕ → Event
  -- a right MKPDU spoke that is new
  Spoke : Spoken → Event
  -- a fresh frame was used
  Used : RightFrame → Event
