-- How one MKPDU more is kept that a member spoke.
use Rattle.member_notes.specs.Standing.{member_cmp}
use Rattle.member_notes.specs.declared.mkpdu.RightMkpdu.{RightMkpdu}
use Rattle.rollover_notes.specs.declared.speakers.Speakers.{Speakers}
use Rattle.rollover_notes.specs.Speaking.{Said}
use Rattle.rollover_notes.specs.Standing.{number_sci_cmp}
use Rattle.rollover_notes.specs.inside.Putting.{Puts}

pub record IsSpokenMore (mkpdu : RightMkpdu) (words : Said) (old new : Speakers) : Type 0 where
  pub said : Puts member_cmp (mkpdu.group, mkpdu.mi) words old.said.entries new.said.entries
  pub last : Puts number_sci_cmp (mkpdu.group, words.sci) mkpdu.mi old.last.entries new.last.entries
