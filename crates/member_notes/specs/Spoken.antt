-- Right MKPDUs with what they say.
use Rattle.std.specs.Prelude.{ℕ}
use Rattle.mkpdu_codec.specs.declared.announcement.Announcement.{Announcement}
use Rattle.member_notes.specs.declared.mkpdu.RightMkpdu.{RightMkpdu}

-- a right MKPDU, its time in nanoseconds, and what it says
pub record Spoken : Type 0 where
  pub mkpdu : RightMkpdu
  pub nanos : ℕ
  pub said : Announcement
