-- Frames that wait for their keys.
use Rattle.std.specs.Prelude.{◌≡◌, ◌≤◌, ℕ, List, drop, length, Option, Ok}
use Rattle.gcm_frames.specs.declared.tag.Tag.{Tag}
use Rattle.gcm_frames.specs.Tags.{implied_fields}
use Rattle.lan_base.specs.Ranges.{most_frame_octets}
use Rattle.packet_verdicts.specs.declared.batch.Trial.{Trial}
use Rattle.packet_verdicts.specs.Right.{newest_right}

-- the frame among the octets of its packet
abbrev pub frame_in : Trial → List ℕ
frame_in t = drop t.start t.octets.items

-- its fields are its own, and it is no longer than a frame may be
pub record IsTrial (t : Trial) : Type 0 where
  pub within : t.start ≤ length t.octets.items
  pub fields : implied_fields (frame_in t) ≡ Ok t.tag
  pub few : length (frame_in t) ≤ most_frame_octets

-- the newest of its candidates under which it is right
abbrev pub answer : List (List ℕ) → Trial → Option ℕ
answer keys t = newest_right keys t.tag (frame_in t) t.candidates.items

-- what a trial says was found
abbrev pub newest : Trial → Option ℕ
newest t = t.newest

abbrev pub tag_in : Trial → Tag
tag_in t = t.tag
