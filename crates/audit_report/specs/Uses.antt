-- What is told of each key and sender, with which of its fresh frames came late.
use Rattle.std.specs.Prelude.{ℕ, List, [], ◌∷◌, ◌++◌, flat_map, codes, decimal}
use Rattle.hex.specs.Hex.{encode_lower}
use Rattle.use_notes.specs.declared.notes.Use.{Use}
use Rattle.rollover_notes.specs.declared.late_frames.LateFrames.{LateFrames}
use Rattle.rollover_notes.specs.Counted.{late}
use Rattle.rollover_notes.specs.Events.{Event}
use Rattle.audit_report.specs.declared.uses.TimedUse.{TimedUse}
use Rattle.audit_report.specs.Lines.{line_of}

-- what is told of a key and a sender, how many of its fresh frames came late, and the first of them
abbrev pub with_late : Use → LateFrames → TimedUse
with_late u late = record { noted = u; late = late.frames; first_late = late.first }

abbrev pub timed : List Event → Use → TimedUse
timed h u = with_late u (late h (u.key, u.sci))

-- ---- lines

-- a key and its sender: how many frames, the least and the greatest packet number, the first and the
-- last packet
abbrev pub use_words : Use → List (List ℕ)
use_words u = decimal u.key ∷ encode_lower u.sci.0 ∷ codes "frames" ∷ decimal u.counts.frames
    ∷ codes "pn" ∷ decimal u.counts.low ∷ decimal u.counts.high ∷ codes "packets"
    ∷ decimal u.counts.first ∷ decimal u.counts.last ∷ []

-- in which order they came, how many are without confidentiality, and how many came late, with the first
-- of these
abbrev pub order_words : TimedUse → List (List ℕ)
order_words u = codes "repeated" ∷ decimal u.noted.counts.repeated ∷ decimal u.noted.counts.longest
    ∷ codes "reused" ∷ decimal u.noted.counts.reused ∷ codes "fell" ∷ decimal u.noted.counts.fell
    ∷ codes "window" ∷ decimal u.noted.counts.window ∷ codes "clear" ∷ decimal u.noted.counts.clear
    ∷ codes "late" ∷ decimal u.late ∷ decimal u.first_late ∷ []

abbrev pub timed_line : TimedUse → List ℕ
timed_line u = line_of (codes "use") (use_words u.noted ++ order_words u)

abbrev pub timed_lines : List TimedUse → List ℕ
timed_lines us = flat_map timed_line us
