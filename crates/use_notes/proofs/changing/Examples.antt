-- Worked captures of some frames.
use Rattle.std.proofs.Common.{◌≡◌, ◌*◌, ℕ, true, List, [], ◌∷◌, refl}
use Rattle.lan_base.specs.declared.address.Sci.{Sci}
use Rattle.use_notes.specs.declared.frame.RightFrame.{RightFrame}
use Rattle.use_notes.specs.declared.changes.change.Change.{Change}
use Rattle.use_notes.specs.changes.Changes.{frames_from, changes_of}

abbrev sci_of : ℕ → Sci
sci_of n = record { 0 = n ∷ [] }

-- packet, key, sender, and time in milliseconds
abbrev frame : ℕ → ℕ → ℕ → ℕ → RightFrame
frame packet key sender time =
    record { packet = packet; key = key; sci = sci_of sender; pn = packet; check = packet ∷ []; time = time * 1000000; confidential = true }

abbrev changes_from : ℕ → List RightFrame → List Change
changes_from sender h = changes_of (sci_of sender) (frames_from (sci_of sender) h)

-- sender 7: from key 2 to key 1, and on to key 3; key 2 goes on twice, and once more behind key 3;
-- sender 8 has a frame under key 1 alone
abbrev eight : List RightFrame
eight =
    frame 8 2 7 900 ∷ frame 7 3 7 800 ∷ frame 6 2 7 650 ∷ frame 5 1 8 600 ∷ frame 4 2 7 500 ∷ frame 3 1 7 410 ∷ frame 2 2 7 250
    ∷ frame 1 2 7 100 ∷ []

in_turn : changes_from 7 eight ≡ record {
  sci = sci_of 7;
  from = 2;
  to = 1;
  last = 2;
  first = 3;
  gap = 160;
  after = 3;
  behind = 490;
} ∷ record {
  sci = sci_of 7;
  from = 1;
  to = 3;
  last = 3;
  first = 7;
  gap = 390;
  after = 0;
  behind = 0;
} ∷ []
in_turn = refl

one_key : changes_from 8 eight ≡ []
one_key = refl

no_frame : changes_from 9 eight ≡ []
no_frame = refl

-- times fall back
earlier : changes_from 7 (frame 3 1 7 5 ∷ frame 2 2 7 20 ∷ frame 1 1 7 30 ∷ []) ≡ record {
  sci = sci_of 7;
  from = 1;
  to = 2;
  last = 1;
  first = 2;
  gap = 0;
  after = 1;
  behind = 0;
} ∷ []
earlier = refl
