-- Worked captures of some frames.
use Rattle.std.proofs.Common.{◌≡◌, ◌*◌, ℕ, true, List, [], ◌∷◌, Some, None, refl}
use Rattle.lan_base.specs.declared.address.Sci.{Sci}
use Rattle.use_notes.specs.declared.frame.RightFrame.{RightFrame}
use Rattle.use_notes.specs.declared.novelty.Novelty.TheVariants.{New, Repeated, Reused}
use Rattle.use_notes.specs.Frames.{novelty_in}
use Rattle.use_notes.specs.Once.{first_reuse}
use Rattle.use_notes.specs.Uses.{counts_of, use_told}

abbrev sci_of : ℕ → Sci
sci_of n = record { 0 = n ∷ [] }

-- packet, key, sender, packet number, check value of one octet and time in milliseconds
abbrev frame : ℕ → ℕ → ℕ → ℕ → ℕ → ℕ → RightFrame
frame packet key sender pn check time =
    record { packet = packet; key = key; sci = sci_of sender; pn = pn; check = check ∷ []; time = time * 1000000; confidential = true }

-- 2 and 3 come in turn about; 4 repeats 2, and 5 uses the number of 1 again
abbrev five : List RightFrame
five =
    frame 5 1 7 1 9 40 ∷ frame 4 1 7 3 6 35 ∷ frame 3 1 7 2 5 30 ∷ frame 2 1 7 3 6 20 ∷ frame 1 1 7 1 4 10 ∷ []

reuse : first_reuse five ≡ Some (1, 5)
reuse = refl

counts : counts_of five ≡ record {
  frames = 5;
  low = 1;
  high = 3;
  first = 1;
  last = 5;
  repeated = 1;
  longest = 15;
  reused = 1;
  fell = 1;
  window = 2;
  clear = 0;
}
counts = refl

-- the same number of another sender, and under another key
other_sender : novelty_in five (frame 6 1 8 1 9 50) ≡ New
other_sender = refl

other_key : novelty_in five (frame 6 2 7 1 9 50) ≡ New
other_key = refl

-- the reused frame once more, as a second interface sees it
again : novelty_in five (frame 6 1 7 1 9 50) ≡ Repeated 5
again = refl

-- the time to it is measured from the reused frame, and not from the first with its number
mirror : (counts_of (frame 6 1 7 1 9 57 ∷ five)).longest ≡ 17
mirror = refl

-- a third frame of the number is reused, its mirror repeats it, and neither is a pair before the first one
third : novelty_in (frame 6 1 7 1 9 50 ∷ five) (frame 7 1 7 1 2 60) ≡ Reused 1
third = refl

third_again : novelty_in (frame 7 1 7 1 2 60 ∷ frame 6 1 7 1 9 50 ∷ five) (frame 8 1 7 1 2 70) ≡ Repeated 7
third_again = refl

mirrored : first_reuse (frame 7 1 7 1 2 60 ∷ frame 6 1 7 1 9 50 ∷ five) ≡ Some (1, 5)
mirrored = refl

mirrors_counted : (counts_of (frame 8 1 7 1 2 70 ∷ frame 7 1 7 1 2 60 ∷ frame 6 1 7 1 9 50 ∷ five)).reused ≡ 2
mirrors_counted = refl

-- the first one once more
first_again : novelty_in five (frame 6 1 7 1 4 50) ≡ Repeated 1
first_again = refl

-- times fall back
earlier : (counts_of (frame 2 1 7 1 4 5 ∷ frame 1 1 7 1 4 10 ∷ [])).longest ≡ 0
earlier = refl

no_frame : use_told 1 (sci_of 7) [] ≡ None
no_frame = refl
