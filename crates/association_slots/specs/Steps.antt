-- How each step changes the view of the one that makes it.
use Rattle.std.specs.Prelude.{ℕ, ◌+◌, ◌-◌, ◌^◌, max, List, [], ◌∷◌, ◌++◌, Bool, true, false, not, if◌then◌else◌, ◌&&◌, ◌==◌, nat_lt, replicate, slice_set}
use Rattle.association_slots.specs.Words.{epoch_of, flag_of, next_of}
use Rattle.association_slots.specs.Views.{cons_if, blank_slot, slot, current, absent_after, free, free_number, of_seat, mark, told_sum, was_pointed}
use Rattle.lan_base.specs.AssociationNumbers.{number_of}
use Rattle.lan_base.specs.declared.association_number.AssociationNumber.{AssociationNumber}
use Rattle.lan_base.specs.declared.association_number.AssociationNumber.TheVariants.{An0, An1, An2, An3}
use Rattle.association_slots.specs.declared.view.Current.{Current}
use Rattle.association_slots.specs.declared.view.NextSeen.{NextSeen}
use Rattle.association_slots.specs.declared.view.Addition.{Addition}
use Rattle.association_slots.specs.declared.view.Added.{Added}
use Rattle.association_slots.specs.declared.view.Added.TheVariants.{Number, Over, Gone}
use Rattle.association_slots.specs.declared.view.ControlView.{ControlView}
use Rattle.association_slots.specs.declared.view.Start.{Start}
use Rattle.association_slots.specs.declared.view.SeatView.{SeatView}

-- Control's steps

-- at the start: four slots that were never raised, nothing present, no card, and no seat out
abbrev pub at_first : ℕ → ℕ → ControlView
at_first first limit = record {
  first = first;
  limit = limit;
  card_words = [];
  slots = replicate 4 blank_slot;
  raises = [];
  found = [];
  points = [];
  loads = [];
  out = replicate 8 false;
  told = [];
  told_over = [];
  told_gone = [];
  told_notes = [];
  told_reads = [];
}

-- one card word more
abbrev pub wrote : ControlView → ℕ → ControlView
wrote c word = record c { card_words = c.card_words ++ word ∷ [] }

-- the slot is open with the epoch, at the first number
abbrev pub raised : ControlView → AssociationNumber → ℕ → ControlView
raised c an epoch = record c {
  slots = slice_set c.slots (number_of an) (record {
    epoch = epoch;
    shut = false;
    seen = c.first;
  });
  raises = (an, epoch) ∷ c.raises;
}

-- the slot is shut, and its next number was then n
abbrev pub closed : ControlView → AssociationNumber → ℕ → ControlView
closed c an n = record c {
  slots = slice_set c.slots (number_of an) (record {
    epoch = (slot c an).epoch;
    shut = true;
    seen = n;
  });
  found = (record {
    an = an;
    epoch = (slot c an).epoch;
    next = n;
  }) ∷ c.found;
}

-- control looked at an open slot, and its next number was n
abbrev pub looked : ControlView → AssociationNumber → ℕ → ControlView
looked c an n = record c {
  slots = slice_set c.slots (number_of an) (record {
    epoch = (slot c an).epoch;
    shut = (slot c an).shut;
    seen = n;
  });
  loads = (record {
    an = an;
    epoch = (slot c an).epoch;
    next = n;
  }) ∷ c.loads;
}

abbrev pub pointed : ControlView → Current → ControlView
pointed c p = record c { points = p ∷ c.points }

-- A new seat

-- one more than each number that was claimed under the epoch, 0 for none
abbrev pub above_claims : ℕ → List Addition → ℕ
above_claims epoch [] = 0
above_claims epoch (a ∷ rest) =
    max (if a.claimed && (a.met == epoch) then a.pn + 1 else 0) (above_claims epoch rest)

-- the least next number that the slot has, by what control saw there and was told
abbrev pub least_next : ControlView → AssociationNumber → NextSeen
least_next c an = let epoch = (slot c an).epoch in record {
  an = an;
  epoch = epoch;
  next = max (slot c an).seen (max (told_sum c an epoch) (above_claims epoch c.told));
}

-- for a slot that is open with an epoch that was pointed at under its AN
abbrev pub given_of : ControlView → AssociationNumber → List NextSeen → List NextSeen
given_of c an rest =
    cons_if (not (slot c an).shut && was_pointed an (slot c an).epoch c.points) (least_next c an)
    rest

abbrev pub start_of : ControlView → Start
start_of c = record {
  last = (current c).epoch;
  present = (current c).present;
  given = given_of c An0 (given_of c An1 (given_of c An2 (given_of c An3 [])));
}

-- it has the first free number, and the marks of the seats of that number that were told
abbrev pub new_seat : ControlView → SeatView
new_seat c = record {
  number = free_number c;
  limit = c.limit;
  loads = 0;
  shown = absent_after 0;
  added = false;
  additions = [];
  over = of_seat (free_number c) c.told_over;
  gone = [];
  loaded = [];
  notes = [];
  reads = [];
  start = start_of c;
}

-- control, when that seat is out
abbrev pub seated : ControlView → ControlView
seated c = record c { out = slice_set c.out (free c.out) true }

-- control, when a seat has come back
abbrev pub told : ControlView → SeatView → ControlView
told c v = record c {
  out = slice_set c.out (v.number - 1) false;
  told = v.additions ++ c.told;
  told_over = v.over ++ c.told_over;
  told_gone = v.gone ++ c.told_gone;
  told_notes = v.notes ++ c.told_notes;
  told_reads = v.reads ++ c.told_reads;
}

-- A seat's steps

-- it loaded the current word
abbrev pub loaded : SeatView → Current → SeatView
loaded v p = record v {
  loads = v.loads + 1;
  shown = p;
  added = false;
  loaded = cons_if p.present p v.loaded;
  notes = cons_if (not p.present) p.epoch v.notes;
}

-- what an addition gives, where the epoch was loaded and the slot's word is this: a number where
-- the word is open with that epoch and its next number is below 2 ^ 32
abbrev pub answer : ℕ → ℕ → Added
answer epoch word =
    if not (flag_of word) && (epoch_of word == epoch)
    then (if nat_lt (next_of word) (2 ^ 32) then Number (next_of word) else Over)
    else Gone

-- an addition by a seat to the slot that it was shown, where that showed the epoch e
abbrev pub addition : SeatView → ℕ → Bool → ℕ → Addition
addition v e claimed pn = record {
  seat = v.number;
  an = v.shown.an;
  met = e;
  loaded = v.shown.epoch;
  claimed = claimed;
  pn = pn;
}

-- it added to the slot that it was shown, which showed the epoch e, with that answer
abbrev pub added : SeatView → ℕ → Added → SeatView
added v e (Number n) = record v { added = true; additions = addition v e true n ∷ v.additions }
added v e Over = record v {
  added = true;
  additions = addition v e false 0 ∷ v.additions;
  over = mark v ∷ v.over;
}
added v e Gone = record v {
  added = true;
  additions = addition v e false 0 ∷ v.additions;
  gone = mark v ∷ v.gone;
}

-- it read a card word
abbrev pub did_read : SeatView → ℕ → ℕ → SeatView
did_read v word held = record v { reads = (word, held) ∷ v.reads }
