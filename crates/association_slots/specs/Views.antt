-- How the views are read: of control, of a seat, and of all of them together.
use Rattle.std.specs.Prelude.{◌≡◌, ◌⊎◌, ℕ, suc, ◌+◌, max, Bool, true, false, not, ◌&&◌, ◌||◌, ◌==◌, List, [], ◌∷◌, slice_index_or}
use Rattle.atomic_table.specs.Seated.{TableId}
use Rattle.lan_base.specs.AssociationNumbers.{number_of, same_an}
use Rattle.lan_base.specs.declared.association_number.AssociationNumber.{AssociationNumber}
use Rattle.lan_base.specs.declared.association_number.AssociationNumber.TheVariants.{An0}
use Rattle.association_slots.specs.declared.view.SlotView.{SlotView}
use Rattle.association_slots.specs.declared.view.Current.{Current}
use Rattle.association_slots.specs.declared.view.NextSeen.{NextSeen}
use Rattle.association_slots.specs.declared.view.Addition.{Addition}
use Rattle.association_slots.specs.declared.view.Mark.{Mark}
use Rattle.association_slots.specs.declared.view.ControlView.{ControlView}
use Rattle.association_slots.specs.declared.view.SeatView.{SeatView}
use Rattle.association_slots.specs.declared.view.View.{View}
use Rattle.association_slots.specs.declared.view.View.TheVariants.{Control, Seat, Spent}

-- what a caller sees of a `Control`: its table and its view
pub record ControlAt : Type 0 where
  pub table : TableId
  pub view : ControlView

-- what a caller sees of a `WorkerSeat`
pub record SeatAt : Type 0 where
  pub table : TableId
  pub view : SeatView

abbrev pub In : {A : Type 0} → A → List A → Type 0
In x [] = ⊥
In x (y ∷ ys) = (y ≡ x) ⊎ In x ys

abbrev pub cons_if : {A : Type 0} → Bool → A → List A → List A
cons_if true x xs = x ∷ xs
cons_if false x xs = xs

-- Of control

-- a slot that was never raised
abbrev pub blank_slot : SlotView
blank_slot = record { epoch = 0; shut = true; seen = 0 }

abbrev pub slot : ControlView → AssociationNumber → SlotView
slot c an = slice_index_or c.slots (number_of an) blank_slot

abbrev pub absent_after : ℕ → Current
absent_after epoch = record { epoch = epoch; present = false; an = An0 }

abbrev pub present_at : AssociationNumber → ℕ → Current
present_at an epoch = record { epoch = epoch; present = true; an = an }

abbrev pub newest : List Current → Current
newest [] = absent_after 0
newest (p ∷ ps) = p

-- what the current word shows
abbrev pub current : ControlView → Current
current c = newest c.points

-- the slot is open with that epoch
abbrev pub IsOpen : ControlView → AssociationNumber → ℕ → Type 0
IsOpen c an epoch = ((slot c an).shut ≡ false) × ((slot c an).epoch ≡ epoch)

-- the epoch was shut at that slot
abbrev pub WasShut : ControlView → AssociationNumber → ℕ → Type 0
WasShut c an epoch = (f : NextSeen) × In f c.found × (f.an ≡ an) × (f.epoch ≡ epoch)

-- the epoch was pointed at under the AN
abbrev pub was_pointed : AssociationNumber → ℕ → List Current → Bool
was_pointed an epoch [] = false
was_pointed an epoch (p ∷ ps) =
    (p.present && (same_an p.an an && (p.epoch == epoch))) || was_pointed an epoch ps

-- the greatest raised epoch
abbrev pub top : List (AssociationNumber × ℕ) → ℕ
top [] = 0
top (r ∷ rs) = r.1

-- at some time nothing was present, and the last epoch was e
abbrev pub WasAbsent : List Current → ℕ → Type 0
WasAbsent [] e = 0 ≡ e
WasAbsent (p ∷ ps) e = ((p.present ≡ false) × (p.epoch ≡ e)) ⊎ WasAbsent ps e

-- the seat loaded the epoch as present
abbrev pub HasLoaded : SeatView → ℕ → Type 0
HasLoaded v epoch = (an : AssociationNumber) × In (present_at an epoch) v.loaded

-- no seat is out
abbrev pub AllIn : ControlView → Type 0
AllIn c = (i : ℕ) → slice_index_or c.out i false ≡ false

-- the place of the first number that is not out; numbers go from 1
abbrev pub free : List Bool → ℕ
free [] = 0
free (false ∷ bs) = 0
free (true ∷ bs) = suc (free bs)

abbrev pub free_number : ControlView → ℕ
free_number c = free c.out + 1

-- Of additions and marks

-- the addition met the epoch on the slot
abbrev pub met : AssociationNumber → ℕ → Addition → Bool
met an epoch a = same_an a.an an && (a.met == epoch)

-- it met it, and claimed no number
abbrev pub lost : AssociationNumber → ℕ → Addition → Bool
lost an epoch a = met an epoch a && not a.claimed

-- it claimed the number of the epoch
abbrev pub claimed : ℕ → ℕ → Addition → Bool
claimed epoch pn a = a.claimed && ((a.met == epoch) && (a.pn == pn))

-- the additions that claimed a number
abbrev pub claims : List Addition → List Addition
claims [] = []
claims (a ∷ rest) = cons_if a.claimed a (claims rest)

-- the greatest epoch of the marks, 0 for none
abbrev pub greatest : List Mark → ℕ
greatest [] = 0
greatest (m ∷ ms) = max m.epoch (greatest ms)

-- the marks of the seats of a number
abbrev pub of_seat : ℕ → List Mark → List Mark
of_seat number [] = []
of_seat number (m ∷ ms) = cons_if (m.seat == number) m (of_seat number ms)

-- the mark that a seat makes of the epoch that it was shown
abbrev pub mark : SeatView → Mark
mark v = record { seat = v.number; an = v.shown.an; epoch = v.shown.epoch }

-- Sums

abbrev pub weigh : {A : Type 0} → (A → ℕ) → List A → ℕ
weigh h [] = 0
weigh h (x ∷ xs) = h x + weigh h xs

abbrev pub one : Bool → ℕ
one true = 1
one false = 0

-- how many of the additions meet p
abbrev pub count : (Addition → Bool) → List Addition → ℕ
count p xs = weigh (λ a. one (p a)) xs

-- the first number of a slot, and one for each addition that control was told of and that met the
-- epoch there
abbrev pub told_sum : ControlView → AssociationNumber → ℕ → ℕ
told_sum c an epoch = c.first + count (met an epoch) c.told

-- Of all views: what the seats did, those that came back too

abbrev pub adds : View → List Addition
adds (Control c) = c.told
adds (Seat v) = v.additions
adds Spent = []

abbrev pub overs : View → List Mark
overs (Control c) = c.told_over
overs (Seat v) = v.over
overs Spent = []

abbrev pub gones : View → List Mark
gones (Control c) = c.told_gone
gones (Seat v) = v.gone
gones Spent = []

-- x stands in the list f of some view
abbrev pub Among : {A : Type 0} → (View → List A) → A → List View → Type 0
Among f x [] = ⊥
Among f x (v ∷ vs) = In x (f v) ⊎ Among f x vs

abbrev pub tally : (Addition → ℕ) → List View → ℕ
tally h vs = weigh (λ v. weigh h (adds v)) vs

-- how many additions of all seats meet p
abbrev pub count_all : (Addition → Bool) → List View → ℕ
count_all p vs = tally (λ a. one (p a)) vs

-- the view of control, or of a seat, where it is that
abbrev pub control_of : View → ControlView
control_of (Control c) = c
control_of _ = record {
  first = 1;
  limit = 0;
  card_words = [];
  slots = [];
  raises = [];
  found = [];
  points = [];
  loads = [];
  out = [];
  told = [];
  told_over = [];
  told_gone = [];
  told_notes = [];
  told_reads = [];
}

abbrev pub seat_of : View → SeatView
seat_of (Seat v) = v
seat_of _ = record {
  number = 0;
  limit = 0;
  loads = 0;
  shown = absent_after 0;
  added = false;
  additions = [];
  over = [];
  gone = [];
  loaded = [];
  notes = [];
  reads = [];
  start = record { last = 0; present = false; given = [] };
}
