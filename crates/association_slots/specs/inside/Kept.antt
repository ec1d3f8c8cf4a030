-- What the fields of a `Control` and of a `WorkerSeat` keep of their views.
use Rattle.std.specs.Prelude.{◌≡◌, ℕ, ◌+◌, ◌*◌, ◌<◌, ◌≤◌, Bool, false, ◌&&◌, ◌||◌, ◌==◌, IsTrue, List, [], ◌∷◌, length, slice_index, Option, Some, None}
use Rattle.atomic_table.specs.Table.{Me}
use Rattle.atomic_table.specs.Seated.{TableId}
use Rattle.association_slots.specs.Views.{In, control_of, seat_of, slot, current, greatest, of_seat}
use Rattle.association_slots.specs.Cards.{card_in, most_cards}
use Rattle.lan_base.specs.declared.association_number.AssociationNumber.{AssociationNumber}
use Rattle.association_slots.specs.declared.view.Current.{Current}
use Rattle.association_slots.specs.declared.view.Mark.{Mark}
use Rattle.association_slots.specs.declared.view.SeatView.{SeatView}
use Rattle.association_slots.specs.declared.view.View.{View}
use Rattle.association_slots.specs.declared.view.View.TheVariants.{Control, Seat}
use Rattle.association_slots.specs.declared.worker_seat.Known.{Known}

-- the first number, the room for cards, how many epochs have one, the epoch pointed at last, which
-- numbers are out, and for each number the greatest epoch that its seats told as over
pub record ControlKept (table : TableId) (me : Me ℕ View) (first limit given last : ℕ)
    (out : List Bool) (overshot : List ℕ) : Type 0 where
  pub is : me ≡ (Control (control_of me.0), [])
  pub first_is : first ≡ (control_of me.0).first
  pub limit_is : (limit ≡ (control_of me.0).limit) × (limit ≤ most_cards) × (table.words ≡ 5 + 5 * limit)
  pub given_is : (5 * given ≡ length (control_of me.0).card_words) × (given ≤ limit)
  pub slots_low : (an : AssociationNumber) → (slot (control_of me.0) an).epoch ≤ given
  pub last_is : (last ≡ (current (control_of me.0)).epoch) × (last ≤ given)
  pub out_is : out ≡ (control_of me.0).out
  pub over_is : (i : ℕ) → i < 8
      → slice_index overshot i ≡ greatest (of_seat (i + 1) (control_of me.0).told_over)

-- the word was read and held that
abbrev pub was_read : List (ℕ × ℕ) → ℕ → ℕ → Bool
was_read [] word held = false
was_read (r ∷ rs) word held = ((r.0 == word) && (r.1 == held)) || was_read rs word held

abbrev pub IsKnown : List (ℕ × ℕ) → Option Known → Type 0
IsKnown reads None = Unit {0}
IsKnown reads (Some k) = ((i : ℕ) → i < 5
    → IsTrue (was_read reads (5 * k.epoch + i) (slice_index k.words i)))
    × (k.card ≡ card_in (slice_index k.words 0) (slice_index k.words 1) (slice_index k.words 2)
    (slice_index k.words 3) (slice_index k.words 4))

-- its number, what it was shown, the greatest epoch that it or a seat of its number before
-- overshot, and the last card that it read
pub record SeatKept (table : TableId) (me : Me ℕ View) (number : ℕ) (shown : Current) (overshot : ℕ)
    (known : Option Known) : Type 0 where
  pub is : me ≡ (Seat (seat_of me.0), [])
  pub number_is : (number ≡ (seat_of me.0).number) × (0 < number) × (number < 9)
  pub limit_is : ((seat_of me.0).limit ≤ most_cards) × (table.words ≡ 5 + 5 * (seat_of me.0).limit)
  pub shown_is : shown ≡ (seat_of me.0).shown
  pub over_is : overshot ≡ greatest (seat_of me.0).over
  pub own_over : (m : Mark) → In m (seat_of me.0).over → m.seat ≡ (seat_of me.0).number
  pub loaded_low : (p : Current) → In p (seat_of me.0).loaded → (0 < p.epoch)
      × (p.epoch ≤ (seat_of me.0).limit)
  pub known_is : IsKnown (seat_of me.0).reads known

-- the seat read the five words of the card of the epoch, the last one last
abbrev pub read_five : SeatView → ℕ → List ℕ → SeatView
read_five v epoch words =
    record v {
      reads = (5 * epoch + 4, slice_index words 4) ∷ (5 * epoch + 3, slice_index words 3)
          ∷ (5 * epoch + 2, slice_index words 2) ∷ (5 * epoch + 1, slice_index words 1)
          ∷ (5 * epoch, slice_index words 0) ∷ v.reads;
    }
