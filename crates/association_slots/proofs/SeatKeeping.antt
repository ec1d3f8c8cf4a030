-- What the fields of a `WorkerSeat` keep, over its calls.
use Rattle.std.proofs.Common.{◌≡◌, ℕ, ◌+◌, ◌*◌, ◌<◌, ◌≤◌, max, Bool, true, false, [], Option, Some, slice_index, refl, sym, ap, subst, ⊎_elim, arith}
use Rattle.atomic_table.specs.Table.{Me}
use Rattle.atomic_table.specs.Seated.{TableId}
use Rattle.association_slots.specs.Views.{In, seat_of, greatest}
use Rattle.association_slots.specs.Steps.{loaded, added}
use Rattle.association_slots.specs.Told.{Sees}
use Rattle.association_slots.specs.Cards.{card_in, most_cards}
use Rattle.association_slots.specs.inside.Kept.{SeatKept, IsKnown, read_five}
use Rattle.association_slots.specs.declared.view.Added.{Added}
use Rattle.association_slots.specs.declared.view.Added.TheVariants.{Number, Over, Gone}
use Rattle.association_slots.specs.declared.view.Current.{Current}
use Rattle.association_slots.specs.declared.view.Mark.{Mark}
use Rattle.association_slots.specs.declared.view.SeatView.{SeatView}
use Rattle.association_slots.specs.declared.view.View.{View}
use Rattle.association_slots.specs.declared.view.View.TheVariants.{Seat}
use Rattle.association_slots.specs.declared.worker_seat.Known.{Known}
use Rattle.association_slots.proofs.Lists.{in_cons_if}
use Rattle.association_slots.proofs.KnownCards.{kept_read}

-- what is kept, of the view alone
pub record Keeps (t : TableId) (w : SeatView) (number : ℕ) (shown : Current) (overshot : ℕ) (known : Option Known) : Type 0 where
  pub number_is : (number ≡ w.number) × (0 < number) × (number < 9)
  pub limit_is : (w.limit ≤ most_cards) × (t.words ≡ 5 + 5 * w.limit)
  pub shown_is : shown ≡ w.shown
  pub over_is : overshot ≡ greatest w.over
  pub own_over : (m : Mark) → In m w.over → m.seat ≡ w.number
  pub loaded_low : (p : Current) → In p w.loaded → (0 < p.epoch) × (p.epoch ≤ w.limit)
  pub known_is : IsKnown w.reads known

pub of_kept : (t : TableId) (me : Me ℕ View) (number : ℕ) (shown : Current) (overshot : ℕ) (known : Option Known) → SeatKept t me number shown overshot known → Keeps t (seat_of me.0) number shown overshot known
of_kept t me number shown overshot known k = record { number_is = k.number_is; limit_is = k.limit_is; shown_is = k.shown_is; over_is = k.over_is; own_over = k.own_over; loaded_low = k.loaded_low; known_is = k.known_is }

pub to_kept : (t t' : TableId) (me : Me ℕ View) (w : SeatView) (number : ℕ) (shown : Current) (overshot : ℕ) (known : Option Known) → t' ≡ t → me ≡ (Seat w, []) → Keeps t w number shown overshot known → SeatKept t' me number shown overshot known
to_kept t t' me w number shown overshot known same is k = subst (λ (z : TableId). SeatKept z me number shown overshot known) (sym same) (subst (λ (m : Me ℕ View). SeatKept t m number shown overshot known) (sym is)
    (record { is = refl; number_is = k.number_is; limit_is = k.limit_is; shown_is = k.shown_is; over_is = k.over_is; own_over = k.own_over; loaded_low = k.loaded_low; known_is = k.known_is }))

pub keeps_loaded : (t : TableId) (v : SeatView) (number : ℕ) (shown : Current) (overshot : ℕ) (known : Option Known) (p : Current) → Sees v p → Keeps t v number shown overshot known → Keeps t (loaded v p) number p overshot known
keeps_loaded t v number shown overshot known p sees k = record {
  number_is = k.number_is;
  limit_is = k.limit_is;
  shown_is = refl;
  over_is = k.over_is;
  own_over = k.own_over;
  loaded_low = λ q i. ⊎_elim (λ (t : (p.present ≡ true) × (p ≡ q)). subst (λ (r : Current). (0 < r.epoch) × (r.epoch ≤ v.limit)) t.1 (sees.small.1 t.0, sees.small.0)) (k.loaded_low q) (in_cons_if p.present p q v.loaded i);
  known_is = k.known_is;
}

abbrev is_over : Added → Bool
is_over Over = true
is_over _ = false

pub keeps_over : (t : TableId) (v : SeatView) (number : ℕ) (shown : Current) (overshot high : ℕ) (known : Option Known) (e : ℕ) → high ≡ max overshot shown.epoch → Keeps t v number shown overshot known → Keeps t (added v e Over) number shown high known
keeps_over t v number shown overshot high known e is k = record {
  number_is = k.number_is;
  limit_is = k.limit_is;
  shown_is = k.shown_is;
  over_is = let o = k.over_is in let s = ap (λ (p : Current). p.epoch) k.shown_is in omega arith;
  own_over = λ m. ⊎_elim (λ e. ap (λ (y : Mark). y.seat) (sym e)) (k.own_over m);
  loaded_low = k.loaded_low;
  known_is = k.known_is;
}

pub keeps_added : (t : TableId) (v : SeatView) (number : ℕ) (shown : Current) (overshot : ℕ) (known : Option Known) (e : ℕ) (r : Added) → (r ≡ Over → ⊥) → Keeps t v number shown overshot known → Keeps t (added v e r) number shown overshot known
keeps_added t v number shown overshot known e (Number n) not k = record { number_is = k.number_is; limit_is = k.limit_is; shown_is = k.shown_is; over_is = k.over_is; own_over = k.own_over; loaded_low = k.loaded_low; known_is = k.known_is }
keeps_added t v number shown overshot known e Over not k = absurd (not refl)
keeps_added t v number shown overshot known e Gone not k = record { number_is = k.number_is; limit_is = k.limit_is; shown_is = k.shown_is; over_is = k.over_is; own_over = k.own_over; loaded_low = k.loaded_low; known_is = k.known_is }

pub keeps_read : (t : TableId) (v : SeatView) (number : ℕ) (shown : Current) (overshot : ℕ) (known : Option Known) (k : Known) → k.card ≡ card_in (slice_index k.words 0) (slice_index k.words 1) (slice_index k.words 2) (slice_index k.words 3) (slice_index k.words 4) → Keeps t v number shown overshot known → Keeps t (read_five v k.epoch k.words) number shown overshot (Some k)
keeps_read t v number shown overshot known k is ok = record {
  number_is = ok.number_is;
  limit_is = ok.limit_is;
  shown_is = ok.shown_is;
  over_is = ok.over_is;
  own_over = ok.own_over;
  loaded_low = ok.loaded_low;
  known_is = kept_read v k is;
}
