use Rattle.std.proofs.Common.{arith, ℕ, ap, ◌∙◌, sym, subst}
use Rattle.atomic_table.specs.Seated.{TableId}
use Rattle.atomic_table.specs.Table.{Me}
use Rattle.association_slots.specs.Views.{SeatAt, seat_of}
use Rattle.association_slots.specs.Steps.{loaded}
use Rattle.association_slots.specs.Words.{shown_by}
use Rattle.association_slots.specs.inside.Kept.{SeatKept}
use Rattle.association_slots.specs.declared.view.Current.{Current}
use Rattle.association_slots.specs.declared.view.View.{View}
use Rattle.association_slots.specs.declared.view.View.TheVariants.{Seat}
use Rattle.association_slots.proofs.ControlKeeps.{loads}
use Rattle.association_slots.proofs.SeatKeeping.{of_kept, to_kept, keeps_loaded}
use Rattle.association_slots.proofs.worker_seat.WorkerSeat.load.Goals as goal

pub load-word-requires : goal.load-word-requires
load-word-requires c = let here = ap (λ (v : SeatAt). v.table) c.self.view_is ∙ (c.requires.here ∙ sym c.shared.ensures) in
    (here, omega (arith, c.self.invariant.limit_is.1, ap (λ (t : TableId). t.words) here), loads _ _ _ (ap (λ m. m.0) c.self.invariant.is))

pub invariant_of-self : goal.invariant_of-self
invariant_of-self c = let k = c.self.inside in let old = seat_of k.place.me.0 in let p = shown_by c.load-word.result in let e = c.load-word.ensures in let none = ap (λ (m : Me ℕ View). m.1) c.self.invariant.is in
    subst (λ (q : Current). SeatKept c.load-word.new.seat.table_id c.load-word.new.seat.me k.number q k.overshot k.known) (sym c.shown_by-self-inside.ensures)
    (to_kept k.place.table_id c.load-word.new.seat.table_id c.load-word.new.seat.me (loaded old p) k.number p k.overshot k.known e.0 (e.2.0 ∙ ap (λ xs. let m : Me ℕ View = (Seat (loaded old p), xs) in m) none)
    (keeps_loaded k.place.table_id old k.number k.shown k.overshot k.known p e.2.1 (of_kept k.place.table_id k.place.me k.number k.shown k.overshot k.known c.self.invariant)))
