use Rattle.std.proofs.Common.{arith, ℕ, ◌≡◌, ◌≢◌, ap, ◌∙◌, sym, subst, true, false}
use Rattle.atomic_table.specs.Seated.{TableId}
use Rattle.atomic_table.specs.Table.{Me}
use Rattle.association_slots.specs.Views.{In, SeatAt, seat_of}
use Rattle.lan_base.specs.AssociationNumbers.{number_of}
use Rattle.association_slots.specs.Words.{epoch_of}
use Rattle.association_slots.specs.Steps.{added, answer}
use Rattle.association_slots.specs.Told.{IsAdded}
use Rattle.association_slots.specs.declared.view.Added.TheVariants.{Over}
use Rattle.association_slots.specs.declared.view.Current.{Current}
use Rattle.association_slots.specs.declared.view.Mark.{Mark}
use Rattle.association_slots.specs.declared.view.SeatView.{SeatView}
use Rattle.association_slots.specs.declared.view.View.{View}
use Rattle.association_slots.proofs.AddKeeps.{adding_as, did_add, added_now}
use Rattle.association_slots.proofs.SeatKeeping.{of_kept, to_kept, keeps_over, keeps_added}
use Rattle.association_slots.proofs.worker_seat.WorkerSeat.add.Goals as goal

pub fetch_add-word-requires : goal.fetch_add-word-requires
fetch_add-word-requires c = let is = ap (λ (v : SeatAt). v.view) c.self.view_is in let here = ap (λ (v : SeatAt). v.table) c.self.view_is ∙ (c.requires.here ∙ sym c.shared.ensures) in
    let free = subst (λ (v : SeatView). (m : Mark) → In m v.over → m.epoch ≢ v.shown.epoch) (sym is) c.requires.not_over in
    let may = subst (λ (v : SeatView). (v.shown.present ≡ true) × (v.added ≡ false)) (sym is) c.requires.loaded in
    let at = c.from.ensures ∙ (c.number.ensures.value ∙ ap (λ (p : Current). number_of p.an) c.self.invariant.shown_is) in
    (here, omega (arith, c.from.ensures, c.number.ensures, c.self.invariant.limit_is.1, ap (λ (t : TableId). t.words) here), adding_as _ _ _ _ at (ap (λ m. m.0) c.self.invariant.is) may.0 may.1 free)

pub invariant_of-self : goal.invariant_of-self
invariant_of-self c = let k = c.self.inside in let old = seat_of k.place.me.0 in let e = epoch_of c.fetch_add-word.result in let a = c.fetch_add-word.ensures in
    let is_answer = c.answer-added.ensures ∙ ap (λ (p : Current). answer p.epoch c.fetch_add-word.result) c.self.invariant.shown_is in
    to_kept k.place.table_id c.fetch_add-word.new.seat.table_id c.fetch_add-word.new.seat.me (added old e Over) k.number k.shown c.max-self-inside.result k.known a.0
    (added_now k.place.me c.fetch_add-word.new.seat.me c.fetch_add-word.result Over a.2.0 (ap (λ (m : Me ℕ View). m.1) c.self.invariant.is) (sym c.in-Over.is ∙ is_answer))
    (keeps_over k.place.table_id old k.number k.shown k.overshot c.max-self-inside.result k.known e c.max-self-inside.ensures (of_kept k.place.table_id k.place.me k.number k.shown k.overshot k.known c.self.invariant))

pub invariant_of-self-in_default : goal.invariant_of-self-in_default
invariant_of-self-in_default c = let k = c.self.inside in let old = seat_of k.place.me.0 in let e = epoch_of c.fetch_add-word.result in let a = c.fetch_add-word.ensures in
    let is_answer = c.answer-added.ensures ∙ ap (λ (p : Current). answer p.epoch c.fetch_add-word.result) c.self.invariant.shown_is in
    to_kept k.place.table_id c.fetch_add-word.new.seat.table_id c.fetch_add-word.new.seat.me (added old e c.answer-added.result) k.number k.shown k.overshot k.known a.0
    (added_now k.place.me c.fetch_add-word.new.seat.me c.fetch_add-word.result c.answer-added.result a.2.0 (ap (λ (m : Me ℕ View). m.1) c.self.invariant.is) is_answer)
    (keeps_added k.place.table_id old k.number k.shown k.overshot k.known e c.answer-added.result c.in_default.not-Over (of_kept k.place.table_id k.place.me k.number k.shown k.overshot k.known c.self.invariant))

pub returns-in_default : goal.returns-in_default
returns-in_default c = let k = c.self.inside in let a = c.fetch_add-word.ensures in
    let is_answer = c.answer-added.ensures ∙ ap (λ (p : Current). answer p.epoch c.fetch_add-word.result) c.self.invariant.shown_is in record {
      same = a.0 ∙ ap (λ (v : SeatAt). v.table) c.self.view_is;
      view = subst (λ (v : SeatView). IsAdded v c.answer-added.result (seat_of c.fetch_add-word.new.seat.me.0)) (ap (λ (v : SeatAt). v.view) c.self.view_is)
          (did_add (seat_of k.place.me.0) (seat_of c.fetch_add-word.new.seat.me.0) c.fetch_add-word.result c.answer-added.result (ap (λ (m : Me ℕ View). seat_of m.0) a.2.0) a.2.1 is_answer);
    }
