use Rattle.std.proofs.Common.{arith, ℕ, ◌*◌, ◌+◌, [], ◌∷◌, slice_index, ap, ◌∙◌, sym, subst}
use Rattle.atomic_table.specs.Seated.{TableId}
use Rattle.atomic_table.specs.Table.{Me}
use Rattle.association_slots.specs.Cards.{Knows}
use Rattle.association_slots.specs.Views.{HasLoaded, SeatAt, present_at, seat_of}
use Rattle.association_slots.specs.inside.Kept.{read_five}
use Rattle.association_slots.specs.declared.card.Card.{Card}
use Rattle.association_slots.specs.declared.view.SeatView.{SeatView}
use Rattle.association_slots.specs.declared.view.View.{View}
use Rattle.association_slots.proofs.KnownCards.{knows_kept, knows_read}
use Rattle.association_slots.proofs.SeatKeeping.{of_kept, to_kept, keeps_read}
use Rattle.association_slots.proofs.worker_seat.WorkerSeat.known.Goals as goal

pub returns-clause-knows : goal.returns-clause-knows
returns-clause-knows c = subst (λ (v : SeatView). Knows v.reads c.args.epoch c.in-Some.known.card) (ap (λ (s : SeatAt). s.view) c.self.view_is)
    (knows_kept (seat_of c.self.inside.place.me.0).reads c.self.inside.known c.in-Some.known c.args.epoch c.in-Some.is c.if-known-epoch.true c.self.invariant.known_is)

pub read_card-words-requires-clause-room : goal.read_card-words-requires-clause-room
read_card-words-requires-clause-room c =
    let was = subst (λ (v : SeatView). HasLoaded v c.args.epoch) (sym (ap (λ (s : SeatAt). s.view) c.self.view_is)) c.requires.loaded in let low = c.self.invariant.loaded_low (present_at was.0 c.args.epoch) was.1 in let k = c.self.invariant.limit_is in
    let words = ap (λ (s : SeatAt). s.table.words) c.self.view_is ∙ ap (λ (t : TableId). t.words) c.requires.here in
    (omega (arith, low, k), omega (arith, low, k, words))

pub invariant_of-self : goal.invariant_of-self
invariant_of-self c = let k = c.self.inside in
    to_kept k.place.table_id c.read_card-words.new.place.table_id c.read_card-words.new.place.me (read_five (seat_of k.place.me.0) c.args.epoch c.read_card-words.result) k.number k.shown k.overshot _ c.read_card-words.ensures.same c.read_card-words.ensures.view
    (keeps_read k.place.table_id (seat_of k.place.me.0) k.number k.shown k.overshot k.known (record { epoch = c.args.epoch; words = c.read_card-words.result; card = c.of_words-card.result }) c.of_words-card.ensures (of_kept k.place.table_id k.place.me k.number k.shown k.overshot k.known c.self.invariant))

pub returns-2-clause-view : goal.returns-2-clause-view
returns-2-clause-view c = let w = c.read_card-words.result in let e = c.args.epoch in (
  (5 * e + 4, slice_index w 4) ∷ (5 * e + 3, slice_index w 3) ∷ (5 * e + 2, slice_index w 2) ∷ (5 * e + 1, slice_index w 1) ∷ (5 * e, slice_index w 0) ∷ [],
  ap (λ (m : Me ℕ View). seat_of m.0) c.read_card-words.ensures.view ∙ ap (λ (s : SeatAt). read_five s.view e w) c.self.view_is,
)

pub returns-2-clause-knows : goal.returns-2-clause-knows
returns-2-clause-knows c = subst (λ (m : Me ℕ View). Knows (seat_of m.0).reads c.args.epoch c.of_words-card.result) (sym c.read_card-words.ensures.view)
    (subst (λ (k : Card). Knows (read_five (seat_of c.self.inside.place.me.0) c.args.epoch c.read_card-words.result).reads c.args.epoch k) (sym c.of_words-card.ensures) (knows_read (seat_of c.self.inside.place.me.0) c.args.epoch c.read_card-words.result))
