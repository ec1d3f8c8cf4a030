use Rattle.std.proofs.Common.{arith, ℕ, sym, subst}
use Rattle.atomic_table.specs.Table.{Me}
use Rattle.association_slots.specs.Views.{HasLoaded, seat_of}
use Rattle.association_slots.specs.declared.view.View.{View}
use Rattle.association_slots.proofs.worker_seat.read_card.Goals as goal

pub read-requires-clause-loaded : goal.read-requires-clause-loaded
read-requires-clause-loaded c = (c.args.epoch, 0, omega arith, omega arith, c.requires.loaded)

pub read-requires-2-clause-loaded : goal.read-requires-2-clause-loaded
read-requires-2-clause-loaded c = (c.args.epoch, 1, omega arith, omega arith, subst (λ (m : Me ℕ View). HasLoaded (seat_of m.0) c.args.epoch) (sym c.read.ensures.view) c.requires.loaded)

pub read-requires-3-clause-loaded : goal.read-requires-3-clause-loaded
read-requires-3-clause-loaded c = (
  c.args.epoch,
  2,
  omega arith,
  omega arith,
  subst (λ (m : Me ℕ View). HasLoaded (seat_of m.0) c.args.epoch) (sym c.read-2.ensures.view) (subst (λ (m : Me ℕ View). HasLoaded (seat_of m.0) c.args.epoch) (sym c.read.ensures.view) c.requires.loaded),
)

pub read-requires-4-clause-loaded : goal.read-requires-4-clause-loaded
read-requires-4-clause-loaded c = (
  c.args.epoch,
  3,
  omega arith,
  omega arith,
  subst (λ (m : Me ℕ View). HasLoaded (seat_of m.0) c.args.epoch) (sym c.read-3.ensures.view) (subst (λ (m : Me ℕ View). HasLoaded (seat_of m.0) c.args.epoch) (sym c.read-2.ensures.view) (subst (λ (m : Me ℕ View). HasLoaded (seat_of m.0) c.args.epoch) (sym c.read.ensures.view) c.requires.loaded)),
)

pub read-requires-5-clause-loaded : goal.read-requires-5-clause-loaded
read-requires-5-clause-loaded c = (
  c.args.epoch,
  4,
  omega arith,
  omega arith,
  subst (λ (m : Me ℕ View). HasLoaded (seat_of m.0) c.args.epoch) (sym c.read-4.ensures.view) (subst (λ (m : Me ℕ View). HasLoaded (seat_of m.0) c.args.epoch) (sym c.read-3.ensures.view) (subst (λ (m : Me ℕ View). HasLoaded (seat_of m.0) c.args.epoch) (sym c.read-2.ensures.view) (subst (λ (m : Me ℕ View). HasLoaded (seat_of m.0) c.args.epoch) (sym c.read.ensures.view) c.requires.loaded))),
)
