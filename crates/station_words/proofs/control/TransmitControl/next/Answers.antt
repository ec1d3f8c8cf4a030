use Rattle.std.proofs.Common.{sym, ap, ◌∙◌, subst}
use Rattle.association_slots.specs.Learned.{Learned, IsNext}
use Rattle.association_slots.specs.Views.{ControlAt, told_sum}
use Rattle.group_safety.specs.Accounts.{looked, showing}
use Rattle.station_words.specs.Telling.{KeepUp, Tells, CatchUp, of_seats}
use Rattle.station_words.proofs.Keeping.{kept-looked, open-now}
use Rattle.station_words.proofs.KeepingUp.{up-looked, shown-ahead, next-above}
use Rattle.station_words.proofs.Telling.{tells-looked}
use Rattle.station_words.proofs.Catching.{caught-looked}
use Rattle.station_words.proofs.control.TransmitControl.next.Goals as goal

pub returns-clause-keeps_up : goal.returns-clause-keeps_up
returns-clause-keeps_up c = λ a t.
    let k = c.self.invariant in
    let p = c.self.inside.now in
    let c0 = c.self.inside.control.view in
    let present = c.if-not-self.false in
    let n = c.next_of.result in
    let view = ap (λ (v : ControlAt). v.view) c.next_of.ensures.view in
    let up = subst (λ (v : ControlAt). KeepUp a v.view) (sym c.self.view_is) t in
    let open_it = open-now c0 p _ k present in
    subst (KeepUp (showing n a)) (sym view)
    (up-looked c0 p _ k a up n present c.next_of.ensures.seen (next-above c0 p n up.learned open_it (subst (λ e. IsNext c0 p.an e n) open_it.1 c.next_of.ensures.next)) (kept-looked c0 p _ k n present) (subst Learned view c.next_of.ensures.learned))

pub returns-clause-not_below : goal.returns-clause-not_below
returns-clause-not_below c = λ a t.
    let k = c.self.invariant in
    let p = c.self.inside.now in
    let c0 = c.self.inside.control.view in
    let present = c.if-not-self.false in
    let n = c.next_of.result in
    let up = subst (λ (v : ControlAt). KeepUp a v.view) (sym c.self.view_is) t in
    let open_it = open-now c0 p _ k present in
    shown-ahead c0 p _ k a up n present c.next_of.ensures.seen (next-above c0 p n up.learned open_it (subst (λ e. IsNext c0 p.an e n) open_it.1 c.next_of.ensures.next))

pub returns-clause-seats : goal.returns-clause-seats
returns-clause-seats c = ap (λ (v : ControlAt). of_seats v.view) c.next_of.ensures.view ∙ ap (λ (v : ControlAt). of_seats v.view) c.self.view_is

pub returns-clause-tells : goal.returns-clause-tells
returns-clause-tells c = λ a t.
    let k = c.self.invariant in
    let p = c.self.inside.now in
    let c0 = c.self.inside.control.view in
    let present = c.if-not-self.false in
    let n = c.next_of.result in
    let view = ap (λ (v : ControlAt). v.view) c.next_of.ensures.view in
    let told = subst (λ (v : ControlAt). Tells a v.view) (sym c.self.view_is) t in
    let open_it = open-now c0 p _ k present in
    subst (Tells (looked a)) (sym view)
    (tells-looked c0 p _ k a told n present
    (up-looked c0 p _ k a told.keep_up n present c.next_of.ensures.seen (next-above c0 p n told.keep_up.learned open_it (subst (λ e. IsNext c0 p.an e n) open_it.1 c.next_of.ensures.next)) (kept-looked c0 p _ k n present) (subst Learned view c.next_of.ensures.learned))
    (c.next_of.ensures.next.is_sum told.all_in ∙ ap (told_sum c0 p.an) (k.epoch present)))

pub returns-clause-catches_up : goal.returns-clause-catches_up
returns-clause-catches_up c = λ a t.
    let k = c.self.invariant in
    let p = c.self.inside.now in
    let c0 = c.self.inside.control.view in
    let present = c.if-not-self.false in
    let n = c.next_of.result in
    let view = ap (λ (v : ControlAt). v.view) c.next_of.ensures.view in
    let caught = subst (λ (v : ControlAt). CatchUp a v.view) (sym c.self.view_is) t in
    let up = subst (KeepUp (showing n a)) view (returns-clause-keeps_up c a t.keep_up) in
    let whole = caught-looked c0 p _ k a caught n present (open-now c0 p _ k present)
    (c.next_of.ensures.next.is_sum caught.all_in ∙ ap (told_sum c0 p.an) (k.epoch present)) up
    (c.law_few_numbers_are_lost.ensures c0 caught.keep_up.learned p.an p.epoch) in
    (whole.0, subst (CatchUp (showing n a)) (sym view) whole.1)
