use Rattle.std.proofs.Common.{◌≡◌, refl, sym, ap, ◌∙◌, subst}
use Rattle.association_slots.specs.Views.{ControlAt, present_at}
use Rattle.association_slots.specs.Steps.{closed, pointed, raised}
use Rattle.association_slots.specs.declared.view.ControlView.{ControlView}
use Rattle.station_words.specs.Telling.{KeepUp, Tells, of_seats}
use Rattle.station_words.proofs.Keeping.{kept-begun, kept-begun-alone, seen-begun, seen-begun-alone, may-parts}
use Rattle.station_words.proofs.KeepingUp.{up-begun, not-begun}
use Rattle.station_words.proofs.Telling.{tells-begun}
use Rattle.station_words.proofs.Catching.{caught-still}
use Rattle.association_slots.specs.Learned.{Learned}
use Rattle.station_words.proofs.control.TransmitControl.begin.Goals as goal

pub returns-then-before-clause-tells : goal.returns-then-before-clause-tells
returns-then-before-clause-tells g c = λ a j t is.
    let k = c.self.invariant in
    let p = c.self.inside.now in
    let c0 = c.self.inside.control.view in
    let an = c.args.an in
    let epoch = c.args.epoch in
    let n = c.shut.result in
    let may = may-parts an epoch p _ (sym c.may_begin.ensures ∙ c.if-not-may_begin.false) in
    let two = ap (λ (v : ControlAt). v.view) c.point.ensures.view ∙ ap (λ (v : ControlAt). pointed v.view (present_at an epoch)) c.raise.ensures.view in
    let whole : c.shut.new.self.view ≡ closed (pointed (raised c0 an epoch) (present_at an epoch)) p.an n =
    ap (λ (v : ControlAt). v.view) c.shut.ensures.view ∙ ap (λ (w : ControlView). closed w p.an n) two in
    subst (Tells (record a { carried = j })) (sym whole)
    (tells-begun c0 p _ k a (subst (λ (v : ControlAt). Tells a v.view) (sym c.self.view_is) t) _ j an epoch (kept-begun c0 p _ k an epoch may.2 c.if-before.true n) refl (seen-begun c0 p _ k an epoch may.2 c.if-before.true n) refl refl (subst Learned whole c.shut.ensures.learned) is)

pub returns-then-before-clause-keeps_up : goal.returns-then-before-clause-keeps_up
returns-then-before-clause-keeps_up g c = λ a j t is.
    let k = c.self.invariant in
    let p = c.self.inside.now in
    let c0 = c.self.inside.control.view in
    let an = c.args.an in
    let epoch = c.args.epoch in
    let n = c.shut.result in
    let may = may-parts an epoch p _ (sym c.may_begin.ensures ∙ c.if-not-may_begin.false) in
    let two = ap (λ (v : ControlAt). v.view) c.point.ensures.view ∙ ap (λ (v : ControlAt). pointed v.view (present_at an epoch)) c.raise.ensures.view in
    let whole : c.shut.new.self.view ≡ closed (pointed (raised c0 an epoch) (present_at an epoch)) p.an n =
    ap (λ (v : ControlAt). v.view) c.shut.ensures.view ∙ ap (λ (w : ControlView). closed w p.an n) two in
    subst (KeepUp (record a { carried = j })) (sym whole)
    (up-begun c0 p _ k a (subst (λ (v : ControlAt). KeepUp a v.view) (sym c.self.view_is) t) _ j an epoch (kept-begun c0 p _ k an epoch may.2 c.if-before.true n) refl (seen-begun c0 p _ k an epoch may.2 c.if-before.true n) refl (subst Learned whole c.shut.ensures.learned) is)

pub returns-then-before-clause-seats : goal.returns-then-before-clause-seats
returns-then-before-clause-seats g c =
    let p = c.self.inside.now in
    let an = c.args.an in
    let epoch = c.args.epoch in
    let two = ap (λ (v : ControlAt). v.view) c.point.ensures.view ∙ ap (λ (v : ControlAt). pointed v.view (present_at an epoch)) c.raise.ensures.view in
    ap of_seats (ap (λ (v : ControlAt). v.view) c.shut.ensures.view ∙ ap (λ (w : ControlView). closed w p.an c.shut.result) two) ∙ ap (λ (v : ControlAt). of_seats v.view) c.self.view_is

pub returns-else-before-clause-tells : goal.returns-else-before-clause-tells
returns-else-before-clause-tells g c = λ a j t is.
    let k = c.self.invariant in
    let p = c.self.inside.now in
    let c0 = c.self.inside.control.view in
    let an = c.args.an in
    let epoch = c.args.epoch in
    let may = may-parts an epoch p _ (sym c.may_begin.ensures ∙ c.if-not-may_begin.false) in
    let two : c.point.new.self.view ≡ pointed (raised c0 an epoch) (present_at an epoch) =
    ap (λ (v : ControlAt). v.view) c.point.ensures.view ∙ ap (λ (v : ControlAt). pointed v.view (present_at an epoch)) c.raise.ensures.view in
    subst (Tells (record a { carried = j })) (sym two)
    (tells-begun c0 p _ k a (subst (λ (v : ControlAt). Tells a v.view) (sym c.self.view_is) t) _ j an epoch (kept-begun-alone c0 p _ k an epoch may.2 c.if-before.false) refl (seen-begun-alone c0 p _ k an epoch may.2) refl refl (subst Learned two c.point.ensures.learned) is)

pub returns-else-before-clause-keeps_up : goal.returns-else-before-clause-keeps_up
returns-else-before-clause-keeps_up g c = λ a j t is.
    let k = c.self.invariant in
    let p = c.self.inside.now in
    let c0 = c.self.inside.control.view in
    let an = c.args.an in
    let epoch = c.args.epoch in
    let may = may-parts an epoch p _ (sym c.may_begin.ensures ∙ c.if-not-may_begin.false) in
    let two : c.point.new.self.view ≡ pointed (raised c0 an epoch) (present_at an epoch) =
    ap (λ (v : ControlAt). v.view) c.point.ensures.view ∙ ap (λ (v : ControlAt). pointed v.view (present_at an epoch)) c.raise.ensures.view in
    subst (KeepUp (record a { carried = j })) (sym two)
    (up-begun c0 p _ k a (subst (λ (v : ControlAt). KeepUp a v.view) (sym c.self.view_is) t) _ j an epoch (kept-begun-alone c0 p _ k an epoch may.2 c.if-before.false) refl (seen-begun-alone c0 p _ k an epoch may.2) refl (subst Learned two c.point.ensures.learned) is)

pub returns-else-before-clause-seats : goal.returns-else-before-clause-seats
returns-else-before-clause-seats g c =
    let an = c.args.an in
    let epoch = c.args.epoch in
    ap of_seats (ap (λ (v : ControlAt). v.view) c.point.ensures.view ∙ ap (λ (v : ControlAt). pointed v.view (present_at an epoch)) c.raise.ensures.view) ∙ ap (λ (v : ControlAt). of_seats v.view) c.self.view_is

pub returns-then-not-may_begin-clause-tells : goal.returns-then-not-may_begin-clause-tells
returns-then-not-may_begin-clause-tells g c = λ a j t is.
    absurd (not-begun _ c.self.inside.now _ c.self.invariant a (subst (λ (v : ControlAt). KeepUp a v.view) (sym c.self.view_is) t.keep_up) j c.args.an c.args.epoch is (sym c.may_begin.ensures ∙ c.if-not-may_begin.true))

pub returns-then-not-may_begin-clause-keeps_up : goal.returns-then-not-may_begin-clause-keeps_up
returns-then-not-may_begin-clause-keeps_up g c = λ a j t is.
    absurd (not-begun _ c.self.inside.now _ c.self.invariant a (subst (λ (v : ControlAt). KeepUp a v.view) (sym c.self.view_is) t) j c.args.an c.args.epoch is (sym c.may_begin.ensures ∙ c.if-not-may_begin.true))

pub returns-then-before-clause-catches_up : goal.returns-then-before-clause-catches_up
returns-then-before-clause-catches_up g c = λ a j t is.
    caught-still a (record a { carried = j }) _ _ t (returns-then-before-clause-keeps_up g c a j t.keep_up is) (returns-then-before-clause-seats g c) refl

pub returns-else-before-clause-catches_up : goal.returns-else-before-clause-catches_up
returns-else-before-clause-catches_up g c = λ a j t is.
    caught-still a (record a { carried = j }) _ _ t (returns-else-before-clause-keeps_up g c a j t.keep_up is) (returns-else-before-clause-seats g c) refl

pub returns-then-not-may_begin-clause-catches_up : goal.returns-then-not-may_begin-clause-catches_up
returns-then-not-may_begin-clause-catches_up g c = λ a j t is.
    absurd (not-begun _ c.self.inside.now _ c.self.invariant a (subst (λ (v : ControlAt). KeepUp a v.view) (sym c.self.view_is) t.keep_up) j c.args.an c.args.epoch is (sym c.may_begin.ensures ∙ c.if-not-may_begin.true))
