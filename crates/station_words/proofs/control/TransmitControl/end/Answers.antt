use Rattle.std.proofs.Common.{◌≡◌, refl, sym, ap, ◌∙◌, subst}
use Rattle.association_slots.specs.Learned.{Learned}
use Rattle.association_slots.specs.Views.{ControlAt, current, absent_after}
use Rattle.association_slots.specs.Steps.{closed, pointed}
use Rattle.association_slots.specs.declared.view.ControlView.{ControlView}
use Rattle.group_safety.specs.Transmitting.{ended}
use Rattle.station_words.specs.Telling.{KeepUp, Tells, of_seats}
use Rattle.station_words.proofs.Keeping.{kept-ended}
use Rattle.station_words.proofs.KeepingUp.{up-ended}
use Rattle.station_words.proofs.Telling.{tells-ended}
use Rattle.station_words.proofs.Catching.{caught-still}
use Rattle.station_words.proofs.control.TransmitControl.end.Goals as goal

pub returns-clause-tells : goal.returns-clause-tells
returns-clause-tells g c = λ a t.
    let k = c.self.invariant in
    let p = c.self.inside.now in
    let c0 = c.self.inside.control.view in
    let an = c.args.an in
    let n = c.shut.result in
    let is = sym c.names.ensures ∙ c.if-not-names.false in
    let u = ap (λ (v : ControlAt). v.view) c.unpoint.ensures.view in
    let whole : c.shut.new.self.view ≡ closed (pointed c0 (absent_after (current c0).epoch)) an n =
    ap (λ (v : ControlAt). v.view) c.shut.ensures.view ∙ ap (λ (w : ControlView). closed w an n) u in
    subst (Tells (record a { carried = ended an a.carried })) (sym whole)
    (tells-ended c0 p _ k a (subst (λ (v : ControlAt). Tells a v.view) (sym c.self.view_is) t) _ an (kept-ended c0 p _ k an n is) refl refl refl (subst Learned whole c.shut.ensures.learned) is)

pub returns-clause-keeps_up : goal.returns-clause-keeps_up
returns-clause-keeps_up g c = λ a t.
    let k = c.self.invariant in
    let p = c.self.inside.now in
    let c0 = c.self.inside.control.view in
    let an = c.args.an in
    let n = c.shut.result in
    let is = sym c.names.ensures ∙ c.if-not-names.false in
    let u = ap (λ (v : ControlAt). v.view) c.unpoint.ensures.view in
    let whole : c.shut.new.self.view ≡ closed (pointed c0 (absent_after (current c0).epoch)) an n =
    ap (λ (v : ControlAt). v.view) c.shut.ensures.view ∙ ap (λ (w : ControlView). closed w an n) u in
    subst (KeepUp (record a { carried = ended an a.carried })) (sym whole)
    (up-ended c0 p _ k a (subst (λ (v : ControlAt). KeepUp a v.view) (sym c.self.view_is) t) _ an (kept-ended c0 p _ k an n is) refl refl (subst Learned whole c.shut.ensures.learned) is)

pub returns-clause-seats : goal.returns-clause-seats
returns-clause-seats g c =
    let an = c.args.an in
    let u = ap (λ (v : ControlAt). v.view) c.unpoint.ensures.view in
    ap of_seats (ap (λ (v : ControlAt). v.view) c.shut.ensures.view ∙ ap (λ (w : ControlView). closed w an c.shut.result) u) ∙ ap (λ (v : ControlAt). of_seats v.view) c.self.view_is

pub returns-clause-catches_up : goal.returns-clause-catches_up
returns-clause-catches_up g c = λ a t.
    caught-still a (record a { carried = ended c.args.an a.carried }) _ _ t (returns-clause-keeps_up g c a t.keep_up) (returns-clause-seats g c) refl
