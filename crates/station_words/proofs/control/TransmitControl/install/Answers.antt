use Rattle.std.proofs.Common.{◌≡◌, refl, ℕ, ◌+◌, ◌++◌, sym, ap, ◌∙◌, subst, arith}
use Rattle.association_slots.specs.Cards.{card_at, card_words}
use Rattle.association_slots.specs.Learned.{Learned}
use Rattle.association_slots.specs.Views.{ControlAt}
use Rattle.association_slots.specs.declared.view.ControlView.{ControlView}
use Rattle.station_words.specs.Telling.{KeepUp, Tells, of_seats}
use Rattle.station_words.specs.inside.Kept.{IsKept}
use Rattle.station_words.proofs.Keeping.{carded, kept-card, five-words}
use Rattle.station_words.proofs.KeepingUp.{up-installed}
use Rattle.station_words.proofs.Telling.{tells-installed}
use Rattle.station_words.proofs.Catching.{caught-still}
use Rattle.station_words.proofs.control.TransmitControl.install.Goals as goal

pub invariant_of-self : goal.invariant_of-self
invariant_of-self c =
    let k = c.self.invariant in
    let c0 = c.self.inside.control.view in
    let more = kept-card c0 c.self.inside.now c.self.inside.cards k (card_words c.args.card.now) (five-words c.args.card.now) in
    subst (λ (w : ControlView). IsKept w c.self.inside.now c.in-Ok.epoch) (sym c.in-Ok.ensures.view)
    (subst (λ (n : ℕ). IsKept (record c0 { card_words = c0.card_words ++ card_words c.args.card.now }) c.self.inside.now n) (sym (c.in-Ok.ensures.epoch ∙ ap (λ (n : ℕ). n + 1) (carded c0 c.self.inside.now c.self.inside.cards k))) more)

pub returns-in-Ok-clause-tells : goal.returns-in-Ok-clause-tells
returns-in-Ok-clause-tells c = λ a j t is.
    let k = c.self.invariant in
    let c0 = c.self.inside.control.view in
    let more = kept-card c0 c.self.inside.now c.self.inside.cards k (card_words c.args.card.now) (five-words c.args.card.now) in
    subst (Tells (record a { carried = j })) (sym c.in-Ok.ensures.view)
    (tells-installed c0 c.self.inside.now c.self.inside.cards k a (subst (λ (v : ControlAt). Tells a v.view) (sym c.self.view_is) t) j (card_words c.args.card.now) more (subst Learned c.in-Ok.ensures.view c.in-Ok.ensures.learned) is)

pub returns-in-Ok-clause-keeps_up : goal.returns-in-Ok-clause-keeps_up
returns-in-Ok-clause-keeps_up c = λ a j t is.
    let k = c.self.invariant in
    let c0 = c.self.inside.control.view in
    let more = kept-card c0 c.self.inside.now c.self.inside.cards k (card_words c.args.card.now) (five-words c.args.card.now) in
    subst (KeepUp (record a { carried = j })) (sym c.in-Ok.ensures.view)
    (up-installed c0 c.self.inside.now c.self.inside.cards k a (subst (λ (v : ControlAt). KeepUp a v.view) (sym c.self.view_is) t) j (card_words c.args.card.now) more (subst Learned c.in-Ok.ensures.view c.in-Ok.ensures.learned) is)

pub returns-in-Ok-clause-seats : goal.returns-in-Ok-clause-seats
returns-in-Ok-clause-seats c = ap of_seats c.in-Ok.ensures.view ∙ ap (λ (v : ControlAt). of_seats v.view) c.self.view_is

pub returns-in-Ok-clause-earlier : goal.returns-in-Ok-clause-earlier
returns-in-Ok-clause-earlier c = λ a epoch t some low.
    let c0 = c.self.inside.control.view in
    let told = (subst (λ (v : ControlAt). KeepUp a v.view) (sym c.self.view_is) t).cards in
    subst (λ (old : ControlAt). card_at c.card.new.self.view epoch ≡ card_at old.view epoch) c.self.view_is
    (ap (λ (w : ControlView). card_at w epoch) c.in-Ok.ensures.view
    ∙ c.law_earlier_cards_stay.ensures c0 c.args.card.now epoch some (omega (arith, low, told)))

pub returns-in-Ok-clause-catches_up : goal.returns-in-Ok-clause-catches_up
returns-in-Ok-clause-catches_up c = λ a j t is.
    caught-still a (record a { carried = j }) _ _ t (returns-in-Ok-clause-keeps_up c a j t.keep_up is) (returns-in-Ok-clause-seats c) refl
