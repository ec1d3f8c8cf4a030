use Rattle.std.proofs.Common.{◌≡◌, ap, true, sym, subst, ◌∙◌, MatchResult}
use Rattle.association_slots.specs.Learned.{Learned}
use Rattle.association_slots.specs.Views.{AllIn, ControlAt}
use Rattle.association_slots.specs.declared.view.ControlView.{ControlView}
use Rattle.packet_claims.specs.Alone.{IsNextClaim}
use Rattle.station_words.specs.Telling.{KeepUp, Tells, CatchUp, IsClaimed, HasGained}
use Rattle.station_words.specs.inside.Kept.{IsKept}
use Rattle.station_words.proofs.Keeping.{kept-told, kept-seated, no-room}
use Rattle.station_words.proofs.KeepingUp.{up-back, up-claimed}
use Rattle.station_words.proofs.Telling.{tells-claimed}
use Rattle.station_words.proofs.Catching.{caught-claimed}
use Rattle.station_words.specs.Seats.{is_out}
use Rattle.station_words.proofs.Out.{did-number, out-back}
use Rattle.station_words.proofs.control.TransmitControl.claim.Goals as goal

pub invariant_of-self : goal.invariant_of-self
invariant_of-self g c =
    let d = c.claim_alone.ensures.did in
    subst (λ (w : ControlView). IsKept w c.self.inside.now c.self.inside.cards) (sym d.1)
    (kept-told _ _ _ d.0 (kept-seated _ _ _ c.self.invariant))

pub returns-clause-keeps_up : goal.returns-clause-keeps_up
returns-clause-keeps_up g c = λ a t.
    let d = c.claim_alone.ensures.did in
    let c0 = c.self.inside.control.view in
    subst (KeepUp a) (sym d.1)
    (up-back c0 c.self.inside.now _ c.self.invariant a (subst (λ (v : ControlAt). KeepUp a v.view) (sym c.self.view_is) t) d.0 (subst Learned d.1 c.claim_alone.ensures.learned))

pub returns-clause-claimed : goal.returns-clause-claimed
returns-clause-claimed g c = λ l t low.
    let k = c.self.invariant in
    let a = c.claim_alone.ensures in
    let d = a.did in
    let told = subst (λ (v : ControlAt). Tells l v.view) (sym c.self.view_is) t in
    subst (λ (old : ControlAt). IsClaimed l old.view c.claim_alone.result (λ m. Tells m c.claim_alone.new.control.view)) c.self.view_is
    (subst (λ (w : ControlView). IsClaimed l c.self.inside.control.view c.claim_alone.result (λ m. Tells m w)) (sym d.1)
    (tells-claimed c.self.inside.control.view _ _ k l told d.0 (subst Learned d.1 a.learned) (subst AllIn d.1 (a.all_in told.all_in)) c.claim_alone.result
    (λ present small. subst (λ (w : ControlView). MatchResult c.claim_alone.result (IsNextClaim c.self.inside.control.view w) (λ _. ⊥)) d.1 (a.next told.all_in present small))
    a.no_key d.2 low))

pub returns-clause-gained : goal.returns-clause-gained
returns-clause-gained g c = λ l t all_in.
    let a = c.claim_alone.ensures in
    let d = a.did in
    let c0 = c.self.inside.control.view in
    let up = subst (λ (v : ControlAt). KeepUp l v.view) (sym c.self.view_is) t in
    let ins = subst (λ (v : ControlAt). AllIn v.view) (sym c.self.view_is) all_in in
    subst (λ (old : ControlAt). HasGained l old.view c.claim_alone.result (λ m. KeepUp m c.claim_alone.new.control.view)) c.self.view_is
    (subst (λ (w : ControlView). HasGained l c0 c.claim_alone.result (λ m. KeepUp m w)) (sym d.1)
    (up-claimed c0 _ _ c.self.invariant l up d.0 (subst Learned d.1 a.learned) c.claim_alone.result
    (λ present small. subst (λ (w : ControlView). MatchResult c.claim_alone.result (IsNextClaim c0 w) (λ _. ⊥)) d.1 (a.next ins present small))
    (λ present much. a.exhausted ins present much) a.no_key d.2))

pub returns-then-not-has_room-clause-claimed : goal.returns-then-not-has_room-clause-claimed
returns-then-not-has_room-clause-claimed g c = λ l t low.
    absurd (no-room c.self.inside.control.view (subst (λ (v : ControlAt). Tells l v.view) (sym c.self.view_is) t).all_in (sym c.has_room.ensures ∙ c.if-not-has_room.true))

pub returns-then-not-has_room-clause-gained : goal.returns-then-not-has_room-clause-gained
returns-then-not-has_room-clause-gained g c = λ l t all_in.
    absurd (no-room c.self.inside.control.view (subst (λ (v : ControlAt). AllIn v.view) (sym c.self.view_is) all_in) (sym c.has_room.ensures ∙ c.if-not-has_room.true))

pub returns-clause-catches_up : goal.returns-clause-catches_up
returns-clause-catches_up g c = λ l t.
    let a = c.claim_alone.ensures in
    let d = a.did in
    let c0 = c.self.inside.control.view in
    let caught = subst (λ (v : ControlAt). CatchUp l v.view) (sym c.self.view_is) t in
    let gained = returns-clause-gained g c l t.keep_up t.all_in in
    subst (λ (old : ControlAt). HasGained l old.view c.claim_alone.result (λ m. CatchUp m c.claim_alone.new.control.view)) c.self.view_is
    (subst (λ (w : ControlView). HasGained l c0 c.claim_alone.result (λ m. CatchUp m w)) (sym d.1)
    (caught-claimed c0 d.0 l caught c.claim_alone.result (subst AllIn d.1 (a.all_in caught.all_in)) d.2
    (subst (λ (w : ControlView). HasGained l c0 c.claim_alone.result (λ m. KeepUp m w)) d.1
    (subst (λ (old : ControlAt). HasGained l old.view c.claim_alone.result (λ m. KeepUp m c.claim_alone.new.control.view)) (sym c.self.view_is) gained))))

pub returns-then-not-has_room-clause-catches_up : goal.returns-then-not-has_room-clause-catches_up
returns-then-not-has_room-clause-catches_up g c = λ l t.
    absurd (no-room c.self.inside.control.view (subst (λ (v : ControlAt). CatchUp l v.view) (sym c.self.view_is) t).all_in (sym c.has_room.ensures ∙ c.if-not-has_room.true))

pub returns-clause-out : goal.returns-clause-out
returns-clause-out g c = λ i is.
    let d = c.claim_alone.ensures.did in
    let c0 = c.self.inside.control.view in
    ap (λ (v : ControlAt). is_out v.view i) (sym c.self.view_is)
    ∙ out-back c0 d.0 (did-number _ _ _ d.2) i (ap (λ (w : ControlView). is_out w i) (sym d.1) ∙ is)
