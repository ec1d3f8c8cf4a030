use Rattle.std.proofs.Common.{◌≡◌, ◌∙◌, ◌∷◌, [], Bool, false, cond, subst, sym}
use Rattle.std.specs.Prelude.{IfOk, OnOk}
use Rattle.gcm_frames.specs.Tags.{is_sec}
use Rattle.rx_slots.specs.Histories.{heard}
use Rattle.rx_slots.specs.Numbers.{answer}
use Rattle.mka_station.specs.Hearing.{frame_turn}
use Rattle.lan_core.specs.declared.fact.Fact.TheVariants as facts
use Rattle.lan_core.specs.Ledgers.{gather}
use Rattle.lan_core.specs.Lives.{lived, receiving, slot_change}
use Rattle.lan_core.specs.Expected.{reaction_facts}
use Rattle.lan_core.specs.Standing.{Sits}
use Rattle.lan_core.proofs.seat.Seat.reach.Goals as goal

pub returns-else-is_sec-clause-facts : goal.returns-else-is_sec-clause-facts
returns-else-is_sec-clause-facts c = λ settings r l s of.
    let h = receiving c.args.place r in
    let plain : is_sec c.args.octets.now ≡ false = sym c.is_sec.ensures ∙ c.if-is_sec.false in
    subst (λ (b : Bool). IfOk c.hear_frame.result (λ shown. shown ≡ cond b
    (facts.Arrived c.args.number c.args.place (answer l.member.setup.sci settings.window h c.args.octets.now) ∷ [])
    (reaction_facts c.args.place c.args.number 0 (frame_turn l.member c.args.octets.now l.past).reaction)))
    (sym plain) (c.hear_frame.ensures.facts settings.window l h s of)

pub returns-else-is_sec-clause-stands : goal.returns-else-is_sec-clause-stands
returns-else-is_sec-clause-stands c = λ settings r l s of.
    let h = receiving c.args.place r in
    let turn = frame_turn l.member c.args.octets.now l.past in
    let plain : is_sec c.args.octets.now ≡ false = sym c.is_sec.ensures ∙ c.if-is_sec.false in
    subst (λ (b : Bool). OnOk c.hear_frame.result (Sits settings.window (cond b l (lived l turn))
    (gather (slot_change c.args.place) (cond b
    (facts.Arrived c.args.number c.args.place (answer l.member.setup.sci settings.window h c.args.octets.now) ∷ [])
    (reaction_facts c.args.place c.args.number 0 turn.reaction)) (cond b (heard c.args.octets.now ∷ h) h)) c.hear_frame.new.self))
    (sym plain) (c.hear_frame.ensures.stands settings.window l h s of)
