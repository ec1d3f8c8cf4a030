use Rattle.std.proofs.Common.{◌≡◌, ◌∙◌, ℕ, sym, ap, subst}
use Rattle.std.specs.Prelude.{◌&&◌}
use Rattle.lan_base.specs.declared.address.Mi.{Mi}
use Rattle.member_notes.specs.declared.novelty.MkpduNovelty.{MkpduNovelty}
use Rattle.member_notes.specs.Speakers.{Speaker}
use Rattle.member_notes.specs.Facts.{new_mkpdu, novelty_behind, serves_too, spoken}
use Rattle.member_notes.specs.FactsKept.{HoldsFacts, Speakers, claim_in, speaker_at}
use Rattle.member_notes.specs.inside.Hearing.{IsHeard, hears, lists_rival, speaker_or}
use Rattle.member_notes.proofs.Heard.{on_ok}
use Rattle.member_notes.proofs.Hearing.{noted, rivals-listed}
use Rattle.member_notes.proofs.member_facts.MemberFacts.note.Goals as goal

pub returns-clause-noted : goal.returns-clause-noted
returns-clause-noted c = λ h holds is.
    let e = spoken c.args.mkpdu.now c.args.nanos c.args.said.now in
    let at : ℕ × Mi = (c.args.mkpdu.now.group, c.args.mkpdu.now.mi) in
    let old : Speakers = c.self.inside.speakers.entries in
    let new : Speakers = c.hear_at.new.speakers.entries in
    let held : HoldsFacts h old = subst (λ (n : Speakers). HoldsFacts h n) (sym c.self.view_is) holds in
    let claim : c.in_ok-claim.claim ≡ claim_in e = c.in_ok-claim.ensures c.args.mkpdu.now in
    let serves : c.serves_too-serves_too.result ≡ serves_too h e =
    c.serves_too-serves_too.ensures
    ∙ ap (λ (n : MkpduNovelty). new_mkpdu n && (e.said.server && lists_rival old e)) is
    ∙ ap (λ b. new_mkpdu (novelty_behind h e) && (e.said.server && b)) (rivals-listed e h old held) in
    on_ok c.hear_at.result
    (λ put. noted e h old new held
    (subst (λ (s : Speaker). IsHeard at s old new)
    (λ t. hears (is t) (serves t) (claim t) e (speaker_or e.said.sci (speaker_at old at.0 at.1))) put))
    (c.hear_at.ensures.heard c.args.nanos)
