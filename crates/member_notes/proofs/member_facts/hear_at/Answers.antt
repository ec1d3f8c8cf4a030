use Rattle.std.proofs.Common.{◌≡◌, ◌∙◌, ℕ, refl, sym, ap, subst}
use Rattle.std.specs.Prelude.{IsSome, Option}
use Rattle.std.specs.BTreeMap.{BTreeMap, is_at}
use Rattle.std.specs.Map.{set_value}
use Rattle.std.proofs.lemmas.Map.Steps.{set_value_same}
use Rattle.lan_base.specs.declared.address.Mi.{Mi}
use Rattle.member_notes.specs.Speakers.{Speaker}
use Rattle.member_notes.specs.Facts.{spoken}
use Rattle.member_notes.specs.FactsKept.{speaker_at}
use Rattle.member_notes.specs.Standing.{member_cmp}
use Rattle.member_notes.specs.inside.Hearing.{IsHeard, hears, speaker_or}
use Rattle.member_notes.proofs.Heard.{heard-at, on_ok}
use Rattle.member_notes.proofs.Putting.{on_err}
use Rattle.member_notes.proofs.member_facts.hear_at.Goals as goal

pub returns-in-Some-clause-heard : goal.returns-in-Some-clause-heard
returns-in-Some-clause-heard c = λ nanos.
    let at : ℕ × Mi = (c.args.mkpdu.now.group, c.args.mkpdu.now.mi) in
    let e = spoken c.args.mkpdu.now nanos c.args.said.now in
    let old = c.args.speakers.now.entries in
    let holds = c.get_mut.follows.holds c.hear.new.self in
    let now = holds.3 (subst (λ (o : Option Speaker). IsSome o) c.in-Some.ensures.value refl) in
    on_ok c.hear.result
    (λ told. subst (λ (s : Speaker). IsHeard at s old (c.get_mut.follows.lender c.hear.new.self).entries)
    (told
    ∙ ap (λ (o : Option Speaker). hears c.args.novelty c.args.serves_too c.args.claim e (speaker_or e.said.sci o)) c.in-Some.ensures.value)
    (heard-at at c.hear.new.self old (c.get_mut.follows.lender c.hear.new.self).entries now.0 now.1))
    (c.hear.ensures.heard nanos)

pub returns-in-Some-clause-kept : goal.returns-in-Some-clause-kept
returns-in-Some-clause-kept c =
    let at : ℕ × Mi = (c.args.mkpdu.now.group, c.args.mkpdu.now.mi) in
    on_err c.hear.result
    (λ kept. (c.get_mut.follows.holds c.hear.new.self).0
    ∙ ap (λ (own : Speaker). set_value (is_at (member_cmp at)) c.args.speakers.now.entries own) kept
    ∙ set_value_same (is_at (member_cmp at)) c.args.speakers.now.entries c.in-Some.speaker.now
    (sym c.in-Some.ensures.value))
    c.hear.ensures.kept

pub returns-clause-heard : goal.returns-clause-heard
returns-clause-heard c = λ nanos.
    let at : ℕ × Mi = (c.args.mkpdu.now.group, c.args.mkpdu.now.mi) in
    let e = spoken c.args.mkpdu.now nanos c.args.said.now in
    let left = c.get_mut.follows.lender-at-none in
    let same : left ≡ c.args.speakers.now = c.get_mut.follows.holds-at-none in
    subst (λ (m : BTreeMap (ℕ × Mi) Speaker). IsHeard at (hears c.args.novelty c.args.serves_too c.args.claim e (speaker_or e.said.sci (speaker_at c.args.speakers.now.entries at.0 at.1))) m.entries c.insert.new.self.entries) same
    (subst (λ (s : Speaker). IsHeard at s left.entries c.insert.new.self.entries)
    (c.in_ok-hear.ensures.heard nanos
    ∙ ap (λ (s : Speaker). hears c.args.novelty c.args.serves_too c.args.claim e s) c.new-speaker.ensures
    ∙ ap (λ (o : Option Speaker). hears c.args.novelty c.args.serves_too c.args.claim e (speaker_or e.said.sci o)) c.in_default.ensures.value)
    (heard-at at c.hear-2.new.self left.entries c.insert.new.self.entries
    (λ q. c.in_ok-insert.ensures.updates.0 q) c.in_ok-insert.ensures.updates.1))
