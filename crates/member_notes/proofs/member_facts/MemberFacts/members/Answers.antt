use Rattle.std.proofs.Common.{ℕ, map, subst}
use Rattle.std.specs.List.Sorted.{IsStrictlySortedBy}
use Rattle.std.specs.Map.Iter.{deref_pair}
use Rattle.std.proofs.lemmas.Map.Iter.{rest_all}
use Rattle.lan_base.specs.declared.address.Mi.{Mi}
use Rattle.member_notes.specs.Speakers.{Speaker}
use Rattle.member_notes.specs.FactsKept.{Speakers}
use Rattle.member_notes.specs.Standing.{member_cmp}
use Rattle.member_notes.proofs.Heard.{listed, all-listed}
use Rattle.member_notes.proofs.member_facts.MemberFacts.members.Goals as goal

pub returns : goal.returns
returns c = λ h holds.
    let none = rest_all deref_pair c.loop-at.at-iterator c.next.new.self c.next.result c.in-None.is c.next.ensures.steps in
    listed h c.args.self.now c.loop-at.members.items holds
    (subst (λ (n : Speakers). IsStrictlySortedBy member_cmp (map (λ (e : (ℕ × Mi) × Speaker). e.0) n)) c.self.view_is
    c.into_iter-at-iterator.ensures.into_iter_gives.5)
    (all-listed c.loop-at.members.items c.loop-at.at-iterator c.args.self.now c.loop-at.invariant none)
