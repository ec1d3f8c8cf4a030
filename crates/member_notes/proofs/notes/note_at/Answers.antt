use Rattle.std.proofs.Common.{◌≡◌, ◌∙◌, ℕ, List, [], ◌∷◌, refl, sym, ap, subst}
use Rattle.std.specs.Prelude.{IsSome, Option, Some}
use Rattle.std.specs.BTreeMap.{BTreeMap, is_at}
use Rattle.std.specs.Map.{set_value}
use Rattle.std.proofs.lemmas.Map.Steps.{set_value_same}
use Rattle.lan_base.specs.declared.address.Mi.{Mi}
use Rattle.member_notes.specs.declared.mkpdu.RightMkpdu.{RightMkpdu}
use Rattle.member_notes.specs.Mkpdus.{novelty}
use Rattle.member_notes.specs.Standing.{KeptOfMember, Keeps, KeepsSome, member_cmp}
use Rattle.member_notes.specs.inside.Putting.{IsPutAt}
use Rattle.member_notes.proofs.Putting.{put-at, on_err, if_ok}
use Rattle.member_notes.proofs.notes.note_at.Goals as goal

pub returns-in-Some-clause-noted : goal.returns-in-Some-clause-noted
returns-in-Some-clause-noted c = λ ms keeps.
    let e = c.args.mkpdu.now in
    let at : ℕ × Mi = (e.group, e.mi) in
    let holds = c.get_mut.follows.holds c.note.new.self in
    let now = holds.3 (subst (λ (o : Option KeptOfMember). IsSome o) c.in-Some.ensures.value refl) in
    let own : KeepsSome ms (Some c.in-Some.notes.now) =
    subst (λ (o : Option KeptOfMember). KeepsSome ms o) (sym c.in-Some.ensures.value) keeps in
    if_ok c.note.result
    (λ told p. (
      p.0,
      put-at at (e ∷ ms) c.note.new.self c.args.members.now.entries
          (c.get_mut.follows.lender c.note.new.self).entries p.1 now.0 now.1,
    ))
    (c.note.ensures.noted ms own)

pub returns-in-Some-clause-kept : goal.returns-in-Some-clause-kept
returns-in-Some-clause-kept c =
    let at : ℕ × Mi = (c.args.mkpdu.now.group, c.args.mkpdu.now.mi) in
    on_err c.note.result
    (λ kept. (c.get_mut.follows.holds c.note.new.self).0
    ∙ ap (λ (own : KeptOfMember). set_value (is_at (member_cmp at)) c.args.members.now.entries own) kept
    ∙ set_value_same (is_at (member_cmp at)) c.args.members.now.entries c.in-Some.notes.now
    (sym c.in-Some.ensures.value))
    c.note.ensures.kept

pub returns-clause-noted : goal.returns-clause-noted
returns-clause-noted c = λ ms keeps.
    let e = c.args.mkpdu.now in
    let at : ℕ × Mi = (e.group, e.mi) in
    let left = c.get_mut.follows.lender-at-none in
    let same : left ≡ c.args.members.now = c.get_mut.follows.holds-at-none in
    let none : ms ≡ [] = subst (λ (o : Option KeptOfMember). KeepsSome ms o) (sym c.in_default.ensures.value) keeps in
    let own : Keeps (e ∷ ms) c.of.result =
    subst (λ (gs : List RightMkpdu). Keeps (e ∷ gs) c.of.result) (sym none) c.of.ensures in (
      ap (λ (gs : List RightMkpdu). novelty gs e) (sym none),
      subst (λ (m : BTreeMap (ℕ × Mi) KeptOfMember). IsPutAt at (e ∷ ms) m.entries c.insert.new.self.entries) same
          (put-at at (e ∷ ms) c.of.result left.entries c.insert.new.self.entries own
          (λ q. c.in_ok-insert.ensures.updates.0 q) c.in_ok-insert.ensures.updates.1),
    )
