use Rattle.std.proofs.Common.{◌≡◌, ◌∙◌, ℕ, List, [], ◌∷◌, refl, sym, ap, subst}
use Rattle.std.specs.Prelude.{IsSome, Option, Some}
use Rattle.std.specs.BTreeMap.{BTreeMap, is_at}
use Rattle.std.specs.Map.{set_value}
use Rattle.std.proofs.lemmas.Map.Steps.{set_value_same}
use Rattle.lan_base.specs.declared.address.Sci.{Sci}
use Rattle.use_notes.specs.declared.frame.RightFrame.{RightFrame}
use Rattle.use_notes.specs.Standing.{KeptOfUse, Keeps, KeepsSome}
use Rattle.use_notes.specs.Uses.{use_cmp}
use Rattle.use_notes.specs.inside.Putting.{IsPutAt}
use Rattle.use_notes.proofs.Putting.{put-at, on_err, if_ok}
use Rattle.use_notes.proofs.notes.note_at.Goals as goal

pub returns-in-Some-clause-noted : goal.returns-in-Some-clause-noted
returns-in-Some-clause-noted c = λ fs keeps order.
    let e = c.args.frame.now in
    let at : ℕ × Sci = (e.key, e.sci) in
    let holds = c.get_mut.follows.holds c.note.new.self in
    let now = holds.3 (subst (λ (o : Option KeptOfUse). IsSome o) c.in-Some.ensures.value refl) in
    let own : KeepsSome fs (Some c.in-Some.notes.now) =
    subst (λ (o : Option KeptOfUse). KeepsSome fs o) (sym c.in-Some.ensures.value) keeps in
    if_ok c.note.result
    (λ told p. (
      p.0,
      put-at at (e ∷ fs) c.note.new.self c.args.senders.now.entries
          (c.get_mut.follows.lender c.note.new.self).entries p.1 now.0 now.1,
    ))
    (c.note.ensures.noted fs own.1 order)

pub returns-in-Some-clause-kept : goal.returns-in-Some-clause-kept
returns-in-Some-clause-kept c =
    let at : ℕ × Sci = (c.args.frame.now.key, c.args.frame.now.sci) in
    on_err c.note.result
    (λ kept. (c.get_mut.follows.holds c.note.new.self).0
    ∙ ap (λ (own : KeptOfUse). set_value (is_at (use_cmp at)) c.args.senders.now.entries own) kept
    ∙ set_value_same (is_at (use_cmp at)) c.args.senders.now.entries c.in-Some.notes.now
    (sym c.in-Some.ensures.value))
    c.note.ensures.kept

pub returns-clause-noted : goal.returns-clause-noted
returns-clause-noted c = λ fs keeps order.
    let e = c.args.frame.now in
    let at : ℕ × Sci = (e.key, e.sci) in
    let left = c.get_mut.follows.lender-at-none in
    let same : left ≡ c.args.senders.now = c.get_mut.follows.holds-at-none in
    let none : fs ≡ [] = subst (λ (o : Option KeptOfUse). KeepsSome fs o) (sym c.in_default.ensures.value) keeps in
    let own : Keeps fs c.new-notes.result =
    subst (λ (gs : List RightFrame). Keeps gs c.new-notes.result) (sym none) c.new-notes.ensures in
    let p = c.in_ok-novelty.ensures.noted fs own order in (
      p.0,
      subst (λ (m : BTreeMap (ℕ × Sci) KeptOfUse). IsPutAt at (e ∷ fs) m.entries c.insert.new.self.entries) same
          (put-at at (e ∷ fs) c.note-2.new.self left.entries c.insert.new.self.entries p.1
          (λ q. c.in_ok-insert.ensures.updates.0 q) c.in_ok-insert.ensures.updates.1),
    )
