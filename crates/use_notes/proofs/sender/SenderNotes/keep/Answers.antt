use Rattle.std.proofs.Common.{◌≡◌, ◌∙◌, ℕ, List, Some, cond, refl, sym, ap, subst}
use Rattle.std.specs.Map.{lookup}
use Rattle.std.specs.BTreeMap.{is_at}
use Rattle.std.specs.Ordering.{nat_cmp}
use Rattle.use_notes.specs.declared.frame.First.{First}
use Rattle.use_notes.specs.declared.novelty.Novelty.{Novelty}
use Rattle.use_notes.specs.Frames.{is_new, is_repeated, is_reused}
use Rattle.use_notes.specs.Standing.{Finds, KeptOfUse, check_cmp}
use Rattle.use_notes.proofs.Alikes.{found-again, found-new, found-reused}
use Rattle.use_notes.proofs.sender.SenderNotes.keep.Goals as goal

pub returns-in_ok-insert-in-New-clause-noted : goal.returns-in_ok-insert-in-New-clause-noted
returns-in_ok-insert-in-New-clause-noted c = λ fs finds is.
    let e = c.args.frame.now in
    let i = c.self.inside in
    let old : KeptOfUse = record { firsts = i.firsts.entries; reused = i.reused.entries; counts = i.counts } in
    let new : KeptOfUse =
    record { firsts = c.insert.new.self.entries; reused = i.reused.entries; counts = i.counts } in
    let were : Finds fs old = subst (λ (k : KeptOfUse). Finds fs k) (sym c.self.view_is) finds in
    found-new fs e old new were (ap (λ (n : Novelty). is_new n) (sym is ∙ c.in-New.is))
    (λ q. c.in_ok-insert-in-New.ensures.updates.0 q
    ∙ ap (λ (x : First). cond (is_at (nat_cmp e.pn) q) (Some x) (lookup (is_at (nat_cmp q)) old.firsts)) c.of.ensures)
    (c.in_ok-insert-in-New.ensures.updates.1 ∙ ap Some c.of.ensures) refl

pub returns-in_ok-insert-in-Reused-clause-noted : goal.returns-in_ok-insert-in-Reused-clause-noted
returns-in_ok-insert-in-Reused-clause-noted c = λ fs finds is.
    let e = c.args.frame.now in
    let i = c.self.inside in
    let old : KeptOfUse = record { firsts = i.firsts.entries; reused = i.reused.entries; counts = i.counts } in
    let new : KeptOfUse =
    record { firsts = i.firsts.entries; reused = c.insert-in-Reused.new.self.entries; counts = i.counts } in
    let were : Finds fs old = subst (λ (k : KeptOfUse). Finds fs k) (sym c.self.view_is) finds in
    let at : ℕ × List ℕ = (e.pn, e.check) in
    found-reused fs e old new were (ap (λ (n : Novelty). is_reused n) (sym is ∙ c.in-Reused.is))
    (λ q. c.in_ok-insert-in-Reused.ensures.updates.0 q
    ∙ ap (λ (x : First). cond (is_at (check_cmp at) q) (Some x) (lookup (is_at (check_cmp q)) old.reused)) c.of-in-Reused.ensures)
    (c.in_ok-insert-in-Reused.ensures.updates.1 ∙ ap Some c.of-in-Reused.ensures) refl

pub returns-in-Repeated-clause-noted : goal.returns-in-Repeated-clause-noted
returns-in-Repeated-clause-noted c = λ fs finds is.
    found-again fs c.args.frame.now c.args.self.now finds
    (ap (λ (n : Novelty). is_repeated n) (sym is ∙ c.in-Repeated.is))
