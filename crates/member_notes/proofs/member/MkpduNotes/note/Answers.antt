use Rattle.std.proofs.Common.{◌≡◌, ◌∙◌, Bool, ℕ, Option, Some, cond, max, sym, ap}
use Rattle.std.specs.Prelude.{is_some, not, nat_lt}
use Rattle.std.specs.Map.{lookup}
use Rattle.std.specs.BTreeMap.{is_at}
use Rattle.std.specs.Ordering.{nat_cmp}
use Rattle.member_notes.specs.declared.mkpdu.First.{First}
use Rattle.member_notes.specs.Mkpdus.{first_of, novelty_after}
use Rattle.member_notes.specs.Standing.{KeptOfMember, above_all}
use Rattle.member_notes.specs.declared.member.MkpduNotes.TheInside.{Inside}
use Rattle.member_notes.proofs.Rising.{rises}
use Rattle.member_notes.proofs.Firsts.{first-put, first-stays, none-of}
use Rattle.member_notes.proofs.member.MkpduNotes.note.Goals as goal
use Rattle.member_notes.proofs.member.MkpduNotes.note.Goals.{then-is_none+in_ok-insert, else-is_none}

pub returns-clause-noted : goal.returns-clause-noted
returns-clause-noted c = λ ms keeps.
    let e = c.args.mkpdu.now in
    let old : KeptOfMember = record { firsts = c.self.inside.firsts.entries; greatest = Some c.self.inside.greatest } in
    let above = λ (mn : ℕ). ap (λ (m : KeptOfMember). above_all mn m.greatest) c.self.view_is ∙ keeps.greatest mn in
    let were = λ (mn : ℕ). ap (λ (m : KeptOfMember). lookup (is_at (nat_cmp mn)) m.firsts) c.self.view_is ∙ keeps.firsts mn in
    let found : c.copied-first.result ≡ first_of e.mn ms =
    c.copied-first.ensures ∙ c.get.ensures.value ∙ were e.mn in
    let told = λ (same : c.if-is_none.self-inside.greatest ≡ c.self.inside.greatest).
    c.after.ensures ∙ ap (λ (o : Option First). novelty_after o (nat_lt c.if-is_none.self-inside.greatest e.mn) e) found
    ∙ ap (λ (b : Bool). novelty_after (first_of e.mn ms) b e)
    (ap (λ (g : ℕ). nat_lt g e.mn) same ∙ above e.mn) in
    let rise = λ (same : c.if-is_none.self-inside.greatest ≡ c.self.inside.greatest) (mn : ℕ).
    ap (λ (g : ℕ). above_all mn (Some g)) (c.max-self-inside.ensures ∙ ap (λ (g : ℕ). max g e.mn) same)
    ∙ rises c.self.inside.greatest ms e above mn in
    elim c.if-is_none.branch [
      | then-is_none+in_ok-insert w ↦ (
        told (ap (λ (i : Inside). i.greatest) w.self-inside-is),
        record {
          firsts = λ mn.
              ap (λ (i : Inside). lookup (is_at (nat_cmp mn)) i.firsts.entries) w.self-inside-is
              ∙ first-put ms e old.firsts w.insert.new.self.entries were
              (none-of (first_of e.mn ms) (ap (λ (o : Option First). is_some o) (sym found) ∙ c.is_none.ensures ∙ ap not w.if-is_none.true))
              (λ q. w.in_ok-insert.ensures.updates.0 q
              ∙ ap (λ (x : First). cond (is_at (nat_cmp e.mn) q) (Some x) (lookup (is_at (nat_cmp q)) old.firsts)) w.of.ensures)
              (w.in_ok-insert.ensures.updates.1 ∙ ap Some w.of.ensures) mn;
          greatest = rise (ap (λ (i : Inside). i.greatest) w.self-inside-is);
        },
      )
      | else-is_none w ↦ (
        told (ap (λ (i : Inside). i.greatest) w.self-inside-is),
        record {
          firsts = λ mn.
              ap (λ (i : Inside). lookup (is_at (nat_cmp mn)) i.firsts.entries) w.self-inside-is
              ∙ were mn
              ∙ first-stays ms e (ap (λ (o : Option First). is_some o) (sym found) ∙ c.is_none.ensures ∙ ap not w.if-is_none.false) mn;
          greatest = rise (ap (λ (i : Inside). i.greatest) w.self-inside-is);
        },
      )
    ]
