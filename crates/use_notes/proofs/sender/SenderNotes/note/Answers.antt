use Rattle.std.proofs.Common.{◌≡◌, ◌∙◌, ◌∷◌, Option, sym, ap, subst}
use Rattle.std.specs.Map.{lookup}
use Rattle.std.specs.BTreeMap.{is_at}
use Rattle.std.specs.Ordering.{nat_cmp}
use Rattle.use_notes.specs.declared.frame.First.{First}
use Rattle.use_notes.specs.Frames.{first_alike, first_of, novelty, novelty_after}
use Rattle.use_notes.specs.Standing.{Finds, KeptOfUse, found_alike}
use Rattle.use_notes.specs.Uses.{counts_of}
use Rattle.use_notes.proofs.sender.SenderNotes.note.Goals as goal

pub returns-clause-noted : goal.returns-clause-noted
returns-clause-noted c = λ fs keeps order.
    let e = c.args.frame.now in
    let i = c.self-2.inside in
    let found : c.copied-first.result ≡ first_of e.pn fs =
    c.copied-first.ensures ∙ c.get.ensures.value
    ∙ ap (λ (m : KeptOfUse). lookup (is_at (nat_cmp e.pn)) m.firsts) c.self.view_is ∙ keeps.finds.firsts e.pn in
    let alike : c.alike-alike.result ≡ first_alike e.pn e.check fs =
    c.alike-alike.ensures ∙ ap (λ (o : Option First). found_alike o c.args.self.now.reused e.pn e.check) found
    ∙ keeps.finds.alike e.pn e.check in
    let told : c.after-novelty.result ≡ novelty fs e =
    c.after-novelty.ensures ∙ ap (λ (o : Option First). novelty_after o c.alike-alike.result) found
    ∙ ap (λ (o : Option First). novelty_after (first_of e.pn fs) o) alike in
    let finds = c.in_ok-keep.ensures.noted fs keeps.finds told in
    let now : Finds (e ∷ fs) (record { firsts = i.firsts.entries; reused = i.reused.entries; counts = i.counts }) =
    subst (λ (m : KeptOfUse). Finds (e ∷ fs) m) (sym c.self-2.view_is) finds in
    let counts : i.counts ≡ counts_of fs =
    ap (λ (m : KeptOfUse). m.counts) c.self-2.view_is ∙ c.in_ok-keep.ensures.counts ∙ keeps.counts in (
      told,
      record {
        finds = record { firsts = now.firsts; alike = now.alike };
        counts = c.with-self-inside.ensures.counted fs counts told alike order;
      },
    )
