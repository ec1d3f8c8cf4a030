use Rattle.std.proofs.Common.{◌≡◌, ◌∙◌, cond, max, ap}
use Rattle.std.specs.Prelude.{if◌then◌else◌}
use Rattle.member_notes.specs.declared.facts.Kinds.{Kinds}
use Rattle.member_notes.specs.declared.facts.MemberCounts.{MemberCounts}
use Rattle.member_notes.specs.declared.facts.Telling.{Telling}
use Rattle.member_notes.specs.declared.seldom.Seldom.{Seldom}
use Rattle.member_notes.specs.Facts.{new_mkpdu, number_given, spoken}
use Rattle.member_notes.specs.Speakers.{Speaker}
use Rattle.member_notes.specs.inside.Fewness.{counts_in, kinds_of, seldom_in}
use Rattle.member_notes.specs.inside.Hearing.{counts_with, telling}
use Rattle.member_notes.proofs.speaker.Speaker.hear.Goals as goal

pub returns-clause-heard : goal.returns-clause-heard
returns-clause-heard c = λ nanos.
    let e = spoken c.args.mkpdu.now nanos c.args.said.now in
    let old = c.args.self.now in
    let was = c.self.inside in
    let it = telling c.args.novelty c.args.serves_too old.greatest e in
    let n = number_given e.said.given in
    let now = c.with-counts.result in
    let told : c.telling-telling.result ≡ it = c.telling-telling.ensures nanos in
    let counted : now ≡ counts_with it old.counts =
    c.with-counts.ensures ∙ ap (λ (t : Telling). counts_with t c.counts.result) told
    ∙ ap (λ (m : MemberCounts). counts_with it m) c.counts.ensures in
    let renewed = c.in_ok-renew.ensures.renews in
    let counts : counts_in was.sci now.mkpdus now.again now.given (seldom_in c.renew.new.kept).kinds ≡ counts_with it old.counts =
    ap (λ (k : Kinds). counts_in was.sci now.mkpdus now.again now.given k) (ap (λ (s : Seldom). s.kinds) renewed ∙ c.kinds.ensures)
    ∙ ap (λ (m : MemberCounts). counts_in was.sci m.mkpdus m.again m.given (kinds_of m)) counted
    ∙ ap (λ (s : Speaker). record (counts_with it old.counts) { sci = s.counts.sci }) c.self.view_is in
    let greatest : c.greater-self-inside.result ≡ (if it.gives then max n old.greatest else old.greatest) =
    c.greater-self-inside.ensures ∙ ap (λ (t : Telling). if t.gives then max n was.greatest else was.greatest) told
    ∙ ap (λ (s : Speaker). if it.gives then max n s.greatest else s.greatest) c.self.view_is in
    let claim : (seldom_in c.renew.new.kept).claim ≡ (if new_mkpdu c.args.novelty then c.args.claim else old.claim) =
    ap (λ (s : Seldom). s.claim) renewed
    ∙ ap (λ b. cond b c.args.claim (seldom_in was.seldom).claim) c.is_new.ensures
    ∙ ap (λ (s : Speaker). if new_mkpdu c.args.novelty then c.args.claim else s.claim) c.self.view_is in
    λ t. record { counts = counts t; greatest = greatest t; claim = claim t }
