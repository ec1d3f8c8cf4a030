use Rattle.std.proofs.Common.{◌≡◌, ◌∙◌, Some, Ok, Err, sym, ap, subst}
use Rattle.std.proofs.lemmas.Result.{err_from_is_err_and}
use Rattle.transcript_reader.specs.declared.form.Form.{Form}
use Rattle.transcript_reader.specs.Forms.{form_then, parted, placed}
use Rattle.transcript_reader.specs.Facts.{Known}
use Rattle.transcript_reader.proofs.OneLine.{IsAnswered, fact-answered, fault-answered}
use Rattle.transcript_reader.proofs.fact_reader.FactReader.line.Goals as goal

pub returns-in_err-fact-clause-unread : goal.returns-in_err-fact-clause-unread
returns-in_err-fact-clause-unread c =
    let inside = c.self.inside in
    let old : Known = record { form = inside.form; names = inside.readers } in
    let line = c.args.line.now in
    let part : parted (form_then old.form line) line ≡ Some (c.in-Some.group, c.in-Some.text.now) =
    ap (λ (f : Form). parted f line)
    (sym (c.form_of-form.ensures ∙ ap (λ (k : Known). form_then k.form line) (sym c.self.view_is)))
    ∙ sym c.in-Some.ensures in
    let p = err_from_is_err_and c.from_residual.result c.from_residual.ensures.1 in
    rw (p.1, p.2) (subst (λ (k : Known). IsAnswered k line (record old { names = c.read.new.self }) (Err c.in_err-fact.field-0.0))
    c.self.view_is (fault-answered old line c.in-Some.group c.in-Some.text.now part c.read.new.self c.in_err-fact.field-0.0
    c.in_err-fact.ensures)).unread

pub returns-in_err-fact-clause-memory : goal.returns-in_err-fact-clause-memory
returns-in_err-fact-clause-memory c =
    let inside = c.self.inside in
    let old : Known = record { form = inside.form; names = inside.readers } in
    let line = c.args.line.now in
    let part : parted (form_then old.form line) line ≡ Some (c.in-Some.group, c.in-Some.text.now) =
    ap (λ (f : Form). parted f line)
    (sym (c.form_of-form.ensures ∙ ap (λ (k : Known). form_then k.form line) (sym c.self.view_is)))
    ∙ sym c.in-Some.ensures in
    let p = err_from_is_err_and c.from_residual.result c.from_residual.ensures.1 in
    rw (p.1, p.2) (subst (λ (k : Known). IsAnswered k line (record old { names = c.read.new.self }) (Err c.in_err-fact.field-0.0))
    c.self.view_is (fault-answered old line c.in-Some.group c.in-Some.text.now part c.read.new.self c.in_err-fact.field-0.0
    c.in_err-fact.ensures)).memory

pub returns-clause-read : goal.returns-clause-read
returns-clause-read c =
    let inside = c.self.inside in
    let old : Known = record { form = inside.form; names = inside.readers } in
    let line = c.args.line.now in
    let part : parted (form_then old.form line) line ≡ Some (c.in-Some.group, c.in-Some.text.now) =
    ap (λ (f : Form). parted f line)
    (sym (c.form_of-form.ensures ∙ ap (λ (k : Known). form_then k.form line) (sym c.self.view_is)))
    ∙ sym c.in-Some.ensures in
    let new : Known = record { form = Some (form_then old.form line); names = c.read.new.self } in
    let own = c.in_ok-fact.fact in
    let same : new ≡ record { form = Some c.form_of-form.result; names = c.read.new.self } =
    ap (λ (f : Form). record { form = Some f; names = c.read.new.self })
    (sym (c.form_of-form.ensures ∙ ap (λ (k : Known). form_then k.form line) (sym c.self.view_is))) in
    rw c.place.ensures (subst (λ (k : Known). IsAnswered c.args.self.now line k (Ok (placed c.in-Some.group own))) same
    (subst (λ (k : Known). IsAnswered k line new (Ok (placed c.in-Some.group own))) c.self.view_is
    (fact-answered old line c.in-Some.group c.in-Some.text.now part c.read.new.self own c.self.invariant c.in_ok-fact.ensures))).read

pub returns-clause-unread : goal.returns-clause-unread
returns-clause-unread c =
    let inside = c.self.inside in
    let old : Known = record { form = inside.form; names = inside.readers } in
    let line = c.args.line.now in
    let part : parted (form_then old.form line) line ≡ Some (c.in-Some.group, c.in-Some.text.now) =
    ap (λ (f : Form). parted f line)
    (sym (c.form_of-form.ensures ∙ ap (λ (k : Known). form_then k.form line) (sym c.self.view_is)))
    ∙ sym c.in-Some.ensures in
    let new : Known = record { form = Some (form_then old.form line); names = c.read.new.self } in
    let own = c.in_ok-fact.fact in
    let same : new ≡ record { form = Some c.form_of-form.result; names = c.read.new.self } =
    ap (λ (f : Form). record { form = Some f; names = c.read.new.self })
    (sym (c.form_of-form.ensures ∙ ap (λ (k : Known). form_then k.form line) (sym c.self.view_is))) in
    rw c.place.ensures (subst (λ (k : Known). IsAnswered c.args.self.now line k (Ok (placed c.in-Some.group own))) same
    (subst (λ (k : Known). IsAnswered k line new (Ok (placed c.in-Some.group own))) c.self.view_is
    (fact-answered old line c.in-Some.group c.in-Some.text.now part c.read.new.self own c.self.invariant c.in_ok-fact.ensures))).unread

pub returns-clause-still : goal.returns-clause-still
returns-clause-still c =
    let inside = c.self.inside in
    let old : Known = record { form = inside.form; names = inside.readers } in
    let line = c.args.line.now in
    let part : parted (form_then old.form line) line ≡ Some (c.in-Some.group, c.in-Some.text.now) =
    ap (λ (f : Form). parted f line)
    (sym (c.form_of-form.ensures ∙ ap (λ (k : Known). form_then k.form line) (sym c.self.view_is)))
    ∙ sym c.in-Some.ensures in
    let new : Known = record { form = Some (form_then old.form line); names = c.read.new.self } in
    let own = c.in_ok-fact.fact in
    let same : new ≡ record { form = Some c.form_of-form.result; names = c.read.new.self } =
    ap (λ (f : Form). record { form = Some f; names = c.read.new.self })
    (sym (c.form_of-form.ensures ∙ ap (λ (k : Known). form_then k.form line) (sym c.self.view_is))) in
    rw c.place.ensures (subst (λ (k : Known). IsAnswered c.args.self.now line k (Ok (placed c.in-Some.group own))) same
    (subst (λ (k : Known). IsAnswered k line new (Ok (placed c.in-Some.group own))) c.self.view_is
    (fact-answered old line c.in-Some.group c.in-Some.text.now part c.read.new.self own c.self.invariant c.in_ok-fact.ensures))).still
