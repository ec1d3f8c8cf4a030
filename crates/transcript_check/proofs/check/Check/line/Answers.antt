use Rattle.std.proofs.Common.{◌≡◌, ◌∙◌, List, Err, sym, ap, subst}
use Rattle.std.specs.Prelude.{OnErr}
use Rattle.std.proofs.lemmas.Result.{err_from_is_err_and}
use Rattle.transcript_reader.specs.Facts.{Known}
use Rattle.lan_core.specs.declared.fact.Fact.{Fact}
use Rattle.transcript.specs.declared.fault.FactError.{FactError}
use Rattle.transcript_check.specs.Standing.{Standing, IsCheckOf}
use Rattle.transcript_check.proofs.Lines.{standing, IsLine, IsNote, line-taken, line-refused, line-denied, line-due, line-kept, IsUnread, none-refused, none-denied, none-due, failing, of-results, same-error}
use Rattle.transcript_check.proofs.check.Check.line.Goals as goal

pub returns : goal.returns
returns c =
    let known = c.self.inside.reader in
    let octets = c.args.line.now in
    let after = c.line.new.self in
    let fact = c.in_ok-fact.fact in
    let before : Standing = standing known c.self.inside.notes in
    let line : IsLine known after octets fact = record {
      tells = c.in_ok-fact.ensures.read;
      still = c.in_ok-fact.ensures.still;
      only = λ then other tells. c.in_ok-fact.ensures.found then other tells;
    } in
    let note : IsNote fact before.maps c.note.new.self c.note.result = record {
      noted = c.note.ensures.noted;
      kept = c.note.ensures.kept;
      life = c.note.ensures.life;
    } in
    let from : (ns : Known) (facts : List Fact) → IsCheckOf ns facts c.args.self.now
    → IsCheckOf ns facts before =
    λ ns facts is. subst (λ (s : Standing). IsCheckOf ns facts s) (sym c.self.view_is) is in
    record {
      taken = λ ns facts is. line-taken octets before after c.note.new.self fact line c.note.result note
          ns facts (from ns facts is);
      refused = λ ns facts is why. (
        line-refused octets before after c.note.new.self fact line c.note.result note ns facts
            (from ns facts is) why,
        line-denied octets before after c.note.new.self fact line c.note.result note ns facts
            (from ns facts is) why,
      );
      memory = λ ns facts is. line-due octets before after c.note.new.self fact line c.note.result note
          ns facts (from ns facts is);
      kept = subst (λ (s : Standing). OnErr c.note.result (standing after c.note.new.self ≡ s)) c.self.view_is
          (line-kept octets before after c.note.new.self fact line c.note.result note);
    }

pub returns-in_err-fact : goal.returns-in_err-fact
returns-in_err-fact c =
    let octets = c.args.line.now in
    let before : Standing = standing c.self.inside.reader c.self.inside.notes in
    let fault : FactError = c.in_err-fact.field-0.0 in
    let p = err_from_is_err_and c.from_residual.result c.from_residual.ensures.1 in
    let unread : IsUnread before.known octets fault = record {
      unread = of-results fault c.in_err-fact.ensures.unread;
      memory = λ e. c.in_err-fact.ensures.memory (ap (failing Fact) e);
      frames = λ e. c.in_err-fact.ensures.frames (ap (failing Fact) e);
    } in
    let from : (ns : Known) (facts : List Fact) → IsCheckOf ns facts c.args.self.now
    → IsCheckOf ns facts before =
    λ ns facts is. subst (λ (s : Standing). IsCheckOf ns facts s) (sym c.self.view_is) is in
    rw (p.1, p.2) (record {
      taken = λ ns facts is. tt;
      refused = λ ns facts is why. (
        λ e. none-refused octets before fault unread ns facts (from ns facts is) why (same-error _ _ e),
        λ denied. ap Err (none-denied octets before fault unread ns facts (from ns facts is) why denied),
      );
      memory = λ ns facts is e. none-due octets before fault unread ns facts (from ns facts is)
          (same-error _ _ e);
      kept = ap (λ (ns : Known). standing ns c.self.inside.notes) c.in_err-fact.ensures.kept ∙ c.self.view_is;
    })
