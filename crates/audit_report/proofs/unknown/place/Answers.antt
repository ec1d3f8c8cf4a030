use Rattle.std.proofs.Common.{rules, tests, ap, length, Bool, ◌∙◌}
use Rattle.std.specs.Option.{unwrap_or}
use Rattle.std.proofs.lemmas.Iterator.{YieldsList-from_slice}
use Rattle.std.proofs.lemmas.Iterator.Search.{position_from_yields_List}
use Rattle.audit_report.specs.inside.Naming.{comes_before}
use Rattle.audit_report.specs.declared.unknown.UnknownName.{UnknownName}
use Rattle.audit_report.proofs.Names.{place-is, place-within}
use Rattle.audit_report.proofs.unknown.place.Goals as goal

pub returns-clause-place : goal.returns-clause-place
returns-clause-place c =
    let names = c.args.names.now in
    let behind : UnknownName → Bool = λ u. comes_before c.args.ckn.now u.ckn in
    let at = position_from_yields_List behind _ _ _ c.position.ensures.ran (YieldsList-from_slice names cc) (λ x b q k. search (rules, tests)) in
    c.unwrap_or.ensures ∙ ap (λ o. unwrap_or o (length names)) at ∙ place-is behind names

pub returns-clause-within : goal.returns-clause-within
returns-clause-within c =
    place-within (λ u. comes_before c.args.ckn.now u.ckn) c.args.names.now _ (returns-clause-place c)
