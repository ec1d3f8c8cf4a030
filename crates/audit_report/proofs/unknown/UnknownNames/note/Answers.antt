use Rattle.std.proofs.Common.{◌≡◌, ◌∙◌, ◌∷◌, List, Some, map, sym, ap}
use Rattle.audit_report.specs.declared.unknown.UnknownName.{UnknownName}
use Rattle.audit_report.specs.Unknown.{KeptNames, ascending, first_names, more, number, unknown_name, unknown_of}
use Rattle.audit_report.specs.inside.Naming.{counted, with_name}
use Rattle.audit_report.proofs.Names.{counted-is, put-is}
use Rattle.audit_report.proofs.unknown.UnknownNames.note.Goals as goal

pub returns : goal.returns
returns c = λ h stands.
    let ckn = c.args.ckn.now in
    let packets : c.more-self-inside.result ≡ number (Some ckn ∷ h) =
    c.more-self-inside.ensures ∙ ap more (ap (λ (k : KeptNames). k.packets) c.self.view_is ∙ stands.packets) in
    let old : c.self.inside.names.items ≡ unknown_of h =
    ap (λ (k : KeptNames). k.names) c.self.view_is ∙ stands.names in
    record {
      packets = packets;
      names = c.count_each.ensures
          ∙ ap (map (counted ckn c.more-self-inside.result)) (c.in_ok-put_name.ensures ∙ ap (with_name ckn) old ∙ put-is h ckn)
          ∙ ap (λ n. map (counted ckn n) (map (unknown_name h) (ascending (first_names (Some ckn ∷ h))))) packets
          ∙ counted-is h ckn (ascending (first_names (Some ckn ∷ h)));
    }
