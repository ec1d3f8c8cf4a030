use Rattle.std.proofs.Common.{◌∙◌, ap, rules}
use Rattle.std.proofs.lemmas.Fn.{filter_same}
use Rattle.trace_acts.specs.Links.{without_link}
use Rattle.trace_acts.proofs.links.Links.mend.Goals as goal

pub returns : goal.returns
returns c =
    filter_same _ _ _ (λ x b f' k. search rules) _ _ c.retain.ensures.filtered
    ∙ ap (λ cuts. without_link c.args.from c.args.to cuts) c.self.view_is
