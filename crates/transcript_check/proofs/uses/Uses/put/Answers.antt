use Rattle.std.proofs.Common.{◌∷◌, ◌∙◌, ap, subst}
use Rattle.transcript_check.specs.Standing.{Lines, line_in}
use Rattle.transcript_check.specs.inside.Steps.{IsMore}
use Rattle.transcript_check.proofs.Puts.{stands}
use Rattle.transcript_check.proofs.uses.Uses.put.Goals as goal

pub returns-clause-put : goal.returns-clause-put
returns-clause-put c = λ none.
    let u = c.self.inside in
    let pn = c.args.claim.pn in
    let number = c.args.claim.number in
    let aside = c.args.aside.now.entries in
    let now = c.insert.new.self.entries in
    let own : Lines = record { place = u.place; epoch = u.epoch; first = u.first; run = u.line ∷ u.later.items } in
    subst (λ (own : Lines). IsMore pn number own aside own now) c.self.view_is
    (stands pn number own aside now (ap (λ (own : Lines). line_in own aside pn) c.self.view_is ∙ none)
    (λ q. c.in_ok-insert.ensures.updates.0 q) c.in_ok-insert.ensures.updates.1)
