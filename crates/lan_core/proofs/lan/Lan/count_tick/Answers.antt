use Rattle.std.proofs.Common.{◌≡◌, ◌+◌, ◌++◌, length, Option, None, arith, rules, subst}
use Rattle.std.proofs.lemmas.Grind.{common_steps}
use Rattle.std.specs.Prelude.{option_map, option_and_then, option_to_list}
use Rattle.aes_block.specs.declared.secret.Secret.{Secret}
use Rattle.lan_core.specs.declared.stop.Stop.TheVariants.{Limit}
use Rattle.lan_core.specs.Lives.{drawn_sak}
use Rattle.lan_core.specs.Standing.{State, number_of_sak}
use Rattle.lan_core.specs.Answers.{IsWhy}
use Rattle.lan_core.specs.inside.Drawing.{stop_of}
use Rattle.lan_core.specs.inside.Limits.{passed_with}
use Rattle.lan_core.specs.inside.Shown.{sent_in}
use Rattle.lan_core.proofs.RefusalPassedOn.{judged-later}
use Rattle.lan_core.proofs.lan.Lan.count_tick.Goals as goal

pub returns-in_err-note_sak-clause-judges : goal.returns-in_err-note_sak-clause-judges
returns-in_err-note_sak-clause-judges c =
    let lan = c.args.self.now in
    let shown = c.args.event_facts.now.facts in
    let none : option_map Limit (passed_with (lan.air ++ option_to_list (sent_in shown)) (lan.ticks + 1)
    c.args.event_facts.now.installs (length lan.names)) ≡ None = search rules in
    let own = c.self.inside.drawn in
    let error = c.in_err-note_sak.field-0.0 in
    let here : IsWhy (stop_of own (option_and_then (number_of_sak own) (drawn_sak shown))) error =
    subst (λ (sak : Option Secret). IsWhy (stop_of own (option_and_then (number_of_sak own) sak)) error)
    c.installed.ensures c.in_err-note_sak.ensures.judges in
    let why : IsWhy (stop_of lan.drawn (option_and_then (number_of_sak lan.drawn) (drawn_sak shown))) error =
    subst (λ (q : State). IsWhy (stop_of q.drawn (option_and_then (number_of_sak q.drawn) (drawn_sak shown))) error)
    c.self.view_is here in
    judged-later (option_map Limit (passed_with (lan.air ++ option_to_list (sent_in shown)) (lan.ticks + 1)
    c.args.event_facts.now.installs (length lan.names)))
    (stop_of lan.drawn (option_and_then (number_of_sak lan.drawn) (drawn_sak shown))) error
    c.from_residual-in_err-note_sak.result c.from_residual-in_err-note_sak.ensures.1 none why

pub returns-in_err-judge-clause-judges : goal.returns-in_err-judge-clause-judges
returns-in_err-judge-clause-judges c = grind (arith, common_steps)

pub returns-clause-judges : goal.returns-clause-judges
returns-clause-judges c = search rules
