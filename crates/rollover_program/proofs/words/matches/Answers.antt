use Rattle.std.proofs.Common.{◌≡◌, ◌∙◌, [], ap, map, subst}
use Rattle.std.specs.Prelude.{string_bytes}
use Rattle.clap.specs.Words.{App, HasKind, app_of, fault_of, is_simple, is_simple_and_free, subcommand_of}
use Rattle.rollover_program.specs.Words.{command}
use Rattle.rollover_program.proofs.Literals.{is_free, is_plain}
use Rattle.rollover_program.proofs.Ordered.{by_none}
use Rattle.rollover_program.proofs.words.matches.Goals as goal

pub returns-in-Ok-clause-taken : goal.returns-in-Ok-clause-taken
returns-in-Ok-clause-taken c =
    let words = map string_bytes c.args.words.now in
    let is : app_of c.in_ok-command.field-0 ≡ command = c.in_ok-command.ensures in
    subst (λ (a : App). fault_of a words ≡ []) is (c.in-Ok.ensures.kinds (ap is_simple_and_free is ∙ is_free))

pub returns-in-Ok-clause-rows : goal.returns-in-Ok-clause-rows
returns-in-Ok-clause-rows c =
    let words = map string_bytes c.args.words.now in
    let is : app_of c.in_ok-command.field-0 ≡ command = c.in_ok-command.ensures in
    (c.in-Ok.ensures.matches (ap is_simple is ∙ is_plain)).1 ∙ ap (λ (a : App). subcommand_of a words) is

pub returns-in-Err-clause-usage : goal.returns-in-Err-clause-usage
returns-in-Err-clause-usage c = λ refused none.
    let words = map string_bytes c.args.words.now in
    let is : app_of c.in_ok-command.field-0 ≡ command = c.in_ok-command.ensures in
    let kinds = subst (λ (a : App). HasKind (fault_of a words) c.in-Err.error) is
    (c.in-Err.ensures.kinds (ap is_simple_and_free is ∙ is_free)) in
    let wanting = c.refusal_of.ensures.memory (by_none (fault_of command words) c.in-Err.error none kinds) in
    cc
