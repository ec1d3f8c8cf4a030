use Rattle.std.proofs.Common.{codes, rules, sym, ◌∙◌}
use Rattle.clap.specs.Words.{found_of}
use Rattle.clap.proofs.WalkLemmas.{first_value-rows}
use Rattle.rollover_program.proofs.Reading.{met_sides}
use Rattle.rollover_program.proofs.files.Files.of.Goals as goal

pub returns-in-Some-clause-keys : goal.returns-in-Some-clause-keys
returns-in-Some-clause-keys c =
    let named = sym (c.subcommand_matches.ensures.found.0 (search rules)) in
    rw (met_sides _ _ _ _ _ named (sym c.in-Some.ensures.rows))
    (c.get_str.ensures ∙ first_value-rows (found_of c.in-Some.arguments.now) (codes "KEYS"))

pub returns-in-Some-clause-capture : goal.returns-in-Some-clause-capture
returns-in-Some-clause-capture c =
    let named = sym (c.subcommand_matches.ensures.found.0 (search rules)) in
    rw (met_sides _ _ _ _ _ named (sym c.in-Some.ensures.rows))
    (c.get_str-in-Some.ensures ∙ first_value-rows (found_of c.in-Some.arguments.now) (codes "CAPTURE"))
