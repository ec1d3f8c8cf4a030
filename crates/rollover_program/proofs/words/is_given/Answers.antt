use Rattle.std.proofs.Common.{◌∙◌}
use Rattle.clap.specs.Words.{found_of}
use Rattle.rollover_program.proofs.Reading.{flag_read}
use Rattle.rollover_program.proofs.words.is_given.Goals as goal

pub returns : goal.returns
returns c = c.unwrap_or.ensures
    ∙ flag_read _ c.args.name.now (found_of c.args.arguments.now) c.get_one.result c.get_one.ensures.none
    c.get_one.ensures.value
