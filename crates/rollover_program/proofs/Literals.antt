-- The command is one of which clap says what it makes of words.
use Rattle.std.proofs.Common.{◌≡◌, true, refl}
use Rattle.clap.specs.Words.{is_simple, is_simple_and_free}
use Rattle.clap.proofs.OnLiterals.{clap_on_literals}
use Rattle.rollover_program.specs.Words.{command}

pub is_free : is_simple_and_free command ≡ true
unfolding clap_on_literals
is_free = refl

pub is_plain : is_simple command ≡ true
unfolding clap_on_literals
is_plain = refl
