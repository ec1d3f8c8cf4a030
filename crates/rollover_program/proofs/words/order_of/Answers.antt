use Rattle.std.proofs.Common.{ℕ, Result, refl}
use Rattle.std.specs.Str.Parse.{ExplainsUnsignedError, HasUnsignedDigitsIfOk, ParsesUnsigned}
use Rattle.std.specs.declared.num.ParseIntError.{ParseIntError}
use Rattle.clap.specs.Words.{Text, found_of}
use Rattle.rollover_program.proofs.Reading.{met_sides, number_read}
use Rattle.rollover_program.proofs.words.order_of.Goals as goal

-- how a number of 32 bits is read
abbrev gives : Text → Result ℕ ParseIntError → Type 0
gives text read = ParsesUnsigned 32 10 text read × ExplainsUnsignedError 10 text read
    × HasUnsignedDigitsIfOk text read

pub returns-in_err-get_one-in-make : goal.returns-in_err-get_one-in-make
returns-in_err-get_one-in-make c =
    let met = met_sides _ _ _ _ _ c.in_ok-name.ensures.name c.in_ok-name.ensures.rows in
    let read = number_read gives (λ u x g. g.0) (found_of c.in_ok-name.arguments.now)
    c.get_one.result c.get_one.ensures.none c.get_one.ensures.value in
    rw (met, c.in-make.is, ← read, c.in_err-get_one-in-make.was)
    c.from_residual-in_err-get_one-in-make.ensures

pub returns-in_err-get_one-in-try : goal.returns-in_err-get_one-in-try
returns-in_err-get_one-in-try c =
    let met = met_sides _ _ _ _ _ c.in_ok-name.ensures.name c.in_ok-name.ensures.rows in
    let read = number_read gives (λ u x g. g.0) (found_of c.in_ok-name.arguments.now)
    c.get_one-in-try.result c.get_one-in-try.ensures.none c.get_one-in-try.ensures.value in
    rw (met, c.in-try.is, ← read, c.in_err-get_one-in-try.was)
    c.from_residual-in_err-get_one-in-try.ensures

pub returns-in_ok-get_one-in-make : goal.returns-in_ok-get_one-in-make
returns-in_ok-get_one-in-make c =
    let met = met_sides _ _ _ _ _ c.in_ok-name.ensures.name c.in_ok-name.ensures.rows in
    let read = number_read gives (λ u x g. g.0) (found_of c.in_ok-name.arguments.now)
    c.get_one.result c.get_one.ensures.none c.get_one.ensures.value in
    rw (met, c.in-make.is, ← read, c.in_ok-get_one-in-make.was) refl

pub returns-in_ok-get_one-in-try : goal.returns-in_ok-get_one-in-try
returns-in_ok-get_one-in-try c =
    let met = met_sides _ _ _ _ _ c.in_ok-name.ensures.name c.in_ok-name.ensures.rows in
    let read = number_read gives (λ u x g. g.0) (found_of c.in_ok-name.arguments.now)
    c.get_one-in-try.result c.get_one-in-try.ensures.none c.get_one-in-try.ensures.value in
    rw (met, c.in-try.is, ← read, c.in_ok-get_one-in-try.was) refl
