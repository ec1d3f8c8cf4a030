-- Words that are written out, worked by hand, and what is read of two files.
use Rattle.std.proofs.Common.{◌≡◌, Bool, true, false, List, [], ◌∷◌, ◌++◌, Option, Some, None, codes, refl}
use Rattle.clap.specs.Words.{Text, fault_of}
use Rattle.clap.specs.declared.error.ErrorKind.TheVariants.{ArgumentConflict, InvalidSubcommand, TooManyValues}
use Rattle.clap.specs.declared.error.ErrorKind.TheVariants.{MissingRequiredArgument}
use Rattle.clap.specs.declared.error.ErrorKind.TheVariants.{MissingSubcommand, UnknownArgument}
use Rattle.clap.specs.declared.error.ErrorKind.TheVariants.{ValueValidation}
use Rattle.clap.proofs.OnLiterals.{clap_on_literals}
use Rattle.rollover_program.specs.declared.words.Order.{Order}
use Rattle.rollover_program.specs.declared.words.Order.TheVariants.{Audit}
use Rattle.rollover_program.specs.Joined.{joined}
use Rattle.rollover_program.specs.Words.{command, file_of, order_of}

-- words that are no command: no subcommand, none of this name, a word too many, no number, and
-- numbers out of range
refused : (fault_of command [] ≡ MissingSubcommand ∷ [])
    × (fault_of command (codes "walk" ∷ []) ≡ UnknownArgument ∷ InvalidSubcommand ∷ [])
    × (fault_of command (codes "run" ∷ codes "x" ∷ []) ≡ UnknownArgument ∷ [])
    × (fault_of command (codes "make" ∷ []) ≡ MissingRequiredArgument ∷ [])
    × (fault_of command (codes "make" ∷ codes "0" ∷ []) ≡ ValueValidation ∷ [])
    × (fault_of command (codes "try" ∷ codes "10000" ∷ []) ≡ ValueValidation ∷ [])
    × (fault_of command (codes "check" ∷ codes "x" ∷ []) ≡ UnknownArgument ∷ [])
    × (fault_of command (codes "capture" ∷ codes "x" ∷ []) ≡ UnknownArgument ∷ [])
    × (fault_of command (codes "dissect" ∷ codes "x" ∷ []) ≡ UnknownArgument ∷ [])
    × (fault_of command (codes "roll" ∷ codes "x" ∷ []) ≡ UnknownArgument ∷ [])
    × (fault_of command (codes "draw" ∷ codes "x" ∷ []) ≡ UnknownArgument ∷ [])
unfolding clap_on_literals
refused = (refl, refl, refl, refl, refl, refl, refl, refl, refl, refl, refl)

-- of `audit`: a flag of another command, three files, a flag twice, and a flag with a value
refused_of_audit : (fault_of command (codes "audit" ∷ codes "--summary" ∷ []) ≡ UnknownArgument ∷ [])
    × (fault_of command (codes "audit" ∷ codes "x" ∷ codes "y" ∷ codes "z" ∷ []) ≡ UnknownArgument ∷ [])
    × (fault_of command (codes "audit" ∷ codes "--" ∷ codes "x" ∷ codes "y" ∷ codes "--draw" ∷ []) ≡ UnknownArgument ∷ [])
    × (fault_of command (codes "audit" ∷ codes "--keys" ∷ codes "--keys" ∷ []) ≡ ArgumentConflict ∷ [])
    × (fault_of command (codes "audit" ∷ codes "--draw=true" ∷ []) ≡ TooManyValues ∷ [])
unfolding clap_on_literals
refused_of_audit = (refl, refl, refl, refl, refl)

abbrev audit_of : Bool → Bool → Bool → Order
audit_of shows strict draws = Audit (record { shows = shows; strict = strict; keys = false }) draws

-- files are named before or behind the flags, which come in any order, and the words order what they do
-- without them; behind `--` each word is a file, and so is a hyphen alone
ordered : (order_of (codes "audit" ∷ codes "x" ∷ []) ≡ Some (audit_of false false false))
    × (order_of (codes "audit" ∷ codes "--packets" ∷ codes "x" ∷ []) ≡ Some (audit_of true false false))
    × (order_of (codes "audit" ∷ codes "x" ∷ codes "--packets" ∷ codes "y" ∷ []) ≡ Some (audit_of true false false))
    × (order_of (codes "audit" ∷ codes "--strict" ∷ codes "x" ∷ codes "y" ∷ codes "--draw" ∷ []) ≡ Some (audit_of false true true))
    × (order_of (codes "audit" ∷ codes "--strict" ∷ codes "--" ∷ codes "--draw" ∷ []) ≡ Some (audit_of false true false))
unfolding clap_on_literals
ordered = (refl, refl, refl, refl, refl)

abbrev keys_of : List Text → Option Text
keys_of = file_of (codes "KEYS")

abbrev capture_of : List Text → Option Text
capture_of = file_of (codes "CAPTURE")

named : (keys_of (codes "audit" ∷ []) ≡ None)
    × (keys_of (codes "audit" ∷ codes "--draw" ∷ codes "--keys" ∷ []) ≡ None)
    × (keys_of (codes "audit" ∷ codes "--draw" ∷ codes "x" ∷ []) ≡ Some (codes "x"))
    × (capture_of (codes "audit" ∷ codes "x" ∷ codes "--packets" ∷ []) ≡ None)
    × (keys_of (codes "audit" ∷ codes "x" ∷ codes "--packets" ∷ codes "y" ∷ []) ≡ Some (codes "x"))
    × (capture_of (codes "audit" ∷ codes "x" ∷ codes "--packets" ∷ codes "y" ∷ []) ≡ Some (codes "y"))
    × (keys_of (codes "audit" ∷ codes "--" ∷ codes "--draw" ∷ []) ≡ Some (codes "--draw"))
    × (capture_of (codes "audit" ∷ codes "x" ∷ codes "--" ∷ codes "--keys" ∷ []) ≡ Some (codes "--keys"))
    × (keys_of (codes "audit" ∷ codes "-" ∷ []) ≡ Some (codes "-"))
unfolding clap_on_literals
named = (refl, refl, refl, refl, refl, refl, refl, refl, refl)

-- words of another command name no file, nor do words that are none
named_by_none : (keys_of (codes "dissect" ∷ codes "x" ∷ []) ≡ None)
    × (keys_of (codes "check" ∷ []) ≡ None)
    × (keys_of (codes "make" ∷ codes "7" ∷ []) ≡ None)
    × (keys_of (codes "audit" ∷ codes "x" ∷ codes "--summary" ∷ []) ≡ None)
    × (capture_of (codes "audit" ∷ codes "x" ∷ codes "y" ∷ codes "z" ∷ []) ≡ None)
    × (keys_of [] ≡ None)
unfolding clap_on_literals
named_by_none = (refl, refl, refl, refl, refl, refl)

-- ---- what is read of two files

-- keys that end their last line, keys that do not, and none
ended : joined (Some (codes "# x" ++ 10 ∷ [])) (Some (1 ∷ 2 ∷ []))
    ≡ Some (codes "# x" ++ 10 ∷ codes "capture" ++ 10 ∷ 1 ∷ 2 ∷ [])
ended = refl

not_ended : joined (Some (codes "# x")) (Some (1 ∷ 2 ∷ []))
    ≡ Some (codes "# x" ++ 10 ∷ codes "capture" ++ 10 ∷ 1 ∷ 2 ∷ [])
not_ended = refl

no_keys : joined (Some []) (Some []) ≡ Some (10 ∷ codes "capture" ++ 10 ∷ [])
no_keys = refl

not_told : (joined None (Some []) ≡ None) × (joined (Some []) None ≡ None)
not_told = (refl, refl)
