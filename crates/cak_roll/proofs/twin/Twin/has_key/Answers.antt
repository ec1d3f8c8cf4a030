use Rattle.std.proofs.Common.{sym, ap, ◌∙◌}
use Rattle.std.specs.Option.{option_copied}
use Rattle.cak_roll.specs.Twin.{setting_of, run_of, merged}
use Rattle.cak_roll.proofs.Acts.{side-stands, no-key}
use Rattle.cak_roll.proofs.twin.Twin.has_key.Goals as goal

pub returns-in-Some : goal.returns-in-Some
returns-in-Some c = λ pair users t stands.
    let g = c.args.group in
    c.transmits.ensures (setting_of pair g) users (run_of g t) (merged t)
    (side-stands pair users t c.args.self.now stands g c.in-Some.side.now
    (sym c.side.ensures ∙ ap option_copied c.in-Some.is))

pub returns-in-None : goal.returns-in-None
returns-in-None c = λ pair users t stands.
    no-key pair users t c.args.self.now stands c.args.group c.args.place
    (sym c.side.ensures ∙ ap option_copied c.in-None.is)
