use Rattle.std.proofs.Common.{sym, ap, ◌∙◌, subst}
use Rattle.std.specs.Option.{option_copied}
use Rattle.next_numbers.specs.Numbers.{shown_next}
use Rattle.cak_roll.specs.Twin.{setting_of, run_of, merged}
use Rattle.cak_roll.specs.Standing.{StandsFor}
use Rattle.cak_roll.proofs.Acts.{side-stands, no-number}
use Rattle.cak_roll.proofs.twin.Twin.next.Goals as goal

pub returns-in-Some : goal.returns-in-Some
returns-in-Some c = λ pair users t stands.
    let g = c.args.group in
    let st = subst (λ held. StandsFor pair users held t) (sym c.self.view_is) stands in
    c.next.ensures (setting_of pair g) users (run_of g t) (merged t)
    (side-stands pair users t c.args.self.now stands g c.in-Some.side.now
    (sym c.side.ensures ∙ ap option_copied c.in-Some.is))
    ∙ ap (λ place. shown_next (setting_of pair g) place (run_of g t))
    (c.place.ensures pair users t st.legal st.members)

pub returns-in-None : goal.returns-in-None
returns-in-None c = λ pair users t stands.
    no-number pair users t c.args.self.now stands c.args.group c.args.station
    (sym c.side.ensures ∙ ap option_copied c.in-None.is)
