use Rattle.std.proofs.Common.{◌&&◌, sym, ap, ◌∙◌, subst}
use Rattle.cak_roll.specs.Standing.{StandsFor}
use Rattle.std.specs.Prelude.{is_some}
use Rattle.lan_core.specs.Lives.{transmitting_at}
use Rattle.cak_roll.specs.Twin.{setting_of, run_of, place_in}
use Rattle.cak_roll.proofs.twin.Twin.transmits.Goals as goal

pub returns-then-takes_part : goal.returns-then-takes_part
returns-then-takes_part c = λ pair users t stands.
    let st = subst (λ held. StandsFor pair users held t) (sym c.self.view_is) stands in
    let g = c.args.group in
    let s = c.args.station in
    c.has_key.ensures pair users t stands
    ∙ ap (λ place. is_some (transmitting_at (setting_of pair g) place (run_of g t)))
    (c.place.ensures pair users t st.legal st.members)
    ∙ sym (ap (λ b. b && is_some (transmitting_at (setting_of pair g) (place_in g s t) (run_of g t)))
    (sym (c.takes_part.ensures pair users t stands) ∙ c.if-takes_part.true))

pub returns : goal.returns
returns c = λ pair users t stands.
    let g = c.args.group in
    let s = c.args.station in
    sym (ap (λ b. b && is_some (transmitting_at (setting_of pair g) (place_in g s t) (run_of g t)))
    (sym (c.takes_part.ensures pair users t stands) ∙ c.if-takes_part.false))
