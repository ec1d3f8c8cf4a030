use Rattle.std.proofs.Common.{◌∙◌, ap, sym, List, ℕ}
use Rattle.gcm_frames.specs.Sealed.{opened, opened_with}
use Rattle.gcm_frames.proofs.validating.validate.Goals as goal

pub returns-clause-exact : goal.returns-clause-exact
unfolding opened
returns-clause-exact c =
    ap (λ (v : List ℕ). opened_with c.args.key.now v c.args.tag.now c.args.frame.now) (sym c.iv_of.ensures)
    ∙ c.open_in_place.ensures.exact
