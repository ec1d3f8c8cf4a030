use Rattle.std.proofs.Common.{subst, sym, ◌++◌, ◌∷◌, []}
use Rattle.tick_columns.specs.Columns.{IsThinned}
use Rattle.tick_columns.proofs.Kept.{renewed-stands}
use Rattle.tick_columns.proofs.thinned.Thinned.renew.Goals as goal

pub returns : goal.returns
returns g c front x is at =
    subst (λ k. IsThinned g.T.Timed.time (front ++ c.args.item ∷ []) k) (sym c.renew_latest.ensures)
    (renewed-stands g.T.Timed.time c.args.self.now front x c.args.item is at)
