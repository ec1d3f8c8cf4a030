use Rattle.std.proofs.Common.{ap, arith}
use Rattle.association_slots.specs.declared.view.Current.{Current}
use Rattle.association_slots.proofs.laws.law_loaded_was_pointed_at.Goals as goal

pub returns : goal.returns
returns _ c ws vs a i v at p loaded = let q = (a.seats i v at).0.loaded p loaded in
    (q.0, q.1, omega (arith, (a.settled.points_low p q.1).0, ap (λ (p : Current). p.epoch) a.words.shows), omega (arith, q.2, a.words.epochs p.an))
