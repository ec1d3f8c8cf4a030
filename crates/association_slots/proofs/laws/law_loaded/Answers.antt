use Rattle.std.proofs.Common.{ap, arith}
use Rattle.association_slots.specs.declared.view.Current.{Current}
use Rattle.association_slots.proofs.laws.law_loaded.Goals as goal

pub returns : goal.returns
returns _ c ws vs a i v at is = let f = (a.seats i v at).0 in let s = f.shown is in
    (s.0, omega (arith, f.low, ap (λ (p : Current). p.epoch) a.words.shows), omega (arith, s.1, a.words.epochs v.shown.an))
