use Rattle.std.proofs.Common.{◌∙◌, ap, sym, arith}
use Rattle.association_slots.specs.declared.view.Current.{Current}
use Rattle.association_slots.proofs.laws.law_start.Goals as goal

pub returns : goal.returns
returns _ c ws vs a i v at = let f = (a.seats i v at).0 in let epoch = ap (λ (p : Current). p.epoch) a.words.shows in
    (omega (arith, f.start.0, epoch), λ absent now. omega (arith, f.start.1 absent (sym (ap (λ (p : Current). p.present) a.words.shows) ∙ now), epoch))
