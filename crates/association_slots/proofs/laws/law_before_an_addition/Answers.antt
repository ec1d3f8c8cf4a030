use Rattle.association_slots.proofs.laws.law_before_an_addition.Goals as goal

pub returns : goal.returns
returns _ c ws vs a i v at present added b among own on = let f = (a.seats i v at).1 in
    (f.not_later present added b among own on, λ lost loaded met_is. f.not_yet present added b among own lost on loaded met_is)
