use Rattle.cak_roll.specs.Twin.{run_of, setting_of}
use Rattle.cak_roll.proofs.Twins.{twin-stepped, twin-unforged}
use Rattle.cak_roll.proofs.Overs.{fresh-of}
use Rattle.cak_roll.proofs.laws.law_what_holds_in_each_group.Goals as goal

pub returns-clause-one_key : goal.returns-clause-one_key
returns-clause-one_key c = λ pair users t g run fresh.
    c.law_one_key.ensures.stepped (setting_of pair g) users (run_of g t)
    (twin-stepped pair users t g run) (fresh-of t g fresh) (twin-unforged pair users t g run)

pub returns-clause-hitless : goal.returns-clause-hitless
returns-clause-hitless c = λ pair users t g run fresh.
    c.law_hitless.ensures.stepped (setting_of pair g) users (run_of g t)
    (twin-stepped pair users t g run) (fresh-of t g fresh) (twin-unforged pair users t g run)
