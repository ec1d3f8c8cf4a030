use Rattle.cak_roll.specs.declared.event.GroupNumber.TheVariants.{First, Second}
use Rattle.cak_roll.specs.Twin.{run_of, setting_of}
use Rattle.cak_roll.proofs.Twins.{twin-stepped, twin-unforged}
use Rattle.cak_roll.proofs.Overs.{fresh-first, fresh-second, once-over}
use Rattle.cak_roll.proofs.laws.law_each_packet_number_is_used_once_over_both.Goals as goal

pub returns-clause-runs : goal.returns-clause-runs
returns-clause-runs c = λ settings settings' users users' r r' stepped stepped' fresh unforged
    unforged'.
    let f = fresh-first r r' fresh in
    let f' = fresh-second r r' fresh in
    once-over r r' (c.law_once.ensures.stepped settings users r stepped f unforged)
    (c.law_once.ensures.stepped settings' users' r' stepped' f' unforged')
    (λ i h. (c.law_once.ensures.known settings users r i stepped f unforged h).0)
    (λ i h. (c.law_once.ensures.known settings' users' r' i stepped' f' unforged' h).0)
    (c.law_drawn.ensures.stepped settings users r stepped f unforged)
    (c.law_drawn.ensures.stepped settings' users' r' stepped' f' unforged') fresh

pub returns-clause-twin : goal.returns-clause-twin
returns-clause-twin c = λ pair users t run fresh.
    returns-clause-runs c (setting_of pair First) (setting_of pair Second) users users (run_of First t)
    (run_of Second t) (twin-stepped pair users t First run)
    (twin-stepped pair users t Second run) fresh
    (twin-unforged pair users t First run) (twin-unforged pair users t Second run)
