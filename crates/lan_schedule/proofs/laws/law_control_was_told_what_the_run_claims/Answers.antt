use Rattle.std.proofs.Common.{◌≤◌, ℕ, subst}
use Rattle.lan_schedule.proofs.Telling.{was-told}
use Rattle.lan_schedule.proofs.laws.law_control_was_told_what_the_run_claims.Goals as goal

pub returns-clause-told : goal.returns-clause-told
returns-clause-told c = λ w replay s control stands has epoch pn.
    (was-told w replay s control stands has).claims epoch pn

pub returns-clause-once : goal.returns-clause-once
returns-clause-once c = λ w replay s control stands has epoch pn.
    let told = was-told w replay s control stands has in
    subst (λ (n : ℕ). n ≤ 1) (told.claims epoch pn) (told.keep_up.learned.differ epoch pn)

pub returns-clause-shown : goal.returns-clause-shown
returns-clause-shown c = λ w replay s control stands has.
    (was-told w replay s control stands has).keep_up.shows
