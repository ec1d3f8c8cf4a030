use Rattle.std.proofs.Common.{ap, ◌∙◌}
use Rattle.lan_core.specs.Parts.{followed_by}
use Rattle.group_safety.specs.Accounts.{Account}
use Rattle.worker_races.specs.Performed.{run_after}
use Rattle.worker_races.proofs.CaughtUp.{claims-beside, places-after, told-all}
use Rattle.worker_races.proofs.NoNumber.{next-none}
use Rattle.worker_races.proofs.Races.{all-back, ahead-after, shown-last, stepped}
use Rattle.worker_races.proofs.laws.law_few_numbers_of_a_race_are_unused.Goals as goal

pub returns : goal.returns
returns c race is state stands part woven whole =
    c.law_looked_words_keep_a_run_thrifty.ensures race.settings (run_after race.performed race.run) (followed_by part race.run) race.after
    (shown-last race is).0 (shown-last race is).1
    (ahead-after race is) (all-back race is) (claims-beside race is part woven whole) (told-all race is part woven whole)
    (λ s epoch past. next-none race.settings race.users s epoch part race.run whole past
    ∙ ap (λ (a : Account). a.nexts epoch) (c.law_a_place_without_a_station_is_blank.ensures race.settings race.users state race.run s stands
    (stepped race is) (places-after race is part woven whole s past)).1)
