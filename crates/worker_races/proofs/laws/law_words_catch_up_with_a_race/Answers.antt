use Rattle.lan_core.specs.Parts.{followed_by}
use Rattle.worker_races.specs.Performed.{run_after}
use Rattle.worker_races.proofs.CaughtUp.{claims-beside, told-all}
use Rattle.worker_races.proofs.Races.{all-back, up-after}
use Rattle.worker_races.proofs.laws.law_words_catch_up_with_a_race.Goals as goal

pub returns : goal.returns
returns c race is same part woven whole =
    c.law_words_catch_up.ensures race.settings (run_after race.performed race.run) (followed_by part race.run) race.after
    (up-after race is same) (all-back race is) (claims-beside race is part woven whole) (told-all race is part woven whole)
