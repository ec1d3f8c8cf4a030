use Rattle.std.proofs.Common.{length, refl, arith}
use Rattle.lan_core.specs.Run.{stations}
use Rattle.group_safety.specs.Accounts.{blank, ahead, onward}
use Rattle.station_words.specs.Telling.{KeepUp, Tells, CatchUp}
use Rattle.station_words.proofs.Catching.{tells-caught}
use Rattle.station_words.proofs.Onward.{tied-new}
use Rattle.station_words.proofs.laws.law_new_words_are_tied.Goals as goal

pub returns-clause-tied : goal.returns-clause-tied
returns-clause-tied c = λ settings users old r name sci priority cs v before stepped tied tells.
    tied-new Tells ahead settings r name sci priority cs v (λ s a. refl)
    (c.law_a_place_without_a_station_is_blank.ensures settings users old r (length (stations r)) before stepped (omega arith))
    tied tells

pub returns-clause-kept_up : goal.returns-clause-kept_up
returns-clause-kept_up c = λ settings users old r name sci priority cs v before stepped tied tells.
    tied-new KeepUp onward settings r name sci priority cs v (λ s a. refl)
    (c.law_a_place_without_a_station_is_blank.ensures settings users old r (length (stations r)) before stepped (omega arith))
    tied tells.keep_up

pub returns-clause-caught_up : goal.returns-clause-caught_up
returns-clause-caught_up c = λ settings users old r name sci priority cs v before stepped tied tells.
    tied-new CatchUp onward settings r name sci priority cs v (λ s a. refl)
    (c.law_a_place_without_a_station_is_blank.ensures settings users old r (length (stations r)) before stepped (omega arith))
    tied (tells-caught blank v.view tells)
