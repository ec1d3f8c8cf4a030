use Rattle.station_words.specs.Telling.{KeepUp, Tells, CatchUp}
use Rattle.station_words.proofs.Catching.{tells-caught}
use Rattle.station_words.proofs.Onward.{tied-also}
use Rattle.station_words.proofs.laws.law_words_that_tell_keep_up.Goals as goal

pub returns-clause-kept_up : goal.returns-clause-kept_up
returns-clause-kept_up c = λ settings r cs tied. tied-also Tells KeepUp settings r cs (λ a v t. t.keep_up) tied

pub returns-clause-caught_up : goal.returns-clause-caught_up
returns-clause-caught_up c = λ settings r cs tied. tied-also Tells CatchUp settings r cs tells-caught tied
