-- How it is judged whether something stops the group.
use Rattle.std.specs.Prelude.{◌≡◌, Option, Some, None, Result, Ok, Err}
use Rattle.lan_core.specs.declared.stop.Stop.{Stop}
use Rattle.lan_core.specs.declared.stop.StepError.{StepError}
use Rattle.lan_core.specs.Answers.{IsWhy}

-- a call goes on where there is no stop, and else answers it
abbrev pub Judges : Option Stop → Result Unit Stop → Type 0
Judges stop (Ok _) = stop ≡ None
Judges stop (Err refused) = stop ≡ Some refused

-- a call that takes memory goes on where there is no stop, and else answers why: the stop, or want of memory
abbrev pub MayJudge : Option Stop → Result Unit StepError → Type 0
MayJudge stop (Ok _) = stop ≡ None
MayJudge stop (Err error) = IsWhy stop error
