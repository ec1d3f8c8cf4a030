use Rattle.std.proofs.Common.{◌∙◌, sym}
use Rattle.transcript.proofs.Numbers.{led_not}
use Rattle.transcript.proofs.spelling.whole_of.Goals as goal

pub returns-then-not-is_led : goal.returns-then-not-is_led
returns-then-not-is_led c = led_not c.args.word.now (sym c.is_led.ensures ∙ c.if-not-is_led.true)
