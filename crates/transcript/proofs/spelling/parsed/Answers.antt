use Rattle.transcript.proofs.Numbers.{parsed_so, no_text}
use Rattle.transcript.proofs.spelling.parsed.Goals as goal

pub returns-in-Ok : goal.returns-in-Ok
returns-in-Ok c = λ led.
    rw c.ok.ensures.value (parsed_so c.args.word.now c.in-Ok.text.now c.parse.result c.in-Ok.ensures.cases.0 c.parse.ensures.value.0 led)

pub returns-in-Err : goal.returns-in-Err
returns-in-Err c = λ led. no_text c.args.word.now c.in-Err.ensures.cases.0
