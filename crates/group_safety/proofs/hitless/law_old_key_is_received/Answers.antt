use Rattle.group_safety.proofs.rollover.Found.{any-old-found}
use Rattle.group_safety.proofs.hitless.law_old_key_is_received.Goals as goal

pub returns : goal.returns
returns c = λ settings users run rollover flight stepped fresh unforged steady flies named after who
    soon.
    any-old-found settings users run stepped unforged fresh rollover flight steady flies named after
    who soon
