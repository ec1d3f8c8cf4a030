use Rattle.mkpdu_codec.proofs.SetOctets.{IsBytes-all}
use Rattle.mkpdu_codec.proofs.WhatIsRead.{spelled_or_refused}
use Rattle.mkpdu_codec.proofs.laws.law_spelled_or_refused.Goals as goal

pub returns : goal.returns
returns c = λ frame all. spelled_or_refused frame (IsBytes-all frame all)
