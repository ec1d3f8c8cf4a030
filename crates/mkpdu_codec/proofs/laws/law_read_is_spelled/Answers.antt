use Rattle.mkpdu_codec.proofs.SetOctets.{IsBytes-all}
use Rattle.mkpdu_codec.proofs.WhatIsRead.{read_is_spelled}
use Rattle.mkpdu_codec.proofs.laws.law_read_is_spelled.Goals as goal

pub returns : goal.returns
returns c = λ frame s all was. read_is_spelled frame s (IsBytes-all frame all) was
