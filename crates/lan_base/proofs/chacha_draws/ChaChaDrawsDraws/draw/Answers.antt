use Rattle.std.proofs.Common.{ap}
use Rattle.std.specs.Prelude.{Some}
use Rattle.lan_base.proofs.KeyStream.{four_words-drawn}
use Rattle.lan_base.proofs.chacha_draws.ChaChaDrawsDraws.draw.Goals as goal

pub returns-clause-next : goal.returns-clause-next
returns-clause-next c =
    rw (← c.self.view_is) (ap Some (four_words-drawn c.self.inside.generator _ _ _ _ _ _ _ _
    c.self.invariant.0 c.self.invariant.1 c.self.invariant.2
    c.next_word.ensures c.next_word-2.ensures c.next_word-3.ensures c.next_word-4.ensures _ _ _ _
    c.to_le_bytes.ensures c.to_le_bytes-2.ensures c.to_le_bytes-3.ensures c.to_le_bytes-4.ensures))
