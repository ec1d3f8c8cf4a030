use Rattle.std.proofs.Common.{sym, ◌∙◌}
use Rattle.sak_exchange.proofs.Unwrapping.{unwrapped-key, key-unwrapped}
use Rattle.sak_exchange.proofs.laws.law_unwrapped_is_the_key.Goals as goal

pub returns : goal.returns
returns c = λ count kek octets key is_key long.
    (unwrapped-key count kek octets key, λ both. key-unwrapped count kek octets key (λ other is. c.law_one_key_for_one_wrap.ensures kek other key count is_key long is.0 both.0 (is.1 ∙ sym both.1)) both.0 both.1)
