use Rattle.std.proofs.Common.{◌∙◌, sym}
use Rattle.known_keys.proofs.Missing.{first-put, first-stays}
use Rattle.known_keys.proofs.misses.put_first.Goals as goal

pub returns-then-contains_key : goal.returns-then-contains_key
returns-then-contains_key c =
    first-stays c.args.it c.args.offset c.args.offsets.now.entries (sym c.contains_key.ensures ∙ c.if-contains_key.true)

pub returns : goal.returns
returns c =
    first-put c.args.it c.args.offset c.args.offsets.now.entries c.insert.new.self.entries
    (sym c.contains_key.ensures ∙ c.if-contains_key.false)
    (λ q. c.in_ok-insert.ensures.updates.0 q)
