use Rattle.std.proofs.Common.{◌∙◌, ℕ, Option, sym, ap}
use Rattle.known_keys.specs.inside.Missing.{is_later}
use Rattle.known_keys.proofs.Missing.{put-named, still-named}
use Rattle.known_keys.proofs.times.put_time.Goals as goal

pub returns-in_ok-insert : goal.returns-in_ok-insert
returns-in_ok-insert c =
    put-named c.args.it c.args.nanos c.args.times.now.entries c.insert.new.self.entries
    (ap (λ (o : Option ℕ). is_later o c.args.nanos) (sym (c.copied.ensures ∙ c.get.ensures.value))
    ∙ sym c.is_later.ensures ∙ c.if-is_later.true)
    c.in_ok-insert.ensures.entries

pub returns-else-is_later : goal.returns-else-is_later
returns-else-is_later c =
    still-named c.args.it c.args.nanos c.args.times.now.entries
    (ap (λ (o : Option ℕ). is_later o c.args.nanos) (sym (c.copied.ensures ∙ c.get.ensures.value))
    ∙ sym c.is_later.ensures ∙ c.if-is_later.false)
