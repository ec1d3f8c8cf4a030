use Rattle.std.proofs.Common.{◌∙◌, sym}
use Rattle.lan_base.specs.declared.key_id.KeyId.{KeyId}
use Rattle.known_keys.specs.declared.named.Named.{Named}
use Rattle.known_keys.specs.OneKey.{same_named}
use Rattle.known_keys.specs.Maps.{first_naming}
use Rattle.known_keys.proofs.FirstTold.{noted-new}
use Rattle.known_keys.proofs.NamePuts.{name-first}
use Rattle.known_keys.proofs.firsts.note_name.Goals as goal

pub returns-in_default : goal.returns-in_default
returns-in_default c =
    noted-new KeyId Named same_named (first_naming c.args.names.now.entries) (first_naming c.insert.new.self.entries)
    c.args.pair.now c.args.packet c.args.id c.args.named (sym c.get.ensures.value ∙ sym c.in_default.ensures)
    (name-first c.args.packet c.args.id c.args.named c.args.names.now.entries c.insert.new.self.entries
    (λ q. c.in_ok-insert.ensures.updates.0 q) c.in_ok-insert.ensures.updates.1)
