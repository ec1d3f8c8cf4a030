-- What is asked of a group: the place of a name, and the keys that are held.
use Rattle.std.specs.Prelude.{ℕ, ◌++◌, nat_eq, List, Option, option_map, option_and_then, option_to_list}
use Rattle.std.specs.List.{find, position}
use lib.Pointwise.{pointwise}
use Rattle.lan_base.specs.declared.association_number.AssociationNumber.{AssociationNumber}
use Rattle.lan_base.specs.declared.name.Name.{Name}
use Rattle.lan_base.specs.AssociationNumbers.{same_an}
use Rattle.sak_exchange.specs.declared.held_key.HeldKey.{HeldKey}
use Rattle.sak_exchange.specs.Histories.{Keying}
use Rattle.sak_exchange.specs.Held.{latest, old, held}
use Rattle.lan_core.specs.declared.settings.Settings.{Settings}
use Rattle.lan_core.specs.Run.{Run}
use Rattle.lan_core.specs.Lives.{life, keys_in}

-- the key that is held under an association number, the latest or the old one
abbrev pub held_under : List Keying → AssociationNumber → Option HeldKey
held_under h an =
    option_map (held h) (find (λ k. same_an k.an an)
    (option_to_list (latest h) ++ option_to_list (old h)))

-- the key that a station of a group holds under an association number
abbrev pub held_at : Settings → ℕ → Run → AssociationNumber → Option HeldKey
held_at settings s r an = option_and_then (λ l. held_under (keys_in l) an) (life settings s r)

-- the place of a name among those of the stations
abbrev pub place_of : Name → List Name → Option ℕ
place_of name names = position (λ other. pointwise nat_eq other name) names
