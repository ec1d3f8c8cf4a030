-- When a station follows.
use Rattle.std.proofs.Common.{◌≡◌, true, List, Option, Some, refl}
use Rattle.lan_base.specs.declared.address.Mi.{Mi}
use Rattle.mkpdu_codec.specs.declared.announcement.Announcement.{Announcement}
use Rattle.mkpdu_codec.specs.declared.key_use.Uses.{Uses}
use Rattle.peer_lists.specs.declared.heard.Outcome.{Outcome}
use Rattle.peer_lists.specs.declared.heard.Outcome.TheVariants.{Vouched}
use Rattle.sak_exchange.specs.Histories.{Keying}
use Rattle.sak_exchange.specs.Beginning.{follows}
use Rattle.mka_station.specs.Views.{is_server}
use Rattle.mka_station.specs.inside.Turns.{followed_by}

pub followed-is : (o : Outcome) (server : Option Mi) (a : Announcement) (h : List Keying) (u : Uses) → o ≡ Vouched → a.uses ≡ Some u → is_server server a.mi ≡ true
    → followed_by o server a h ≡ follows h u
followed-is o server a h u is said served = rw (is, served, said) refl
