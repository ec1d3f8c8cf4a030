-- A tick at which a station changes no key, elects the server of before, and says nothing.
use Rattle.std.specs.Prelude.{◌≡◌, Bool, true, false, List, ◌∷◌, None, is_some}
use Rattle.lan_base.specs.Identifiers.{same_mi}
use Rattle.aes_block.specs.declared.secret.Secret.{Secret}
use Rattle.sak_exchange.specs.declared.due.Seen.{Seen}
use Rattle.sak_exchange.specs.Histories.{Keying, ticked as keys_ticked}
use Rattle.sak_exchange.specs.Stills.{IsStill}
use Rattle.mka_station.specs.Lives.{Member, Entry, ticked, keys_of, elected}
use Rattle.mka_station.specs.Views.{view}
use Rattle.mka_station.specs.Announcing.{same_option}
use Rattle.mka_station.specs.Tick.{ticked_past, says_at}
use Rattle.mka_station.specs.Drawing.{makes_next}
use Rattle.mka_station.specs.Standing.{State}
use Rattle.mka_station.specs.inside.Due.{shown_by, is_due_after}
use Rattle.mka_station.specs.inside.Found.{Found}

-- what tells that a tick which finds this, and makes no key, is quiet
pub record IsQuiet (s : State) (c : Found) (h : List Keying) : Type 0 where
  pub same : same_option same_mi s.server c.server ≡ true
  pub still : IsStill (is_some c.server) h
  pub undue : is_due_after s.spoken (shown_by c.rows c.server h) ≡ false

-- the turn of a quiet tick
pub record IsQuietTurn (m : Member) (p : List Entry) (seen : Seen) (any : Secret)
    (serving : Bool) : Type 0 where
  pub keys : keys_of m (ticked_past m seen any p) ≡ keys_ticked serving ∷ keys_of m p
  pub still : IsStill serving (keys_of m p)
  pub silent : says_at m seen any p ≡ None
  pub server : (view m (ticked ∷ p)).server ≡ elected m p
  pub unmade : makes_next m p seen ≡ false
