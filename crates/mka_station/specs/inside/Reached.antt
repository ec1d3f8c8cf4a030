-- What the code has after the stages of a turn.
use Rattle.std.specs.Prelude.{◌≡◌, false, List, ◌∷◌, is_some, option_map}
use Rattle.aes_block.specs.declared.secret.Secret.{Secret}
use Rattle.mkpdu_codec.specs.declared.announcement.Announcement.{Announcement}
use Rattle.sak_exchange.specs.declared.due.Seen.{Seen}
use Rattle.sak_exchange.specs.Standing.{StandsFor as KeysStandFor}
use Rattle.mka_station.specs.declared.next.Ticked.{Ticked}
use Rattle.mka_station.specs.declared.next.Hearing.{Hearing}
use Rattle.mka_station.specs.Lives.{Member, Entry, ticked, heard, keys_of}
use Rattle.mka_station.specs.Views.{view}
use Rattle.mka_station.specs.Announcing.{shown}
use Rattle.mka_station.specs.Tick.{ticked_past, says_at, tick_turn}
use Rattle.mka_station.specs.Hearing.{answer_at, heard_past, key_taken, hear_turn}

-- what the code has after a tick is what the turn leaves
pub record IsTicked (m : Member) (p : List Entry) (seen : Seen) (any : Secret)
    (t : Ticked) : Type 0 where
  pub reaction : t.reaction ≡ (tick_turn m seen any p).reaction
  pub shown : t.shown
      ≡ option_map (λ a. shown (view m (ticked_past m seen any p))) (says_at m seen any p)
  pub server : t.server ≡ (view m (ticked ∷ p)).server
  pub keys : KeysStandFor m.base m.mi false t.keys (keys_of m (ticked_past m seen any p))

-- and after a hearing
pub record IsHeard (m : Member) (p : List Entry) (a : Announcement) (t : Hearing) : Type 0 where
  pub reaction : t.reaction ≡ (hear_turn m a p).reaction
  pub installs : t.installs ≡ is_some (key_taken (answer_at m a p))
  pub server : t.server ≡ (view m (heard a ∷ p)).server
  pub keys : KeysStandFor m.base m.mi false t.keys (keys_of m (heard_past m a p))
