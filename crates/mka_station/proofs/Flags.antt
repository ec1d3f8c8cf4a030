-- What a station makes of an announcement doesn't depend on its key server flag.
use Rattle.std.proofs.Common.{◌≡◌, Bool, List, ◌∷◌, ◌++◌, Option, Some, None, refl, ap}
use Rattle.sak_exchange.specs.declared.held_key.Key.{Key}
use Rattle.sak_exchange.specs.Outcomes.{beginning}
use Rattle.mkpdu_codec.specs.declared.announcement.Announcement.{Announcement}
use Rattle.mka_station.specs.declared.reaction.Reaction.{Reaction}
use Rattle.mka_station.specs.Lives.{Member, Entry, heard, peers_of, keys_of, elected}
use Rattle.mka_station.specs.Views.{View, view}
use Rattle.mka_station.specs.Tick.{new_server, with_install}
use Rattle.mka_station.specs.Hearing.{hear_turn, outcome_of, verdict_of, offer_at, answer_at, key_taken, take_changes, followed}

-- what is seen after it was heard
view-alike : (m : Member) (flag : Bool) (a : Announcement) (p : List Entry) (taken : Option Key)
    → view m (with_install None taken (heard (record a { server = flag }) ∷ p)) ≡ view m (with_install None taken (heard a ∷ p))
unfolding view peers_of keys_of elected
view-alike m flag a p None = refl
view-alike m flag a p (Some k) = refl

-- a hearing, by what is seen after a key was taken
abbrev heard_by : Member → Announcement → List Entry → View → Reaction
heard_by m a p v =
    record {
      heard = Some (verdict_of (outcome_of m p a));
      server = new_server (view m p) (view m (heard a ∷ p));
      changes = take_changes (view m (heard a ∷ p)).keys (offer_at m a p) (answer_at m a p)
          ++ (beginning v.keys (followed v (outcome_of m p a) a)).changes;
      sent = None;
    }

pub heard-alike : (m : Member) (flag : Bool) (a : Announcement) (p : List Entry)
    → (hear_turn m (record a { server = flag }) p).reaction ≡ (hear_turn m a p).reaction
unfolding hear_turn view peers_of keys_of elected
heard-alike m flag a p =
    ap (heard_by m a p) (view-alike m flag a p (key_taken (answer_at m a p)))
