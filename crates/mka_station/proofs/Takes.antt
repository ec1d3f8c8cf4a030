-- What an offer leaves.
use Rattle.std.proofs.Common.{◌≡◌, ℕ, Bool, true, false, ◌&&◌, List, Option, Some, refl, subst}
use Rattle.std.specs.List.{list_any}
use Rattle.lan_base.specs.Identifiers.{same_mi}
use Rattle.mkpdu_codec.specs.declared.announcement.Announcement.{Announcement}
use Rattle.mkpdu_codec.specs.declared.given.Given.{Given}
use Rattle.peer_lists.specs.declared.heard.Outcome.{Outcome}
use Rattle.peer_lists.specs.Histories.{Peering, recent}
use Rattle.mka_station.specs.Views.{is_server}
use Rattle.std.specs.Prelude.{Result, Ok, Err, OnOk}
use Rattle.lan_base.specs.declared.address.Mi.{Mi}
use Rattle.sak_exchange.specs.declared.change.Why.{Why}
use Rattle.sak_exchange.specs.declared.offer.Offer.{Offer}
use Rattle.sak_exchange.specs.declared.held_key.Key.{Key}
use Rattle.sak_exchange.specs.Histories.{Keying}
use Rattle.sak_exchange.specs.Outcomes.{judging, taking}
use Rattle.sak_exchange.specs.Standing.{State as Keys, StandsFor as KeysStandFor}
use Rattle.sak_exchange.specs.Taking.{taken}
use Rattle.sak_exchange.specs.Unwrapping.{given_sak}
use Rattle.mka_station.specs.Hearing.{key_taken, is_accepted}
use Rattle.mka_station.specs.inside.Turns.{answered, keys_with, offered_by}

past-answered : (h : List Keying) (o : Offer) (r : Result Key Why) → (judging h o r).past ≡ keys_with (key_taken (Some r)) h
past-answered h o (Ok k) = refl
past-answered h o (Err why) = refl

pub past-judged : {A E : Type 0} (base : ℕ) (own : Mi) (s : Keys) (h : List Keying) (o : Offer) (kek : List ℕ) (r : Result A E)
    → OnOk r (KeysStandFor base own false s (taking base h o (given_sak kek o.given.key)).past)
    → OnOk r (KeysStandFor base own false s (keys_with (key_taken (answered base kek h (Some o))) h))
past-judged base own s h o kek r stands =
    subst (λ (g : List Keying). OnOk r (KeysStandFor base own false s g)) (past-answered h o (taken base h o (given_sak kek o.given.key))) stands

pub offered-is : (o : Outcome) (h : List Peering) (mi : Mi) (server : Option Mi) (a : Announcement) (g : Given) (listed elected : Bool) → is_accepted o ≡ true → a.given ≡ Some g
    → listed ≡ list_any (λ peer. same_mi peer.mi mi && recent h peer.mn) a.live → elected ≡ is_server server a.mi
    → offered_by o h mi server a ≡ Some (record { given = g; server = a.mi; listed = listed; elected = elected })
offered-is o h mi server a g listed elected is gives l e = rw (is, gives, l, e) refl
