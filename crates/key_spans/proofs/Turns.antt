-- What a tick, a hearing and the end of a life tell of the key under a number.
use Rattle.std.proofs.Common.{◌≡◌, ◌∙◌, ℕ, false, List, ◌∷◌, ◌++◌, Option, Some, None, is_some, Result, Ok, Err, refl, sym, ap, subst}
use Rattle.lan_base.specs.declared.address.Mi.{Mi}
use Rattle.lan_base.specs.declared.association_number.AssociationNumber.{AssociationNumber}
use Rattle.aes_block.specs.declared.secret.Secret.{Secret}
use Rattle.mkpdu_codec.specs.declared.announcement.Announcement.{Announcement}
use Rattle.sak_exchange.specs.declared.due.Seen.{Seen}
use Rattle.sak_exchange.specs.declared.change.Why.{Why}
use Rattle.sak_exchange.specs.declared.offer.Offer.{Offer}
use Rattle.sak_exchange.specs.declared.held_key.Key.{Key}
use Rattle.sak_exchange.specs.Histories.{Keying, has_begun}
use Rattle.sak_exchange.specs.Histories as keyings
use Rattle.sak_exchange.specs.Held.{KeepsRules, latest, received}
use Rattle.sak_exchange.specs.Beginning.{Beginning}
use Rattle.sak_exchange.specs.Outcomes.{beginning}
use Rattle.mka_station.specs.declared.verdict.DropReason.{DropReason}
use Rattle.mka_station.specs.Lives.{Member, Entry, keys_of, elected}
use Rattle.mka_station.specs.Lives as lives
use Rattle.mka_station.specs.Views.{View, view}
use Rattle.mka_station.specs.Tick.{tick_turn, led, made, ended, install_changes, roster_at}
use Rattle.mka_station.specs.Hearing.{judged, hear_turn, heard_turn, frame_turn, key_taken}
use Rattle.mka_station.specs.Hearing.{take_changes, taken_of, offer_at, answer_at, taken_past, follow_at}
use Rattle.mka_station.specs.Restart.{ending}
use Rattle.group_safety.proofs.Public.{with_began, with_key, view-keys, keys-ticked, keys-heard, keys-installed}
use Rattle.group_safety.proofs.Public.{led-is, making-is, following-is, tick-keys, hear-keys, tick-is_turn, hear-is_turn, kept-turn}
use Rattle.key_spans.proofs.Holding.{Goes, goes-on, goes-ended, goes-begun, goes-key, goes-taken, told_all, none-left}

view-server : (m : Member) (p : List Entry) → (view m p).server ≡ elected m p
unfolding view elected
view-server m p = refl

kept-before : (base : ℕ) (b : Option Beginning) (h : List Keying) → KeepsRules base (with_began b h) → KeepsRules base h
kept-before base None h kept = kept
kept-before base (Some b) h kept = kept.1

module _ (an : AssociationNumber) where
  -- ---- a tick

  key-stage : (base : ℕ) (h1 : List Keying) (lead : Option Beginning) (r : Option (List Mi)) (key : Option Key)
      → KeepsRules base (with_key r key (with_began lead h1)) → ((n : Key) → key ≡ Some n → lead ≡ None)
      → Goes an (with_began lead h1) (install_changes h1 r key) (with_key r key (with_began lead h1))
  key-stage base h1 lead r None kept alone = refl
  key-stage base h1 None r (Some n) kept alone = goes-key an base h1 r (Some n) kept
  key-stage base h1 (Some b) r (Some n) kept alone = let e = alone n refl in absurd (cc e)

  tick-stages : (base : ℕ) (h v0 v1 : List Keying) (server : Option Mi) (lead : Option Beginning)
      (r : Option (List Mi)) (key : Option Key) → v0 ≡ h → v1 ≡ keyings.ticked (is_some server) ∷ h → KeepsRules base h
      → KeepsRules base (with_key r key (with_began lead (keyings.ticked (is_some server) ∷ h)))
      → ((b : Beginning) → lead ≡ Some b → (latest v1 ≡ Some b.key) × (has_begun v1 b.key.epoch ≡ false))
      → ((n : Key) → key ≡ Some n → lead ≡ None)
      → Goes an h (ended v0 server ++ ((beginning v1 lead).changes ++ install_changes v1 r key))
      (with_key r key (with_began lead (keyings.ticked (is_some server) ∷ h)))
  tick-stages base h v0 v1 server lead r key at0 at1 kept kept_all leads alone =
      let h1 : List Keying = keyings.ticked (is_some server) ∷ h in
      let h2 : List Keying = with_began lead h1 in
      let h3 : List Keying = with_key r key h2 in
      goes-on an h h1 h3 (ended v0 server) ((beginning v1 lead).changes ++ install_changes v1 r key)
      (subst (λ v. Goes an h (ended v server) h1) (sym at0) (goes-ended an base h server kept))
      (goes-on an h1 h2 h3 (beginning v1 lead).changes (install_changes v1 r key)
      (subst (λ v. Goes an h1 (beginning v lead).changes h2) (sym at1)
      (goes-begun an base h1 lead kept (λ b is. let l = leads b is in (
        subst (λ v. latest v ≡ Some b.key) at1 l.0,
        subst (λ v. has_begun v b.key.epoch ≡ false) at1 l.1,
      ))))
      (subst (λ v. Goes an h2 (install_changes v r key) h3) (sym at1) (key-stage base h1 lead r key kept_all alone)))

  pub tick-goes : (m : Member) (seen : Seen) (sak : Secret) (p : List Entry) → KeepsRules m.base (keys_of m p)
      → Goes an (keys_of m p) (tick_turn m seen sak p).reaction.changes (keys_of m (tick_turn m seen sak p).past)
  unfolding tick_turn
  tick-goes m seen sak p kept =
      let v0 = view m p in
      let v1 = view m (lives.ticked ∷ p) in
      let h = keys_of m p in
      let lead = led m v1 in
      let key = made m v1 seen sak in
      let r = roster_at m p in
      let on : is_some (elected m (lives.ticked ∷ p)) ≡ is_some v1.server =
      ap is_some (sym (view-server m (lives.ticked ∷ p))) in
      let whole : keys_of m (tick_turn m seen sak p).past
      ≡ with_key r key (with_began lead (keyings.ticked (is_some v1.server) ∷ h)) =
      tick-keys m seen sak p ∙ ap (λ b. with_key r key (with_began lead (keyings.ticked b ∷ h))) on in
      let now : v1.keys ≡ keyings.ticked (is_some v1.server) ∷ h =
      view-keys m (lives.ticked ∷ p) ∙ (keys-ticked m p ∙ ap (λ b. keyings.ticked b ∷ h) on) in
      let kept_all = kept-turn m.base h _ (tick-is_turn m seen sak p) kept in
      subst (λ g. Goes an h (ended v0.keys v1.server ++
      ((beginning v1.keys lead).changes ++ install_changes v1.keys r key)) g) (sym whole)
      (tick-stages m.base h v0.keys v1.keys v1.server lead r key (view-keys m p) now kept
      (subst (KeepsRules m.base) whole kept_all)
      (λ b is. let l = led-is m v1 b is in (l.latest_key, l.unbegun))
      (λ n is. (making-is m v1 seen sak n is).none_led))

  -- ---- a hearing

  none-offered : (m : Member) (v : View) (o : Option Offer) → o ≡ None → taken_of m v o ≡ None
  none-offered m v o none = rw none refl

  hear-stages : (base : ℕ) (h v1 v2 : List Keying) (offer : Option Offer) (answer : Option (Result Key Why))
      (follow : Option Beginning) → v1 ≡ h → v2 ≡ with_key None (key_taken answer) h
      → KeepsRules base (with_began follow (with_key None (key_taken answer) h))
      → ((b : Beginning) → follow ≡ Some b → (latest v2 ≡ Some b.key) × (has_begun v2 b.key.epoch ≡ false))
      → ((offer ≡ None) → answer ≡ None)
      → Goes an h (take_changes v1 offer answer ++ (beginning v2 follow).changes)
      (with_began follow (with_key None (key_taken answer) h))
  hear-stages base h v1 v2 offer answer follow at1 at2 kept follows both =
      let h1 : List Keying = with_key None (key_taken answer) h in
      let h2 : List Keying = with_began follow h1 in
      let kept1 = kept-before base follow h1 kept in
      goes-on an h h1 h2 (take_changes v1 offer answer) (beginning v2 follow).changes
      (subst (λ v. Goes an h (take_changes v offer answer) h1) (sym at1)
      (goes-taken an base h offer answer kept1 both))
      (subst (λ v. Goes an h1 (beginning v follow).changes h2) (sym at2)
      (goes-begun an base h1 follow kept1 (λ b is. let l = follows b is in (
        subst (λ v. latest v ≡ Some b.key) at2 l.0,
        subst (λ v. has_begun v b.key.epoch ≡ false) at2 l.1,
      ))))

  hear-goes : (m : Member) (a : Announcement) (p : List Entry) → KeepsRules m.base (keys_of m p)
      → Goes an (keys_of m p) (hear_turn m a p).reaction.changes (keys_of m (hear_turn m a p).past)
  unfolding hear_turn
  hear-goes m a p kept =
      let v1 = view m (lives.heard a ∷ p) in
      let v2 = view m (taken_past m a p) in
      let h = keys_of m p in
      let offer = offer_at m a p in
      let answer = answer_at m a p in
      let follow = follow_at m a p in
      let whole = hear-keys m a p in
      let now : v1.keys ≡ h = view-keys m (lives.heard a ∷ p) ∙ keys-heard m a p in
      let then : v2.keys ≡ with_key None (key_taken answer) h =
      view-keys m (taken_past m a p) ∙ (keys-installed m None (key_taken answer) (lives.heard a ∷ p)
      ∙ ap (with_key None (key_taken answer)) (keys-heard m a p)) in
      let kept_all = kept-turn m.base h _ (hear-is_turn m a p) kept in
      subst (λ g. Goes an h (take_changes v1.keys offer answer ++ (beginning v2.keys follow).changes) g) (sym whole)
      (hear-stages m.base h v1.keys v2.keys offer answer follow now then
      (subst (KeepsRules m.base) whole kept_all)
      (λ b is. let f = following-is v2 _ a b is in (f.latest_key, f.unbegun))
      (λ none. none-offered m v1 offer none))

  pub frame-goes : (m : Member) (octets : List ℕ) (p : List Entry) → KeepsRules m.base (keys_of m p)
      → Goes an (keys_of m p) (frame_turn m octets p).reaction.changes (keys_of m (frame_turn m octets p).past)
  frame-goes m octets p kept = by (judged m.setup octets)
    where
      by : (j : Result Announcement DropReason)
          → Goes an (keys_of m p) (heard_turn m j p).reaction.changes (keys_of m (heard_turn m j p).past)
      by (Ok a) = hear-goes m a p kept
      by (Err reason) = refl

  -- ---- the end of a life

  pub end-told : (m : Member) (p : List Entry) → told_all an (ending m p).changes None ≡ None
  unfolding ending
  end-told m p = none-left an (view m p).keys (received (view m p).keys)
