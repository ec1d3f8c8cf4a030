-- What a tick, a hearing and the end of a life do to what is carried.
use Rattle.std.proofs.Common.{◌≡◌, ℕ, ◌+◌, ◌≤◌, true, false, List, ◌∷◌, ◌++◌, Option, Some, None, is_some}
use Rattle.std.proofs.Common.{Result, Ok, Err, refl, ap, sym, ◌∙◌, subst, arith}
use Rattle.lan_base.specs.declared.address.Mi.{Mi}
use Rattle.aes_block.specs.declared.secret.Secret.{Secret}
use Rattle.mkpdu_codec.specs.declared.announcement.Announcement.{Announcement}
use Rattle.sak_exchange.specs.declared.due.Seen.{Seen}
use Rattle.sak_exchange.specs.declared.change.Why.{Why}
use Rattle.sak_exchange.specs.declared.offer.Offer.{Offer}
use Rattle.sak_exchange.specs.declared.held_key.Key.{Key}
use Rattle.sak_exchange.specs.Histories.{Keying, install_count, has_begun}
use Rattle.sak_exchange.specs.Histories as keyings
use Rattle.sak_exchange.specs.Held.{KeepsRules, latest, may_begin}
use Rattle.sak_exchange.specs.Beginning.{Beginning}
use Rattle.sak_exchange.specs.Outcomes.{beginning}
use Rattle.mka_station.specs.declared.verdict.DropReason.{DropReason}
use Rattle.mka_station.specs.Lives.{Member, Entry, keys_of, elected}
use Rattle.mka_station.specs.Lives as lives
use Rattle.mka_station.specs.Views.{View, view}
use Rattle.mka_station.specs.Tick.{tick_turn, led, made, ended as ended_by, install_changes, roster_at}
use Rattle.mka_station.specs.Hearing.{judged, hear_turn, heard_turn, frame_turn, key_taken}
use Rattle.mka_station.specs.Hearing.{take_changes, taken_of, offer_at, answer_at, taken_past, follow_at}
use Rattle.lan_core.specs.Order.{most_installs}
use Rattle.group_safety.specs.Transmitting.{Carried, Carries}
use Rattle.group_safety.proofs.once.Histories.{with_began, with_key, view-keys, keys-ticked}
use Rattle.group_safety.proofs.once.Histories.{keys-heard, keys-installed, count-began}
use Rattle.group_safety.proofs.rollover.Begins.{led-is, making-is, following-is, may}
use Rattle.group_safety.proofs.rollover.Turns.{tick-keys, hear-keys, tick-is_turn, hear-is_turn}
use Rattle.group_safety.proofs.rollover.Turns.{kept-turn}
use Rattle.group_safety.proofs.rollover.Servers.{view-server}
use Rattle.group_safety.proofs.moves.Carrying.{Goes, goes-on, goes-nowhere, goes-ended}
use Rattle.group_safety.proofs.moves.Carrying.{goes-begun, goes-key, goes-taken}
use Rattle.group_safety.proofs.rollover.Leads.{kept-of-began}

-- the key of a beginning may begin, where the latest key has not begun
begins-by : (base : ℕ) (h : List Keying) (b : Beginning) → KeepsRules base h → latest h ≡ Some b.key → has_begun h b.key.epoch ≡ false
    → (may_begin h b.key.epoch ≡ true) × (latest h ≡ Some b.key)
begins-by base h b kept is unbegun = (may h b.key is unbegun, is)

-- ---- a tick

key-stage : (base : ℕ) (h1 : List Keying) (lead : Option Beginning) (r : Option (List Mi)) (key : Option Key) (k : Carried) → KeepsRules base (with_key r key (with_began lead h1))
    → base + install_count (with_key r key (with_began lead h1)) ≤ most_installs → ((n : Key) → key ≡ Some n → lead ≡ None) → Carries base (with_began lead h1) k
    → Goes base (with_key r key (with_began lead h1)) (install_changes h1 r key) k
key-stage base h1 lead r None k kept room alone carries = goes-nowhere base (with_began lead h1) k carries
key-stage base h1 None r (Some n) k kept room alone carries = goes-key base h1 r (Some n) k kept room carries
key-stage base h1 (Some b) r (Some n) k kept room alone carries = let e = alone n refl in absurd (cc e)

tick-stages : (base : ℕ) (h v0 v1 : List Keying) (server : Option Mi) (lead : Option Beginning) (r : Option (List Mi)) (key : Option Key) (k : Carried)
    → v0 ≡ h → v1 ≡ keyings.ticked (is_some server) ∷ h → KeepsRules base h → KeepsRules base (with_key r key (with_began lead (keyings.ticked (is_some server) ∷ h)))
    → base + install_count (with_key r key (with_began lead (keyings.ticked (is_some server) ∷ h))) ≤ most_installs
    → ((b : Beginning) → lead ≡ Some b → (latest v1 ≡ Some b.key) × (has_begun v1 b.key.epoch ≡ false))
    → ((n : Key) → key ≡ Some n → lead ≡ None) → Carries base h k
    → Goes base (with_key r key (with_began lead (keyings.ticked (is_some server) ∷ h))) (ended_by v0 server ++ ((beginning v1 lead).changes ++ install_changes v1 r key)) k
tick-stages base h v0 v1 server lead r key k at0 at1 kept kept_all room leads alone carries =
    let h1 : List Keying = keyings.ticked (is_some server) ∷ h in
    goes-on base h1 _ (ended_by v0 server) _ k
    (subst (λ v. Goes base h1 (ended_by v server) k) (sym at0) (goes-ended base h server k kept carries))
    (λ j cj. goes-on base (with_began lead h1) _ (beginning v1 lead).changes (install_changes v1 r key) j
    (subst (λ v. Goes base (with_began lead h1) (beginning v lead).changes j) (sym at1)
    (goes-begun base h1 lead j kept
    (λ b is. let l = leads b is in begins-by base h1 b kept (subst (λ v. latest v ≡ Some b.key) at1 l.0) (subst (λ v. has_begun v b.key.epoch ≡ false) at1 l.1)) cj))
    (λ i ci. subst (λ v. Goes base (with_key r key (with_began lead h1)) (install_changes v r key) i) (sym at1)
    (key-stage base h1 lead r key i kept_all room alone ci)))

pub tick-goes : (m : Member) (seen : Seen) (sak : Secret) (p : List Entry) (k : Carried) → KeepsRules m.base (keys_of m p)
    → m.base + install_count (keys_of m (tick_turn m seen sak p).past) ≤ most_installs → Carries m.base (keys_of m p) k
    → Goes m.base (keys_of m (tick_turn m seen sak p).past) (tick_turn m seen sak p).reaction.changes k
unfolding tick_turn
tick-goes m seen sak p k kept room carries =
    let v0 = view m p in
    let v1 = view m (lives.ticked ∷ p) in
    let h = keys_of m p in
    let lead = led m v1 in
    let key = made m v1 seen sak in
    let r = roster_at m p in
    let on : is_some (elected m (lives.ticked ∷ p)) ≡ is_some v1.server = ap is_some (sym (view-server m (lives.ticked ∷ p))) in
    let whole : keys_of m (tick_turn m seen sak p).past ≡ with_key r key (with_began lead (keyings.ticked (is_some v1.server) ∷ h)) =
    tick-keys m seen sak p ∙ ap (λ b. with_key r key (with_began lead (keyings.ticked b ∷ h))) on in
    let now : v1.keys ≡ keyings.ticked (is_some v1.server) ∷ h = view-keys m (lives.ticked ∷ p) ∙ (keys-ticked m p ∙ ap (λ b. keyings.ticked b ∷ h) on) in
    let kept_all = kept-turn m.base h _ (tick-is_turn m seen sak p) kept in
    subst (λ g. Goes m.base g (ended_by v0.keys v1.server ++ ((beginning v1.keys lead).changes ++ install_changes v1.keys r key)) k) (sym whole)
    (tick-stages m.base h v0.keys v1.keys v1.server lead r key k (view-keys m p) now kept
    (subst (KeepsRules m.base) whole kept_all)
    (subst (λ g. m.base + install_count g ≤ most_installs) whole room)
    (λ b is. let l = led-is m v1 b is in (l.latest_key, l.unbegun))
    (λ n is. (making-is m v1 seen sak n is).none_led) carries)

-- ---- a hearing

none-offered : (m : Member) (v : View) (o : Option Offer) → o ≡ None → taken_of m v o ≡ None
none-offered m v o none = rw none refl

hear-stages : (base : ℕ) (h v1 v2 : List Keying) (offer : Option Offer) (answer : Option (Result Key Why)) (follow : Option Beginning) (k : Carried)
    → v1 ≡ h → v2 ≡ with_key None (key_taken answer) h → KeepsRules base (with_began follow (with_key None (key_taken answer) h))
    → base + install_count (with_began follow (with_key None (key_taken answer) h)) ≤ most_installs
    → ((b : Beginning) → follow ≡ Some b → (latest v2 ≡ Some b.key) × (has_begun v2 b.key.epoch ≡ false))
    → ((offer ≡ None) → answer ≡ None) → Carries base h k
    → Goes base (with_began follow (with_key None (key_taken answer) h)) (take_changes v1 offer answer ++ (beginning v2 follow).changes) k
hear-stages base h v1 v2 offer answer follow k at1 at2 kept room follows both carries =
    let h1 : List Keying = with_key None (key_taken answer) h in
    let kept1 = kept-of-began base follow h1 kept in
    goes-on base h1 _ (take_changes v1 offer answer) (beginning v2 follow).changes k
    (subst (λ v. Goes base h1 (take_changes v offer answer) k) (sym at1)
    (goes-taken base h offer answer k kept1 (let c = count-began follow h1 in omega (arith, c, room)) both carries))
    (λ j cj. subst (λ v. Goes base (with_began follow h1) (beginning v follow).changes j) (sym at2)
    (goes-begun base h1 follow j kept1
    (λ b is. let l = follows b is in begins-by base h1 b kept1 (subst (λ v. latest v ≡ Some b.key) at2 l.0) (subst (λ v. has_begun v b.key.epoch ≡ false) at2 l.1)) cj))

pub hear-goes : (m : Member) (a : Announcement) (p : List Entry) (k : Carried) → KeepsRules m.base (keys_of m p)
    → m.base + install_count (keys_of m (hear_turn m a p).past) ≤ most_installs → Carries m.base (keys_of m p) k
    → Goes m.base (keys_of m (hear_turn m a p).past) (hear_turn m a p).reaction.changes k
unfolding hear_turn
hear-goes m a p k kept room carries =
    let v1 = view m (lives.heard a ∷ p) in
    let v2 = view m (taken_past m a p) in
    let h = keys_of m p in
    let offer = offer_at m a p in
    let answer = answer_at m a p in
    let follow = follow_at m a p in
    let whole = hear-keys m a p in
    let now : v1.keys ≡ h = view-keys m (lives.heard a ∷ p) ∙ keys-heard m a p in
    let then : v2.keys ≡ with_key None (key_taken answer) h =
    view-keys m (taken_past m a p) ∙ keys-installed m None (key_taken answer) (lives.heard a ∷ p)
    ∙ ap (with_key None (key_taken answer)) (keys-heard m a p) in
    let kept_all = kept-turn m.base h _ (hear-is_turn m a p) kept in
    subst (λ g. Goes m.base g (take_changes v1.keys offer answer ++ (beginning v2.keys follow).changes) k) (sym whole)
    (hear-stages m.base h v1.keys v2.keys offer answer follow k now then
    (subst (KeepsRules m.base) whole kept_all)
    (subst (λ g. m.base + install_count g ≤ most_installs) whole room)
    (λ b is. let f = following-is v2 _ a b is in (f.latest_key, f.unbegun))
    (λ none. none-offered m v1 offer none) carries)

pub frame-goes : (m : Member) (octets : List ℕ) (p : List Entry) (k : Carried) → KeepsRules m.base (keys_of m p)
    → m.base + install_count (keys_of m (frame_turn m octets p).past) ≤ most_installs → Carries m.base (keys_of m p) k
    → Goes m.base (keys_of m (frame_turn m octets p).past) (frame_turn m octets p).reaction.changes k
frame-goes m octets p k kept room carries = by (judged m.setup octets) room
  where
    by : (j : Result Announcement DropReason) → m.base + install_count (keys_of m (heard_turn m j p).past) ≤ most_installs
        → Goes m.base (keys_of m (heard_turn m j p).past) (heard_turn m j p).reaction.changes k
    by (Ok a) room = hear-goes m a p k kept room carries
    by (Err v) room = goes-nowhere m.base (keys_of m p) k carries
