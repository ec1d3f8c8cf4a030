-- What a station may do when it hears an announcement.
use Rattle.std.proofs.Common.{◌≡◌, ◌<◌, ◌^◌, refl, sym, ap, ◌∙◌, subst, ℕ, List, ◌∷◌, length}
use Rattle.std.proofs.Common.{Option, Some, None}
use Rattle.lan_base.specs.declared.address.Mi.{Mi}
use Rattle.lan_base.specs.Identifiers.{same_mi}
use Rattle.mkpdu_codec.specs.declared.announcement.Announcement.{Announcement}
use Rattle.mkpdu_codec.specs.declared.given.Given.{Given}
use Rattle.sak_exchange.specs.declared.offer.Offer.{Offer}
use Rattle.sak_exchange.specs.declared.held_key.Key.{Key}
use Rattle.sak_exchange.specs.Histories.{installed}
use Rattle.sak_exchange.specs.Lives.{IsOver}
use Rattle.sak_exchange.specs.Outcomes.{beginning}
use Rattle.sak_exchange.specs.Taking.{taken, greatest_of}
use Rattle.sak_exchange.specs.Unwrapping.{given_sak}
use Rattle.mka_station.specs.Lives.{Member, Entry, heard, keys_of}
use Rattle.mka_station.specs.Views.{View, view}
use Rattle.mka_station.specs.Hearing.{outcome_of, offered, taken_of, take_changes}
use Rattle.mka_station.specs.Hearing.{hear_turn}
use Rattle.mka_station.specs.Hearing.{taken_past, follow_at}
use Rattle.group_safety.proofs.Members.{In}
use Rattle.group_safety.proofs.once.Histories.{handed, deeds_of, with_key, with_began, past_heard}
use Rattle.group_safety.proofs.once.Histories.{keys-begun, keys-installed, keys-heard, view-keys}
use Rattle.group_safety.proofs.once.KeysSound.{AreSound, sound-taken, new-key}
use Rattle.group_safety.proofs.once.Rules.{IsKeyOfAnnouncement, key_heard, taken-is, taken-handed, said_by}
use Rattle.group_safety.proofs.once.Rules.{named}
use Rattle.group_safety.proofs.once.Ciphers.{unwrapped-secret}
use Rattle.group_safety.proofs.once.Frames.{IsRanged}
use Rattle.group_safety.proofs.once.Gists.{ChangesAre, then-changes, begin-quiet, take-is}
use Rattle.group_safety.proofs.once.Ticking.{sound-begun}

-- ---- the parts of a hearing

abbrev pub hear_view : Member → Announcement → List Entry → View
hear_view m a p = view m (heard a ∷ p)

pub hear-past : (m : Member) (a : Announcement) (p : List Entry)
    → (hear_turn m a p).past ≡ past_heard (follow_at m a p) (key_heard m a p) a p
unfolding hear_turn
hear-past m a p = refl

pub hear-silent : (m : Member) (a : Announcement) (p : List Entry)
    → (hear_turn m a p).reaction.sent ≡ None
unfolding hear_turn
hear-silent m a p = refl

pub hear-changes : (s : ℕ) (m : Member) (a : Announcement) (p : List Entry)
    → ChangesAre s (hear_turn m a p).reaction.changes (key_heard m a p)
unfolding hear_turn
hear-changes s m a p =
    let v = hear_view m a p in
    let offer = offered m v (outcome_of m p a) a in
    then-changes s (take_changes v.keys offer (taken_of m v offer))
    (beginning (view m (taken_past m a p)).keys (follow_at m a p)).changes (key_heard m a p)
    (take-is s v.keys offer (λ (o : Offer). taken m.base v.keys o (given_sak m.setup.kek o.given.key)))
    (begin-quiet s (view m (taken_past m a p)).keys (follow_at m a p))

-- ---- the keys after a hearing

-- what the key number of what is given has to be
abbrev pub IsSmallGift : Announcement → Type 0
IsSmallGift a = (g : Given) → a.given ≡ Some g → g.number < 2 ^ 32

hear-taken : (m : Member) (a : Announcement) (p : List Entry) (k : Key) → key_heard m a p ≡ Some k
    → IsKeyOfAnnouncement m (keys_of m p) a k
hear-taken m a p k e =
    subst (λ h. IsKeyOfAnnouncement m h a k) (view-keys m (heard a ∷ p) ∙ keys-heard m a p) (taken-is m a p k e)

taken-sound : (m : Member) (a : Announcement) (p : List Entry) (most : ℕ) (k : Key)
    → AreSound m.base m.mi most (keys_of m p) → IsRanged a → IsSmallGift a
    → IsKeyOfAnnouncement m (keys_of m p) a k
    → AreSound m.base m.mi most (installed None k ∷ keys_of m p)
taken-sound m a p most k sound ranged small t =
    sound-taken m.base m.mi most k (keys_of m p) sound
    (subst (λ w. IsOver (greatest_of w (keys_of m p)) k.id.number) (sym t.server) t.over)
    (ap (λ w. same_mi w m.mi) t.server ∙ t.other) (record {
      epoch = t.epoch;
      server = ap (λ (n : Mi). length n.0) t.server ∙ ranged.mi;
      number = subst (λ (n : ℕ). n < 2 ^ 32) (sym t.number) (small t.gift t.gives);
      sak = unwrapped-secret m.setup.kek t.gift.key k.sak t.hidden;
    })

pub heard-keys : (m : Member) (a : Announcement) (p : List Entry)
    → keys_of m (past_heard (follow_at m a p) (key_heard m a p) a p)
    ≡ with_began (follow_at m a p) (with_key None (key_heard m a p) (keys_of m p))
heard-keys m a p =
    keys-begun m (follow_at m a p) (taken_past m a p)
    ∙ ap (with_began (follow_at m a p))
    (keys-installed m None (key_heard m a p) (heard a ∷ p)
    ∙ ap (with_key None (key_heard m a p)) (keys-heard m a p))

pub hear-sound : (m : Member) (a : Announcement) (p : List Entry) (most : ℕ)
    → AreSound m.base m.mi most (keys_of m p) → IsRanged a → IsSmallGift a
    → AreSound m.base m.mi most (keys_of m (past_heard (follow_at m a p) (key_heard m a p) a p))
hear-sound m a p most sound ranged small =
    subst (AreSound m.base m.mi most) (sym (heard-keys m a p))
    (sound-begun m.base m.mi most (follow_at m a p)
    (with_key None (key_heard m a p) (keys_of m p))
    (go (key_heard m a p) refl))
  where
    go : (o : Option Key) → key_heard m a p ≡ o
        → AreSound m.base m.mi most (with_key None o (keys_of m p))
    go None e = sound
    go (Some k) e = taken-sound m a p most k sound ranged small (hear-taken m a p k e)

-- ---- a key is taken

pub hear-may-take : (m : Member) (a : Announcement) (p : List Entry) (most : ℕ) (k : Key)
    → AreSound m.base m.mi most (keys_of m p) → IsRanged a → IsSmallGift a
    → key_heard m a p ≡ Some k
    → ((said_by m.setup.kek a).given ≡ Some (handed k)) × In m.mi (named a.live)
    × (¬ (In k.id (deeds_of m p).keys))
hear-may-take m a p most k sound ranged small e =
    let t = hear-taken m a p k e in (
      taken-handed m (keys_of m p) a k t,
      t.listed,
      new-key m.base m.mi most None k (keys_of m p) (taken-sound m a p most k sound ranged small t),
    )
