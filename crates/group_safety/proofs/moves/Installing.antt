-- A key that an event installs is held after it.
use Rattle.std.proofs.Common.{◌≡◌, inl, inr, ℕ, Bool, true, false, cond, List, [], ◌∷◌, ◌++◌}
use Rattle.std.proofs.Common.{Option, Some, None, Result, Ok, Err, refl, ap, sym, ◌∙◌, subst}
use Rattle.std.specs.Prelude.{◌==◌, option_and_then}
use Rattle.lan_base.specs.declared.frame.UserFrame.{UserFrame}
use Rattle.lan_base.specs.declared.address.Mi.{Mi}
use Rattle.lan_base.specs.declared.key_id.KeyId.{KeyId}
use Rattle.lan_base.specs.declared.association_number.AssociationNumber.{AssociationNumber}
use Rattle.lan_base.specs.AssociationNumbers.{same_an}
use Rattle.aes_block.specs.declared.secret.Secret.{Secret}
use Rattle.mkpdu_codec.specs.declared.announcement.Announcement.{Announcement}
use Rattle.gcm_frames.specs.Tags.{is_sec}
use Rattle.sak_exchange.specs.declared.due.Seen.{Seen}
use Rattle.sak_exchange.specs.declared.held_key.HeldKey.{HeldKey}
use Rattle.sak_exchange.specs.declared.held_key.Key.{Key}
use Rattle.sak_exchange.specs.Histories.{Keying}
use Rattle.sak_exchange.specs.Histories as keyings
use Rattle.sak_exchange.specs.Held.{KeepsRules, received, latest, held}
use Rattle.sak_exchange.specs.Beginning.{Beginning}
use Rattle.sak_exchange.specs.Outcomes.{beginning}
use Rattle.sak_exchange.proofs.Public.{by_test, keys-installed, latest-stays, same-an-itself}
use Rattle.mka_station.specs.declared.verdict.DropReason.{DropReason}
use Rattle.mka_station.specs.Lives.{Member, Entry, keys_of}
use Rattle.mka_station.specs.Lives as lives
use Rattle.mka_station.specs.Views.{view}
use Rattle.mka_station.specs.Tick.{tick_turn, led, made, ended, install_changes, roster_at}
use Rattle.mka_station.specs.Hearing.{judged, hear_turn, heard_turn, frame_turn, key_taken}
use Rattle.mka_station.specs.Hearing.{take_changes, offer_at, answer_at, taken_past, follow_at}
use Rattle.mka_station.specs.Restart.{ending}
use Rattle.lan_core.specs.declared.fact.Fact.TheVariants as facts
use Rattle.lan_core.specs.declared.settings.Settings.{Settings}
use Rattle.lan_core.specs.Run.{Run, Happening}
use Rattle.lan_core.specs.Ledgers.{Install, install_of, gather, next_frame}
use Rattle.lan_core.specs.Lives.{Life, life, lived, keys_in, seen_at, sak_in}
use Rattle.lan_core.specs.Claims.{frame_of_claim}
use Rattle.lan_core.specs.Expected.{reaction_facts, number_fact, lack}
use Rattle.lan_core.specs.Keys.{held_under, held_at}
use Rattle.group_safety.proofs.Members.{In}
use Rattle.group_safety.proofs.once.Histories.{with_began, with_key}
use Rattle.group_safety.proofs.once.Gists.{installed_at, ChangesAre, drops-quiet, changes-then}
use Rattle.group_safety.proofs.once.Gists.{then-changes, ended-quiet, begin-quiet, install-is}
use Rattle.group_safety.proofs.once.Gists.{take-is, reaction-is}
use Rattle.group_safety.proofs.once.Nexts.{mapped, in-gathered}
use Rattle.group_safety.proofs.rollover.Turns.{tick-keys, hear-keys, tick-is_turn, hear-is_turn}
use Rattle.group_safety.proofs.rollover.Turns.{kept-turn}
use Rattle.group_safety.proofs.rollover.EventKinds.{Kind}
use Rattle.group_safety.proofs.rollover.EventKinds as kinds
use Rattle.group_safety.proofs.moves.Moving.{own-tick, own-reached}

-- ---- the new key is the latest one

under-latest : (h : List Keying) (n : Key) → latest h ≡ Some n → held_under h n.an ≡ Some (held h n)
under-latest h n is = let same : same_an n.an n.an ≡ true = same-an-itself n.an in rw is (rw same refl)

new-latest : (base : ℕ) (h : List Keying) (r : Option (List Mi)) (n : Key) (follow : Option Beginning) → KeepsRules base (with_began follow (with_key r (Some n) h)) → latest (with_began follow (with_key r (Some n) h)) ≡ Some n
new-latest base h r n None kept = (keys-installed base h r n kept).latest
new-latest base h r n (Some b) kept = latest-stays base (keyings.began b.key.epoch ∷ []) (keyings.installed r n ∷ h) n kept tt (keys-installed base h r n kept.1).latest

-- a key that is installed is held: what the installs of these facts are to these keys
abbrev AreHeld : ℕ → List Keying → List Install → Type 0
AreHeld s g is = (i : Install) → In i is → (i.station ≡ s) × ((h : HeldKey) × (held_under g i.an ≡ Some h) × (h.key.epoch ≡ i.epoch) × (h.key.sak ≡ i.sak))

one-held : (s : ℕ) (g : List Keying) (key : Option Key) → ((n : Key) → key ≡ Some n → latest g ≡ Some n) → AreHeld s g (installed_at s key ++ [])
one-held s g None newest i has = absurd has
one-held s g (Some n) newest i (inl same) =
    let h = held g n in (
      ap (λ (j : Install). j.station) same,
      (h, subst (λ (an : AssociationNumber). held_under g an ≡ Some h) (ap (λ (j : Install). j.an) (sym same)) (under-latest g n (newest n refl)), ap (λ (j : Install). j.epoch) (sym same), ap (λ (j : Install). j.sak) (sym same)),
    )
one-held s g (Some n) newest i (inr none) = absurd none

-- ---- turns

tick-installs : (s : ℕ) (m : Member) (seen : Seen) (sak : Secret) (p : List Entry) → ChangesAre s (tick_turn m seen sak p).reaction.changes (made m (view m (lives.ticked ∷ p)) seen sak)
unfolding tick_turn
tick-installs s m seen sak p =
    let v0 = view m p in
    let v1 = view m (lives.ticked ∷ p) in
    changes-then s (ended v0.keys v1.server) ((beginning v1.keys (led m v1)).changes ++ install_changes v1.keys (roster_at m p) (made m v1 seen sak)) (made m v1 seen sak) (ended-quiet s v0.keys v1.server)
    (changes-then s (beginning v1.keys (led m v1)).changes (install_changes v1.keys (roster_at m p) (made m v1 seen sak)) (made m v1 seen sak) (begin-quiet s v1.keys (led m v1)) (install-is s v1.keys (roster_at m p) (made m v1 seen sak)))

tick-newest : (m : Member) (seen : Seen) (sak : Secret) (p : List Entry) → KeepsRules m.base (keys_of m p) → (n : Key) → made m (view m (lives.ticked ∷ p)) seen sak ≡ Some n → latest (keys_of m (tick_turn m seen sak p).past) ≡ Some n
tick-newest m seen sak p kept n is =
    let whole = tick-keys m seen sak p in
    let all = subst (KeepsRules m.base) whole (kept-turn m.base (keys_of m p) _ (tick-is_turn m seen sak p) kept) in
    ap latest whole ∙ go _ _ is all
  where
    go : (h : List Keying) (key : Option Key) → key ≡ Some n → KeepsRules m.base (with_key (roster_at m p) key h) → latest (with_key (roster_at m p) key h) ≡ Some n
    go h None is kept = absurd (cc is)
    go h (Some k) is kept = let same : k ≡ n = cc is in new-latest m.base h (roster_at m p) k None kept ∙ ap Some same

hear-installs : (s : ℕ) (m : Member) (a : Announcement) (p : List Entry) → ChangesAre s (hear_turn m a p).reaction.changes (key_taken (answer_at m a p))
unfolding hear_turn
hear-installs s m a p =
    let v1 = view m (lives.heard a ∷ p) in
    let v2 = view m (taken_past m a p) in
    then-changes s (take_changes v1.keys (offer_at m a p) (answer_at m a p)) (beginning v2.keys (follow_at m a p)).changes (key_taken (answer_at m a p))
    (take-is s v1.keys (offer_at m a p) _) (begin-quiet s v2.keys (follow_at m a p))

hear-newest : (m : Member) (a : Announcement) (p : List Entry) → KeepsRules m.base (keys_of m p) → (n : Key) → key_taken (answer_at m a p) ≡ Some n → latest (keys_of m (hear_turn m a p).past) ≡ Some n
hear-newest m a p kept n is =
    let whole = hear-keys m a p in
    let all = subst (KeepsRules m.base) whole (kept-turn m.base (keys_of m p) _ (hear-is_turn m a p) kept) in
    ap latest whole ∙ go (key_taken (answer_at m a p)) is all
  where
    go : (key : Option Key) → key ≡ Some n → KeepsRules m.base (with_began (follow_at m a p) (with_key None key (keys_of m p))) → latest (with_began (follow_at m a p) (with_key None key (keys_of m p))) ≡ Some n
    go None is kept = absurd (cc is)
    go (Some k) is kept = let same : k ≡ n = cc is in new-latest m.base (keys_of m p) None k (follow_at m a p) kept ∙ ap Some same

ending-installs : (s : ℕ) (m : Member) (p : List Entry) → ChangesAre s (ending m p).changes None
unfolding ending
ending-installs s m p = let v = view m p in drops-quiet s (held v.keys) (received v.keys)

-- ---- events

no-installs : (s : ℕ) (g : List Keying) (is : List Install) → is ≡ [] → AreHeld s g is
no-installs s g is none i has = absurd (subst (In i) none has)

-- the installs of an event, of the station that it is of
abbrev Shows : Settings → Happening → Run → Install → Type 0
Shows settings x r i = (h : HeldKey) × (held_at settings i.station (x ∷ r) i.an ≡ Some h) × (h.key.epoch ≡ i.epoch) × (h.key.sak ≡ i.sak)

shows-by : (settings : Settings) (x : Happening) (r : Run) (s : ℕ) (l : Life) (is : List Install) → life settings s (x ∷ r) ≡ Some l → AreHeld s (keys_in l) is → (i : Install) → In i is → Shows settings x r i
shows-by settings x r s l is living held_all i has =
    let a = held_all i has in (
      a.1.0,
      subst (λ v. held_at settings v (x ∷ r) i.an ≡ Some a.1.0) (sym a.0) (ap (option_and_then (λ (m : Life). held_under (keys_in m) i.an)) living ∙ a.1.1),
      a.1.2,
      a.1.3,
    )

pub installed-held : (settings : Settings) (users : List UserFrame) (x : Happening) (r : Run) → Kind settings users r x.event x.facts
    → ((s : ℕ) (l : Life) → life settings s r ≡ Some l → KeepsRules l.member.base (keys_in l)) → (i : Install) → In i (gather install_of x.facts []) → Shows settings x r i
installed-held settings users x r (kinds.starts name sci priority mi ev q) kept i has = absurd (subst (λ f. In i (gather install_of f [])) q has)
installed-held settings users x r (kinds.ticks s next l ev living q) kept i has =
    let seen = seen_at settings s r l next in
    let sak = sak_in x.facts in
    let g = reaction-is s 0 (next_frame r) (tick_turn l.member seen sak l.past).reaction _ (tick-installs s l.member seen sak l.past) in
    let is : gather install_of x.facts [] ≡ installed_at s (made l.member (view l.member (lives.ticked ∷ l.past)) seen sak) ++ [] = ap (λ f. gather install_of f []) q ∙ g.installs [] in
    shows-by settings x r s _ _ (own-tick settings s next x r l ev living)
    (one-held s _ (made l.member (view l.member (lives.ticked ∷ l.past)) seen sak) (tick-newest l.member seen sak l.past (kept s l living))) i (subst (In i) is has)
installed-held settings users x r (kinds.reached s number octets l came living q) kept i has =
    by_test (is_sec octets)
    (λ sec. absurd (let none : gather install_of x.facts [] ≡ [] = ap (λ f. gather install_of f []) q ∙ rw sec refl in subst (In i) none has))
    (λ sec. let f : x.facts ≡ reaction_facts s number 0 (frame_turn l.member octets l.past).reaction = q ∙ rw sec refl in
    let after : life settings s (x ∷ r) ≡ Some (lived l (frame_turn l.member octets l.past)) = own-reached settings s number octets l x r came living ∙ rw sec refl in
    by (judged l.member.setup octets) f after)
  where
    by : (j : Result Announcement DropReason) → x.facts ≡ reaction_facts s number 0 (heard_turn l.member j l.past).reaction → life settings s (x ∷ r) ≡ Some (lived l (heard_turn l.member j l.past)) → Shows settings x r i
    by (Ok a) f after =
        let g = reaction-is s number 0 (hear_turn l.member a l.past).reaction _ (hear-installs s l.member a l.past) in
        let is : gather install_of x.facts [] ≡ installed_at s (key_taken (answer_at l.member a l.past)) ++ [] = ap (λ f. gather install_of f []) f ∙ g.installs [] in
        shows-by settings x r s _ _ after (one-held s _ (key_taken (answer_at l.member a l.past)) (hear-newest l.member a l.past (kept s l living))) i (subst (In i) is has)
    by (Err v) f after = absurd (let none : gather install_of x.facts [] ≡ [] = ap (λ f. gather install_of f []) f in subst (In i) none has)
installed-held settings users x r (kinds.restarts s mi l ev drawn living q) kept i has =
    let g = reaction-is s 0 0 (ending l.member l.past) None (ending-installs s l.member l.past) in
    absurd (let none : gather install_of x.facts [] ≡ [] = ap (λ f. gather install_of f []) q ∙ g.installs [] in subst (In i) none has)
installed-held settings users x r (kinds.claims s user pn ev q) kept i has =
    absurd (let none : gather install_of x.facts [] ≡ [] = ap (λ f. gather install_of f []) q ∙ claimless (pn == 0) _ in subst (In i) none has)
  where
    claimless : (b : Bool) (o : Option Key) → gather install_of (cond b (facts.Unclaimed s (lack settings s r o)) (number_fact s pn o) ∷ []) [] ≡ []
    claimless true o = refl
    claimless false None = refl
    claimless false (Some k) = refl
installed-held settings users x r (kinds.emits w ev waits is) kept i has =
    let m = mapped (λ octets. facts.Framed (next_frame r) w.station true octets ∷ []) (frame_of_claim users r w) x.facts is in
    absurd (subst (λ f. In i (gather install_of f [])) (sym m.2) has)

-- by the fact itself
pub fact-held : (settings : Settings) (users : List UserFrame) (x : Happening) (r : Run) → Kind settings users r x.event x.facts
    → ((s : ℕ) (l : Life) → life settings s r ≡ Some l → KeepsRules l.member.base (keys_in l))
    → (s : ℕ) (id : KeyId) (an : AssociationNumber) (epoch : ℕ) (sak : Secret) → In (facts.Installed s id an epoch sak) x.facts
    → (h : HeldKey) × (held_at settings s (x ∷ r) an ≡ Some h) × (h.key.epoch ≡ epoch) × (h.key.sak ≡ sak)
fact-held settings users x r kind kept s id an epoch sak has =
    installed-held settings users x r kind kept (record { station = s; id = id; an = an; epoch = epoch; sak = sak })
    (in-gathered install_of x.facts [] (facts.Installed s id an epoch sak) (record { station = s; id = id; an = an; epoch = epoch; sak = sak }) has refl)
