-- What a tick, a hearing and the end of a life tell the current word.
use Rattle.std.proofs.Common.{◌≡◌, ℕ, true, false, List, [], ◌∷◌, ◌++◌, refl, sym, ap, ◌∙◌, subst, append-nil}
use Rattle.lan_base.specs.declared.association_number.AssociationNumber.{AssociationNumber}
use Rattle.std.proofs.Common.{Option, Some, None, Result, Ok, Err, is_some}
use Rattle.lan_base.specs.declared.address.Mi.{Mi}
use Rattle.aes_block.specs.declared.secret.Secret.{Secret}
use Rattle.mkpdu_codec.specs.declared.announcement.Announcement.{Announcement}
use Rattle.sak_exchange.specs.declared.change.Change.{Change}
use Rattle.sak_exchange.specs.declared.change.Why.{Why}
use Rattle.sak_exchange.specs.declared.due.Seen.{Seen}
use Rattle.sak_exchange.specs.declared.offer.Offer.{Offer}
use Rattle.sak_exchange.specs.declared.held_key.Key.{Key}
use Rattle.sak_exchange.specs.Histories.{Keying, ticked}
use Rattle.sak_exchange.specs.Held.{KeepsRules, received, latest, transmitting}
use Rattle.sak_exchange.specs.Beginning.{Beginning}
use Rattle.sak_exchange.specs.Outcomes.{beginning, installing}
use Rattle.mka_station.specs.Lives.{Member, Entry, keys_of, elected}
use Rattle.mka_station.specs.Lives.{ticked as tick, heard}
use Rattle.mka_station.specs.Views.{View, view}
use Rattle.mka_station.specs.Tick.{tick_turn, ended, led, made, install_changes, roster_at}
use Rattle.mka_station.specs.Hearing.{hear_turn, key_taken, take_changes, taken_of, answer_at, offer_at, follow_at, taken_past}
use Rattle.mka_station.specs.Restart.{ending}
use Rattle.group_safety.proofs.Public.{with_key, with_began, view-keys, keys-ticked, keys-heard, keys-installed}
use Rattle.group_safety.proofs.Public.{kept-turn, tick-keys, hear-keys, tick-is_turn, hear-is_turn}
use Rattle.group_safety.proofs.Public.{making-is, led-is, following-is}
use Rattle.worker_races.specs.merge.Table.{an_of, calls, IsTold}
use Rattle.worker_races.specs.merge.Table as told
use Rattle.worker_races.proofs.weaving.Calls.{sends-ticked, sends-dropped, sends-began, told-taken, told-dropped, retire-calls, drops, latest-later}

-- ---- a tick

kept-key : (base : ℕ) (r : Option (List Mi)) (key : Option Key) (g : List Keying) → KeepsRules base (with_key r key g) → KeepsRules base g
kept-key base r None g kept = kept
kept-key base r (Some n) g kept = kept.2

told-ticked : (base : ℕ) (h : List Keying) (server : Option Mi) (lead : Option Beginning) (roster : Option (List Mi)) (key : Option Key) (top : ℕ)
    → KeepsRules base (with_key roster key (with_began lead (ticked (is_some server) ∷ h)))
    → (server ≡ None → (lead ≡ None) × (key ≡ None)) → ((b : Beginning) → lead ≡ Some b → key ≡ None)
    → ((b : Beginning) → lead ≡ Some b → latest (ticked (is_some server) ∷ h) ≡ Some b.key)
    → IsTold top (transmitting h) (transmitting (with_key roster key (with_began lead (ticked (is_some server) ∷ h))))
    (calls top (an_of (transmitting h)) (ended h server ++ ((beginning (ticked (is_some server) ∷ h) lead).changes
    ++ install_changes (ticked (is_some server) ∷ h) roster key)))
told-ticked base h None None roster None top whole none one newest =
    subst (λ cs. IsTold top (transmitting h) (transmitting (ticked false ∷ h)) (calls top (an_of (transmitting h)) cs)) (sym (append-nil (drops h (received h))))
    (told-dropped h top (transmitting (ticked false ∷ h)) (sends-dropped base h whole))
told-ticked base h None (Some b) roster key top whole none one newest = absurd (let no = (none refl).0 in cc no)
told-ticked base h None None roster (Some n) top whole none one newest = absurd (let no = (none refl).1 in cc no)
told-ticked base h (Some s) (Some b) roster (Some n) top whole none one newest = absurd (let no = one b refl in cc no)
told-ticked base h (Some s) (Some b) roster None top whole none one newest =
    told.begins b.key (sends-began base (ticked true ∷ h) b.key whole (newest b refl))
    (λ k is. latest-later base (ticked true ∷ h) b.key whole (newest b refl) k (sends-ticked base h whole.1 ∙ is))
    (retire-calls h top (an_of (transmitting h)) ((beginning (ticked true ∷ h) (Some b)).changes ++ []))
told-ticked base h (Some s) None roster key top whole none one newest =
    let h1 = ticked true ∷ h in
    let same = sends-ticked base h (kept-key base roster key h1 whole) in
    let told1 = told-taken base h1 roster key None top (install_changes h1 roster key) whole (λ b is. absurd (cc is)) (quiet h1 key)
    (takes h1 key) h1 in
    subst (λ ws. IsTold top (transmitting h) (transmitting (with_key roster key h1)) ws)
    (sym (retire-calls h top (an_of (transmitting h)) (install_changes h1 roster key)))
    (subst (λ o. IsTold top o (transmitting (with_key roster key h1)) (calls top (an_of o) (install_changes h1 roster key))) same
    (subst (λ cs. IsTold top (transmitting h1) (transmitting (with_key roster key h1)) (calls top (an_of (transmitting h1)) cs))
    (append-nil (install_changes h1 roster key)) told1))
  where
    quiet : (h1 : List Keying) (key : Option Key) → key ≡ None → (o : Option AssociationNumber) (rest : List Change)
        → calls top o (install_changes h1 roster key ++ rest) ≡ calls top o rest
    quiet h1 None is o rest = refl
    quiet h1 (Some n) is o rest = absurd (cc is)

    takes : (h1 : List Keying) (key : Option Key) (n : Key) → key ≡ Some n → install_changes h1 roster key ≡ (installing h1 roster n).changes
    takes h1 None n is = absurd (cc is)
    takes h1 (Some k) n is = let same : k ≡ n = cc is in ap (λ (w : Key). (installing h1 roster w).changes) same

-- ---- a hearing

told-heard : (base : ℕ) (h : List Keying) (offer : Option Offer) (answer : Option (Result Key Why)) (follow : Option Beginning) (top : ℕ) (h2 : List Keying)
    → (offer ≡ None → answer ≡ None)
    → KeepsRules base (with_began follow (with_key None (key_taken answer) h))
    → ((b : Beginning) → follow ≡ Some b → latest (with_key None (key_taken answer) h) ≡ Some b.key)
    → IsTold top (transmitting h) (transmitting (with_began follow (with_key None (key_taken answer) h)))
    (calls top (an_of (transmitting h)) (take_changes h offer answer ++ (beginning h2 follow).changes))
told-heard base h offer answer follow top h2 silent whole newest =
    told-taken base h None (key_taken answer) follow top (take_changes h offer answer) whole newest (quiet offer answer) (takes offer answer silent) h2
  where
    quiet : (offer : Option Offer) (answer : Option (Result Key Why)) → key_taken answer ≡ None
        → (o : Option AssociationNumber) (rest : List Change) → calls top o (take_changes h offer answer ++ rest) ≡ calls top o rest
    quiet None answer is o rest = refl
    quiet (Some f) None is o rest = refl
    quiet (Some f) (Some (Ok k)) is o rest = absurd (cc is)
    quiet (Some f) (Some (Err why)) is o rest = refl

    takes : (offer : Option Offer) (answer : Option (Result Key Why)) → (offer ≡ None → answer ≡ None) → (n : Key) → key_taken answer ≡ Some n
        → take_changes h offer answer ≡ (installing h None n).changes
    takes None None silent n is = absurd (cc is)
    takes None (Some a) silent n is = absurd (let no = silent refl in cc no)
    takes (Some f) None silent n is = absurd (cc is)
    takes (Some f) (Some (Ok k)) silent n is = let same : k ≡ n = cc is in ap (λ (w : Key). (installing h None w).changes) same
    takes (Some f) (Some (Err why)) silent n is = absurd (cc is)

-- ---- the turns of a station

not-led : (m : Member) (v : View) → v.server ≡ None → led m v ≡ None
not-led m v is = rw is refl

not-made : (m : Member) (v : View) (seen : Seen) (sak : Secret) → v.server ≡ None → made m v seen sak ≡ None
not-made m v seen sak is = rw is refl

lead-alone : (m : Member) (v : View) (seen : Seen) (sak : Secret) (b : Beginning) → led m v ≡ Some b → made m v seen sak ≡ None
lead-alone m v seen sak b is = go (made m v seen sak) refl
  where
    go : (o : Option Key) → made m v seen sak ≡ o → made m v seen sak ≡ None
    go None none = none
    go (Some k) makes = absurd (let none = (making-is m v seen sak k makes).none_led in cc (is, none))

pub server-is : (m : Member) (p : List Entry) → (view m (tick ∷ p)).server ≡ elected m (tick ∷ p)
unfolding view elected
server-is m p = refl

pub tick-changes : (m : Member) (seen : Seen) (sak : Secret) (p : List Entry) → (tick_turn m seen sak p).reaction.changes
    ≡ ended (view m p).keys (view m (tick ∷ p)).server
    ++ ((beginning (view m (tick ∷ p)).keys (led m (view m (tick ∷ p)))).changes
    ++ install_changes (view m (tick ∷ p)).keys (roster_at m p) (made m (view m (tick ∷ p)) seen sak))
unfolding tick_turn
tick-changes m seen sak p = refl

pub hear-changes : (m : Member) (a : Announcement) (p : List Entry) → (hear_turn m a p).reaction.changes
    ≡ take_changes (view m (heard a ∷ p)).keys (offer_at m a p) (answer_at m a p) ++ (beginning (view m (taken_past m a p)).keys (follow_at m a p)).changes
unfolding hear_turn
hear-changes m a p = refl

pub ending-changes : (m : Member) (p : List Entry) → (ending m p).changes ≡ drops (view m p).keys (received (view m p).keys)
unfolding ending
ending-changes m p = refl

pub tick-told : (m : Member) (seen : Seen) (sak : Secret) (p : List Entry) (top : ℕ) → KeepsRules m.base (keys_of m p)
    → IsTold top (transmitting (keys_of m p)) (transmitting (keys_of m (tick_turn m seen sak p).past))
    (calls top (an_of (transmitting (keys_of m p))) (tick_turn m seen sak p).reaction.changes)
tick-told m seen sak p top kept =
    let v = view m (tick ∷ p) in
    let h = keys_of m p in
    let server = elected m (tick ∷ p) in
    let now : v.keys ≡ ticked (is_some server) ∷ h = view-keys m (tick ∷ p) ∙ keys-ticked m p in
    let t = tick-is_turn m seen sak p in
    let whole = subst (KeepsRules m.base) (tick-keys m seen sak p) (kept-turn m.base h (keys_of m (tick_turn m seen sak p).past) t kept) in
    let is = told-ticked m.base h server (led m v) (roster_at m p) (made m v seen sak) top whole
    (λ none. (not-led m v (server-is m p ∙ none), not-made m v seen sak (server-is m p ∙ none)))
    (λ b is. lead-alone m v seen sak b is)
    (λ b is. subst (λ w. latest w ≡ Some b.key) now (led-is m v b is).latest_key) in
    let cs : (tick_turn m seen sak p).reaction.changes ≡ ended h server ++ ((beginning (ticked (is_some server) ∷ h) (led m v)).changes
    ++ install_changes (ticked (is_some server) ∷ h) (roster_at m p) (made m v seen sak)) =
    tick-changes m seen sak p
    ∙ (ap (λ k. ended k v.server ++ ((beginning v.keys (led m v)).changes ++ install_changes v.keys (roster_at m p) (made m v seen sak))) (view-keys m p)
    ∙ (ap (λ o. ended h o ++ ((beginning v.keys (led m v)).changes ++ install_changes v.keys (roster_at m p) (made m v seen sak))) (server-is m p)
    ∙ ap (λ k. ended h server ++ ((beginning k (led m v)).changes ++ install_changes k (roster_at m p) (made m v seen sak))) now)) in
    subst (λ l. IsTold top (transmitting h) (transmitting (keys_of m (tick_turn m seen sak p).past)) (calls top (an_of (transmitting h)) l)) (sym cs)
    (subst (λ g. IsTold top (transmitting h) (transmitting g) (calls top (an_of (transmitting h)) (ended h server
    ++ ((beginning (ticked (is_some server) ∷ h) (led m v)).changes ++ install_changes (ticked (is_some server) ∷ h) (roster_at m p) (made m v seen sak)))))
    (sym (tick-keys m seen sak p)) is)

pub hear-told : (m : Member) (a : Announcement) (p : List Entry) (top : ℕ) → KeepsRules m.base (keys_of m p)
    → IsTold top (transmitting (keys_of m p)) (transmitting (keys_of m (hear_turn m a p).past))
    (calls top (an_of (transmitting (keys_of m p))) (hear_turn m a p).reaction.changes)
hear-told m a p top kept =
    let h = keys_of m p in
    let v1 = view m (heard a ∷ p) in
    let v2 = view m (taken_past m a p) in
    let now : v1.keys ≡ h = view-keys m (heard a ∷ p) ∙ keys-heard m a p in
    let then : v2.keys ≡ with_key None (key_taken (answer_at m a p)) h =
    view-keys m (taken_past m a p) ∙ (keys-installed m None (key_taken (answer_at m a p)) (heard a ∷ p)
    ∙ ap (with_key None (key_taken (answer_at m a p))) (keys-heard m a p)) in
    let whole = subst (KeepsRules m.base) (hear-keys m a p) (kept-turn m.base h (keys_of m (hear_turn m a p).past) (hear-is_turn m a p) kept) in
    let is = told-heard m.base h (offer_at m a p) (answer_at m a p) (follow_at m a p) top v2.keys
    (λ none. silent m v1 (offer_at m a p) none) whole
    (λ b is. subst (λ w. latest w ≡ Some b.key) then (following-is v2 _ a b is).latest_key) in
    let cs : (hear_turn m a p).reaction.changes ≡ take_changes h (offer_at m a p) (answer_at m a p) ++ (beginning v2.keys (follow_at m a p)).changes =
    hear-changes m a p ∙ ap (λ k. take_changes k (offer_at m a p) (answer_at m a p) ++ (beginning v2.keys (follow_at m a p)).changes) now in
    subst (λ l. IsTold top (transmitting h) (transmitting (keys_of m (hear_turn m a p).past)) (calls top (an_of (transmitting h)) l)) (sym cs)
    (subst (λ g. IsTold top (transmitting h) (transmitting g) (calls top (an_of (transmitting h)) (take_changes h (offer_at m a p) (answer_at m a p)
    ++ (beginning v2.keys (follow_at m a p)).changes))) (sym (hear-keys m a p)) is)
  where
    silent : (m : Member) (v : View) (offer : Option Offer) → offer ≡ None → taken_of m v offer ≡ None
    silent m v None none = refl
    silent m v (Some o) none = absurd (cc none)

pub ending-told : (m : Member) (p : List Entry) (top : ℕ) (after : Option Key) → after ≡ None
    → IsTold top (transmitting (keys_of m p)) after (calls top (an_of (transmitting (keys_of m p))) (ending m p).changes)
ending-told m p top after none =
    subst (λ l. IsTold top (transmitting (keys_of m p)) after (calls top (an_of (transmitting (keys_of m p))) l))
    (sym (ending-changes m p ∙ ap (λ k. drops k (received k)) (view-keys m p)))
    (told-dropped (keys_of m p) top after none)
