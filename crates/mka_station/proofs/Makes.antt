-- Whether the next tick makes a key, and which, by what is prepared for it.
use Rattle.std.proofs.Common.{◌≡◌, ◌∙◌, ℕ, suc, Bool, true, false, cond, ◌&&◌, nat_lt, length, List, [], ◌∷◌, Option, Some, None, is_some, is_none, refl, ap, sym, subst, arith}
use Rattle.std.specs.List.{filter, list_any}
use Rattle.std.proofs.lemmas.List.{length-map}
use Rattle.std.proofs.lemmas.Bool.Decides.{nat_tests}
use Rattle.lan_base.specs.declared.address.Mi.{Mi}
use Rattle.aes_block.specs.declared.secret.Secret.{Secret}
use Rattle.peer_lists.specs.Histories.{ticked as peers_ticked}
use Rattle.sak_exchange.specs.declared.due.Seen.{Seen}
use Rattle.sak_exchange.specs.Histories.{Keying, ticked as keys_ticked}
use Rattle.sak_exchange.specs.Beginning.{leads}
use Rattle.sak_exchange.specs.Making.{makes, made_key}
use Rattle.sak_exchange.proofs.Public.{by_test, by_option}
use Rattle.mka_station.specs.Lives.{Member, Entry, ticked, peers_of, keys_of}
use Rattle.mka_station.specs.Views.{view, reports, is_server, serves}
use Rattle.mka_station.specs.Tick.{led, made, with_beginning, install_changes}
use Rattle.mka_station.specs.Drawing.{makes_next}
use Rattle.mka_station.specs.inside.Found.{Found, IsFoundNext}
use Rattle.mka_station.specs.inside.Rows.{potential_rows, IsShown}
use Rattle.mka_station.specs.inside.Turns.{made_by, IsDue}
use Rattle.mka_station.proofs.RowsShown.{rows-show}
use Rattle.mka_station.proofs.Pasts.{peers-ticked, view-keys}
use Rattle.mka_station.proofs.PeerViews.{keys-come}

positive : (n : ℕ) → nat_lt 0 (suc n) ≡ true
positive n = grind (arith, nat_tests)

-- whether a member is potential
any-passing : {A : Type 0} (test : A → Bool) (xs : List A) → list_any test xs ≡ nat_lt 0 (length (filter test xs))
any-passing test [] = refl
any-passing test (x ∷ xs) = by_test (test x) (λ e. rw e (sym (positive (length (filter test xs))))) (λ e. rw e (any-passing test xs))

pub potential-is : (m : Member) (p : List Entry) (c : Found) → IsFoundNext m p c → list_any (λ r. r.potential) c.rows ≡ nat_lt 0 (length (view m (ticked ∷ p)).potential)
potential-is m p c comes =
    let v = view m (ticked ∷ p) in
    let shows : IsShown m v c.rows = rows-show m (ticked ∷ p) (peers_ticked ∷ peers_of m p) c.rows (peers-ticked m p) comes.rows in
    let same : length (potential_rows c.rows) ≡ length v.potential =
    sym (length-map (potential_rows c.rows) (λ r. r.mi)) ∙ ap (length {A = Mi}) shows.potential_members ∙ length-map v.potential (λ a. a.told.mi) in
    any-passing (λ r. r.potential) c.rows ∙ ap (nat_lt 0) same

-- the keys after what begins, where none does
quiet-keys : (m : Member) (p : List Entry) → led m (view m (ticked ∷ p)) ≡ None → keys_of m (with_beginning (led m (view m (ticked ∷ p))) (ticked ∷ p)) ≡ (view m (ticked ∷ p)).keys
quiet-keys m p none = ap (λ b. keys_of m (with_beginning b (ticked ∷ p))) none ∙ sym (view-keys m (ticked ∷ p))

-- whether the key state would make a key
abbrev pub makes_by : Member → List Entry → Found → Seen → Bool
makes_by m p c seen = makes (keys_of m (with_beginning (led m (view m (ticked ∷ p))) (ticked ∷ p))) c.reports (list_any (λ r. r.potential) c.rows) seen m.setup.rekey

makes-same : (m : Member) (p : List Entry) (c : Found) (seen : Seen) → IsFoundNext m p c → led m (view m (ticked ∷ p)) ≡ None
    → makes_by m p c seen ≡ makes (view m (ticked ∷ p)).keys (reports (view m (ticked ∷ p)).live) (nat_lt 0 (length (view m (ticked ∷ p)).potential)) seen m.setup.rekey
makes-same m p c seen comes none = rw (quiet-keys m p none, comes.told, potential-is m p c comes) refl

-- whether a station that serves then makes a key
abbrev makes_found : Member → List Keying → Found → Seen → Bool
makes_found m h c seen =
    is_server c.server m.mi && (is_none (leads h c.reports) && makes h c.reports (list_any (λ r. r.potential) c.rows) seen m.setup.rekey)

found-same : (m : Member) (p : List Entry) (c : Found) (seen : Seen) → IsFoundNext m p c → makes_found m (view m (ticked ∷ p)).keys c seen ≡ makes_next m p seen
found-same m p c seen comes =
    let v = view m (ticked ∷ p) in
    let same : makes_found m v.keys c seen ≡ (serves m v && (is_none (leads v.keys (reports v.live)) && makes v.keys (reports v.live) (nat_lt 0 (length v.potential)) seen m.setup.rekey)) =
    rw (comes.server, comes.told, potential-is m p c comes) refl in
    same ∙ by_test (serves m v) (λ e. rw e refl) (λ e. rw e refl)

pub makes-is : (m : Member) (p : List Entry) (c : Found) (seen : Seen) → IsFoundNext m p c → makes_found m (keys_ticked true ∷ keys_of m p) c seen ≡ makes_next m p seen
makes-is m p c seen comes =
    by_option c.server
    (λ e. let none : makes_found m (view m (ticked ∷ p)).keys c seen ≡ false = rw e refl in rw e refl ∙ sym none ∙ found-same m p c seen comes)
    (λ server e.
    let keys : keys_ticked true ∷ keys_of m p ≡ (view m (ticked ∷ p)).keys = ap (λ (o : Option Mi). keys_ticked (is_some o) ∷ keys_of m p) (sym e) ∙ keys-come m p c comes ∙ sym (view-keys m (ticked ∷ p)) in
    ap (λ (h : List Keying). makes_found m h c seen) keys ∙ found-same m p c seen comes)

both-true : (a b c : Bool) → (a && (b && c)) ≡ true → (b ≡ true) × (c ≡ true)
both-true true true true is = (refl, refl)
both-true true true false is = absurd (cc (is))
both-true true false c is = absurd (cc (is))
both-true false b c is = absurd (cc (is))

none-is : {A : Type 0} (o : Option A) → is_none o ≡ true → o ≡ None
none-is None is = refl
none-is (Some a) is = absurd (cc (is))

-- a tick that makes a key begins none
pub none-led : (m : Member) (p : List Entry) (seen : Seen) → makes_next m p seen ≡ true → led m (view m (ticked ∷ p)) ≡ None
none-led m p seen is =
    let v = view m (ticked ∷ p) in
    none-is (led m v) (both-true (serves m v) (is_none (led m v)) (makes v.keys (reports v.live) (nat_lt 0 (length v.potential)) seen m.setup.rekey) is).0

pub is-due : (m : Member) (p : List Entry) (c : Found) (seen : Seen) (any : Secret) (sak : Option Secret) → IsFoundNext m p c → sak ≡ cond (makes_next m p seen) (Some any) None → IsDue sak (makes_by m p c seen)
is-due m p c seen any sak comes is =
    let v = view m (ticked ∷ p) in
    by_test (makes_next m p seen)
    (λ e. let here : sak ≡ Some any = is ∙ rw e refl in
    let due : makes_by m p c seen ≡ true = makes-same m p c seen comes (none-led m p seen e) ∙ (both-true (serves m v) (is_none (led m v)) (makes v.keys (reports v.live) (nat_lt 0 (length v.potential)) seen m.setup.rekey) e).1 in
    subst (λ o. IsDue o (makes_by m p c seen)) (sym here) due)
    (λ e. let here : sak ≡ None = is ∙ rw e refl in subst (λ o. IsDue o (makes_by m p c seen)) (sym here) tt)

-- the key that is made
pub key-is : (m : Member) (p : List Entry) (seen : Seen) (any : Secret) (sak : Option Secret) → sak ≡ cond (makes_next m p seen) (Some any) None
    → made_by m.base m.mi (keys_of m (with_beginning (led m (view m (ticked ∷ p))) (ticked ∷ p))) m.setup.conf sak ≡ made m (view m (ticked ∷ p)) seen any
key-is m p seen any sak is =
    let v = view m (ticked ∷ p) in
    by_test (makes_next m p seen)
    (λ e. let here : sak ≡ Some any = is ∙ rw e refl in rw (here, e) (ap (λ h. Some (made_key m.base m.mi h m.setup.conf any)) (quiet-keys m p (none-led m p seen e))))
    (λ e. let here : sak ≡ None = is ∙ rw e refl in rw (here, e) refl)

pub install-same : (m : Member) (p : List Entry) (seen : Seen) (any : Secret) (roster : Option (List Mi))
    → install_changes (keys_of m (with_beginning (led m (view m (ticked ∷ p))) (ticked ∷ p))) roster (made m (view m (ticked ∷ p)) seen any) ≡ install_changes (view m (ticked ∷ p)).keys roster (made m (view m (ticked ∷ p)) seen any)
install-same m p seen any roster =
    by_test (makes_next m p seen)
    (λ e. ap (λ h. install_changes h roster (made m (view m (ticked ∷ p)) seen any)) (quiet-keys m p (none-led m p seen e)))
    (λ e. rw e refl)
