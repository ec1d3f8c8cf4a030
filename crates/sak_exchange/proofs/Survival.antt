-- A key is received exactly where it was installed and no later entry ends it.
use Rattle.std.proofs.Common.{◌≡◌, inl, inr, Bool, true, false, not, List, [], ◌∷◌, ◌++◌, refl, ap, sym, subst}
use Rattle.std.specs.List.{filter}
use Rattle.sak_exchange.specs.declared.held_key.Key.{Key}
use Rattle.sak_exchange.specs.Histories.{Keying, ticked, installed, began}
use Rattle.sak_exchange.specs.Held.{ends, with_new, received}
use Rattle.sak_exchange.specs.Lives.{Has, Installs, IsReceived, IsQuiet}
use Rattle.sak_exchange.proofs.Cases.{by_test, not-true}

has-filter : (test : Key → Bool) (k : Key) (ks : List Key) → Has k (filter test ks) → Has k ks × (test k ≡ true)
has-filter test k [] has = absurd has
has-filter test k (j ∷ js) has =
    by_test (test j)
    (λ yes. let at = rw yes at has in elim at [ inl same ↦ (inl same, rw (← same) yes) | inr rest ↦ let found = has-filter test k js rest in (inr found.0, found.1) ])
    (λ no. let at = rw no at has in let found = has-filter test k js at in (inr found.0, found.1))

filter-has : (test : Key → Bool) (k : Key) (ks : List Key) → Has k ks → test k ≡ true → Has k (filter test ks)
filter-has test k [] has passes = has
filter-has test k (j ∷ js) (inl same) passes = let this : test j ≡ true = rw same passes in rw this (inl same)
filter-has test k (j ∷ js) (inr rest) passes =
    by_test (test j) (λ t. rw t (inr (filter-has test k js rest passes))) (λ t. rw t (filter-has test k js rest passes))

StaysOver : List Keying → List Keying → Key → Type 0
StaysOver since past k = (newer : List Keying) (x : Keying) (older : List Keying) → since ≡ newer ++ x ∷ older → ends x (older ++ past) k ≡ false

stays-on : (x : Keying) (since past : List Keying) (k : Key) → ends x (since ++ past) k ≡ false → StaysOver since past k → StaysOver (x ∷ since) past k
unfolding StaysOver
stays-on x since past k on stays [] y older whole =
    let first : x ≡ y = cc (whole) in let rest : since ≡ older = cc (whole) in rw (← first, ← rest) on
stays-on x since past k on stays (z ∷ newer) y older whole = let rest : since ≡ newer ++ y ∷ older = cc (whole) in stays newer y older rest

no-entry : (newer : List Keying) (x : Keying) (older : List Keying) → [] ≡ newer ++ x ∷ older → ⊥
no-entry [] x older whole = cc (whole)
no-entry (z ∷ newer) x older whole = cc (whole)

received-on : (x : Keying) (h : List Keying) (k : Key) → IsReceived h k → ends x h k ≡ false → IsReceived (x ∷ h) k
unfolding StaysOver
received-on x h k r on = record {
  since = x ∷ r.since;
  install = r.install;
  before = r.before;
  whole = ap (λ (t : List Keying). x ∷ t) r.whole;
  installs = r.installs;
  stays = stays-on x r.since (r.install ∷ r.before) k (subst (λ (t : List Keying). ends x t k ≡ false) r.whole on) r.stays;
}

pub is-received : (h : List Keying) (k : Key) → Has k (received h) → IsReceived h k
unfolding received
is-received [] k has = absurd has
is-received (ticked s ∷ h) k has =
    let found = has-filter (λ j. not (ends (ticked s) h j)) k (received h) has in received-on (ticked s) h k (is-received h k found.0) (not-true (ends (ticked s) h k) found.1)
is-received (began e ∷ h) k has =
    let found = has-filter (λ j. not (ends (began e) h j)) k (received h) has in received-on (began e) h k (is-received h k found.0) (not-true (ends (began e) h k) found.1)
is-received (installed r n ∷ h) k (inl same) =
    record { since = []; install = installed r n; before = h; whole = refl; installs = same; stays = λ newer x older whole. absurd (no-entry newer x older whole) }
is-received (installed r n ∷ h) k (inr has) =
    let found = has-filter (λ j. not (ends (installed r n) h j)) k (received h) has in
    received-on (installed r n) h k (is-received h k found.0) (not-true (ends (installed r n) h k) found.1)

has-more : (x : Keying) (k : Key) (ks : List Key) → Has k ks → Has k (with_new x ks)
has-more (ticked s) k ks has = has
has-more (installed r n) k ks has = inr has
has-more (began e) k ks has = has

has-next : (x : Keying) (h : List Keying) (k : Key) → Has k (received h) → ends x h k ≡ false → Has k (received (x ∷ h))
unfolding received
has-next x h k has on = has-more x k (filter (λ j. not (ends x h j)) (received h)) (filter-has (λ j. not (ends x h j)) k (received h) has (rw on refl))

has-new : (x : Keying) (h : List Keying) (k : Key) → Installs x k → Has k (received (x ∷ h))
unfolding received
has-new (ticked s) h k new = absurd new
has-new (installed r n) h k new = inl new
has-new (began e) h k new = absurd new

has-since : (since : List Keying) (x : Keying) (before : List Keying) (k : Key) → Installs x k → StaysOver since (x ∷ before) k → Has k (received (since ++ x ∷ before))
unfolding StaysOver
has-since [] x before k new stays = has-new x before k new
has-since (y ∷ since) x before k new stays =
    has-next y (since ++ x ∷ before) k (has-since since x before k new (λ newer z older whole. stays (y ∷ newer) z older (ap (λ (t : List Keying). y ∷ t) whole))) (stays [] y since refl)

pub has-received : (h : List Keying) (k : Key) → IsReceived h k → Has k (received h)
unfolding StaysOver
has-received h k r = subst (λ (t : List Keying). Has k (received t)) (sym r.whole) (has-since r.since r.install r.before k r.installs r.stays)

-- what is received after quiet entries was received before them
pub was-received : (new h : List Keying) (k : Key) → IsQuiet new → Has k (received (new ++ h)) → Has k (received h)
unfolding received
was-received [] h k quiet has = has
was-received (ticked s ∷ new) h k quiet has = was-received new h k quiet.1 (has-filter (λ j. not (ends (ticked s) (new ++ h) j)) k (received (new ++ h)) has).0
was-received (installed r n ∷ new) h k quiet has = absurd quiet
was-received (began e ∷ new) h k quiet has = was-received new h k quiet (has-filter (λ j. not (ends (began e) (new ++ h) j)) k (received (new ++ h)) has).0
