-- What the state says of the keys that are held is what its history says.
use Rattle.std.proofs.Common.{◌≡◌, ℕ, Bool, true, false, cond, not, ◌&&◌, List, Option, Some, None, is_some, refl, ap, ◌∙◌}
use Rattle.std.specs.Option.{option_map, option_map_or}
use Rattle.lan_base.specs.declared.address.Mi.{Mi}
use Rattle.sak_exchange.specs.declared.latest.Latest.{Latest}
use Rattle.sak_exchange.specs.declared.held_key.Key.{Key}
use Rattle.sak_exchange.specs.Histories.{Keying, has_begun}
use Rattle.sak_exchange.specs.Held.{latest, old, is_latest, allows, held}
use Rattle.sak_exchange.specs.Standing.{State, StandsFor, kept_of}
use Rattle.sak_exchange.specs.inside.States.{is_latest_now, transmitting_now, allows_now}
use Rattle.sak_exchange.proofs.Entries.{current}

-- what is asked of the latest key as it is kept, is asked of it as it is in the history
pub latest-is : (pending : Bool) (h : List Keying) (o : Option Key) (f : Latest → Bool) (g : Key → Bool) → ((k : Key) → f (kept_of pending h k) ≡ g k) → option_map_or f (option_map (kept_of pending h) o) false ≡ option_map_or g o false
latest-is pending h None f g same = refl
latest-is pending h (Some k) f g same = same k

pub latest-told : (base : ℕ) (own : Mi) (pending : Bool) (s : State) (h : List Keying) (f : Latest → Bool) (g : Key → Bool) → StandsFor base own pending s h → ((k : Key) → f (kept_of pending h k) ≡ g k) → is_latest_now s f ≡ is_latest h g
latest-told base own pending s h f g t same = ap (λ (o : Option Latest). option_map_or f o false) t.latest ∙ latest-is pending h (latest h) f g same

some-held : (h : List Keying) (o : Option Key) → is_some (option_map (held h) o) ≡ is_some o
some-held h None = refl
some-held h (Some k) = refl

pub allows-told : (base : ℕ) (own : Mi) (s : State) (h : List Keying) → StandsFor base own false s h → allows_now s ≡ allows h
allows-told base own s h t =
    let first = latest-told base own false s h (λ l. l.held.begun) (λ k. has_begun h k.epoch) t (λ k. refl) in
    let second = ap is_some t.former ∙ some-held h (old h) in
    ap (λ (b : Bool). not (b && is_some s.former)) first ∙ ap (λ (b : Bool). not (is_latest h (λ k. has_begun h k.epoch) && b)) second

begun-or-old : (h : List Keying) (b : Bool) (k : Key) (o : Option Key) → cond b (Some (held h k)) (option_map (held h) o) ≡ option_map (held h) (cond b (Some k) o)
begun-or-old h true k o = refl
begun-or-old h false k o = refl

current-is : (pending : Bool) (h : List Keying) (l o : Option Key)
    → elim (option_map (kept_of pending h) l) [ None ↦ option_map (held h) o | Some x ↦ cond x.held.begun (Some x.held) (option_map (held h) o) ] ≡ option_map (held h) (cond (option_map_or (λ k. has_begun h k.epoch) l false) l o)
current-is pending h None o = refl
current-is pending h (Some k) o = begun-or-old h (has_begun h k.epoch) k o

pub current-told : (base : ℕ) (own : Mi) (pending : Bool) (s : State) (h : List Keying) → StandsFor base own pending s h → transmitting_now s ≡ option_map (held h) (current h)
current-told base own pending s h t = rw (t.latest, t.former) (current-is pending h (latest h) (old h))
