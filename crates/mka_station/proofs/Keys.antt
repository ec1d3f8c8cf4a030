-- Held keys as the keys of a history.
use Rattle.std.proofs.Common.{◌≡◌, ◌∙◌, List, Option, Some, None, option_map, ap, refl}
use Rattle.sak_exchange.specs.declared.held_key.HeldKey.{HeldKey}
use Rattle.sak_exchange.specs.declared.held_key.Key.{Key}
use Rattle.sak_exchange.specs.Histories.{Keying}
use Rattle.sak_exchange.specs.Held.{held}

key-held : (h : List Keying) (o : Option Key) → option_map (λ (x : HeldKey). x.key) (option_map (held h) o) ≡ o
key-held h None = refl
key-held h (Some k) = refl

-- the key of a held key that is shown of a history is the history's
pub key-told : (h : List Keying) (o : Option Key) (shown : Option HeldKey) (key : Option Key) → key ≡ option_map (λ x. x.key) shown → shown ≡ option_map (held h) o → key ≡ o
key-told h o shown key of is = of ∙ ap (option_map (λ (x : HeldKey). x.key)) is ∙ key-held h o
