-- A held key is looked up by its association number: the latest one first, then the old one.
use Rattle.std.proofs.Common.{◌≡◌, Bool, true, false, cond, List, ◌++◌, Option, Some, None, refl}
use Rattle.std.specs.Prelude.{option_map, option_to_list}
use Rattle.std.specs.Option.{option_or}
use Rattle.std.specs.List.{find}
use Rattle.lan_base.specs.declared.association_number.AssociationNumber.{AssociationNumber}
use Rattle.lan_base.specs.AssociationNumbers.{same_an}
use Rattle.sak_exchange.specs.declared.held_key.HeldKey.{HeldKey}
use Rattle.sak_exchange.specs.declared.held_key.Key.{Key}
use Rattle.sak_exchange.specs.Histories.{Keying}
use Rattle.sak_exchange.specs.Held.{held}

-- the held one of a key, if the key has this number
abbrev pub held_numbered : AssociationNumber → Option HeldKey → Option HeldKey
held_numbered an o = find (λ h. same_an h.key.an an) (option_to_list o)

one : (h : List Keying) (an : AssociationNumber) (o : Option Key)
    → held_numbered an (option_map (held h) o)
    ≡ option_map (held h) (find (λ k. same_an k.an an) (option_to_list o))
one h an None = refl
one h an (Some k) = go (same_an k.an an)
  where
    go : (same : Bool) → cond same (Some (held h k)) None
        ≡ option_map (held h) (cond same (Some k) None)
    go true = refl
    go false = refl

pub of-two : (h : List Keying) (an : AssociationNumber) (newer older : Option Key)
    → option_or (held_numbered an (option_map (held h) newer))
    (held_numbered an (option_map (held h) older))
    ≡ option_map (held h) (find (λ k. same_an k.an an)
    (option_to_list newer ++ option_to_list older))
of-two h an None older = one h an older
of-two h an (Some k) older = go (same_an k.an an)
  where
    go : (same : Bool) → option_or (cond same (Some (held h k)) None)
        (held_numbered an (option_map (held h) older))
        ≡ option_map (held h) (cond same (Some k)
        (find (λ k. same_an k.an an) (option_to_list older)))
    go true = refl
    go false = one h an older
